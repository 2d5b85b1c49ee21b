use Rattle.indexmap.specs.IndexMap.{spare}
use Rattle.cg_arena.proofs.Lookups.{new_kept, new_value}
use Rattle.cg_arena.proofs.arena.Arena.new.Goals as goal

pub invariant_of-result : goal.invariant_of-result
invariant_of-result c = new_kept c.new.result c.none.result c.new-2.result c.new.ensures.empty c.none.ensures c.new-2.ensures

pub returns : goal.returns
returns c = new_value c.new.result c.none.result c.new-2.result c.new.ensures.empty c.none.ensures c.new-2.ensures (spare c.new-2.result.rows)
