use Rattle.indexmap.specs.IndexMap.{spare}
use Rattle.cg_arena.proofs.Sound.{index_kept}
use Rattle.cg_arena.proofs.Reserves.{reserved_kept, reserved_view}
use Rattle.cg_arena.proofs.arena.Arena.reserve.Goals as goal

pub reserve-requires : goal.reserve-requires
reserve-requires c = index_kept c.self.inside.slots c.self.inside.ends c.self.inside.index c.self.invariant

pub invariant_of-self-2 : goal.invariant_of-self-2
invariant_of-self-2 c = reserved_kept c.self.inside.slots c.reserve-2.new.self c.self.inside.ends c.self.inside.index c.reserve.new.self c.self.invariant
    c.reserve-2.ensures.rest_kept c.reserve.ensures.index

pub returns-clause-stays : goal.returns-clause-stays
returns-clause-stays c =
    reserved_view c.self.inside.slots c.reserve-2.new.self c.self.inside.ends c.self.inside.index c.reserve.new.self c.self.invariant c.reserve-2.ensures.rest_kept c.reserve.ensures.index
    (spare c.self.inside.index.rows) (spare c.reserve.new.self.rows) c.args.self.now c.self.view_is
