use Rattle.std.proofs.Common.{length}
use Rattle.cg_value.specs.declared.Place.TheVariants.{Cand}
use Rattle.cg_graph.specs.Store.{list_at}
use Rattle.cg_trial.proofs.Lists.{ahead}
use Rattle.cg_collect.proofs.Uncollectable.{Finding}
use Rattle.cg_collect.proofs.legacy.set_finalized_aside.Given as goal

abbrev pub invariant-objects : goal.invariant-objects
invariant-objects g l = Finding l.script l.fn.heap l.heap l.next

abbrev pub decreases-objects : goal.decreases-objects
decreases-objects g l = length (ahead l.next (list_at l.heap Cand))
