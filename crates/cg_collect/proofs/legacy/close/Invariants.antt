use Rattle.std.proofs.Common.{◌+◌, length}
use Rattle.cg_value.specs.declared.Place.TheVariants.{Cand, Legacy}
use Rattle.cg_graph.specs.Store.{list_at}
use Rattle.cg_trial.proofs.Lists.{ahead}
use Rattle.cg_collect.proofs.Uncollectable.{ClosingLooked}
use Rattle.cg_collect.proofs.legacy.close.Given as goal

abbrev pub invariant-objects : goal.invariant-objects
invariant-objects g l = ClosingLooked l.fn.heap l.heap l.next l.fn.steps l.steps

abbrev pub decreases-objects : goal.decreases-objects
decreases-objects g l = length (list_at l.heap Cand) + length (ahead l.next (list_at l.heap Legacy))
