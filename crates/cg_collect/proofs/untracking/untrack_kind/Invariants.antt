use Rattle.std.proofs.Common.{◌+◌, length}
use Rattle.cg_value.specs.declared.Place.TheVariants.{Gen}
use Rattle.cg_graph.specs.Store.{list_at}
use Rattle.cg_collect.specs.Looks.{entries_listed}
use Rattle.cg_trial.proofs.Lists.{ahead}
use Rattle.cg_collect.proofs.Untracked.{UntrackingLooked}
use Rattle.cg_collect.proofs.untracking.untrack_kind.Given as goal

abbrev pub invariant-objects : goal.invariant-objects
invariant-objects g l = UntrackingLooked l.generation l.kind l.fn.heap l.heap l.next (l.fn.steps + entries_listed l.fn.heap (Gen l.generation)) l.steps

abbrev pub decreases-objects : goal.decreases-objects
decreases-objects g l = length (ahead l.next (list_at l.heap (Gen l.generation)))
