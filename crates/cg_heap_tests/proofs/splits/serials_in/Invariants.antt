use Rattle.std.proofs.Common.{length, ℕ, List}
use Rattle.cg_graph.specs.Store.{list_at}
use Rattle.cg_trial.proofs.Lists.{IsAt, ahead}
use Rattle.cg_heap_tests.proofs.splits.serials_in.Given as goal

abbrev pub invariant-objects : goal.invariant-objects
invariant-objects g l = (back : List ℕ) × IsAt (list_at l.heap l.fn.place) l.cursor l.serials.items back

abbrev pub decreases-objects : goal.decreases-objects
decreases-objects g l = length (ahead l.cursor (list_at l.heap l.fn.place))
