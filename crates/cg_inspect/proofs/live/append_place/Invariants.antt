use Rattle.std.proofs.Common.{◌≡◌, ◌++◌, List, ℕ, length}
use Rattle.cg_graph.specs.Store.{list_at}
use Rattle.cg_trial.proofs.Lists.{IsAt, ahead}
use Rattle.cg_inspect.proofs.live.append_place.Given as goal

abbrev pub invariant-objects : goal.invariant-objects
invariant-objects g l = (front : List ℕ) × (l.objects.items ≡ l.fn.objects.items ++ front) × ((back : List ℕ) × IsAt (list_at l.heap l.fn.place) l.cursor front back)

abbrev pub decreases-objects : goal.decreases-objects
decreases-objects g l = length (ahead l.cursor (list_at l.heap l.fn.place))
