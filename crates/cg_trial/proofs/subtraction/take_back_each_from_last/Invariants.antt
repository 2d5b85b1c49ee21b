use Rattle.std.proofs.Common.{length, ◌≤◌, drop}
use Rattle.cg_trial.specs.View.{view_of}
use Rattle.cg_trial.specs.Sift.{Woken, zeros}
use Rattle.cg_trial.proofs.subtraction.take_back_each_from_last.Given as goal

abbrev pub invariant-zeros : goal.invariant-zeros
invariant-zeros g l = record {
  woken : Woken l.fn.search (drop l.end l.objects) (view_of l.fn.heap) (view_of l.heap);
  within : l.end ≤ length l.objects;
  left : zeros l.fn.search (view_of l.heap) ≤ l.left;
}

abbrev pub decreases-zeros : goal.decreases-zeros
decreases-zeros g l = l.end
