use Rattle.cg_trial.specs.View.{view_of}
use Rattle.std.proofs.Common.{◌≤◌}
use Rattle.cg_trial.specs.Sift.{zeros}
use Rattle.cg_trial.proofs.WalkInvariant.{Sifting, weight}
use Rattle.cg_trial.proofs.subtraction.set_aside.Given as goal

abbrev pub invariant-objects : goal.invariant-objects
invariant-objects g l = record {
  sifting : Sifting l.fn.search (view_of l.fn.heap) (view_of l.heap) l.cursor l.fn.steps l.steps;
  left : zeros l.fn.search (view_of l.heap) ≤ l.left;
}

abbrev pub decreases-objects : goal.decreases-objects
decreases-objects g l = weight l.fn.search (view_of l.heap) l.cursor
