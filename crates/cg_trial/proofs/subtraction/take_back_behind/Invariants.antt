use Rattle.std.proofs.Common.{◌≤◌}
use Rattle.cg_trial.specs.View.{view_of}
use Rattle.cg_trial.specs.Sift.{zeros}
use Rattle.cg_trial.proofs.Backward.{WakingBack}
use Rattle.cg_trial.proofs.subtraction.take_back_behind.Given as goal

abbrev pub invariant-entries : goal.invariant-entries
invariant-entries g l = record {
  waking : WakingBack l.fn.search l.object (view_of l.fn.heap) (view_of l.heap) l.blocks l.fn.steps l.steps;
  left : zeros l.fn.search (view_of l.heap) ≤ l.left;
  some : 1 ≤ l.blocks;
}

abbrev pub decreases-entries : goal.decreases-entries
decreases-entries g l = l.blocks
