use Rattle.cg_trial.specs.View.{view_of}
use Rattle.std.proofs.Common.{◌≡◌, length}
use Rattle.cg_trial.specs.Sift.{zeros_at}
use Rattle.cg_trial.proofs.Lists.{ahead}
use Rattle.cg_trial.proofs.Entries.{Subtracting}
use Rattle.cg_trial.proofs.subtraction.subtract.Given as goal

abbrev pub invariant-objects : goal.invariant-objects
invariant-objects g l = record {
  subtracting : Subtracting l.fn.members (view_of l.fn.heap) (view_of l.heap) l.cursor l.fn.steps l.steps;
  unheld : l.unheld ≡ zeros_at l.fn.members (view_of l.heap);
}

abbrev pub decreases-objects : goal.decreases-objects
decreases-objects g l = length (ahead l.cursor ((view_of l.heap).listed l.fn.members))
