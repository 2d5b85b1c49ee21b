use Rattle.cg_trial.specs.View.{view_of}
use Rattle.std.proofs.Common.{length}
use Rattle.cg_trial.proofs.Lists.{ahead}
use Rattle.cg_trial.proofs.Passes.{Copying}
use Rattle.cg_trial.proofs.subtraction.copy.Given as goal

abbrev pub invariant-objects : goal.invariant-objects
invariant-objects g l = Copying l.fn.members (view_of l.fn.heap) (view_of l.heap) l.cursor l.unheld

abbrev pub decreases-objects : goal.decreases-objects
decreases-objects g l = length (ahead l.cursor ((view_of l.heap).listed l.fn.members))
