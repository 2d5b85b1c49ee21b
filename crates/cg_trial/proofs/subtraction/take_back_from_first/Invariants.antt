use Rattle.cg_trial.specs.View.{view_of}
use Rattle.std.proofs.Common.{◌≡◌, ◌≤◌, ◌+◌, ◌-◌, length}
use Rattle.cg_trial.specs.Sift.{zeros}
use Rattle.cg_trial.proofs.TakingBack.{Waking}
use Rattle.cg_trial.proofs.subtraction.take_back_from_first.Given as goal

abbrev pub invariant-entries : goal.invariant-entries
invariant-entries g l = record {
  waking : Waking l.fn.search l.object (view_of l.fn.heap) (view_of l.heap) l.from;
  looks : l.steps ≡ l.fn.steps + l.from;
  left : zeros l.fn.search (view_of l.heap) ≤ l.left;
  space : length l.found ≡ length l.fn.found;
}

abbrev pub decreases-entries : goal.decreases-entries
decreases-entries g l = length ((view_of l.fn.heap).entries l.object) - l.from
