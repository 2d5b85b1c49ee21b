use Rattle.std.proofs.Common.{◌≡◌, length, ◌+◌, ◌-◌, ◌≤◌, take}
use Rattle.cg_trial.specs.Sift.{zeros_at}
use Rattle.cg_trial.specs.View.{view_of, Lowered}
use Rattle.cg_trial.proofs.subtraction.lower_each.Given as goal

abbrev pub invariant-runs : goal.invariant-runs
invariant-runs g l = record {
  lowered : Lowered l.fn.members (take (l.next - 1) l.objects) (view_of l.fn.heap) (view_of l.heap);
  within : l.next ≤ length l.objects + 1;
  behind : 1 ≤ l.next;
  unheld : l.unheld ≡ zeros_at l.fn.members (view_of l.heap);
}

abbrev pub decreases-runs : goal.decreases-runs
decreases-runs g l = length l.objects + 1 - l.next
