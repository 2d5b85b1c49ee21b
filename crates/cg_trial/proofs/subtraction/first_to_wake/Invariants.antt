use Rattle.std.proofs.Common.{ℕ, length, ◌-◌, ◌≤◌, ◌≢◌, take}
use Rattle.cg_graph.specs.Member.{Includes}
use Rattle.cg_trial.specs.View.{view_of}
use Rattle.cg_trial.proofs.subtraction.first_to_wake.Given as goal

abbrev pub invariant-objects : goal.invariant-objects
invariant-objects g l = record {
  before : (o : ℕ) → Includes (take l.at l.objects) o → (view_of l.heap).number o ≢ 0;
  within : l.at ≤ length l.objects;
}

abbrev pub decreases-objects : goal.decreases-objects
decreases-objects g l = length l.objects - l.at
