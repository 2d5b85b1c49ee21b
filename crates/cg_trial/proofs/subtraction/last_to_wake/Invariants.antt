use Rattle.std.proofs.Common.{ℕ, length, ◌≤◌, ◌≢◌, drop}
use Rattle.cg_graph.specs.Member.{Includes}
use Rattle.cg_trial.specs.View.{view_of}
use Rattle.cg_trial.proofs.subtraction.last_to_wake.Given as goal

abbrev pub invariant-objects : goal.invariant-objects
invariant-objects g l = record {
  behind : (o : ℕ) → Includes (drop l.end l.objects) o → (view_of l.heap).number o ≢ 0;
  within : l.end ≤ length l.objects;
}

abbrev pub decreases-objects : goal.decreases-objects
decreases-objects g l = l.end
