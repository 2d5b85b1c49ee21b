use Rattle.cg_trial.specs.Sift.{zeros_at}
use Rattle.cg_trial.specs.View.{view_of}
use Rattle.std.proofs.Common.{◌≡◌, ◌+◌, ◌-◌, length}
use Rattle.cg_trial.proofs.Entries.{Lowering}
use Rattle.cg_trial.proofs.subtraction.lower_all.Given as goal

abbrev pub invariant-entries : goal.invariant-entries
invariant-entries g l = record {
  lowering : Lowering l.fn.members l.object (view_of l.fn.heap) (view_of l.heap) l.from;
  unheld : l.unheld ≡ zeros_at l.fn.members (view_of l.heap);
  looks : l.steps ≡ l.fn.steps + l.from;
  space : length l.found ≡ length l.fn.found;
}

abbrev pub decreases-entries : goal.decreases-entries
decreases-entries g l = length ((view_of l.fn.heap).entries l.object) - l.from
