use Rattle.std.proofs.Common.{ℕ, ◌<◌}
use Rattle.cg_ask.specs.Faults.{IsRight}
use Rattle.cg_ask.proofs.faults.find_fault.Given as goal

abbrev pub invariant-members : goal.invariant-members
invariant-members l = (i : ℕ) → i < l.at → IsRight l.members l.with_words i
