use Rattle.std.proofs.Common.{◌≢◌, ℕ, ◌<◌, get_or}
use Rattle.cg_records.proofs.number.place_of.Given as goal

-- the byte has not occurred yet
abbrev pub invariant-bytes : goal.invariant-bytes
invariant-bytes l = (k : ℕ) → k < l.place → get_or l.bytes k 0 ≢ l.byte
