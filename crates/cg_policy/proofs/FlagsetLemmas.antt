-- The bits of the flags, for callers of `from_bits`.
use Rattle.std.proofs.Common.{◌≡◌, refl}
use Rattle.bitflags.specs.Sets.{known_bits}
use Rattle.bitflags.proofs.OnLiterals.{bitflags_on_literals}
use Rattle.cg_policy.specs.Flagset.{flag_table}

-- only bits 1, 2, 4 and 32 are known
pub known_bits-flag_table : known_bits flag_table ≡ 39
unfolding bitflags_on_literals
known_bits-flag_table = refl
