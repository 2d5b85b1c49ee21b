use Rattle.cg_policy.proofs.FlagsetLemmas.{known_bits-flag_table}
use Rattle.cg_policy.proofs.laws.flagsets_have_the_debug_flags.Goals as goal

pub returns : goal.returns
returns c = known_bits-flag_table
