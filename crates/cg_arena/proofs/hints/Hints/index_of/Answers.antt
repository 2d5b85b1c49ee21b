use Rattle.std.proofs.Common.{ap}
use Rattle.std.specs.Prelude.{bit_and, bit_xor}
use Rattle.cg_arena.specs.Index.{guess_index}
use Rattle.cg_arena.proofs.hints.Hints.index_of.Goals as goal

pub returns : goal.returns
unfolding guess_index
returns c = ap (λ n. bit_and (bit_xor c.args.serial n) c.args.self.now.mask) c.wrapping_shr.ensures
