use Rattle.std.proofs.Common.{arith}
use Rattle.cg_kinds.proofs.ValueLemmas.{numbers-len}
use Rattle.cg_kinds.proofs.values.Values.len.Goals as goal

pub returns : goal.returns
returns c = omega (arith, c.len.ensures, numbers-len c.self.inside _ c.self.view_is c.self.invariant)
