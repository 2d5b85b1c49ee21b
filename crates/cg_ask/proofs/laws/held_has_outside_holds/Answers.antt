use Rattle.std.proofs.Common.{arith}
use Rattle.cg_ask.proofs.laws.held_has_outside_holds.Goals as goal

pub returns : goal.returns
returns c = λ ms o. (λ h. omega (arith, h), λ h. omega (arith, h))
