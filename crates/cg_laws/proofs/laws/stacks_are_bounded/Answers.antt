use Rattle.cg_laws.proofs.StackHeights.{stacks_bounded}
use Rattle.cg_laws.proofs.laws.stacks_are_bounded.Goals as goal

pub returns : goal.returns
returns c = stacks_bounded
