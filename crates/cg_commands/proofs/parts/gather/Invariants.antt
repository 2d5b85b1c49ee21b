use Rattle.std.proofs.Common.{take}
use Rattle.cg_commands.specs.Parts.{Gathers}
use Rattle.cg_commands.proofs.parts.gather.Given as goal

abbrev pub invariant-loop-operand : goal.invariant-loop-operand
invariant-loop-operand g l = Gathers l.heap l.locals (take l.operand-index l.operands) l.parts
