use Rattle.std.proofs.Common.{take}
use Rattle.cg_inspect.specs.Numbers.{AreLowered}
use Rattle.cg_inspect.proofs.holders.lower_all.Given as goal

abbrev pub invariant-references : goal.invariant-references
invariant-references l = AreLowered (take l.object-index l.references) l.fn.numbers.entries l.numbers.entries
