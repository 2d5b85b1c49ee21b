use Rattle.std.proofs.Common.{take}
use Rattle.cg_script.specs.Items.{AreDeclared}
use Rattle.cg_script.proofs.index.Declared.of.Given as goal

-- what those before the next one declare
abbrev pub invariant-items : goal.invariant-items
invariant-items l = AreDeclared (take l.at l.items) l.declared
