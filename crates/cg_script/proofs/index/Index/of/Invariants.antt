use Rattle.std.proofs.Common.{take}
use Rattle.cg_script.specs.Items.{IsIndexOf}
use Rattle.cg_script.proofs.index.Index.of.Given as goal

-- the index of those before the next one
abbrev pub invariant-items : goal.invariant-items
invariant-items l = IsIndexOf (take l.at l.items) l.index
