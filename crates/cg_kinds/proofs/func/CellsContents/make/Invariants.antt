use Rattle.std.proofs.Common.{◌≡◌, map, take}
use Rattle.cg_kinds.proofs.func.CellsContents.make.Given as goal

abbrev pub invariant-loop-part : goal.invariant-loop-part
invariant-loop-part l = map (λ c. c.0) l.cells.items ≡ map (λ e. e.val) (take l.part-index l.parts)
