use Rattle.std.proofs.Common.{◌≡◌, map, take}
use Rattle.cg_kinds.proofs.packed.packed_values_of.Given as goal

abbrev pub invariant-loop-part : goal.invariant-loop-part
invariant-loop-part l = l.values.items ≡ map (λ e. e.val) (take l.part-index l.parts)
