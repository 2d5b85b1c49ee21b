use Rattle.std.proofs.Common.{◌≡◌, ◌+◌, map, take, length}
use Rattle.cg_kinds.proofs.values.Values.of_items.Given as goal

abbrev pub invariant-loop-part : goal.invariant-loop-part
invariant-loop-part l = (l.values.items ≡ map (λ e. e.val) (take l.part-index l.parts)) × (l.values.room + l.part-index ≡ length l.parts)
