use Rattle.std.proofs.Common.{◌≡◌, ◌+◌}
use Rattle.cg_kinds.specs.Order.{pairs_before as before}
use Rattle.cg_kinds.proofs.slots.slot_from.Given as goal

abbrev pub invariant-slots : goal.invariant-slots
invariant-slots l = before l.slots l.slot + l.left ≡ before l.slots l.first + l.count
