use Rattle.std.proofs.Common.{◌≡◌}
use Rattle.cg_kinds.specs.Order.{pairs_before as before}
use Rattle.cg_kinds.proofs.slots.count_pairs.Given as goal

abbrev pub invariant-slots : goal.invariant-slots
invariant-slots l = l.count ≡ before l.slots l.slot-index
