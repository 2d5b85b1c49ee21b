use Rattle.std.proofs.Common.{◌≡◌, ◌≤◌, ◌-◌, drop, length, take}
use Rattle.cg_kind.specs.declared.notes.TheConstants.{AT_ONCE}
use Rattle.cg_kinds.specs.Order.{indexes}
use Rattle.cg_kinds.proofs.slots.some_indexes.Given as goal

abbrev pub invariant-slots : goal.invariant-slots
invariant-slots l = record {
  some : l.some.items ≡ indexes (take (l.slot - l.first) (drop l.first l.slots));
  few : length l.some.items ≤ AT_ONCE;
}
