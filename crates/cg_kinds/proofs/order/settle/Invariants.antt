use Rattle.std.proofs.Common.{◌≡◌, ℕ, ◌<◌, Some, None, slice_index, slice_index_or}
use Rattle.cg_kinds.proofs.order.settle.Given as goal

abbrev pub invariant-slots : goal.invariant-slots
invariant-slots l = (slot index : ℕ) → slot < l.slot → slice_index_or l.slots slot None ≡ Some index → slice_index l.homes index ≡ slot
