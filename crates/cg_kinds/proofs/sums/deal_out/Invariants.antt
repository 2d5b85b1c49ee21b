use Rattle.std.proofs.Common.{◌≡◌, ◌*◌, ◌-◌, ◌<◌, ℕ, min, slice_index}
use Rattle.cg_kinds.proofs.sums.deal_out.Given as goal

abbrev pub invariant-numbers : goal.invariant-numbers
invariant-numbers l = record {
  left : l.left ≡ l.count - 16 * l.i;
  dealt : (i : ℕ) → i < l.i → slice_index l.numbers i ≡ min 16 (l.count - 16 * i);
}
