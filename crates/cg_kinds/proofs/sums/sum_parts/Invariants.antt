use Rattle.std.proofs.Common.{◌≡◌, ◌*◌, ◌+◌, ◌<◌, ℕ, drop, slice_index}
use Rattle.cg_kinds.specs.Order.{sum_before}
use Rattle.cg_kinds.proofs.sums.sum_parts.Given as goal

abbrev pub invariant-parts : goal.invariant-parts
invariant-parts l = record {
  rest : l.rest ≡ drop (16 * l.part) l.numbers;
  summed : (part : ℕ) → part < l.part → sum_before l.numbers (16 * part + 16) ≡ sum_before l.numbers (16 * part) + slice_index l.sums part;
}
