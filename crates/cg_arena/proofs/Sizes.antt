-- The total size of the ten lists, and after one of them changes.
use Rattle.std.proofs.Common.{◌≡◌, ◌≢◌, ℕ, ◌+◌, ◌<◌, ◌≤◌, List, length, Option, ap, ◌∙◌, arith}
use Rattle.std.specs.Prelude.{sum_by, slice_set, slice_index_or, ◌==◌}
use Rattle.std.proofs.lemmas.List.{get_or-set_same, get_or-set_other, get_or_default, length-set}
use Rattle.std.proofs.lemmas.List.Sums.{sum_by-set, get_or-le-sum_by, count_by-le-length}
use Rattle.cg_graph.specs.Holdings.{occurrences}
use Rattle.cg_arena.specs.declared.slot.Slot.{Slot}
use Rattle.cg_arena.specs.Links.{ListEnds, no_ends}
use Rattle.cg_arena.specs.Table.{IsSpelled, ends_at}

abbrev pub sizes : List ListEnds → ℕ
sizes ends = sum_by (λ e. e.size) ends

module _ (ends : List ListEnds) (ten : length ends ≡ 10) (p : ℕ) (below : p < 10) where
  pub ends_set-same : (e : ListEnds) → ends_at (slice_set ends p e) p ≡ e
  ends_set-same e = get_or-set_same ends p e no_ends (omega (arith, ten, below))

  pub sizes-set : (e : ListEnds) → sizes (slice_set ends p e) + (ends_at ends p).size ≡ sizes ends + e.size
  sizes-set e = sum_by-set {X = ListEnds} (λ d. d.size) ends p e no_ends (omega (arith, ten, below))

  -- what an index reads does not depend on the default
  pub end_read : (d : ListEnds) → slice_index_or ends p d ≡ ends_at ends p
  end_read d = get_or_default ends p d no_ends (omega (arith, ten, below))

  pub size_within : (ends_at ends p).size ≤ sizes ends
  size_within = get_or-le-sum_by {X = ListEnds} (λ d. d.size) ends p no_ends (omega (arith, ten, below))

pub ends_set-other : (ends : List ListEnds) (p r : ℕ) (e : ListEnds) → r ≢ p → ends_at (slice_set ends p e) r ≡ ends_at ends r
ends_set-other ends p r e differs = get_or-set_other ends p r e no_ends differs

pub two_sizes : (ends : List ListEnds) (p q : ℕ) → length ends ≡ 10 → p < 10 → q < 10 → p ≢ q → (ends_at ends q).size + (ends_at ends p).size ≤ sizes ends
two_sizes ends p q ten below_p below_q differ =
    let left_ten : length (slice_set ends q no_ends) ≡ 10 = length-set ends q no_ends ∙ ten in
    let left = sizes-set ends ten q below_q no_ends in
    let same : (ends_at (slice_set ends q no_ends) p).size ≡ (ends_at ends p).size = ap (λ (e : ListEnds). e.size) (ends_set-other ends q p no_ends differ) in
    omega (arith, left, same, size_within (slice_set ends q no_ends) left_ten p below_p)

-- a place that has a slot has size above 0
pub size_above : (cell : ℕ → Option Slot) (ends : ℕ → ListEnds) (chain : ℕ → List ℕ) (loose : Option ℕ) → IsSpelled cell ends chain loose → (p k : ℕ) → p < 10
    → 0 < occurrences k (chain p) → 0 < (ends p).size
size_above cell ends chain loose spelled p k below stands =
    let size : (ends p).size ≡ length (chain p) = ap (λ (e : ListEnds). e.size) (spelled.ended p below) in
    omega (arith, size, stands, count_by-le-length {X = ℕ} (λ r. r == k) (chain p))
