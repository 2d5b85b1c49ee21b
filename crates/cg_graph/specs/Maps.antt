-- Finite maps from serials to values. (Ours.)
use Rattle.std.specs.Prelude.{ℕ, ◌==◌, Option, None, Some, map, sum_by, if◌then◌else◌}
use Rattle.std.specs.Ordering.{nat_cmp}
use Rattle.std.specs.FinMap as fin

-- each value changed by a function of its serial and itself
unfoldable pub mapped : {X Y : Type 0} → (ℕ → X → Y) → fin.FinMap nat_cmp X → fin.FinMap nat_cmp Y
mapped g m = fin.from_sorted (map (λ e. (e.0, g e.0 e.1)) (fin.entries m))

-- the value at one serial changed
abbrev pub changed : {X : Type 0} → (X → X) → ℕ → fin.FinMap nat_cmp X → fin.FinMap nat_cmp X
changed f o m = mapped (λ s x. if s == o then f x else x) m

-- the sum of a measure over all values
abbrev pub total : {X : Type 0} → (X → ℕ) → fin.FinMap nat_cmp X → ℕ
total f m = sum_by (λ e. f e.1) (fin.entries m)

-- the measure of an optional value, 0 if missing
abbrev pub part : {X : Type 0} → (X → ℕ) → Option X → ℕ
part f None = 0
part f (Some x) = f x
