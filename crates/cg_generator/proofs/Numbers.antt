-- Numbers that digits write, up to the largest one of 64 bits.
use Rattle.std.proofs.Common.{◌≡◌, ℕ, ◌+◌, ◌-◌, ◌*◌, ◌<◌, ◌≤◌, ◌^◌, min, List, [], ◌∷◌, length, drop, get_or, Bool, true, false, refl, sym, ap, ◌∙◌, arith, inl, inr}
use Rattle.std.proofs.lemmas.Bool.{cases_lt}
use Rattle.std.proofs.Math.ListN.{drop_of_length-le}
use Rattle.std.proofs.lemmas.List.{drop_more}
use Rattle.cg_script.specs.Words.{decimal_after}
use Rattle.cg_generator.specs.Tallies.{largest}

-- more digits write no smaller number
decimal_after-above : (n : ℕ) (ds : List ℕ) → n ≤ decimal_after n ds
decimal_after-above n [] = omega arith
decimal_after-above n (d ∷ ds) = omega (arith, decimal_after-above (n * 10 + (d - 48)) ds)

-- digits after a number, or after the largest one of 64 bits if that is smaller
ended : (n : ℕ) (ds : List ℕ) → min (decimal_after (min n largest) ds) largest ≡ min (decimal_after n ds) largest
ended n ds = elim (cases_lt n largest) [
  | inl below ↦ let same : min n largest ≡ n = omega (arith, below) in ap (λ k. min (decimal_after k ds) largest) same
  | inr above ↦ let same : min n largest ≡ largest = omega (arith, above) in
      ap (λ k. min (decimal_after k ds) largest) same ∙ omega (arith, above, decimal_after-above n ds, decimal_after-above largest ds)
]

pub one_digit : (so_far unit next : ℕ) (ds : List ℕ) → next ≡ min (min (so_far * 10) largest + unit) largest → min (decimal_after next ds) largest ≡ min (decimal_after (so_far * 10 + unit) ds) largest
one_digit so_far unit next ds is =
    let same : next ≡ min (so_far * 10 + unit) largest = omega (arith, is) in
    ap (λ k. min (decimal_after k ds) largest) same ∙ ended (so_far * 10 + unit) ds

pub next_digit : (digits : List ℕ) (i so_far unit next value : ℕ) → i < length digits → unit ≡ get_or digits i 0 - 48 → next ≡ min (min (so_far * 10) largest + unit) largest
    → min (decimal_after so_far (drop i digits)) largest ≡ value → min (decimal_after next (drop (i + 1) digits)) largest ≡ value
next_digit digits i so_far unit next value within is_unit is same =
    one_digit so_far unit next (drop (i + 1) digits) is
    ∙ ap (λ u. min (decimal_after (so_far * 10 + u) (drop (i + 1) digits)) largest) is_unit
    ∙ sym (ap (λ l. min (decimal_after so_far l) largest) (drop_more digits i 0 within))
    ∙ same

pub no_digit_left : (digits : List ℕ) (i so_far value : ℕ) → length digits ≤ i → so_far ≤ largest → min (decimal_after so_far (drop i digits)) largest ≡ value → so_far ≡ value
no_digit_left digits i so_far value past few same =
    let none : drop i digits ≡ [] = drop_of_length-le digits past in
    let all : min so_far largest ≡ value = sym (ap (λ l. min (decimal_after so_far l) largest) none) ∙ same in
    omega (arith, all, few)
