-- The number that digits write, digit by digit.
use Rattle.std.proofs.Common.{◌≡◌, ℕ, zero, suc, ◌+◌, ◌-◌, ◌*◌, ◌^◌, ◌<◌, ◌≤◌, List, length, get_or, drop, true, sym, ap, ◌∙◌, arith, add-one}
use Rattle.std.proofs.Math.Nat.{pow-suc}
use Rattle.std.proofs.lemmas.List.{drop_more}
use Rattle.std.proofs.Math.ListN.{drop_of_length-le}
use Rattle.std.proofs.lemmas.Bool.Decides.{nat_tests}
use Rattle.std.specs.List.{list_all}
use Rattle.cg_script.specs.Words.{is_digit, decimal_after}
use Rattle.cg_script.proofs.Ascii.{both}

digit_range : (d : ℕ) → is_digit d ≡ true → (48 ≤ d) × (d ≤ 57)
digit_range d e = (grind (arith, nat_tests), grind (arith, nat_tests))

module _ (ds : List ℕ) (i : ℕ) (h : i < length ds) where
  pub digit_at : list_all is_digit (drop i ds) ≡ true → (48 ≤ get_or ds i 0) × (get_or ds i 0 ≤ 57)
  digit_at e = digit_range (get_or ds i 0) (both _ _ (sym (ap (list_all is_digit) (drop_more ds i 0 h)) ∙ e)).0

  pub digits_behind : list_all is_digit (drop i ds) ≡ true → list_all is_digit (drop (i + 1) ds) ≡ true
  digits_behind e = (both (is_digit (get_or ds i 0)) _ (sym (ap (list_all is_digit) (drop_more ds i 0 h)) ∙ e)).1

  pub value_step : (v whole : ℕ) → decimal_after v (drop i ds) ≡ whole → decimal_after (v * 10 + (get_or ds i 0 - 48)) (drop (i + 1) ds) ≡ whole
  value_step v whole e = sym (ap (decimal_after v) (drop_more ds i 0 h)) ∙ e

ten_more : (i : ℕ) → 10 ^ (i + 1) ≡ 10 ^ i * 10
ten_more i = rw add-one (pow-suc 10 i)

pub small_step : (v d i : ℕ) → v + 1 ≤ 10 ^ i → d ≤ 57 → v * 10 + (d - 48) + 1 ≤ 10 ^ (i + 1)
small_step v d i small digit = let e = ten_more i in omega arith

grows : (i k : ℕ) → 10 ^ i ≤ 10 ^ (k + i)
grows i zero = let e : 0 + i ≡ i = omega arith in rw e (omega arith)
grows i (suc k) =
    let e : suc k + i ≡ (k + i) + 1 = omega arith in
    let t = ten_more (k + i) in
    let r = grows i k in
    rw e (omega arith)

-- this many digits fit in 64 bits
pub fits_bits : (v d i : ℕ) → v + 1 ≤ 10 ^ i → i < 19 → d ≤ 57 → v * 10 + (d - 48) < 18446744073709551616
fits_bits v d i small few digit =
    let e : (18 - i) + i ≡ 18 = omega arith in
    let g : 10 ^ i ≤ 10 ^ 18 = ap-le e (grows i (18 - i)) in
    omega arith
  where
    ap-le : {k : ℕ} → k ≡ 18 → 10 ^ i ≤ 10 ^ k → 10 ^ i ≤ 10 ^ 18
    ap-le e g = rw e at g

pub value_at_end : (ds : List ℕ) (i v whole : ℕ) → length ds ≤ i → decimal_after v (drop i ds) ≡ whole → v ≡ whole
value_at_end ds i v whole h e = sym (ap (decimal_after v) (drop_of_length-le ds h)) ∙ e
