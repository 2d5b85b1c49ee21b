-- The numbers that words write.
use Rattle.std.proofs.Common.{◌≡◌, ℕ, ◌+◌, ◌<◌, ◌≤◌, true, false, Bool, ◌&&◌, if◌then◌else◌, List, [], ◌∷◌, length, Option, None, Some, Result, Ok, refl, sym, ap, ◌∙◌, arith, rules}
use Rattle.std.specs.Prelude.{nat_le}
use Rattle.std.specs.List.{list_all}
use Rattle.std.specs.Str.Parse.{ParsesUnsigned}
use Rattle.std.proofs.lemmas.Bool.Decides.{nat_tests}
use Rattle.std.proofs.lemmas.Str.Parse.{IsDigitsTest, IsNumeralModel, numerals_by_fold, digits_value_short, parse_gives}
use Rattle.cg_script.specs.Words.{is_digit, are_digits, decimal_value, decimal_after}
use Rattle.cg_script.proofs.Ascii.{both}
use Rattle.cg_words.specs.Words.{number_between}

digits_tell : IsDigitsTest (λ ds. list_all is_digit ds ≡ true)
digits_tell = record {
  empty = refl;
  parts = λ c cs all. let two = both (is_digit c) (list_all is_digit cs) all in ((grind (arith, nat_tests, two.0), grind (arith, nat_tests, two.0)), two.1);
  more = λ c cs digit all. grind (arith, nat_tests, digit, all);
}

numerals : IsNumeralModel (λ ds. list_all is_digit ds ≡ true) (decimal_after 0)
numerals = numerals_by_fold _ digits_tell decimal_after (search rules)

pub digits_are_read : {E : Type 0} (word : List ℕ) (r : Result ℕ E) → ParsesUnsigned 32 10 word r → are_digits 6 word ≡ true → r ≡ Ok (decimal_value word)
digits_are_read word r reads digits =
    let two = both (nat_le 1 (length word) && nat_le (length word) 6) (list_all is_digit word) digits in
    let lengths = both (nat_le 1 (length word)) (nat_le (length word) 6) two.0 in
    let one : 0 < length word = grind (arith, nat_tests, lengths.0) in
    let six : length word ≤ 6 = grind (arith, nat_tests, lengths.1) in
    parse_gives numerals 32 word r reads two.1 one (omega (arith, digits_value_short numerals word 6 two.1 six))

at_most : (m n : ℕ) → m ≤ n → nat_le m n ≡ true
at_most m n h = grind (arith, nat_tests, h)

more_than : (m n : ℕ) → n < m → nat_le m n ≡ false
more_than m n h = grind (arith, nat_tests, h)

all_three : (a b c : Bool) (v n : ℕ) → a ≡ true → b ≡ true → c ≡ true → v ≡ n → Some n ≡ (if a && (b && c) then Some v else None)
all_three a b c v n is_a is_b is_c same = rw (is_a, is_b, is_c) (ap (λ k. Some k) (sym same))

module _ (least most : ℕ) (word : List ℕ) where
  pub number_within : (n : ℕ) → are_digits 6 word ≡ true → decimal_value word ≡ n → least ≤ n → n ≤ most → Some n ≡ number_between least most word
  number_within n digits same low high =
      all_three (are_digits 6 word) (nat_le least (decimal_value word)) (nat_le (decimal_value word) most) (decimal_value word) n digits
      (at_most least (decimal_value word) (omega (arith, same, low))) (at_most (decimal_value word) most (omega (arith, same, high))) same

  -- no number at all
  pub no_number : are_digits 6 word ≡ false → None ≡ number_between least most word
  no_number fails = rw fails refl

  pub number_below : (n : ℕ) → decimal_value word ≡ n → n < least → None ≡ number_between least most word
  number_below n same low =
      by (are_digits 6 word) (nat_le least (decimal_value word)) (nat_le (decimal_value word) most) (more_than least (decimal_value word) (omega (arith, same, low)))
    where
      by : (a b c : Bool) → b ≡ false → None ≡ (if a && (b && c) then Some (decimal_value word) else None)
      by true b c e = rw e refl
      by false b c e = refl

  pub number_above : (n : ℕ) → decimal_value word ≡ n → most < n → None ≡ number_between least most word
  number_above n same high =
      by (are_digits 6 word) (nat_le least (decimal_value word)) (nat_le (decimal_value word) most) (more_than (decimal_value word) most (omega (arith, same, high)))
    where
      by : (a b c : Bool) → c ≡ false → None ≡ (if a && (b && c) then Some (decimal_value word) else None)
      by true true c e = rw e refl
      by true false c e = refl
      by false b c e = refl
