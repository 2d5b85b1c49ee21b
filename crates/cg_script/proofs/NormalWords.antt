-- The words as printed: those that were read, with numbers without leading zeros.
use Rattle.std.proofs.Common.{◌≡◌, ℕ, zero, suc, ◌^◌, ◌<◌, ◌≤◌, List, [], ◌∷◌, length, length-drop, drop, Bool, true, false, cond, ◌&&◌, if◌then◌else◌, ◌==◌, nat_le, Option, None, Some, refl, sym, ap, subst, ◌∙◌, arith, ◌⊎◌, inl, inr}
use Rattle.std.specs.Prelude.{slice_index, decimal, is_some, pos, negsuc, neg_ℤ}
use Rattle.std.specs.Fmt.{signed_decimal}
use Rattle.std.specs.List.{list_all}
use Rattle.std.specs.Str.{bytes_eq}
use Rattle.std.proofs.lemmas.Bool.Decides.{nat_tests}
use Rattle.std.proofs.lemmas.Slice.Eq.{bytes_eq-Decides}
use Rattle.std.proofs.lemmas.Str.Parse.{IsDigitsTest, FoldsDigits, IsNumeralModel, numerals_by_fold}
use Rattle.std.proofs.lemmas.Int.Digits.{digits_value-lt}
use Rattle.std.proofs.lemmas.Fmt.{digits_decimal, digits_value-decimal, decimal_nonempty, length-decimal-le, decimal_digit}
use Rattle.cg_script.specs.declared.command.Operand.{Operand}
use Rattle.cg_script.specs.declared.command.Operand.TheVariants as operands
use Rattle.cg_script.specs.declared.form.Sort.{Sort}
use Rattle.cg_script.specs.declared.form.Sort.TheVariants.{Value, Number, Profile, Budget, Count}
use Rattle.cg_script.specs.declared.part.Part.TheVariants as parts
use Rattle.cg_script.specs.Tables.{named}
use Rattle.cg_script.specs.Words.{is_graphic, is_digit, begins_name, is_quoted, are_digits, decimal_after, decimal_value, has_minus, is_number, number_of, is_count, is_profile, is_value, is_variable, string_text, atoms}
use Rattle.cg_script.specs.Meanings.{fits}
use Rattle.cg_script.specs.Parts.{part_of, text_in, value_text, operand_or}
use Rattle.cg_value.specs.Texts.{text_number}
use Rattle.cg_script.proofs.Ascii.{both}
use Rattle.cg_script.proofs.JoinedWords.{Graphic, and_both}

test_le : (a b : ℕ) → a ≤ b → nat_le a b ≡ true
test_le a b h = grind (arith, nat_tests)

pub le_test : (a b : ℕ) → nat_le a b ≡ true → a ≤ b
le_test a b h = grind (arith, nat_tests)

is_digit_from : (c : ℕ) → 48 ≤ c → c ≤ 57 → is_digit c ≡ true
is_digit_from c low high = and_both (nat_le 48 c) (nat_le c 57) (test_le 48 c low) (test_le c 57 high)

digit_parts : (c : ℕ) → is_digit c ≡ true → (48 ≤ c) × (c ≤ 57)
digit_parts c e = let p = both (nat_le 48 c) (nat_le c 57) e in (le_test 48 c p.0, le_test c 57 p.1)

AllDigit : List ℕ → Type 0
AllDigit ds = list_all is_digit ds ≡ true

tells : IsDigitsTest (λ ds. list_all is_digit ds ≡ true)
tells = record {
  empty = refl;
  parts = λ c cs e. let p = both (is_digit c) (list_all is_digit cs) e in (digit_parts c p.0, p.1);
  more = λ c cs range rest. and_both (is_digit c) (list_all is_digit cs) (is_digit_from c range.0 range.1) rest;
}

folds : FoldsDigits decimal_after
folds = record { empty = λ n. refl; more = λ n c cs range. refl }

own : IsNumeralModel (λ ds. list_all is_digit ds ≡ true) (decimal_after 0)
own = numerals_by_fold (λ ds. list_all is_digit ds ≡ true) tells decimal_after folds

digits_graphic : (w : List ℕ) → list_all is_digit w ≡ true → Graphic w
digits_graphic [] e = tt
digits_graphic (d ∷ ds) e =
    let p = both (is_digit d) (list_all is_digit ds) e in
    let r = digit_parts d p.0 in
    let low = r.0 in
    let high = r.1 in
    ((omega arith, omega arith), digits_graphic ds p.1)

first_digit : (w : List ℕ) → 1 ≤ length w → list_all is_digit w ≡ true → (48 ≤ slice_index w 0) × (slice_index w 0 ≤ 57)
first_digit [] some e = absurd (omega arith)
first_digit (d ∷ ds) some e = digit_parts d (both (is_digit d) (list_all is_digit ds) e).0

-- what printed digits keep of those that were read
record DigitsAgain (w v : List ℕ) : Type 0 where
  digits : list_all is_digit v ≡ true
  value : decimal_value v ≡ decimal_value w
  some : 1 ≤ length v
  light : length v ≤ length w

record DigitWord (most : ℕ) (w : List ℕ) : Type 0 where
  some : 1 ≤ length w
  few : length w ≤ most
  digits : list_all is_digit w ≡ true

digit_word : (most : ℕ) (w : List ℕ) → are_digits most w ≡ true → DigitWord most w
digit_word most w e =
    let p = both (nat_le 1 (length w) && nat_le (length w) most) (list_all is_digit w) e in
    let q = both (nat_le 1 (length w)) (nat_le (length w) most) p.0 in
    record { some = le_test 1 (length w) q.0; few = le_test (length w) most q.1; digits = p.1 }

are_digits_from : (most : ℕ) (w : List ℕ) → 1 ≤ length w → length w ≤ most → list_all is_digit w ≡ true → are_digits most w ≡ true
are_digits_from most w some few e =
    and_both (nat_le 1 (length w) && nat_le (length w) most) (list_all is_digit w) (and_both (nat_le 1 (length w)) (nat_le (length w) most) (test_le 1 (length w) some) (test_le (length w) most few)) e

digits_again : (w : List ℕ) → 1 ≤ length w → list_all is_digit w ≡ true → decimal_value w < 2 ^ 64 → DigitsAgain w (decimal (decimal_value w))
digits_again w some e small =
    let all = own.to w e in
    let same : decimal_value w ≡ _ = own.same w all in
    let bound : decimal_value w < 10 ^ length w = subst (λ (n : ℕ). n < 10 ^ length w) (sym same) (digits_value-lt 10 w all) in
    record {
      digits = digits_decimal own (decimal_value w) small;
      value = digits_value-decimal own (decimal_value w) small;
      some = decimal_nonempty (decimal_value w) small;
      light = length-decimal-le (length w) (decimal_value w) some bound small;
    }

-- what a printed number keeps of the one that was read
pub record NumberAgain (w v : List ℕ) : Type 0 where
  pub number : is_number v ≡ true
  pub same : number_of v ≡ number_of w
  pub some : 1 ≤ length v
  pub graphic : Graphic v
  pub light : length v ≤ length w
  pub no_letter : begins_name (slice_index v 0) ≡ false
  pub no_quote : is_quoted v ≡ false

no_name : (b : ℕ) → b ≤ 57 → begins_name b ≡ false
no_name b h = grind (arith, nat_tests)

not_byte : (b c : ℕ) → c < b → (b == c) ≡ false
not_byte b c h = grind (arith, nat_tests)

positive : (w : List ℕ) → has_minus w ≡ false → is_number w ≡ true → NumberAgain w (signed_decimal (pos (decimal_value w)))
positive w minus e =
    let tests : (are_digits 19 w && nat_le (decimal_value w) 9223372036854775807) ≡ true =
    ap (λ b. cond b (are_digits 19 (drop 1 w) && nat_le (decimal_value (drop 1 w)) 9223372036854775808) (are_digits 19 w && nat_le (decimal_value w) 9223372036854775807)) (sym minus) ∙ e in
    let p = both (are_digits 19 w) (nat_le (decimal_value w) 9223372036854775807) tests in
    let d = digit_word 19 w p.0 in
    let few = d.few in
    let limit : decimal_value w ≤ 9223372036854775807 = le_test _ _ p.1 in
    let again = digits_again w d.some d.digits (omega arith) in
    let light = again.light in
    let v = decimal (decimal_value w) in
    let first = first_digit v again.some again.digits in
    let low = first.0 in
    let v_minus : has_minus v ≡ false = not_byte (slice_index v 0) 45 (omega arith) in
    record {
      number = ap (λ b. cond b (are_digits 19 (drop 1 v) && nat_le (decimal_value (drop 1 v)) 9223372036854775808) (are_digits 19 v && nat_le (decimal_value v) 9223372036854775807)) v_minus
          ∙ and_both (are_digits 19 v) (nat_le (decimal_value v) 9223372036854775807) (are_digits_from 19 v again.some (omega arith) again.digits)
          (ap (λ n. nat_le n 9223372036854775807) again.value ∙ p.1);
      same = ap (λ b. cond b (neg_ℤ (pos (decimal_value (drop 1 v)))) (pos (decimal_value v))) v_minus
          ∙ ap pos again.value
          ∙ sym (ap (λ b. cond b (neg_ℤ (pos (decimal_value (drop 1 w)))) (pos (decimal_value w))) minus);
      some = again.some;
      graphic = digits_graphic v again.digits;
      light = again.light;
      no_letter = no_name (slice_index v 0) first.1;
      no_quote = not_byte (slice_index v 0) 39 (omega arith);
    }

zero_again : (w v : List ℕ) → v ≡ 48 ∷ [] → number_of w ≡ pos 0 → 1 ≤ length w → NumberAgain w v
zero_again w v is same some =
    subst (λ (u : List ℕ). NumberAgain w u) (sym is)
    (record { number = refl; same = sym same; some = omega arith; graphic = ((omega arith, omega arith), tt); light = some; no_letter = refl; no_quote = refl })

below_zero : (w : List ℕ) (k : ℕ) → 1 ≤ length w → number_of w ≡ negsuc k → suc k ≤ 9223372036854775808 → DigitsAgain (drop 1 w) (decimal (suc k))
    → decimal_value (drop 1 w) ≡ suc k → length (drop 1 w) ≤ 19
    → NumberAgain w (45 ∷ decimal (suc k))
below_zero w k some same limit again value few =
    let light = again.light in
    let v = decimal (suc k) in
    let read : decimal_value v ≡ suc k = again.value ∙ value in
    record {
      number = and_both (are_digits 19 v) (nat_le (decimal_value v) 9223372036854775808) (are_digits_from 19 v again.some (omega arith) again.digits)
          (ap (λ n. nat_le n 9223372036854775808) read ∙ test_le (suc k) 9223372036854775808 limit);
      same = ap (λ n. neg_ℤ (pos n)) read ∙ sym same;
      some = omega arith;
      graphic = ((omega arith, omega arith), digits_graphic v again.digits);
      light = omega (arith, length-drop 1 w);
      no_letter = refl;
      no_quote = refl;
    }

negative : (w : List ℕ) → has_minus w ≡ true → is_number w ≡ true → NumberAgain w (signed_decimal (number_of w))
negative w minus e =
    let tests : (are_digits 19 (drop 1 w) && nat_le (decimal_value (drop 1 w)) 9223372036854775808) ≡ true =
    ap (λ b. cond b (are_digits 19 (drop 1 w) && nat_le (decimal_value (drop 1 w)) 9223372036854775808) (are_digits 19 w && nat_le (decimal_value w) 9223372036854775807)) (sym minus) ∙ e in
    let p = both (are_digits 19 (drop 1 w)) (nat_le (decimal_value (drop 1 w)) 9223372036854775808) tests in
    let d = digit_word 19 (drop 1 w) p.0 in
    let some_digits = d.some in
    let limit : decimal_value (drop 1 w) ≤ 9223372036854775808 = le_test _ _ p.1 in
    let some : 1 ≤ length w = omega (arith, length-drop 1 w) in
    let is : number_of w ≡ neg_ℤ (pos (decimal_value (drop 1 w))) = ap (λ b. cond b (neg_ℤ (pos (decimal_value (drop 1 w)))) (pos (decimal_value w))) minus in
    let again : DigitsAgain (drop 1 w) (decimal (decimal_value (drop 1 w))) = digits_again (drop 1 w) d.some d.digits (omega arith) in
    subst (λ z. NumberAgain w (signed_decimal z)) (sym is) (by_size w some d.few limit again is (decimal_value (drop 1 w)) refl)
  where
    by_size : (w : List ℕ) → 1 ≤ length w → length (drop 1 w) ≤ 19 → decimal_value (drop 1 w) ≤ 9223372036854775808 → DigitsAgain (drop 1 w) (decimal (decimal_value (drop 1 w)))
        → number_of w ≡ neg_ℤ (pos (decimal_value (drop 1 w))) → (m : ℕ) → decimal_value (drop 1 w) ≡ m → NumberAgain w (signed_decimal (neg_ℤ (pos (decimal_value (drop 1 w)))))
    by_size w some few limit again is zero em =
        subst (λ (m : ℕ). NumberAgain w (signed_decimal (neg_ℤ (pos m)))) (sym em) (zero_again w (decimal 0) (decimal_digit 0 (omega arith)) (is ∙ ap (λ m. neg_ℤ (pos m)) em) some)
    by_size w some few limit again is (suc k) em =
        subst (λ (m : ℕ). NumberAgain w (signed_decimal (neg_ℤ (pos m)))) (sym em)
        (below_zero w k some (is ∙ ap (λ m. neg_ℤ (pos m)) em) (omega arith) (subst (λ (m : ℕ). DigitsAgain (drop 1 w) (decimal m)) em again) em few)

pub number_again : (w : List ℕ) → is_number w ≡ true → NumberAgain w (signed_decimal (number_of w))
number_again w e = by (has_minus w) refl
  where
    by : (b : Bool) → has_minus w ≡ b → NumberAgain w (signed_decimal (number_of w))
    by true minus = negative w minus e
    by false minus =
        subst (λ z. NumberAgain w (signed_decimal z)) (sym (ap (λ b. cond b (neg_ℤ (pos (decimal_value (drop 1 w)))) (pos (decimal_value w))) minus)) (positive w minus e)

-- what a printed word keeps of the one that was read
pub record WordAgain (s : Sort) (w v : List ℕ) : Type 0 where
  pub fit : fits s v ≡ true
  pub part : (procs classes texts : List (List ℕ)) → part_of procs classes texts s v ≡ part_of procs classes texts s w
  pub text : text_in s v ≡ text_in s w
  pub some : 1 ≤ length v
  pub graphic : Graphic v
  pub light : length v ≤ length w

same_word : (s : Sort) (w : List ℕ) → fits s w ≡ true → 1 ≤ length w → Graphic w → WordAgain s w w
same_word s w fit some graphic = record { fit = fit; part = λ procs classes texts. refl; text = refl; some = some; graphic = graphic; light = omega arith }

record CountAgain (most : ℕ) (w v : List ℕ) : Type 0 where
  count : is_count most v ≡ true
  value : decimal_value v ≡ decimal_value w
  some : 1 ≤ length v
  graphic : Graphic v
  light : length v ≤ length w

count_again : (most : ℕ) (w : List ℕ) → most ≤ 2147483647 → is_count most w ≡ true → CountAgain most w (decimal (decimal_value w))
count_again most w small e =
    let p = both (are_digits 10 w) (nat_le (decimal_value w) most) e in
    let d = digit_word 10 w p.0 in
    let few = d.few in
    let limit : decimal_value w ≤ most = le_test _ _ p.1 in
    let again = digits_again w d.some d.digits (omega arith) in
    let light = again.light in
    let v = decimal (decimal_value w) in
    record {
      count = and_both (are_digits 10 v) (nat_le (decimal_value v) most) (are_digits_from 10 v again.some (omega arith) again.digits) (ap (λ n. nat_le n most) again.value ∙ p.1);
      value = again.value;
      some = again.some;
      graphic = digits_graphic v again.digits;
      light = light;
    }

-- no number is in a table of names
abbrev pub AllNames : {A : Type 0} → List (List ℕ × A) → Type 0
AllNames [] = Unit {0}
AllNames (row ∷ rows) = (begins_name (slice_index row.0 0) ≡ true) × AllNames rows

pub names_by_test : {A : Type 0} (rows : List (List ℕ × A)) → list_all (λ row. begins_name (slice_index row.0 0)) rows ≡ true → AllNames rows
names_by_test [] e = tt
names_by_test (row ∷ rows) e = let p = both (begins_name (slice_index row.0 0)) (list_all (λ row. begins_name (slice_index row.0 0)) rows) e in (p.0, names_by_test rows p.1)

pub named_nowhere : {A : Type 0} (rows : List (List ℕ × A)) (w : List ℕ) → AllNames rows → begins_name (slice_index w 0) ≡ false → named rows w ≡ None
named_nowhere [] w names e = refl
named_nowhere (row ∷ rows) w names e =
    not_here (bytes_eq w row.0) refl (λ (same : w ≡ row.0). let both_ways : false ≡ true = sym e ∙ ap (λ (t : List ℕ). begins_name (slice_index t 0)) same
    ∙ names.0 in absurd (cc)) row.1 (named rows w) (named_nowhere rows w names.1 e)
    (bytes_eq-Decides w row.0).0
  where
    not_here : {A : Type 0} {P : Type 0} (b : Bool) → (b ≡ b) → (P → ⊥) → (x : A) (later : Option A) → later ≡ None → (b ≡ true → P) → cond b (Some x) later ≡ None
    not_here true r never x later e so = absurd (never (so refl))
    not_here false r never x later e so = e

atoms_named : AllNames atoms
unfolding atoms
atoms_named = names_by_test atoms refl

-- the word of a value, or its keyword
abbrev pub normal_value : Option Operand → List ℕ → List ℕ
normal_value (Some operand) w = w
normal_value None w = if is_quoted w then w else if begins_name (slice_index w 0) then w else signed_decimal (number_of w)

-- a word as printed
abbrev pub normal : Sort → List ℕ → List ℕ
normal Value w = normal_value (named atoms w) w
normal Number w = signed_decimal (number_of w)
normal Profile w = decimal (decimal_value w)
normal Budget w = decimal (decimal_value w)
normal Count w = decimal (decimal_value w)
normal s w = w

number_value : (w v : List ℕ) → named atoms w ≡ None → is_quoted w ≡ false → begins_name (slice_index w 0) ≡ false → NumberAgain w v → WordAgain Value w v
number_value w v none quote letter n =
    let v_none : named atoms v ≡ None = named_nowhere atoms v atoms_named n.no_letter in
    let value : (u : List ℕ) → named atoms u ≡ None → is_quoted u ≡ false → begins_name (slice_index u 0) ≡ false → is_value u ≡ is_number u =
    λ u none quote letter. ap (λ (f : Option Operand). cond (is_some f) true (cond (is_quoted u) (list_all is_graphic u) (cond (begins_name (slice_index u 0)) (is_variable u) (is_number u)))) none
    ∙ ap (λ b. cond b (list_all is_graphic u) (cond (begins_name (slice_index u 0)) (is_variable u) (is_number u))) quote
    ∙ ap (λ b. cond b (is_variable u) (is_number u)) letter in
    let operand : (texts : List (List ℕ)) (u : List ℕ) → named atoms u ≡ None → is_quoted u ≡ false → begins_name (slice_index u 0) ≡ false
    → operand_or (named atoms u) texts u ≡ operands.Int (number_of u) =
    λ texts u none quote letter. ap (λ (f : Option Operand). operand_or f texts u) none
    ∙ ap (λ b. cond b (operands.Str (text_number texts (string_text u))) (cond (begins_name (slice_index u 0)) (operands.Name (text_number texts u)) (operands.Int (number_of u)))) quote
    ∙ ap (λ b. cond b (operands.Name (text_number texts u)) (operands.Int (number_of u))) letter in
    let no_text : (u : List ℕ) → named atoms u ≡ None → is_quoted u ≡ false → begins_name (slice_index u 0) ≡ false → value_text (named atoms u) u ≡ None =
    λ u none quote letter. ap (λ (f : Option Operand). value_text f u) none
    ∙ ap (λ b. cond b (Some (string_text u)) (cond (begins_name (slice_index u 0)) (Some u) None)) quote
    ∙ ap (λ b. cond b (Some u) None) letter in
    record {
      fit = value v v_none n.no_quote n.no_letter ∙ n.number;
      part = λ procs classes texts. ap parts.Value (operand texts v v_none n.no_quote n.no_letter ∙ ap operands.Int n.same ∙ sym (operand texts w none quote letter));
      text = no_text v v_none n.no_quote n.no_letter ∙ sym (no_text w none quote letter);
      some = n.some;
      graphic = n.graphic;
      light = n.light;
    }

is_number_word : (w : List ℕ) → named atoms w ≡ None → is_quoted w ≡ false → begins_name (slice_index w 0) ≡ false → is_value w ≡ true → is_number w ≡ true
is_number_word w none quote letter e =
    sym (ap (λ (f : Option Operand). cond (is_some f) true (cond (is_quoted w) (list_all is_graphic w) (cond (begins_name (slice_index w 0)) (is_variable w) (is_number w)))) none
    ∙ ap (λ b. cond b (list_all is_graphic w) (cond (begins_name (slice_index w 0)) (is_variable w) (is_number w))) quote
    ∙ ap (λ b. cond b (is_variable w) (is_number w)) letter)
    ∙ e

value_again : (w : List ℕ) (found : Option Operand) → named atoms w ≡ found → is_value w ≡ true → 1 ≤ length w → Graphic w → WordAgain Value w (normal_value found w)
value_again w (Some operand) e fit some graphic = same_word Value w fit some graphic
value_again w None e fit some graphic = by (is_quoted w) (begins_name (slice_index w 0)) refl refl
  where
    by : (q b : Bool) → is_quoted w ≡ q → begins_name (slice_index w 0) ≡ b → WordAgain Value w (cond q w (cond b w (signed_decimal (number_of w))))
    by true b eq eb = same_word Value w fit some graphic
    by false true eq eb = same_word Value w fit some graphic
    by false false eq eb = number_value w (signed_decimal (number_of w)) e eq eb (number_again w (is_number_word w e eq eb fit))

pub word_again : (s : Sort) (w : List ℕ) → fits s w ≡ true → 1 ≤ length w → Graphic w → WordAgain s w (normal s w)
word_again Value w fit some graphic = value_again w (named atoms w) refl fit some graphic
word_again Number w fit some graphic =
    let n = number_again w fit in record { fit = n.number; part = λ procs classes texts. ap parts.Number n.same; text = refl; some = n.some; graphic = n.graphic; light = n.light }
word_again Profile w fit some graphic =
    let p = both (is_count 2 w) (nat_le 1 (decimal_value w)) fit in
    let n = count_again 2 w (omega arith) p.0 in
    let again : is_profile (decimal (decimal_value w)) ≡ true =
    and_both (is_count 2 (decimal (decimal_value w))) (nat_le 1 (decimal_value (decimal (decimal_value w)))) n.count (ap (nat_le 1) n.value ∙ p.1) in
    record { fit = again; part = λ procs classes texts. ap parts.Count n.value; text = refl; some = n.some; graphic = n.graphic; light = n.light }
word_again Budget w fit some graphic =
    let n = count_again 100000 w (omega arith) fit in
    record { fit = n.count; part = λ procs classes texts. ap parts.Count n.value; text = refl; some = n.some; graphic = n.graphic; light = n.light }
word_again Count w fit some graphic =
    let n = count_again 2147483647 w (omega arith) fit in
    record { fit = n.count; part = λ procs classes texts. ap parts.Count n.value; text = refl; some = n.some; graphic = n.graphic; light = n.light }
word_again s w fit some graphic = same_word s w fit some graphic

-- a word that is printed differently does not begin with a letter, before or after
abbrev pub Alike : List ℕ → List ℕ → Type 0
Alike w v = (v ≡ w) ⊎ ((begins_name (slice_index w 0) ≡ false) × (begins_name (slice_index v 0) ≡ false))

number_letterless : (w : List ℕ) → is_number w ≡ true → begins_name (slice_index w 0) ≡ false
number_letterless w e = by (has_minus w) refl e
  where
    by : (b : Bool) → has_minus w ≡ b
        → cond b (are_digits 19 (drop 1 w) && nat_le (decimal_value (drop 1 w)) 9223372036854775808) (are_digits 19 w && nat_le (decimal_value w)
        9223372036854775807) ≡ true → begins_name (slice_index w 0) ≡ false
    by true minus e = let first : slice_index w 0 ≡ 45 = grind (arith, nat_tests) in no_name (slice_index w 0) (omega arith)
    by false minus e = let d = digit_word 19 w (both (are_digits 19 w) (nat_le (decimal_value w) 9223372036854775807) e).0 in no_name (slice_index w 0) (first_digit w d.some d.digits).1

count_letterless : (most : ℕ) (w : List ℕ) → is_count most w ≡ true → begins_name (slice_index w 0) ≡ false
count_letterless most w e = let d = digit_word 10 w (both (are_digits 10 w) (nat_le (decimal_value w) most) e).0 in no_name (slice_index w 0) (first_digit w d.some d.digits).1

count_alike : (most : ℕ) (w : List ℕ) → most ≤ 2147483647 → is_count most w ≡ true → Alike w (decimal (decimal_value w))
count_alike most w small e = let n = count_again most w small e in inr (count_letterless most w e, count_letterless most (decimal (decimal_value w)) n.count)

value_alike : (w : List ℕ) (found : Option Operand) → named atoms w ≡ found → is_value w ≡ true → Alike w (normal_value found w)
value_alike w (Some operand) e fit = inl refl
value_alike w None e fit = by (is_quoted w) (begins_name (slice_index w 0)) refl refl
  where
    by : (q b : Bool) → is_quoted w ≡ q → begins_name (slice_index w 0) ≡ b → Alike w (cond q w (cond b w (signed_decimal (number_of w))))
    by true b eq eb = inl refl
    by false true eq eb = inl refl
    by false false eq eb = let n = number_again w (is_number_word w e eq eb fit) in inr (eb, n.no_letter)

pub alike : (s : Sort) (w : List ℕ) → fits s w ≡ true → Alike w (normal s w)
alike Value w fit = value_alike w (named atoms w) refl fit
alike Number w fit = let n = number_again w fit in inr (number_letterless w fit, n.no_letter)
alike Profile w fit = count_alike 2 w (omega arith) (both (is_count 2 w) (nat_le 1 (decimal_value w)) fit).0
alike Budget w fit = count_alike 100000 w (omega arith) fit
alike Count w fit = count_alike 2147483647 w (omega arith) fit
alike s w fit = inl refl
