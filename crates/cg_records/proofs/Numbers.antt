-- Decimal numbers: their digits, where they end, and that no two share a text.
use Rattle.std.proofs.Common.{◌≡◌, ◌≢◌, ℕ, ◌+◌, ◌-◌, ◌*◌, ◌^◌, ◌<◌, ◌≤◌, List, [], ◌∷◌, ◌++◌, length, get_or, take, drop, Bool, true, false, not, ◌==◌, ◌&&◌, ◌||◌, refl, sym, ap, subst, ◌∙◌, arith, inl, inr, length-append}
use Rattle.std.specs.Prelude.{decimal}
use Rattle.std.specs.Int.{IsInRange}
use Rattle.std.proofs.Math.Seq.{get_or-append_seam}
use Rattle.std.proofs.Math.ListN.{get_or-append, drop_of_length-le}
use Rattle.std.proofs.lemmas.Bool.{cases_lt}
use Rattle.std.proofs.lemmas.Bool.Decides.{nat_tests}
use Rattle.std.proofs.lemmas.List.{take_at, drop_at, drop_more}
use Rattle.std.proofs.lemmas.Str.Parse.{IsNumeralModel, numerals_by_fold, tells_by_index}
use Rattle.std.proofs.lemmas.Fmt.{decimal_nonempty, first_decimal, decimal_injective, decimal-digits_value, digits_decimal, digits_value-decimal, decimal_digit}
use Rattle.cg_records.specs.Number.{is_plain}

abbrev pub AreDigits : List ℕ → Type 0
AreDigits ds = (i : ℕ) → i < length ds → IsInRange 48 57 (get_or ds i 0)

-- the number that digits give when appended to those of n
abbrev pub digits_after : ℕ → List ℕ → ℕ
digits_after n [] = n
digits_after n (d ∷ ds) = digits_after (n * 10 + (d - 48)) ds

model : IsNumeralModel AreDigits (digits_after 0)
model = numerals_by_fold AreDigits tells_by_index digits_after (record { empty = λ n. refl; more = λ n c cs k. refl })

pub le-digits_after : (n : ℕ) (ds : List ℕ) → n ≤ digits_after n ds
le-digits_after n [] = omega arith
le-digits_after n (d ∷ ds) = omega (arith, le-digits_after (n * 10 + (d - 48)) ds)

pub value_step : (ds : List ℕ) (i n whole : ℕ) → i < length ds → digits_after n (drop i ds) ≡ whole → digits_after (n * 10 + (get_or ds i 0 - 48)) (drop (i + 1) ds) ≡ whole
value_step ds i n whole h e = sym (ap (digits_after n) (drop_more ds i 0 h)) ∙ e

pub value_at_end : (ds : List ℕ) (i n whole : ℕ) → length ds ≤ i → digits_after n (drop i ds) ≡ whole → n ≡ whole
value_at_end ds i n whole h e = sym (ap (digits_after n) (drop_of_length-le ds h)) ∙ e

plain_parts : (word : List ℕ) → is_plain word ≡ true → (0 < length word) × (get_or word 0 0 ≡ 48 → length word ≡ 1)
plain_parts word e = parts (length word) (get_or word 0 0) (length word == 0) (length word == 1) (get_or word 0 0 == 48) refl refl refl e
  where
    parts : (n d : ℕ) (a b c : Bool) → (n == 0) ≡ a → (n == 1) ≡ b → (d == 48) ≡ c → (not a && (b || not c)) ≡ true → (0 < n) × (d ≡ 48 → n ≡ 1)
    parts n d false true c p q r e = (grind (arith, nat_tests), λ z. grind (arith, nat_tests))
    parts n d false false false p q r e = (grind (arith, nat_tests), λ z. grind (arith, nat_tests))
    parts n d bit b c p q r e = absurd (cc)

pub plain_decimal : (n : ℕ) → n < 2 ^ 64 → is_plain (decimal n) ≡ true
plain_decimal n h = elim (cases_lt 0 n) [ inl some ↦ plain (decimal n) (decimal_nonempty n h) (first_decimal n some h) | inr none ↦ zero_plain n (omega arith) ]
  where
    plain : (ds : List ℕ) → 0 < length ds → 48 < get_or ds 0 0 → is_plain ds ≡ true
    plain [] some high = absurd (omega arith)
    plain (d ∷ []) some high = refl
    plain (d ∷ c ∷ ds) some high = grind (arith, nat_tests)

    zero_plain : (n : ℕ) → n ≡ 0 → is_plain (decimal n) ≡ true
    zero_plain n e = ap (λ k. is_plain (decimal k)) e ∙ ap is_plain (decimal_digit 0 (omega arith))

-- digits without leading zeros are the text of the number they denote
pub word_is : (word : List ℕ) (n : ℕ) → is_plain word ≡ true → AreDigits word → n ≡ digits_after 0 word → n < 2 ^ 64 → word ≡ decimal n
word_is word n plain digits e small =
    let parts = plain_parts word plain in
    sym (decimal-digits_value model word digits parts.0 parts.1 (omega (arith, e))) ∙ ap decimal (sym e)

pub not_plain : (word : List ℕ) (n : ℕ) → is_plain word ≡ false → n < 2 ^ 64 → word ≢ decimal n
not_plain word n e small is = let p : is_plain word ≡ true = ap is_plain is ∙ plain_decimal n small in absurd (cc)

-- no number's text has a byte that cannot follow the digits before it
pub not_digit : (word : List ℕ) (n i so_far : ℕ) → i < length word → digits_after so_far (drop i word) ≡ digits_after 0 word
    → (IsInRange 48 57 (get_or word i 0) → 2 ^ 64 ≤ so_far * 10 + (get_or word i 0 - 48)) → n < 2 ^ 64 → word ≢ decimal n
not_digit word n i so_far within value none small is =
    let digits : AreDigits word = subst AreDigits (sym is) (digits_decimal model n small) in
    let whole : digits_after 0 word ≡ n = ap (digits_after 0) is ∙ digits_value-decimal model n small in
    let large = none (digits i within) in
    let more = le-digits_after (so_far * 10 + (get_or word i 0 - 48)) (drop (i + 1) word) in
    let same = value_step word i so_far (digits_after 0 word) within value in
    omega arith

no_shorter : (m n s : ℕ) (x y : List ℕ) → s < 48 → n < 2 ^ 64 → decimal m ++ s ∷ x ≡ decimal n ++ y → length (decimal n) ≤ length (decimal m)
no_shorter m n s x y low small e =
    elim (cases_lt (length (decimal m)) (length (decimal n))) [
      | inl lt ↦
          let digit = digits_decimal model n small (length (decimal m)) lt in
          let there : get_or (decimal n) (length (decimal m)) 0 ≡ s = sym (get_or-append (decimal n) y 0 (length (decimal m)) lt)
          ∙ sym (ap (λ (l : List ℕ). get_or l (length (decimal m)) 0) e) ∙ get_or-append_seam (decimal m) s x 0 in
          absurd (omega arith)
      | inr le ↦ le
    ]

tail_is : (s t : ℕ) (x y : List ℕ) → s ∷ x ≡ t ∷ y → (s ≡ t) × (x ≡ y)
tail_is s t x y e = (cc, cc)

-- no two numbers share a text up to a byte that is not a digit
pub one_number : (m n s t : ℕ) (x y : List ℕ) → m < 2 ^ 64 → n < 2 ^ 64 → s < 48 → t < 48 → decimal m ++ s ∷ x ≡ decimal n ++ t ∷ y → (m ≡ n) × (s ≡ t) × (x ≡ y)
one_number m n s t x y fits small low under e =
    let a = no_shorter m n s x (t ∷ y) low small e in
    let b = no_shorter n m t y (s ∷ x) under fits (sym e) in
    let same : length (decimal n) ≡ length (decimal m) = omega arith in
    let word : decimal m ≡ decimal n = sym (take_at (decimal m) (s ∷ x) (length (decimal m)) refl) ∙ ap (take (length (decimal m))) e ∙ take_at (decimal n) (t ∷ y) (length (decimal m)) same in
    let rest : s ∷ x ≡ t ∷ y = sym (drop_at (decimal m) (s ∷ x) (length (decimal m)) refl) ∙ ap (drop (length (decimal m))) e ∙ drop_at (decimal n) (t ∷ y) (length (decimal m)) same in
    let parts = tail_is s t x y rest in
    (decimal_injective m n fits small word, parts.0, parts.1)

-- a number's text ends at the first such byte
pub ends_at : (bytes : List ℕ) (stop end n : ℕ) (rest : List ℕ) → stop < 48 → n < 2 ^ 64 → ((k : ℕ) → k < end → get_or bytes k 0 ≢ stop) → (end < length bytes → get_or bytes end 0 ≡ stop)
    → bytes ≡ decimal n ++ stop ∷ rest → (end < length bytes) × (take end bytes ≡ decimal n)
ends_at bytes stop end n rest low small before found is =
    let size = length-append (decimal n) (stop ∷ rest) in
    let all : length bytes ≡ length (decimal n ++ stop ∷ rest) = ap length is in
    let seam : get_or bytes (length (decimal n)) 0 ≡ stop = ap (λ (l : List ℕ). get_or l (length (decimal n)) 0) is ∙ get_or-append_seam (decimal n) stop rest 0 in
    elim (cases_lt end (length (decimal n))) [
      | inl lt ↦
          let digit = digits_decimal model n small end lt in
          let here : get_or bytes end 0 ≡ get_or (decimal n) end 0 = ap (λ (l : List ℕ). get_or l end 0) is ∙ get_or-append (decimal n) (stop ∷ rest) 0 end lt in
          absurd (let at = found (omega arith) in omega arith)
      | inr le ↦
          elim (cases_lt (length (decimal n)) end) [
            | inl past ↦ absurd (before (length (decimal n)) past seam)
            | inr not_past ↦ let same : length (decimal n) ≡ end = omega arith in (omega arith, ap (take end) is ∙ take_at (decimal n) (stop ∷ rest) end same)
          ]
    ]
