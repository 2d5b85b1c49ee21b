-- The words written for a line have graphic bytes.
use Rattle.std.proofs.Common.{◌≡◌, ℕ, zero, suc, ◌+◌, ◌<◌, ◌≤◌, List, [], ◌∷◌, ◌++◌, length, map, Bool, true, false, not, ◌&&◌, refl, ap, ◌∙◌, arith, nat_le, codes}
use Rattle.std.specs.Prelude.{decimal}
use Rattle.std.specs.List.{list_all}
use Rattle.std.specs.Int.Digits.{AllBelowBase, digits_of}
use Rattle.std.proofs.lemmas.Bool.Decides.{nat_tests}
use Rattle.std.proofs.lemmas.Fmt.{decimal-digits_of, decimal_digit}
use Rattle.std.proofs.lemmas.Int.Digits.{all_below_base_digits_of}
use Rattle.cg_script.specs.Pieces.{word_at}
use Rattle.cg_script.specs.Words.{is_digit}
use Rattle.cg_script.proofs.Ascii.{both}
use Rattle.cg_script.proofs.JoinedWords.{EachSound, Graphic, and_both}
use Rattle.cg_weakcoll.specs.declared.form.Form.{Form}
use Rattle.cg_weakcoll.specs.declared.form.Form.TheVariants.{MakeMap, Set, Get, Remove, Finalize}
use Rattle.cg_weakcoll.specs.Expansion.{exit_name, form_lines, is_kept, weak_name, word_count}

-- the digits of a number
low_digits : (ds : List ℕ) → AllBelowBase 10 ds → list_all is_digit (map (λ d. 48 + d) ds) ≡ true
low_digits [] h = refl
low_digits (d ∷ ds) h =
    let low = h.0 in
    let from : nat_le 48 (48 + d) ≡ true = grind (arith, nat_tests) in
    let to : nat_le (48 + d) 57 ≡ true = grind (arith, nat_tests) in
    and_both (is_digit (48 + d)) (list_all is_digit (map (λ e. 48 + e) ds)) (and_both (nat_le 48 (48 + d)) (nat_le (48 + d) 57) from to) (low_digits ds h.1)

pub number_digits : (l : ℕ) → l ≤ 400000 → list_all is_digit (decimal l) ≡ true
number_digits zero low = ap (list_all is_digit) (decimal_digit 0 (omega arith))
number_digits (suc l) low = ap (list_all is_digit) (decimal-digits_of (suc l) (omega arith) (omega (arith, low))) ∙ low_digits (digits_of 10 (suc l))
    (all_below_base_digits_of 10 (suc l) (omega arith))

pub digits_graphic : (ds : List ℕ) → list_all is_digit ds ≡ true → list_all (λ b. nat_le 33 b && nat_le b 126) ds ≡ true
digits_graphic [] e = refl
digits_graphic (d ∷ ds) e =
    let p = both (is_digit d) (list_all is_digit ds) e in
    let range = both (nat_le 48 d) (nat_le d 57) p.0 in
    let from : nat_le 48 d ≡ true = range.0 in
    let to : nat_le d 57 ≡ true = range.1 in
    let low : nat_le 33 d ≡ true = grind (arith, nat_tests) in
    let high : nat_le d 126 ≡ true = grind (arith, nat_tests) in
    and_both (nat_le 33 d && nat_le d 126) (list_all (λ b. nat_le 33 b && nat_le b 126) ds) (and_both (nat_le 33 d) (nat_le d 126) low high) (digits_graphic ds p.1)

-- sound words
pub graphic_by : (word : List ℕ) → list_all (λ b. nat_le 33 b && nat_le b 126) word ≡ true → Graphic word
graphic_by [] e = tt
graphic_by (b ∷ bs) e =
    let parts = both (nat_le 33 b && nat_le b 126) (list_all (λ b. nat_le 33 b && nat_le b 126) bs) e in
    let range = both (nat_le 33 b) (nat_le b 126) parts.0 in
    let low : nat_le 33 b ≡ true = range.0 in
    let high : nat_le b 126 ≡ true = range.1 in
    ((grind (arith, nat_tests), grind (arith, nat_tests)), graphic_by bs parts.1)

pub sound_at : (words : List (List ℕ)) (place : ℕ) → EachSound words → place < length words → (1 ≤ length (word_at words place)) × Graphic (word_at words place)
sound_at [] place h low = absurd (omega (arith, low))
sound_at (word ∷ words) zero h low = h.0
sound_at (word ∷ words) (suc place) h low = sound_at words place h.1 (omega (arith, low))

-- A property of each word written for a line.
abbrev pub EachWord : (List ℕ → Type 0) → List (List ℕ) → Type 0
EachWord Q [] = Unit {0}
EachWord Q (word ∷ words) = Q word × EachWord Q words

abbrev pub EachLine : (List ℕ → Type 0) → List (List (List ℕ)) → Type 0
EachLine Q [] = Unit {0}
EachLine Q (words ∷ lines) = EachWord Q words × EachLine Q lines

-- the words that expansions generate
abbrev pub is_plain : List ℕ → Bool
is_plain word = nat_le 1 (length word) && list_all (λ b. nat_le 33 b && nat_le b 126) word && not (is_kept word)

module _ (Q : List ℕ → Type 0) (m : ℕ) (words : List (List ℕ)) (plain : (word : List ℕ) → is_plain word ≡ true → Q word) (weak : Q (weak_name m))
    (letter : (c : ℕ) → (nat_le 33 c && nat_le c 126) ≡ true → Q (codes "wv_" ++ c ∷ 95 ∷ decimal m)) where
  pub each_written : (form : Form) → ((place : ℕ) → place < word_count form → Q (word_at words place)) → EachLine Q (form_lines form m words)
  each_written MakeMap at = (
    (at 0 (omega arith), (plain (codes "=") refl, (plain (codes "dict") refl, tt))),
    tt,
  )
  each_written Set at = (
    (weak, (plain (codes "=") refl, (plain (codes "ref") refl, (at 3 (omega arith), tt)))),
    (
      (plain (codes "put") refl, (at 1 (omega arith), (at 2 (omega arith), (weak, tt)))),
      (
        (plain (codes "del") refl, (weak, tt)),
        tt,
      ),
    ),
  )
  each_written Get at = (
    (at 0 (omega arith), (plain (codes "=") refl, (plain (codes "none") refl, tt))),
    (
      (at 0 (omega arith), (plain (codes "=") refl, (plain (codes "get") refl, (at 3 (omega arith), (at 4 (omega arith), tt))))),
      (
        (at 0 (omega arith), (plain (codes "=") refl, (plain (codes "deref") refl, (at 0 (omega arith), tt)))),
        tt,
      ),
    ),
  )
  each_written Remove at = (
    (plain (codes "drop") refl, (at 1 (omega arith), (at 2 (omega arith), tt))),
    tt,
  )
  each_written Finalize at = (
    (plain (codes "def") refl, (letter 112 refl, tt)),
    (
      (letter 111 refl, (plain (codes "=") refl, (plain (codes "deref") refl, (letter 119 refl, tt)))),
      (
        (plain (codes "quit") refl, (letter 111 refl, tt)),
        (
          (plain (codes "del") refl, (letter 119 refl, tt)),
          (
            (plain (codes "del") refl, (letter 111 refl, tt)),
            (
              (plain (codes "call") refl, (letter 102 refl, tt)),
              (
                (plain (codes "end") refl, tt),
                (
                  (letter 103 refl, (plain (codes "=") refl, (plain (codes "func") refl, (letter 112 refl, tt)))),
                  (
                    (letter 102 refl, (plain (codes "=") refl, (at 2 (omega arith), tt))),
                    (
                      (letter 119 refl, (plain (codes "=") refl, (plain (codes "ref") refl, (at 1 (omega arith), (letter 102 refl, tt))))),
                      tt,
                    ),
                  ),
                ),
              ),
            ),
          ),
        ),
      ),
    ),
  )

  pub call_written : EachWord Q (codes "call" ∷ exit_name m ∷ [])
  call_written = (plain (codes "call") refl, (letter 103 refl, tt))

abbrev pub IsSound : List ℕ → Type 0
IsSound word = (1 ≤ length word) × Graphic word

pub plain_parts : (word : List ℕ) → is_plain word ≡ true → (nat_le 1 (length word) ≡ true) × (list_all (λ b. nat_le 33 b && nat_le b 126) word ≡ true) × (is_kept word ≡ false)
plain_parts word e = go (nat_le 1 (length word)) (list_all (λ b. nat_le 33 b && nat_le b 126) word) (is_kept word) e
  where
    go : (a b c : Bool) → (a && b && not c) ≡ true → (a ≡ true) × (b ≡ true) × (c ≡ false)
    go true true false h = (refl, refl, refl)
    go bit b c h = absurd (cc)

pub plain_sound : (word : List ℕ) → is_plain word ≡ true → IsSound word
plain_sound word e = let p = plain_parts word e in let some : nat_le 1 (length word) ≡ true = p.0 in (grind (arith, nat_tests), graphic_by word p.1)

letter_sound : (m : ℕ) → m ≤ 400000 → (c : ℕ) → (nat_le 33 c && nat_le c 126) ≡ true → IsSound (codes "wv_" ++ c ∷ 95 ∷ decimal m)
letter_sound m low c e = (
  omega arith,
  graphic_by (codes "wv_" ++ c ∷ 95 ∷ decimal m)
      (ap (λ b. b && list_all (λ b. nat_le 33 b && nat_le b 126) (95 ∷ decimal m)) e ∙ digits_graphic (decimal m) (number_digits m low)),
)

weak_is_sound : (m : ℕ) → m ≤ 400000 → IsSound (weak_name m)
weak_is_sound m low = (omega arith, graphic_by (weak_name m) (digits_graphic (decimal m) (number_digits m low)))

pub sound_lines : (m : ℕ) → m ≤ 400000 → (words : List (List ℕ)) (form : Form) → ((place : ℕ) → place < word_count form → IsSound (word_at words place)) → EachLine IsSound (form_lines form m words)
sound_lines m low words form at = each_written IsSound m words plain_sound (weak_is_sound m low) (letter_sound m low) form at

pub sound_call : (m : ℕ) → m ≤ 400000 → EachWord IsSound (codes "call" ∷ exit_name m ∷ [])
sound_call m low = call_written IsSound m [] plain_sound (weak_is_sound m low) (letter_sound m low)

pub each_sound : (words : List (List ℕ)) → EachWord IsSound words → EachSound words
each_sound [] h = tt
each_sound (word ∷ words) h = (h.0, each_sound words h.1)
