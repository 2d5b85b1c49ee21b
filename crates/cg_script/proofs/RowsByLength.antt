-- The row for a word is found among those with the same first byte and length.
use Rattle.std.proofs.Common.{◌≡◌, ℕ, List, [], ◌∷◌, Bool, true, false, cond, ◌&&◌, ◌==◌, ◌<◌, nat_le, length, map, get_or, Some, None, refl, sym, ap, ◌∙◌, arith, eq-eqb}
use Rattle.std.specs.List.{list_all}
use Rattle.std.specs.Str.{bytes_eq}
use Rattle.std.proofs.lemmas.Slice.Eq.{bytes_eq-Decides}
use Rattle.std.proofs.lemmas.Bool.Decides.{nat_tests}
use Rattle.cg_script.proofs.Ascii.{both}
use Rattle.cg_script.specs.declared.form.Form.{Form}
use Rattle.cg_script.specs.Tables.{named}
use Rattle.cg_script.specs.Forms.{word_of, by_words}
use Rattle.cg_script.specs.Words.{atoms}
use Rattle.cg_script.specs.Alike.{is_alike, rows_like, forms_like}

-- words that differ in these are different
unlike_is_other : (w word : List ℕ) → is_alike (get_or w 0 0) (length w) word ≡ false → bytes_eq w word ≡ false
unlike_is_other w word e = by (bytes_eq w word) refl
  where
    by : (b : Bool) → bytes_eq w word ≡ b → b ≡ false
    by false eb = refl
    by true eb =
        let same : w ≡ word = (bytes_eq-Decides w word).0 eb in
        sym (ap (λ b. b && (length word == length w)) (eq-eqb (get_or word 0 0) (get_or w 0 0) (ap (λ u. get_or u 0 0) (sym same))) ∙ eq-eqb (length word) (length w) (ap length (sym same))) ∙ e

-- those rows are enough
pub named_like : {A : Type 0} (w : List ℕ) (rows : List (List ℕ × A)) → named (rows_like (get_or w 0 0) (length w) rows) w ≡ named rows w
named_like w [] = refl
named_like w (row ∷ rows) = by (is_alike (get_or w 0 0) (length w) row.0) refl (named_like w rows)
  where
    by : (b : Bool) → is_alike (get_or w 0 0) (length w) row.0 ≡ b → named (rows_like (get_or w 0 0) (length w) rows) w ≡ named rows w
        → named (cond b (row ∷ rows_like (get_or w 0 0) (length w) rows) (rows_like (get_or w 0 0) (length w) rows)) w ≡ cond (bytes_eq w row.0) (Some row.1) (named rows w)
    by true e later = ap (λ m. cond (bytes_eq w row.0) (Some row.1) m) later
    by false e later = later ∙ sym (ap (λ b. cond b (Some row.1) (named rows w)) (unlike_is_other w row.0 e))

-- for forms too
pub named_forms_like : (w : List ℕ) (these : List Form) → named (by_words (forms_like (get_or w 0 0) (length w) these)) w ≡ named (by_words these) w
named_forms_like w [] = refl
named_forms_like w (f ∷ these) = by (is_alike (get_or w 0 0) (length w) (word_of f)) refl (named_forms_like w these)
  where
    by : (b : Bool) → is_alike (get_or w 0 0) (length w) (word_of f) ≡ b → named (by_words (forms_like (get_or w 0 0) (length w) these)) w ≡ named (by_words these) w
        → named (by_words (cond b (f ∷ forms_like (get_or w 0 0) (length w) these) (forms_like (get_or w 0 0) (length w) these))) w ≡ cond (bytes_eq w (word_of f)) (Some f) (named (by_words these) w)
    by true e later = ap (λ m. cond (bytes_eq w (word_of f)) (Some f) m) later
    by false e later = later ∙ sym (ap (λ b. cond b (Some f) (named (by_words these) w)) (unlike_is_other w (word_of f) e))

-- without rows, no word is found
pub none_alike : {A B : Type 0} (f : A → List ℕ × B) (rows : List A) (w : List ℕ) → length rows ≡ 0 → None ≡ named (map f rows) w
none_alike f [] w e = refl
none_alike f (row ∷ rows) w e = absurd (omega (arith, e))

-- no row has a word this short
no_short_row : {A : Type 0} (rows : List (List ℕ × A)) (w : List ℕ) → length w < 2 → list_all (λ row. nat_le 2 (length row.0)) rows ≡ true → None ≡ named rows w
no_short_row [] w short all = refl
no_short_row (row ∷ rows) w short all = by (bytes_eq w row.0) refl (both (nat_le 2 (length row.0)) (list_all (λ row. nat_le 2 (length row.0)) rows) all) (no_short_row rows w short)
  where
    by : (b : Bool) → bytes_eq w row.0 ≡ b → (nat_le 2 (length row.0) ≡ true) × (list_all (λ row. nat_le 2 (length row.0)) rows ≡ true)
        → (list_all (λ row. nat_le 2 (length row.0)) rows ≡ true → None ≡ named rows w)
        → None ≡ cond b (Some row.1) (named rows w)
    by true e p later = let long = p.0 in let same : length w ≡ length row.0 = ap length ((bytes_eq-Decides w row.0).0 e) in absurd (grind (arith, nat_tests))
    by false e p later = later p.1

-- no value has a keyword this short
pub short_no_atom : (w : List ℕ) → length w < 2 → None ≡ named atoms w
unfolding atoms
short_no_atom w short = no_short_row atoms w short refl
