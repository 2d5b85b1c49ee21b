-- The names generated for a `finalize` line: no other word is one of them.
use Rattle.std.proofs.Common.{◌≡◌, ◌≢◌, ℕ, ◌<◌, ◌≤◌, List, [], ◌∷◌, ◌++◌, length, take, drop, Bool, true, false, cond, ◌&&◌, ◌||◌, None, Some, refl, sym, ap, subst, ◌∙◌, inl, inr, arith, codes}
use Rattle.std.specs.Prelude.{decimal, slice_index}
use Rattle.std.specs.List.{list_all}
use Rattle.std.specs.Str.{bytes_eq}
use Rattle.std.proofs.lemmas.Fmt.{decimal_injective}
use Rattle.std.proofs.lemmas.List.{take-append-drop}
use Rattle.std.proofs.lemmas.Slice.Eq.{bytes_eq-Decides}
use Rattle.cg_graph.specs.Member.{Includes}
use Rattle.cg_script.specs.Words.{after_prefix, is_digit}
use Rattle.cg_script.proofs.PrintedParts.{neither}
use Rattle.cg_weakcoll.specs.declared.form.Form.{Form}
use Rattle.cg_script.specs.Pieces.{word_at}
use Rattle.cg_weakcoll.specs.Expansion.{begins_with, exit_name, form_lines, function_name, is_kept, object_name, proc_name, watch_name, weak_name, word_count}
use Rattle.cg_weakcoll.proofs.SoundWords.{EachLine, EachWord, each_written, is_plain, number_digits, plain_parts}
use Rattle.cg_weakcoll.proofs.FreeNames.{AreClear, IsClear}

-- the names of line l
abbrev pub own_names : ℕ → List (List ℕ)
own_names l = proc_name l ∷ object_name l ∷ exit_name l ∷ function_name l ∷ watch_name l ∷ []

-- a text that is none of them
abbrev pub IsElse : ℕ → List ℕ → Type 0
IsElse l text = Includes (own_names l) text → ⊥

-- All have the reserved prefix, and so do `del=` and `legacy=` words with one of them.
own_kept : (l : ℕ) (prefix text : List ℕ) → ((rest : List ℕ) → begins_with (prefix ++ codes "wv_") (prefix ++ (codes "wv_" ++ rest)) ≡ true)
    → Includes (own_names l) text → begins_with (prefix ++ codes "wv_") (prefix ++ text) ≡ true
own_kept l prefix text told (inl e) = subst (λ t. begins_with (prefix ++ codes "wv_") (prefix ++ t) ≡ true) e (told (codes "p_" ++ decimal l))
own_kept l prefix text told (inr (inl e)) = subst (λ t. begins_with (prefix ++ codes "wv_") (prefix ++ t) ≡ true) e (told (codes "o_" ++ decimal l))
own_kept l prefix text told (inr (inr (inl e))) = subst (λ t. begins_with (prefix ++ codes "wv_") (prefix ++ t) ≡ true) e (told (codes "g_" ++ decimal l))
own_kept l prefix text told (inr (inr (inr (inl e)))) = subst (λ t. begins_with (prefix ++ codes "wv_") (prefix ++ t) ≡ true) e (told (codes "f_" ++ decimal l))
own_kept l prefix text told (inr (inr (inr (inr (inl e))))) = subst (λ t. begins_with (prefix ++ codes "wv_") (prefix ++ t) ≡ true) e (told (codes "w_" ++ decimal l))
own_kept l prefix text told (inr (inr (inr (inr (inr none))))) = absurd none

differs : (prefix word : List ℕ) → begins_with prefix word ≡ true → begins_with prefix word ≡ false → ⊥
differs prefix word t f = let no : true ≡ false = sym t ∙ f in cc

-- what follows some bytes
behind_prefix : (prefix word name : List ℕ) → after_prefix prefix word ≡ Some name → word ≡ prefix ++ name
behind_prefix prefix word name e = go (bytes_eq (take (length prefix) word) prefix) refl e
  where
    go : (b : Bool) → bytes_eq (take (length prefix) word) prefix ≡ b → cond b (Some (drop (length prefix) word)) None ≡ Some name → word ≡ prefix ++ name
    go false is h = absurd (cc)
    go true is h =
        let rest : drop (length prefix) word ≡ name = cc in
        sym (take-append-drop (length prefix) word) ∙ ap (λ (t : List ℕ). t ++ drop (length prefix) word)
        ((bytes_eq-Decides (take (length prefix) word) prefix).0 is) ∙ ap (λ (t : List ℕ). prefix ++ t) rest

-- a word that is not reserved
pub clear_word : (l : ℕ) (word : List ℕ) → is_kept word ≡ false → IsClear (IsElse l) word
clear_word l word kept =
    let first = neither (begins_with (codes "wv_") word || begins_with (codes "del=wv_") word) (begins_with (codes "legacy=wv_") word) kept in
    let second = neither (begins_with (codes "wv_") word) (begins_with (codes "del=wv_") word) first.0 in
    record {
      itself = λ own. differs (codes "wv_") word (own_kept l [] word (λ rest. refl) own) second.0;
      finalizer = λ name e own. differs (codes "del=wv_") word (ap (begins_with (codes "del=wv_")) (behind_prefix (codes "del=") word name e)
          ∙ own_kept l (codes "del=") name (λ rest. refl) own) second.1;
      legacy = λ name e own. differs (codes "legacy=wv_") word (ap (begins_with (codes "legacy=wv_")) (behind_prefix (codes "legacy=") word name e)
          ∙ own_kept l (codes "legacy=") name (λ rest. refl) own) first.1;
    }

-- a generated name that is none of them
clear_name : (l : ℕ) (rest : List ℕ) → IsElse l (codes "wv_" ++ rest) → IsClear (IsElse l) (codes "wv_" ++ rest)
clear_name l rest other = record {
  itself = other;
  finalizer = λ name e. absurd (let no : None ≡ Some name = e in cc);
  legacy = λ name e. absurd (let no : None ≡ Some name = e in cc);
}

number_differs : (c : ℕ) (m l : ℕ) → m ≤ 400000 → l ≤ 400000 → m ≢ l → codes "wv_" ++ c ∷ 95 ∷ decimal l ≢ codes "wv_" ++ c ∷ 95 ∷ decimal m
number_differs c m l low low2 apart e =
    let same : decimal l ≡ decimal m = ap (λ (t : List ℕ). drop 5 t) e in
    apart (sym (decimal_injective l m (omega (arith, low2)) (omega (arith, low)) same))

pub other_text : (c m l : ℕ) → m ≤ 400000 → l ≤ 400000 → m ≢ l → IsElse l (codes "wv_" ++ c ∷ 95 ∷ decimal m)
other_text c m l low low2 apart own = go own
  where
    by : (d : ℕ) → codes "wv_" ++ d ∷ 95 ∷ decimal l ≡ codes "wv_" ++ c ∷ 95 ∷ decimal m → ⊥
    by d e =
        let letter : d ≡ c = ap (λ (t : List ℕ). slice_index t 3) e in
        number_differs c m l low low2 apart (subst (λ i. codes "wv_" ++ i ∷ 95 ∷ decimal l ≡ codes "wv_" ++ c ∷ 95 ∷ decimal m) letter e)

    go : Includes (own_names l) (codes "wv_" ++ c ∷ 95 ∷ decimal m) → ⊥
    go (inl e) = by 112 e
    go (inr (inl e)) = by 111 e
    go (inr (inr (inl e))) = by 103 e
    go (inr (inr (inr (inl e)))) = by 102 e
    go (inr (inr (inr (inr (inl e))))) = by 119 e
    go (inr (inr (inr (inr (inr none))))) = none

weak_text : (m l : ℕ) → m ≤ 400000 → IsElse l (weak_name m)
weak_text m l low own = go own
  where
    by : (d : ℕ) → is_digit d ≡ false → codes "wv_" ++ d ∷ 95 ∷ decimal l ≡ weak_name m → ⊥
    by d letter e =
        let same : d ∷ 95 ∷ decimal l ≡ decimal m = ap (λ (t : List ℕ). drop 3 t) e in
        let no : true ≡ false = sym (number_digits m low) ∙ ap (list_all is_digit) (sym same) ∙ ap (λ b. b && list_all is_digit (95 ∷ decimal l)) letter in
        cc

    go : Includes (own_names l) (weak_name m) → ⊥
    go (inl e) = by 112 refl e
    go (inr (inl e)) = by 111 refl e
    go (inr (inr (inl e))) = by 103 refl e
    go (inr (inr (inr (inl e)))) = by 102 refl e
    go (inr (inr (inr (inr (inl e))))) = by 119 refl e
    go (inr (inr (inr (inr (inr none))))) = none

pub plain_clear : (l : ℕ) (word : List ℕ) → is_plain word ≡ true → IsClear (IsElse l) word
plain_clear l word e = let p = plain_parts word e in clear_word l word p.2

-- those of another line are none of these names
pub clear_lines : (m l : ℕ) → m ≤ 400000 → l ≤ 400000 → m ≢ l → (words : List (List ℕ)) (form : Form) → ((place : ℕ) → place < word_count form
    → IsClear (IsElse l) (word_at words place)) → EachLine (IsClear (IsElse l)) (form_lines form m words)
clear_lines m l low low2 apart words form at = each_written (IsClear (IsElse l)) m words (plain_clear l) (clear_name l (decimal m) (weak_text m l low))
    (λ c e. clear_name l (c ∷ 95 ∷ decimal m) (other_text c m l low low2 apart)) form at

pub each_clear : (Free : List ℕ → Type 0) (words : List (List ℕ)) → EachWord (IsClear Free) words → AreClear Free words
each_clear Free [] h = tt
each_clear Free (word ∷ words) h = (h.0, each_clear Free words h.1)

pub own_apart : (c d l : ℕ) → c ≢ d → codes "wv_" ++ c ∷ 95 ∷ decimal l ≢ codes "wv_" ++ d ∷ 95 ∷ decimal l
own_apart c d l apart e = let same : c ≡ d = ap (λ (t : List ℕ). slice_index t 3) e in apart same
