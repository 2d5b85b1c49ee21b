-- The words of a line that is good in itself.
use Rattle.std.proofs.Common.{◌≡◌, ℕ, ◌≤◌, List, length, Bool, true, false, not, ◌||◌, ◌==◌, if◌then◌else◌, Option, Some, None, refl, ap, subst, arith, nat_lt, codes}
use Rattle.std.proofs.lemmas.Bool.Decides.{nat_tests}
use Rattle.std.specs.List.{list_all}
use Rattle.cg_script.specs.declared.form.Form.{Form}
use Rattle.cg_script.specs.Pieces.{words_of, word_at, word_is}
use Rattle.cg_script.specs.Tables.{named}
use Rattle.cg_script.specs.Words.{is_printable}
use Rattle.cg_script.specs.Forms.{row, openers}
use Rattle.cg_script.specs.Meanings.{Meaning, passed, says, bad, all_fit, repeats_finalizer, formed, formed_if, binding_form, worded, is_passed, meaning}

-- the words fit their places, and their number is allowed
pub record Fitting (form : Form) (words : List (List ℕ)) : Type 0 where
  pub fit : all_fit form 0 words ≡ true
  pub enough : (row form).fewest ≤ length words
  pub most : length words ≤ (row form).most
  pub single : repeats_finalizer form words ≡ false

pub not_bad : (b : Bool) (code : ℕ) (rest : Meaning) (form : Form) (words : List (List ℕ)) → says form words ≡ (if b then bad code else rest) → (b ≡ false) × (says form words ≡ rest)
not_bad true code rest form words e = absurd (cc)
not_bad false code rest form words e = (refl, e)

pub not_passed : (b : Bool) (rest : Meaning) (form : Form) (words : List (List ℕ)) → says form words ≡ (if b then passed else rest) → (b ≡ false) × (says form words ≡ rest)
not_passed true rest form words e = absurd (cc)
not_passed false rest form words e = (refl, e)

neither : (a b : Bool) → (not a || b) ≡ false → (a ≡ true) × (b ≡ false)
neither true b e = (refl, e)
neither false b e = absurd (cc)

enough_words : (n fewest most : ℕ) → (nat_lt n fewest || nat_lt most n) ≡ false → fewest ≤ n
enough_words n fewest most e = grind (arith, nat_tests)

few_words : (n fewest most : ℕ) → (nat_lt n fewest || nat_lt most n) ≡ false → n ≤ most
few_words n fewest most e = grind (arith, nat_tests)

fitting_as : (form other : Form) (words others : List (List ℕ)) → says form words ≡ says other others → Fitting other others → Fitting form words
fitting_as form other words others e f =
    let same_form : other ≡ form = cc in
    let same_words : others ≡ words = cc in
    subst (λ ws. Fitting form ws) same_words (subst (λ k. Fitting k others) same_form f)

pub formed_fits : (other : Form) (others : List (List ℕ)) (form : Form) (words : List (List ℕ)) → says form words ≡ formed other others → Fitting form words
formed_fits other others form words e =
    let b = not_bad (nat_lt (length others) (row other).fewest || nat_lt (row other).most (length others)) 3 _ form words e in
    let d = not_bad (not (all_fit other 0 others) || repeats_finalizer other others) 4 _ form words b.1 in
    let e : (all_fit other 0 others ≡ true) × (repeats_finalizer other others ≡ false) = neither _ _ d.0 in
    fitting_as form other words others d.1 (record { fit = e.0; enough = enough_words _ _ _ b.0; most = few_words _ (row other).fewest _ b.0; single = e.1 })

opened_fits : (found : Option Form) (others : List (List ℕ)) (form : Form) (words : List (List ℕ)) → says form words ≡ formed_if found others → Fitting form words
opened_fits None others form words e = absurd (cc)
opened_fits (Some other) others form words e = formed_fits other others form words e

worded_fits : (others : List (List ℕ)) (form : Form) (words : List (List ℕ)) → says form words ≡ worded others → Fitting form words
worded_fits others form words e = by (not (word_is others 1 (codes "="))) e
  where
    by : (b : Bool)
        → says form words ≡ (if b then formed_if (named openers (word_at others 0)) others else if length others == 2 then bad 3 else formed (binding_form others) others)
        → Fitting form words
    by true e = opened_fits (named openers (word_at others 0)) others form words e
    by false e = formed_fits (binding_form others) others form words (not_bad (length others == 2) 3 _ form words e).1

pub says_fits : (number : ℕ) (line : List ℕ) (form : Form) (words : List (List ℕ)) → says form words ≡ meaning number line → Fitting form words
unfolding meaning
says_fits number line form words e =
    let a = not_bad (not (list_all is_printable line)) 1 _ form words e in
    let b = not_bad (nat_lt 1024 (length line) || nat_lt 64 (length (words_of line)) || (number == 400001)) 5 _ form words a.1 in
    worded_fits (words_of line) form words (not_passed (is_passed (words_of line)) _ form words b.1).1

-- the words of a good line are those of its bytes, which are few and printable
pub record OfLine (line : List ℕ) (words : List (List ℕ)) : Type 0 where
  pub words_are : words ≡ words_of line
  pub few_words : length words ≤ 64
  pub printable : list_all is_printable line ≡ true
  pub short : length line ≤ 1024

formed_words : (other : Form) (others : List (List ℕ)) (form : Form) (words : List (List ℕ)) → says form words ≡ formed other others → words ≡ others
formed_words other others form words e =
    let b = not_bad (nat_lt (length others) (row other).fewest || nat_lt (row other).most (length others)) 3 _ form words e in
    let d = not_bad (not (all_fit other 0 others) || repeats_finalizer other others) 4 _ form words b.1 in
    let s : says form words ≡ says other others = d.1 in cc

opened_words : (found : Option Form) (others : List (List ℕ)) (form : Form) (words : List (List ℕ)) → says form words ≡ formed_if found others → words ≡ others
opened_words None others form words e = absurd (cc)
opened_words (Some other) others form words e = formed_words other others form words e

worded_words : (others : List (List ℕ)) (form : Form) (words : List (List ℕ)) → says form words ≡ worded others → words ≡ others
worded_words others form words e = by (not (word_is others 1 (codes "="))) e
  where
    by : (b : Bool)
        → says form words ≡ (if b then formed_if (named openers (word_at others 0)) others else if length others == 2 then bad 3 else formed (binding_form others) others)
        → words ≡ others
    by true e = opened_words (named openers (word_at others 0)) others form words e
    by false e = formed_words (binding_form others) others form words (not_bad (length others == 2) 3 _ form words e).1

is_true : (b : Bool) → not b ≡ false → b ≡ true
is_true true e = refl
is_true false e = absurd (cc)

few_bytes : (n m : ℕ) (many : Bool) → (nat_lt 1024 n || nat_lt 64 m || many) ≡ false → (n ≤ 1024) × (m ≤ 64)
few_bytes n m many e = (grind (arith, nat_tests), grind (arith, nat_tests))

pub says_of_line : (number : ℕ) (line : List ℕ) (form : Form) (words : List (List ℕ)) → says form words ≡ meaning number line → OfLine line words
unfolding meaning
says_of_line number line form words e =
    let a = not_bad (not (list_all is_printable line)) 1 _ form words e in
    let b = not_bad (nat_lt 1024 (length line) || nat_lt 64 (length (words_of line)) || (number == 400001)) 5 _ form words a.1 in
    let same = worded_words (words_of line) form words (not_passed (is_passed (words_of line)) _ form words b.1).1 in
    let few = few_bytes (length line) (length (words_of line)) _ b.0 in
    let few_words = few.1 in
    record { words_are = same; few_words = omega (arith, ap length same); printable = is_true _ a.0; short = few.0 }
