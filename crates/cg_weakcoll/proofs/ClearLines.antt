-- The lines written for other lines contain none of the names of a `finalize` line.
use Rattle.std.proofs.Common.{◌≡◌, ◌≢◌, ℕ, zero, suc, ◌+◌, ◌<◌, ◌≤◌, List, [], ◌∷◌, length, map, Bool, true, false, not, cond, ◌&&◌, Option, None, Some, refl, sym, ap, subst, ◌∙◌, arith, codes}
use Rattle.std.specs.Option.{option_or}
use Rattle.std.specs.List.{list_any}
use Rattle.cg_graph.proofs.Members.{either, Includes-append_cases}
use Rattle.cg_script.specs.Canonical.{joined}
use Rattle.cg_script.specs.Meanings.{is_passed}
use Rattle.cg_script.specs.Pieces.{words_of, word_at, word_is}
use Rattle.cg_script.proofs.JoinedWords.{sound_words, words_of-joined}
use Rattle.cg_script.proofs.PrintedParts.{neither}
use Rattle.cg_weakcoll.specs.declared.form.Form.{Form}
use Rattle.cg_weakcoll.specs.Expansion.{fault_by, fault_of, first_bad_from, binding_form, form_fault, form_lines, form_of, inside_after, is_kept, name_fault, opening_form, written, written_by, written_from}
use Rattle.cg_weakcoll.proofs.ExitNames.{IsElse, clear_lines, clear_word, each_clear}
use Rattle.cg_weakcoll.proofs.SoundWords.{EachLine, EachWord, IsSound, each_sound, sound_at, sound_lines}
use Rattle.cg_weakcoll.proofs.ExpandedLines.{fits_of, split_bad}
use Rattle.cg_weakcoll.proofs.FreeNames.{AreClear, IsClear}
use Rattle.cg_weakcoll.proofs.LinesWithoutNames.{AreClearLines}

-- words without a reserved one
clear_words : (l : ℕ) (words : List (List ℕ)) → list_any is_kept words ≡ false → EachWord (IsClear (IsElse l)) words
clear_words l [] kept = tt
clear_words l (word ∷ words) kept = let none = neither (is_kept word) (list_any is_kept words) kept in (clear_word l word none.0, clear_words l words none.1)

pub word_there : (Q : List ℕ → Type 0) (words : List (List ℕ)) (place : ℕ) → EachWord Q words → place < length words → Q (word_at words place)
word_there Q [] place h low = absurd (omega (arith, low))
word_there Q (word ∷ words) zero h low = h.0
word_there Q (word ∷ words) (suc place) h low = word_there Q words place h.1 (omega (arith, low))

none_kept : (words : List (List ℕ)) → is_passed words ≡ false → name_fault words ≡ None → list_any is_kept words ≡ false
none_kept words unpassed e = go (list_any is_kept words) (ap (λ b. cond {A = Option ℕ} (not b && list_any is_kept words) (Some 4) None) (sym unpassed) ∙ e)
  where
    go : (b : Bool) → cond {A = Option ℕ} b (Some 4) None ≡ None → b ≡ false
    go true k = absurd (cc)
    go false k = refl

second_none : (m n : Option ℕ) → option_or m n ≡ None → n ≡ None
second_none None n e = e
second_none (Some k) n e = absurd (cc)

-- a line with a form is not ignored
pub unpassed_form : (words : List (List ℕ)) (form : Form) → form_of words ≡ Some form → is_passed words ≡ false
unpassed_form words form e = go (is_passed words) e
  where
    go : (b : Bool) → cond b None (cond (word_is words 1 (codes "=")) (binding_form (word_at words 2)) (opening_form (word_at words 0))) ≡ Some form → b ≡ false
    go true k = absurd (cc)
    go false k = refl

-- the words of a good line
pub line_words : (l : ℕ) (inside : Bool) (k : ℕ) (line : List ℕ) → fault_of inside k line ≡ None → is_passed (words_of line) ≡ false → EachWord (IsClear (IsElse l)) (words_of line)
line_words l inside k line fine unpassed = clear_words l (words_of line) (none_kept (words_of line) unpassed (go (form_of (words_of line)) fine))
  where
    go : (m : Option Form) → fault_by m inside k line (words_of line) ≡ None → name_fault (words_of line) ≡ None
    go None e = e
    go (Some form) e = second_none (form_fault form inside k line (words_of line)) (name_fault (words_of line)) e

pub joined_clear : (Free : List ℕ → Type 0) (all names : List (List ℕ)) (lines : List (List (List ℕ))) → EachLine IsSound lines → EachLine (IsClear Free) lines
    → AreClearLines all names Free (map joined lines)
joined_clear Free all names [] sound clear line m unpassed = absurd m
joined_clear Free all names (words ∷ lines) sound clear line m unpassed = either m
    (λ e. subst (λ ws. AreClear Free ws) (sym (words_of-joined words (each_sound words sound.0)) ∙ ap words_of e) (each_clear Free words clear.0))
    (λ k. joined_clear Free all names lines sound.1 clear.1 line k unpassed)

module _ (all names : List (List ℕ)) (l : ℕ) (low : l ≤ 400000) where
  written_clear : (inside : Bool) (k : ℕ) (line : List ℕ) → k ≢ l → fault_of inside k line ≡ None → AreClearLines all names (IsElse l) (written k line)
  written_clear inside k line apart fine = go (form_of (words_of line)) refl
    where
      go : (m : Option Form) → form_of (words_of line) ≡ m → AreClearLines all names (IsElse l) (written_by m k line (words_of line))
      go None is = λ other m unpassed. either m
          (λ e. subst (λ ws. AreClear (IsElse l) ws) (ap words_of e) (each_clear (IsElse l) (words_of line) (line_words l inside k line fine (ap is_passed (ap words_of e) ∙ unpassed))))
          (λ none. absurd none)
      go (Some form) is =
          let fits = fits_of form inside k line is fine in
          let count = fits.count in
          let clear = line_words l inside k line fine (unpassed_form (words_of line) form is) in
          joined_clear (IsElse l) all names (form_lines form k (words_of line))
          (sound_lines k fits.low (words_of line) form (λ place h. sound_at (words_of line) place (sound_words line fits.printable) (omega (arith, h, count))))
          (clear_lines k l fits.low low apart (words_of line) form (λ place h. word_there (IsClear (IsElse l)) (words_of line) place clear (omega (arith, h, count))))

  pub clear_from : (lines : List (List ℕ)) (inside : Bool) (k : ℕ) → first_bad_from inside k lines ≡ None → ((m : ℕ) → k ≤ m → m < k + length lines → m ≢ l)
      → AreClearLines all names (IsElse l) (written_from k lines)
  clear_from [] inside k fine apart line m unpassed = absurd m
  clear_from (line ∷ lines) inside k fine apart other m unpassed =
      let f = split_bad k (fault_of inside k line) (first_bad_from (inside_after inside (words_of line)) (k + 1) lines) fine in
      either (Includes-append_cases (written k line) (written_from (k + 1) lines) other m)
      (λ h. written_clear inside k line (apart k (omega arith) (omega arith)) f.0 other h unpassed)
      (λ h. clear_from lines (inside_after inside (words_of line)) (k + 1) f.1 (λ n from to. apart n (omega (arith, from)) (omega (arith, to))) other h unpassed)
