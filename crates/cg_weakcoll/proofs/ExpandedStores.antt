-- Where the lines of a `wget` and a `wset` are in an expansion; and the generated name of a `wset` is a variable.
use Rattle.std.proofs.Common.{◌≡◌, ℕ, ◌+◌, ◌≤◌, List, [], ◌∷◌, ◌++◌, length, true, false, not, ◌&&◌, refl, ap, arith, nat_le, codes}
use Rattle.std.specs.Prelude.{decimal, slice_index}
use Rattle.std.specs.List.{list_all}
use Rattle.std.proofs.lemmas.Bool.Decides.{nat_tests}
use Rattle.std.proofs.lemmas.Fmt.{length-decimal-le}
use Rattle.cg_script.specs.Pieces.{lines_of, words_of, word_at}
use Rattle.cg_script.specs.Words.{atoms, begins_name, is_digit, is_identifier, is_name_byte, is_reserved, is_value, is_variable}
use Rattle.cg_script.specs.Forms.{bindings, openers}
use Rattle.cg_script.specs.Canonical.{joined}
use Rattle.cg_script.proofs.Ascii.{both}
use Rattle.cg_graph.proofs.Members.{or_right}
use Rattle.cg_script.proofs.JoinedWords.{and_both, words_of-joined}
use Rattle.cg_weakcoll.specs.declared.form.Form.TheVariants.{Get, Set}
use Rattle.cg_weakcoll.specs.Expansion.{is_value_beside, expansion, final_lines, weak_name, written_from}
use Rattle.cg_weakcoll.specs.MapLines.{ExpandedLooksAreCommands, ExpandedStoresAreCommands, HasLines}
use Rattle.cg_weakcoll.proofs.StoreLines.{look_lines, store_lines}
use Rattle.cg_weakcoll.proofs.SoundWords.{EachLine, IsSound, each_sound, number_digits}
use Rattle.cg_weakcoll.proofs.ExpandedLines.{first_of_three, form_written}

name_bytes : (ds : List ℕ) → list_all is_digit ds ≡ true → list_all is_name_byte ds ≡ true
name_bytes [] e = refl
name_bytes (d ∷ ds) e = let p = both (is_digit d) (list_all is_digit ds) e in and_both (is_name_byte d) (list_all is_name_byte ds) (or_right (begins_name d) (is_digit d) p.0) (name_bytes ds p.1)

not_reserved : (ds : List ℕ) → is_reserved (codes "wv_" ++ ds) ≡ false
unfolding atoms openers bindings
not_reserved ds = refl

pub weak_variable : (l : ℕ) → l ≤ 400000 → is_variable (weak_name l) ≡ true
weak_variable l low =
    let digits = number_digits l low in
    let short : length (decimal l) ≤ 6 = length-decimal-le 6 l (omega arith) (omega (arith, low)) (omega (arith, low)) in
    let bytes : list_all is_name_byte (weak_name l) ≡ true = name_bytes (decimal l) digits in
    let some : nat_le 1 (length (weak_name l)) ≡ true = grind (arith, nat_tests) in
    let few : nat_le (length (weak_name l)) 32 ≡ true = grind (arith, nat_tests, short) in
    and_both (is_identifier (weak_name l)) (not (is_reserved (weak_name l)))
    (and_both (nat_le 1 (length (weak_name l)) && nat_le (length (weak_name l)) 32 && begins_name (slice_index (weak_name l) 0)) (list_all is_name_byte (weak_name l))
    (and_both (nat_le 1 (length (weak_name l)) && nat_le (length (weak_name l)) 32) (begins_name (slice_index (weak_name l) 0))
    (and_both (nat_le 1 (length (weak_name l))) (nat_le (length (weak_name l)) 32) some few) refl) bytes)
    (ap not (not_reserved (decimal l)))

three_lines : (bytes : List ℕ) (first second third : List (List ℕ)) (front back : List (List ℕ)) → EachLine IsSound (first ∷ second ∷ third ∷ [])
    → lines_of bytes ≡ front ++ joined first ∷ joined second ∷ joined third ∷ back → HasLines bytes first second third
three_lines bytes first second third front back sound all = record {
  front = front;
  one = joined first;
  two = joined second;
  three = joined third;
  back = back;
  all = all;
  first_is = words_of-joined first (each_sound first sound.0);
  second_is = words_of-joined second (each_sound second sound.1.0);
  third_is = words_of-joined third (each_sound third sound.1.1.0);
}

pub expanded_looks : ExpandedLooksAreCommands
expanded_looks bytes fine texts items e front line back all is =
    let w = form_written bytes fine front line back all Get is in
    let at = λ (place : ℕ). word_at (words_of line) place in
    look_lines (expansion bytes) texts items e (at 0) (at 3) (at 4) (first_of_three (is_variable (at 0)) (is_value_beside (at 0) (at 3)) (is_value_beside (at 0) (at 4)) w.fits.fit)
    (three_lines (expansion bytes) _ _ _ (written_from 1 front) (written_from (1 + length front + 1) back ++ final_lines (lines_of bytes)) w.sound w.lines_are)

pub expanded_stores : ExpandedStoresAreCommands
expanded_stores bytes fine texts items e front line back all is =
    let w = form_written bytes fine front line back all Set is in
    let at = λ (place : ℕ). word_at (words_of line) place in
    store_lines (expansion bytes) texts items e (weak_name (1 + length front)) (at 1) (at 2) (at 3) (weak_variable (1 + length front) w.fits.low)
    (first_of_three (is_value (at 1)) (is_value (at 2)) (is_value (at 3)) w.fits.fit)
    (three_lines (expansion bytes) _ _ _ (written_from 1 front) (written_from (1 + length front + 1) back ++ final_lines (lines_of bytes)) w.sound w.lines_are)
