-- Tallies line by line.
use Rattle.std.proofs.Common.{◌≡◌, ℕ, ◌+◌, ◌-◌, ◌<◌, ◌≤◌, min, Bool, List, [], ◌∷◌, ◌++◌, length, codes, append_assoc, length-append, refl, sym, ap, ◌∙◌, arith}
use Rattle.std.specs.List.{count_by, sum_by}
use Rattle.std.proofs.lemmas.List.Sums.{fold-append}
use Rattle.cg_script.specs.Pieces.{lines_of}
use Rattle.cg_generator.specs.declared.counts.Tally.{Tally}
use Rattle.cg_generator.specs.Tallies.{begins, collected_in, largest, tally_of_lines}
use Rattle.cg_generator.specs.Counting.{one_if, with_line}

count_more : {A : Type 0} (p : A → Bool) (xs : List A) (x : A) → count_by p (xs ++ x ∷ []) ≡ count_by p xs + one_if (p x)
count_more p xs x = fold-append (λ a y. a + one_if (p y)) 0 xs (x ∷ [])

sum_more : {A : Type 0} (f : A → ℕ) (xs : List A) (x : A) → sum_by f (xs ++ x ∷ []) ≡ sum_by f xs + f x
sum_more f xs x = fold-append (λ a y. a + f y) 0 xs (x ∷ [])

pub tally_more : (lines : List (List ℕ)) (line : List ℕ) → tally_of_lines (lines ++ line ∷ []) ≡ with_line (tally_of_lines lines) line
tally_more lines line =
    let collected : min (sum_by collected_in (lines ++ line ∷ [])) largest ≡ min (min (sum_by collected_in lines) largest + min (collected_in line) largest)
    largest = omega (arith, sum_more collected_in lines line) in
    let all : length (lines ++ line ∷ []) ≡ length lines + 1 = length-append lines (line ∷ []) in
    rw (count_more (begins (codes "made ")) lines line, count_more (begins (codes "free ")) lines line, count_more (begins (codes "gc stop ")) lines line, collected, all) refl

-- The lines before the rest of a text were counted.
pub record CountedSoFar (text rest : List ℕ) (counts : Tally) : Type 0 where
  pub done : List (List ℕ)
  pub lines : lines_of text ≡ done ++ lines_of rest
  pub counted : counts ≡ tally_of_lines done
  pub few : length done + length rest ≤ length text

pub counted_more : (text rest line behind : List ℕ) (counts next : Tally) → lines_of rest ≡ line ∷ lines_of behind → length behind < length rest
    → CountedSoFar text rest counts → next ≡ with_line counts line → CountedSoFar text behind next
counted_more text rest line behind counts next cut shorter so_far is = record {
  done = so_far.done ++ line ∷ [];
  lines = so_far.lines ∙ ap (λ l. so_far.done ++ l) cut ∙ sym (append_assoc so_far.done (line ∷ []) (lines_of behind));
  counted = is ∙ ap (λ t. with_line t line) so_far.counted ∙ sym (tally_more so_far.done line);
  few = omega (arith, so_far.few, shorter, length-append so_far.done (line ∷ []));
}
