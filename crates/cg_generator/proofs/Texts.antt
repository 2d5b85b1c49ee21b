-- Texts whose bytes arrive one by one.
use Rattle.std.proofs.Common.{◌≡◌, ℕ, ◌+◌, ◌<◌, ◌==◌, ◌||◌, Bool, true, false, if◌then◌else◌, List, [], ◌∷◌, ◌++◌, length, append_assoc, append-nil, take, drop, take-append-drop, Some, refl, sym, ap, ◌∙◌, arith}
use Rattle.std.specs.List.{list_any}
use Rattle.std.proofs.lemmas.List.Folds.{list_any-append}
use Rattle.cg_io.specs.Causes.{AppendsFront}
use Rattle.cg_script.specs.Pieces.{lines_of, onto}
use Rattle.cg_generator.specs.declared.counts.Tally.{Tally}
use Rattle.cg_generator.specs.Tallies.{tally_of, tally_of_lines, is_refusal, has_refusal}
use Rattle.cg_generator.specs.Counting.{with_line, HasSeen}
use Rattle.cg_generator.proofs.Tallies.{tally_more}

abbrev is_line_feed : ℕ → Bool
is_line_feed b = b == 10

-- a line and its line feed before others
line_ends : (line later : List ℕ) → list_any is_line_feed line ≡ false → lines_of (line ++ 10 ∷ later) ≡ line ∷ lines_of later
line_ends [] later e = refl
line_ends (b ∷ bs) later e = by (b == 10) e (line_ends bs later)
  where
    by : (t : Bool) → (t || list_any is_line_feed bs) ≡ false → (list_any is_line_feed bs ≡ false → lines_of (bs ++ 10 ∷ later) ≡ bs ∷ lines_of later)
        → (if t then [] ∷ lines_of (bs ++ 10 ∷ later) else onto b (lines_of (bs ++ 10 ∷ later))) ≡ (b ∷ bs) ∷ lines_of later
    by true h rest = absurd (cc)
    by false h rest = ap (onto b) (rest h)

-- a last line without one
last_line : (b : ℕ) (bs : List ℕ) → list_any is_line_feed (b ∷ bs) ≡ false → lines_of (b ∷ bs) ≡ (b ∷ bs) ∷ []
last_line b [] e = by (b == 10) e
  where
    by : (t : Bool) → (t || false) ≡ false → (if t then [] ∷ [] else onto b []) ≡ (b ∷ []) ∷ []
    by true h = absurd (cc)
    by false h = refl
last_line b (c ∷ cs) e = by (b == 10) e (last_line c cs)
  where
    by : (t : Bool) → (t || list_any is_line_feed (c ∷ cs)) ≡ false → (list_any is_line_feed (c ∷ cs) ≡ false → lines_of (c ∷ cs) ≡ (c ∷ cs) ∷ [])
        → (if t then [] ∷ lines_of (c ∷ cs) else onto b (lines_of (c ∷ cs))) ≡ (b ∷ c ∷ cs) ∷ []
    by true h rest = absurd (cc)
    by false h rest = ap (onto b) (rest h)

or_false : (a b : Bool) → (a || (b || false)) ≡ (a || b)
or_false true b = refl
or_false false true = refl
or_false false false = refl

-- what one of two tests decides
pub either_first : (first second now : Bool) → first ≡ true → now ≡ first → now ≡ (first || second)
either_first first second now holds is = is ∙ rw holds refl

pub either_second : (first second now : Bool) → first ≡ false → now ≡ second → now ≡ (first || second)
either_second first second now fails is = is ∙ rw fails refl

pub seen_nothing : HasSeen [] (tally_of_lines []) false []
seen_nothing = record { lines = []; front = []; whole = refl; ended = λ later. refl; open_line = refl; counted = refl; refusal = refl }

pub seen_line : (text line after : List ℕ) (counts next : Tally) (refused now : Bool) → next ≡ with_line counts line → now ≡ (refused || is_refusal line)
    → after ≡ [] → HasSeen text counts refused line
    → HasSeen (text ++ 10 ∷ []) next now after
seen_line text line after counts next refused now is tells none s = record {
  lines = s.lines ++ line ∷ [];
  front = s.front ++ (line ++ 10 ∷ []);
  whole = ap (λ l. l ++ 10 ∷ []) s.whole ∙ append_assoc s.front line (10 ∷ []) ∙ sym (append-nil (s.front ++ (line ++ 10 ∷ []))) ∙ ap (λ l. (s.front ++ (line ++ 10 ∷ [])) ++ l) (sym none);
  ended = λ later.
      ap lines_of (append_assoc s.front (line ++ 10 ∷ []) later ∙ ap (λ l. s.front ++ l) (append_assoc line (10 ∷ []) later))
      ∙ s.ended (line ++ 10 ∷ later)
      ∙ ap (λ l. s.lines ++ l) (line_ends line later s.open_line)
      ∙ sym (append_assoc s.lines (line ∷ []) (lines_of later));
  open_line = ap (list_any is_line_feed) none;
  counted = is ∙ ap (λ t. with_line t line) s.counted ∙ sym (tally_more s.lines line);
  refusal = tells ∙ ap (λ r. r || is_refusal line) s.refusal ∙ sym (list_any-append is_refusal s.lines (line ∷ []) ∙ or_false (list_any is_refusal s.lines) (is_refusal line));
}

module _ (text line : List ℕ) (counts : Tally) (refused : Bool) (s : HasSeen text counts refused line) where
  lines_then : lines_of text ≡ s.lines ++ lines_of line
  lines_then = ap lines_of s.whole ∙ s.ended line

  -- the tally, with the unfinished line
  pub seen_tally : (next : Tally) → 0 < length line → next ≡ with_line counts line → next ≡ tally_of text
  seen_tally next some is = by line s.open_line some is lines_then
    where
      by : (l : List ℕ) → list_any is_line_feed l ≡ false → 0 < length l → next ≡ with_line counts l → lines_of text ≡ s.lines ++ lines_of l → next ≡ tally_of text
      by [] o h n e = absurd (omega (arith, h))
      by (b ∷ bs) o h n e =
          n ∙ ap (λ t. with_line t (b ∷ bs)) s.counted ∙ sym (tally_more s.lines (b ∷ bs)) ∙ ap tally_of_lines (ap (λ l. s.lines ++ l) (sym (last_line b bs o)) ∙ sym e)

  -- whether a line reports a refusal
  pub seen_refusal : (refused || is_refusal line) ≡ has_refusal text
  seen_refusal = by line s.open_line lines_then
    where
      by : (l : List ℕ) → list_any is_line_feed l ≡ false → lines_of text ≡ s.lines ++ lines_of l → (refused || is_refusal l) ≡ has_refusal text
      by [] o e = none refused ∙ s.refusal ∙ ap (list_any is_refusal) (sym (append-nil s.lines) ∙ sym e)
        where
          none : (r : Bool) → (r || is_refusal []) ≡ r
          none true = refl
          none false = refl
      by (b ∷ bs) o e =
          ap (λ r. r || is_refusal (b ∷ bs)) s.refusal
          ∙ sym (or_false (list_any is_refusal s.lines) (is_refusal (b ∷ bs)))
          ∙ sym (list_any-append is_refusal s.lines ((b ∷ bs) ∷ []))
          ∙ ap (list_any is_refusal) (ap (λ l. s.lines ++ l) (sym (last_line b bs o)) ∙ sym e)

-- a prefix of some bytes was written
pub wrote_front : (old new bytes : List ℕ) (n : ℕ) → new ≡ old ++ take n bytes → AppendsFront (Some old) (Some new) bytes
wrote_front old new bytes n wrote = record { front = take n bytes; rest = drop n bytes; whole = sym (take-append-drop n bytes); appended = wrote }
