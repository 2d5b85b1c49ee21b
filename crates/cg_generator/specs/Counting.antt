-- A tally, line by line. (Ours.)
use Rattle.std.specs.Prelude.{◌≡◌, ℕ, ◌+◌, ◌≤◌, ◌==◌, ◌++◌, min, List, Bool, false, codes, if◌then◌else◌}
use Rattle.std.specs.List.{list_any}
use Rattle.cg_script.specs.Pieces.{lines_of}
use Rattle.cg_generator.specs.declared.counts.Tally.{Tally}
use Rattle.cg_generator.specs.Tallies.{begins, collected_in, largest, is_refusal, tally_of_lines}

abbrev pub one_if : Bool → ℕ
one_if test = if test then 1 else 0

-- one more line
abbrev pub with_line : Tally → List ℕ → Tally
with_line t line = record {
  made = t.made + one_if (begins (codes "made ") line);
  freed = t.freed + one_if (begins (codes "free ") line);
  stops = t.stops + one_if (begins (codes "gc stop ") line);
  collected = min (t.collected + min (collected_in line) largest) largest;
  lines = t.lines + 1;
}

-- no count exceeds that of the lines
pub record IsCount (t : Tally) : Type 0 where
  pub made : t.made ≤ t.lines
  pub freed : t.freed ≤ t.lines
  pub stops : t.stops ≤ t.lines

-- What is known of a text: the tally of its finished lines, whether one of them reports a refusal, and the unfinished line.
pub record HasSeen (text : List ℕ) (counts : Tally) (refused : Bool) (line : List ℕ) : Type 0 where
  pub lines : List (List ℕ)
  pub front : List ℕ
  pub whole : text ≡ front ++ line
  pub ended : (later : List ℕ) → lines_of (front ++ later) ≡ lines ++ lines_of later
  pub open_line : list_any (λ b. b == 10) line ≡ false
  pub counted : counts ≡ tally_of_lines lines
  pub refusal : refused ≡ list_any is_refusal lines
