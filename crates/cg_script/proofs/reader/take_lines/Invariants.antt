use Rattle.std.proofs.Common.{◌≡◌, ◌≤◌, length, vec_capacity}
use Rattle.cg_script.specs.declared.limits.TheConstants.{MOST_FOUND}
use Rattle.cg_script.specs.Pieces.{lines_of}
use Rattle.cg_script.specs.Views.{reading_after, IsSmall}
use Rattle.cg_script.proofs.reader.take_lines.Given as goal

-- reading the rest after the draft is reading the whole
abbrev pub invariant-lines : goal.invariant-lines
invariant-lines l = record {
  same : reading_after l.draft l.number (lines_of l.rest) ≡ reading_after l.fn.draft 1 (lines_of l.bytes);
  room : MOST_FOUND ≤ vec_capacity l.words;
  small : IsSmall l.draft l.number;
}

abbrev pub decreases-lines : goal.decreases-lines
decreases-lines l = length l.rest
