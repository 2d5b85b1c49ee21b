use Rattle.std.proofs.Common.{◌≡◌, ◌+◌, ◌≤◌, ◌++◌, length}
use Rattle.cg_script.specs.Pieces.{lines_of}
use Rattle.cg_weakcoll.specs.Expansion.{with_feeds, written_from, finalize_numbers_from, first_bad_from}
use Rattle.cg_weakcoll.proofs.expander.take_lines.Given as goal

-- what is done so far, then what is to be done for the remaining lines, is what is to be done for all
abbrev pub invariant-lines : goal.invariant-lines
invariant-lines l = record {
  bad : first_bad_from l.draft.inside l.number (lines_of l.rest) ≡ first_bad_from l.fn.draft.inside 1 (lines_of l.bytes);
  text : l.draft.text.items ++ with_feeds (written_from l.number (lines_of l.rest)) ≡ l.fn.draft.text.items ++ with_feeds (written_from 1 (lines_of l.bytes));
  finalizes : l.draft.finalizes.items ++ finalize_numbers_from l.number (lines_of l.rest) ≡ l.fn.draft.finalizes.items ++ finalize_numbers_from 1 (lines_of l.bytes);
  few : l.number + length l.rest ≤ length l.bytes + 1;
}

abbrev pub decreases-lines : goal.decreases-lines
decreases-lines l = length l.rest
