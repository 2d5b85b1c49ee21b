use Rattle.std.proofs.Common.{◌≡◌, ◌-◌, ◌≤◌, length, take, drop, true, vec_capacity}
use Rattle.std.specs.List.{list_all}
use Rattle.cg_script.specs.declared.limits.TheConstants.{MOST_FOUND}
use Rattle.cg_script.specs.Words.{is_printable}
use Rattle.cg_script.proofs.Places.{texts_of}
use Rattle.cg_script.proofs.Split.{AreFirst, plain}
use Rattle.cg_script.proofs.pieces.find_words.Given as goal

-- the bytes so far are printable, the words before the current one are found, and the bytes of the current one may be
-- part of a word
abbrev pub invariant-bytes : goal.invariant-bytes
invariant-bytes l = record {
  room : vec_capacity l.words ≡ vec_capacity l.fn.words;
  started : l.start ≤ l.at;
  within : l.at ≤ length l.bytes;
  printable : list_all is_printable (take l.at l.bytes) ≡ true;
  begun : list_all plain (take (l.at - l.start) (drop l.start l.bytes)) ≡ true;
  few : length l.words.items ≤ MOST_FOUND;
  found : AreFirst (texts_of l.words.items) (take l.start l.bytes);
}

abbrev pub decreases-bytes : goal.decreases-bytes
decreases-bytes l = length l.bytes - l.at
