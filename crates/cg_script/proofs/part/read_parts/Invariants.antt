use Rattle.std.proofs.Common.{◌≡◌, ◌≤◌, ◌+◌, ◌++◌, drop, length}
use Rattle.cg_script.specs.Meanings.{all_fit}
use Rattle.cg_script.specs.Parts.{parts_from, texts_from}
use Rattle.cg_script.proofs.Places.{texts_of}
use Rattle.cg_script.proofs.part.read_parts.Given as goal

-- the parts and texts so far, and those of the remaining words
abbrev pub invariant-places : goal.invariant-places
invariant-places l = record {
  fit : all_fit l.fn.form l.place (texts_of (drop l.place l.words)) ≡ all_fit l.fn.form 0 (texts_of l.words);
  parts : l.parts.items ++ parts_from l.procs l.classes l.names l.fn.form l.place (texts_of (drop l.place l.words)) ≡ parts_from l.procs l.classes l.fn.names l.fn.form 0 (texts_of l.words);
  texts : texts_from l.names l.fn.form l.place (texts_of (drop l.place l.words)) ≡ texts_from l.fn.names l.fn.form 0 (texts_of l.words);
  few_texts : length l.names ≤ length l.fn.names + l.place;
}
