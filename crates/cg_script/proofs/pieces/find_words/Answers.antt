use Rattle.std.proofs.Common.{◌≡◌, ap, sym, ◌∙◌, arith, take, drop, take_all, length, get_or, ◌+◌, ◌-◌, true, subst}
use Rattle.std.specs.List.{list_all}
use Rattle.cg_script.specs.declared.limits.TheConstants.{MOST_FOUND}
use Rattle.cg_script.specs.Words.{is_printable}
use Rattle.cg_script.specs.Pieces.{words_of}
use Rattle.cg_script.proofs.Places.{texts_of}
use Rattle.cg_script.proofs.Split.{AreFirst, plain, plain_printable, first_more, first_last, few_found, place_some, place_none, stops, word_behind, printable_longer, plain_longer, done_behind}
use Rattle.cg_script.proofs.pieces.find_words.Goals as goal

-- a byte of the word
pub bytes-preserved-then-may_stand_in_word : goal.bytes-preserved-then-may_stand_in_word
bytes-preserved-then-may_stand_in_word c =
    let bytes = c.args.bytes.now in
    let at = c.bytes.at in
    let k = c.bytes.invariant in
    let here : plain (get_or bytes at 0) ≡ true = sym c.may_stand_in_word.ensures ∙ c.if-may_stand_in_word.true in
    record {
      room = k.room;
      started = omega (arith, k.started);
      within = omega (arith, c.bytes-test.true);
      printable = printable_longer bytes c.bytes.start at k.started c.bytes-test.true k.printable (plain_printable (get_or bytes at 0) here);
      begun = plain_longer bytes c.bytes.start at k.started c.bytes-test.true k.begun here;
      few = k.few;
      found = k.found;
    }

-- the space after it
pub bytes-preserved : goal.bytes-preserved
bytes-preserved c =
    let bytes = c.args.bytes.now in
    let start = c.bytes.start in
    let at = c.bytes.at in
    let k = c.bytes.invariant in
    let space = c.if-byte-ne32.false in
    let now = texts_of c.push_word.new.words.items in
    let nothing : at + 1 - (at + 1) ≡ 0 = omega arith in
    record {
      room = c.push_word.ensures.room ∙ k.room;
      started = omega arith;
      within = omega (arith, c.bytes-test.true);
      printable = printable_longer bytes start at k.started c.bytes-test.true k.printable (ap is_printable space);
      begun = ap (λ n. list_all plain (take n (drop (at + 1) bytes))) nothing;
      few = few_found c.push_word.new.words.items _ c.push_word.ensures.words;
      found = subst (AreFirst now) (sym (done_behind bytes start at k.started c.bytes-test.true space))
          (first_more (texts_of c.bytes.words.items) now (take start bytes) (take (at - start) (drop start bytes)) k.begun c.push_word.ensures.words k.found);
    }

pub returns-then-byte-ne32-clause-place : goal.returns-then-byte-ne32-clause-place
returns-then-byte-ne32-clause-place c =
    place_some c.bytes.at c.args.bytes.now c.bytes-test.true c.bytes.invariant.printable (stops _ (sym c.may_stand_in_word.ensures ∙ c.if-may_stand_in_word.false) c.if-byte-ne32.true)

pub returns-then-byte-ne32-clause-words : goal.returns-then-byte-ne32-clause-words
returns-then-byte-ne32-clause-words c =
    let k = c.bytes.invariant in
    let bytes = c.args.bytes.now in
    first_last (texts_of c.bytes.words.items) (texts_of c.push_word.new.words.items) (take c.bytes.start bytes) _ k.begun c.push_word.ensures.words k.found
    ∙ ap (λ bs. take MOST_FOUND (words_of bs)) (sym (word_behind bytes c.bytes.start c.bytes.at k.started))

-- all bytes were visited
at_last : (c : goal.After-push_word-2) → take c.bytes.at c.args.bytes.now ≡ c.args.bytes.now
at_last c = take_all c.bytes.at c.args.bytes.now (omega (arith, c.bytes-test.false))

pub returns-clause-place : goal.returns-clause-place
returns-clause-place c = place_none c.args.bytes.now (ap (list_all is_printable) (sym (at_last c)) ∙ c.bytes.invariant.printable)

pub returns-clause-words : goal.returns-clause-words
returns-clause-words c =
    let k = c.bytes.invariant in
    let bytes = c.args.bytes.now in
    let same : length bytes ≡ c.bytes.at = omega (arith, k.within, c.bytes-test.false) in
    let begun = ap (λ n. list_all plain (take (n - c.bytes.start) (drop c.bytes.start bytes))) same ∙ k.begun in
    first_last (texts_of c.bytes.words.items) (texts_of c.push_word-2.new.words.items) (take c.bytes.start bytes) _ begun c.push_word-2.ensures.words k.found
    ∙ ap (λ bs. take MOST_FOUND (words_of bs)) (sym (word_behind bytes c.bytes.start (length bytes) (omega (arith, same, k.started))))
