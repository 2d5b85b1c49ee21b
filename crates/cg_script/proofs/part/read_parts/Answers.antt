use Rattle.std.proofs.Common.{ℕ, List, Bor, ◌+◌, ◌++◌, ◌≤◌, length, true, false, [], drop, refl, sym, ap, ◌∙◌, arith}
use Rattle.cg_script.specs.Forms.{row}
use Rattle.cg_script.specs.Meanings.{fits}
use Rattle.cg_script.specs.Parts.{parts_from}
use Rattle.cg_script.proofs.Places.{texts_of, sort_here, fit_more, fit_not, fit_all, parts_more, texts_more, parts_end, texts_end, room_more}
use Rattle.cg_script.proofs.ReadWords.{read_so, not_read, few_in_row, unfit_words, alike_words, good_words}
use Rattle.cg_script.proofs.part.read_parts.Goals as goal

pub places-init : goal.places-init
places-init c =
    let e = c.requires.empty in
    record {
      fit = refl;
      parts = ap (λ ps. ps ++ parts_from c.args.procs.now c.args.classes.now c.args.names.now c.args.form 0 (texts_of c.args.words.now)) e;
      texts = refl;
      few_texts = omega arith;
    }

pub read_part-requires : goal.read_part-requires
read_part-requires c = omega (arith, c.places.invariant.few_texts, c.requires.room, c.places-test.true, c.if-row-words.false, c.row_for-row.ensures.most, few_in_row c.args.form)

pub returns-in-None-clause-fault : goal.returns-in-None-clause-fault
returns-in-None-clause-fault c =
    let f = c.args.form in
    let ws = c.args.words.now in
    let s = c.sort_in.result in
    let sort = sort_here f c.row_for-row.result.places.now c.places.place s c.row_for-row.ensures.places c.sort_in.ensures in
    let d : Bor (List ℕ) = record { ref_ptr = (0, 0); now = [] } in
    let unfit = not_read (fits s _) _ (sym c.in-None.is ∙ c.in_ok-part.ensures.part) in
    let enough : (row f).fewest ≤ length ws = omega (arith, c.if-words-row.false, c.row_for-row.ensures.fewest) in
    let few : length ws ≤ (row f).most = omega (arith, c.if-row-words.false, c.row_for-row.ensures.most) in
    unfit_words f ws enough few (fit_not f ws c.places.place d c.places-test.true s sort false _ (sym unfit) refl c.places.invariant.fit)

pub places-preserved : goal.places-preserved
places-preserved c =
    let f = c.args.form in
    let ws = c.args.words.now in
    let i = c.places.place in
    let s = c.sort_in.result in
    let sort = sort_here f c.row_for-row.result.places.now i s c.row_for-row.ensures.places c.sort_in.ensures in
    let d : Bor (List ℕ) = record { ref_ptr = (0, 0); now = [] } in
    let read = read_so (fits s _) c.in-Some.part _ (sym c.in-Some.is ∙ c.in_ok-part.ensures.part) in
    let items = c.in_ok-push-in-Some.ensures.items in
    let texts = c.in_ok-part.ensures.texts read.0 in
    record {
      fit = fit_more f ws i d c.places-test.true s sort true _ (sym read.0) refl c.places.invariant.fit;
      parts = ap (λ ps. ps ++ parts_from c.args.procs.now c.args.classes.now c.read_part.new.names f (i + 1) (texts_of (drop (i + 1) ws))) items
          ∙ parts_more f ws i d c.places-test.true s sort c.args.procs.now c.args.classes.now c.places.names c.read_part.new.names texts c.in-Some.part
          c.places.parts.items _ read.1 c.places.invariant.parts;
      texts = texts_more f ws i d c.places-test.true s sort c.args.procs.now c.args.classes.now c.places.names c.read_part.new.names texts _ c.places.invariant.texts;
      few_texts = omega (arith, room_more f ws i d c.places-test.true s sort c.args.procs.now c.args.classes.now c.places.names c.read_part.new.names texts, c.places.invariant.few_texts);
    }

pub returns-then-has_two_alike-clause-fault : goal.returns-then-has_two_alike-clause-fault
returns-then-has_two_alike-clause-fault c =
    let f = c.args.form in
    let ws = c.args.words.now in
    let enough : (row f).fewest ≤ length ws = omega (arith, c.if-words-row.false, c.row_for-row.ensures.fewest) in
    let few : length ws ≤ (row f).most = omega (arith, c.if-row-words.false, c.row_for-row.ensures.most) in
    alike_words f ws enough few (sym c.has_two_alike.ensures ∙ c.if-has_two_alike.true)

pub returns-clause-fault : goal.returns-clause-fault
returns-clause-fault c =
    let f = c.args.form in
    let ws = c.args.words.now in
    let enough : (row f).fewest ≤ length ws = omega (arith, c.if-words-row.false, c.row_for-row.ensures.fewest) in
    let few : length ws ≤ (row f).most = omega (arith, c.if-row-words.false, c.row_for-row.ensures.most) in
    good_words f ws enough few (fit_all f ws c.places.place _ c.places-test.false c.places.invariant.fit) (sym c.has_two_alike.ensures ∙ c.if-has_two_alike.false)

pub returns-clause-parts : goal.returns-clause-parts
returns-clause-parts c = λ e. parts_end c.args.procs.now c.args.classes.now c.places.names c.args.form c.args.words.now c.places.place c.places.parts.items _
    c.places-test.false c.places.invariant.parts

pub returns-clause-texts : goal.returns-clause-texts
returns-clause-texts c = λ e. texts_end c.places.names c.args.form c.args.words.now c.places.place _ c.places-test.false c.places.invariant.texts

pub returns-clause-few_texts : goal.returns-clause-few_texts
returns-clause-few_texts c = λ e. omega (arith, c.places.invariant.few_texts, c.if-row-words.false, c.row_for-row.ensures.most, few_in_row c.args.form)
