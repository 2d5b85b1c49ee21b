use Rattle.std.proofs.Common.{Bor, ℕ, List, length, map, arith, sym, ap, ◌∙◌, Ok}
use Rattle.cg_script.specs.Parts.{Known}
use Rattle.cg_script.specs.Meanings.{formed}
use Rattle.cg_script.specs.Views.{known_of}
use Rattle.cg_script.proofs.ReadWords.{taken_says}
use Rattle.cg_script.proofs.Lines.{line_passed, line_bad, line_wrong, line_taken, passed_before_last, says_before_last, one_proc_more, one_class_more}
use Rattle.cg_script.proofs.reader.take_line.Goals as goal

pub returns-in-Passed-clause-ok : goal.returns-in-Passed-clause-ok
returns-in-Passed-clause-ok c = line_passed c.args.draft.now c.args.number c.args.line.now c.in-Passed.ensures

pub returns-in-Passed-clause-small : goal.returns-in-Passed-clause-small
returns-in-Passed-clause-small c = record {
  lines = passed_before_last c.args.number c.args.line.now c.in-Passed.ensures c.requires.small.lines;
  texts = omega (arith, c.requires.small.texts);
  procs = omega (arith, c.requires.small.procs);
  classes = omega (arith, c.requires.small.classes);
  items = omega (arith, c.requires.small.items);
}

pub returns-in-Bad-clause-fault : goal.returns-in-Bad-clause-fault
returns-in-Bad-clause-fault c = line_bad c.args.draft.now c.args.number c.args.line.now c.in-Bad.code c.in-Bad.ensures

pub returns-in-Ok-None-clause-ok : goal.returns-in-Ok-None-clause-ok
returns-in-Ok-None-clause-ok c =
    let words = map (λ (w : Bor (List ℕ)). w.now) c.args.words.now in
    let taken = taken_says (known_of c.args.draft.now) c.in-Of.form words (sym c.in-Ok-None.field-0-is ∙ c.in-Ok-None.ensures.fault) in
    line_taken c.args.draft.now c.args.number c.args.line.now c.in-Of.form words c.take_words.new.draft (taken.0 ∙ c.in-Of.ensures) taken.1
    (c.in-Ok-None.ensures.takes (ap Ok c.in-Ok-None.field-0-is))

pub returns-in-Ok-None-clause-small : goal.returns-in-Ok-None-clause-small
returns-in-Ok-None-clause-small c =
    let e = ap Ok c.in-Ok-None.field-0-is in
    let known = (c.in-Ok-None.ensures.takes e).known in
    let words = map (λ (w : Bor (List ℕ)). w.now) c.args.words.now in
    let taken = taken_says (known_of c.args.draft.now) c.in-Of.form words (sym c.in-Ok-None.field-0-is ∙ c.in-Ok-None.ensures.fault) in
    record {
      lines = says_before_last c.args.number c.args.line.now c.in-Of.form words (taken.0 ∙ c.in-Of.ensures) c.requires.small.lines;
      texts = omega (arith, c.in-Ok-None.ensures.few_names e, c.requires.small.texts);
      procs = omega (arith, ap length (ap (λ (k : Known). k.procs) known), one_proc_more c.args.draft.now.procs c.in-Of.form words, c.requires.small.procs);
      classes = omega (arith, ap length (ap (λ (k : Known). k.classes) known), one_class_more c.args.draft.now.classes c.in-Of.form words, c.requires.small.classes);
      items = omega (arith, c.in-Ok-None.ensures.few_items e, c.requires.small.items);
    }

pub returns-in-Ok-Some-clause-fault : goal.returns-in-Ok-Some-clause-fault
returns-in-Ok-Some-clause-fault c = line_wrong c.args.draft.now c.args.number c.args.line.now (formed c.in-Of.form (map (λ (w : Bor (List ℕ)). w.now) c.args.words.now)) c.in-Ok-Some.code
    c.in-Of.ensures (sym c.in-Ok-Some.field-0-is ∙ c.in-Ok-Some.ensures.fault)
