use Rattle.std.proofs.Common.{◌∙◌, ◌-◌, sym}
use Rattle.cg_kinds.proofs.ValueLemmas.{length-sorts, length-numbers, all-references}
use Rattle.cg_kinds.proofs.values.note_between.Goals as goal

pub returns-then-are_references-clause-references : goal.returns-then-are_references-clause-references
returns-then-are_references-clause-references c =
    let sorts = c.args.sorts.now in
    let numbers = c.args.numbers.now in
    c.note_all.ensures.numbers
    ∙ sym (all-references sorts numbers (length-sorts sorts numbers c.requires.words ∙ sym (length-numbers sorts numbers c.requires.words)) c.args.from
    (c.args.next - c.args.from) (c.are_references.ensures c.if-are_references.true))
