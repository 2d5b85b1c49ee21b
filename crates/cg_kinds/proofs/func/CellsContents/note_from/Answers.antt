use Rattle.std.proofs.Common.{◌∙◌, ◌+◌, ap, map, length}
use Rattle.cg_graph.specs.Value.{item, references}
use Rattle.cg_kind.specs.Calls.{next_entries}
use Rattle.cg_kinds.specs.declared.func.Cell.{Cell}
use Rattle.cg_kinds.proofs.ItemLemmas.{items-of}
use Rattle.cg_kinds.proofs.func.CellsContents.note_from.Goals as goal

pub returns-clause-next : goal.returns-clause-next
returns-clause-next c =
    let cells = c.args.self.now.cells.items in
    c.note_slice.ensures.next
    ∙ ap (λ es. c.args.from + length (next_entries es c.args.from)) (ap (map (λ (x : Cell). item x.0)) c.as_slice.ensures.value ∙ items-of (λ (x : Cell). x.0) cells)

pub returns-clause-references : goal.returns-clause-references
returns-clause-references c =
    let cells = c.args.self.now.cells.items in
    c.note_slice.ensures.references
    ∙ ap (λ es. references (next_entries es c.args.from)) (ap (map (λ (x : Cell). item x.0)) c.as_slice.ensures.value ∙ items-of (λ (x : Cell). x.0) cells)
