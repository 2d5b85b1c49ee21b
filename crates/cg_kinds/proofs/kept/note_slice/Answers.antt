use Rattle.std.proofs.Common.{◌∙◌, ◌+◌, ◌-◌, ap, sym, arith, drop, take, map}
use Rattle.std.proofs.lemmas.List.{length-map, length-drop, length-take, drop-map, take-map, take_all}
use Rattle.cg_graph.specs.Value.{references}
use Rattle.cg_kind.specs.declared.notes.TheConstants.{AT_ONCE}
use Rattle.cg_kind.proofs.References.{take_again}
use Rattle.cg_kinds.proofs.kept.note_slice.Goals as goal

pub returns-clause-next : goal.returns-clause-next
returns-clause-next g c =
    let parts = map g.T.KeepsEntry.kept c.args.slice.now in
    omega (arith, c.min.ensures, length-map c.args.slice.now g.T.KeepsEntry.kept, length-take AT_ONCE (drop c.args.from parts), length-drop c.args.from parts)

pub returns-clause-references : goal.returns-clause-references
returns-clause-references g c =
    let kept = g.T.KeepsEntry.kept in
    let slice = c.args.slice.now in
    let from = c.args.from in
    let n = from + c.min.result - from in
    let rest = drop from (map kept slice) in
    c.parts.invariant.noted
    ∙ ap references (ap (map kept) (take_all c.parts.part-index (take n (drop from slice)) c.parts-test.false)
    ∙ sym (take-map kept n (drop from slice))
    ∙ ap (take n) (sym (drop-map kept from slice))
    ∙ take_again rest n AT_ONCE (omega (arith, c.requires.within, c.min.ensures, length-map slice kept, length-take AT_ONCE rest, length-drop from (map kept slice))))
