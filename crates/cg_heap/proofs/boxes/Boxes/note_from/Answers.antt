use Rattle.std.proofs.Common.{◌≤◌, ◌+◌, length, ap, sym, subst, ◌∙◌}
use Rattle.cg_graph.specs.Value.{references}
use Rattle.cg_kind.specs.Bodies.{Holds, entries_at}
use Rattle.cg_kind.specs.Calls.{next_entries}
use Rattle.cg_heap.proofs.BoxLemmas.{box_bodies}
use Rattle.cg_heap.proofs.boxes.Boxes.note_from.Goals as goal

pub note_from-requires-clause-held : goal.note_from-requires-clause-held
note_from-requires-clause-held g c = subst (λ b. Holds b c.args.seat.body) (sym (box_bodies _ _ _ c.self.invariant c.self.view_is c.args.seat.code c.index_of.ensures.index c.index-kind.ensures))
    c.requires.held

pub note_from-requires-clause-within : goal.note_from-requires-clause-within
note_from-requires-clause-within g c = subst (λ b. c.args.from ≤ length (entries_at b c.args.seat.body)) (sym (box_bodies _ _ _ c.self.invariant c.self.view_is c.args.seat.code c.index_of.ensures.index
    c.index-kind.ensures)) c.requires.within

pub returns-clause-next : goal.returns-clause-next
returns-clause-next g c = c.note_from.ensures.next ∙ ap (λ b. c.args.from + length (next_entries (entries_at b c.args.seat.body) c.args.from)) (box_bodies _ _ _ c.self.invariant c.self.view_is
    c.args.seat.code c.index_of.ensures.index c.index-kind.ensures)

pub returns-clause-references : goal.returns-clause-references
returns-clause-references g c = c.note_from.ensures.references ∙ ap (λ b. references (next_entries (entries_at b c.args.seat.body) c.args.from)) (box_bodies _ _ _ c.self.invariant c.self.view_is
    c.args.seat.code c.index_of.ensures.index c.index-kind.ensures)
