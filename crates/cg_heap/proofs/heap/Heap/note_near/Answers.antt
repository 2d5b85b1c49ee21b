use Rattle.std.proofs.Common.{◌≤◌, ◌+◌, length, ap, sym, subst, ◌∙◌}
use Rattle.cg_graph.specs.Value.{references}
use Rattle.cg_kind.specs.Calls.{next_entries}
use Rattle.cg_heap.proofs.Calls.{stands, has_node}
use Rattle.cg_heap.proofs.CallsOnSeats.{has_body, entries_are}
use Rattle.cg_heap.proofs.heap.Heap.note_near.Goals as goal

pub seat_near-seat-requires : goal.seat_near-seat-requires
seat_near-seat-requires g c = has_node (stands c.self.inside.arena c.self.invariant c.self.view_is) c.args.object c.requires.live

pub note_from-noted-requires-clause-held : goal.note_from-noted-requires-clause-held
note_from-noted-requires-clause-held g c = has_body (stands c.self.inside.arena c.self.invariant c.self.view_is) c.args.object _ _ c.seat_near-seat.ensures

pub note_from-noted-requires-clause-within : goal.note_from-noted-requires-clause-within
note_from-noted-requires-clause-within g c = subst (λ es. c.args.from ≤ length es) (sym (entries_are (stands c.self.inside.arena c.self.invariant c.self.view_is) c.args.object _ _
    c.seat_near-seat.ensures)) c.requires.within

pub returns-clause-next : goal.returns-clause-next
returns-clause-next g c = c.note_from-noted.ensures.next ∙ ap (λ es. c.args.from + length (next_entries es c.args.from)) (entries_are (stands c.self.inside.arena c.self.invariant c.self.view_is)
    c.args.object _ _ c.seat_near-seat.ensures)

pub returns-clause-references : goal.returns-clause-references
returns-clause-references g c = c.note_from-noted.ensures.references ∙ ap (λ es. references (next_entries es c.args.from)) (entries_are (stands c.self.inside.arena c.self.invariant c.self.view_is)
    c.args.object _ _ c.seat_near-seat.ensures)
