use Rattle.std.proofs.Common.{arith}
use Rattle.cg_heap.proofs.Calls.{stands, has_node}
use Rattle.cg_heap.proofs.CallsOnSeats.{has_body, has_number, entry_here, within_here, after_taking}
use Rattle.cg_heap.proofs.heap.Heap.take_near.Goals as goal

pub seat_near-seat-requires : goal.seat_near-seat-requires
seat_near-seat-requires g c = has_node (stands c.self.inside.arena c.self.invariant c.self.view_is) c.args.object c.requires.can.0

pub take-entry-requires-clause-held : goal.take-entry-requires-clause-held
take-entry-requires-clause-held g c = has_body (stands c.self.inside.arena c.self.invariant c.self.view_is) c.args.object _ _ c.seat_near-seat.ensures

pub take-entry-requires-clause-within : goal.take-entry-requires-clause-within
take-entry-requires-clause-within g c = within_here (stands c.self.inside.arena c.self.invariant c.self.view_is) c.args.object _ _ c.seat_near-seat.ensures c.args.i c.requires.within

pub fewer-requires : goal.fewer-requires
fewer-requires g c = has_number (stands c.self.inside.arena c.self.invariant c.self.view_is) c.args.object _ _ c.seat_near-seat.ensures (omega (arith, c.requires.within))

pub invariant_of-self : goal.invariant_of-self
invariant_of-self g c = (after_taking (stands c.self.inside.arena c.self.invariant c.self.view_is) c.args.object _ _ c.seat_near-seat.ensures c.requires.can c.args.i _ c.take-entry.ensures.entry _
    c.take-entry.ensures.rest _ c.fewer.ensures c.requires.few).keeps

pub returns-clause-entry : goal.returns-clause-entry
returns-clause-entry g c = entry_here (stands c.self.inside.arena c.self.invariant c.self.view_is) c.args.object _ _ c.seat_near-seat.ensures c.args.i _ c.take-entry.ensures.entry

pub returns-clause-rest : goal.returns-clause-rest
returns-clause-rest g c = (after_taking (stands c.self.inside.arena c.self.invariant c.self.view_is) c.args.object _ _ c.seat_near-seat.ensures c.requires.can c.args.i _ c.take-entry.ensures.entry _
    c.take-entry.ensures.rest _ c.fewer.ensures c.requires.few).is
