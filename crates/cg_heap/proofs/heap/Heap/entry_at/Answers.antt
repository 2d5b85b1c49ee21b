use Rattle.cg_heap.proofs.Calls.{stands, has_node}
use Rattle.cg_heap.proofs.CallsOnSeats.{has_body, entry_here, within_here}
use Rattle.cg_heap.proofs.heap.Heap.entry_at.Goals as goal

pub seat_of-seat-requires : goal.seat_of-seat-requires
seat_of-seat-requires g c = has_node (stands c.self.inside.arena c.self.invariant c.self.view_is) c.args.object c.requires.live

pub entry_at-requires-clause-held : goal.entry_at-requires-clause-held
entry_at-requires-clause-held g c = has_body (stands c.self.inside.arena c.self.invariant c.self.view_is) c.args.object _ _ c.seat_of-seat.ensures

pub entry_at-requires-clause-within : goal.entry_at-requires-clause-within
entry_at-requires-clause-within g c = within_here (stands c.self.inside.arena c.self.invariant c.self.view_is) c.args.object _ _ c.seat_of-seat.ensures c.args.i c.requires.within

pub returns : goal.returns
returns g c = entry_here (stands c.self.inside.arena c.self.invariant c.self.view_is) c.args.object _ _ c.seat_of-seat.ensures c.args.i _ c.entry_at.ensures
