use Rattle.std.proofs.Common.{length, ap, ◌∙◌}
use Rattle.cg_heap.proofs.Calls.{stands, has_node}
use Rattle.cg_heap.proofs.CallsOnSeats.{has_body, entries_are}
use Rattle.cg_heap.proofs.heap.Heap.len.Goals as goal

pub seat_of-seat-requires : goal.seat_of-seat-requires
seat_of-seat-requires g c = has_node (stands c.self.inside.arena c.self.invariant c.self.view_is) c.args.object c.requires

pub len-requires : goal.len-requires
len-requires g c = has_body (stands c.self.inside.arena c.self.invariant c.self.view_is) c.args.object _ _ c.seat_of-seat.ensures

pub returns : goal.returns
returns g c = c.len.ensures ∙ ap length (entries_are (stands c.self.inside.arena c.self.invariant c.self.view_is) c.args.object _ _ c.seat_of-seat.ensures)
