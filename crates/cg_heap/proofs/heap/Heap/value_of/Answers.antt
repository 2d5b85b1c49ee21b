use Rattle.std.proofs.Common.{ap, ◌∙◌}
use Rattle.cg_graph.specs.Value.{value_at}
use Rattle.cg_heap.proofs.Calls.{stands, has_node}
use Rattle.cg_heap.proofs.CallsOnSeats.{has_body, entries_are}
use Rattle.cg_heap.proofs.heap.Heap.value_of.Goals as goal

pub seat_of-seat-requires : goal.seat_of-seat-requires
seat_of-seat-requires g c = has_node (stands c.self.inside.arena c.self.invariant c.self.view_is) c.args.object c.requires

pub value_of-requires : goal.value_of-requires
value_of-requires g c = has_body (stands c.self.inside.arena c.self.invariant c.self.view_is) c.args.object _ _ c.seat_of-seat.ensures

pub returns : goal.returns
returns g c = c.value_of.ensures ∙ ap (λ es. value_at es c.args.key) (entries_are (stands c.self.inside.arena c.self.invariant c.self.view_is) c.args.object _ _ c.seat_of-seat.ensures)
