use Rattle.std.proofs.Common.{◌≡◌, ap, sym, subst, ◌∙◌, true, false}
use Rattle.cg_graph.specs.Store.{HasCode}
use Rattle.cg_graph.specs.Value.{value_at}
use Rattle.cg_heap.proofs.Calls.{stands, has_node}
use Rattle.cg_heap.proofs.CallsOnSeats.{has_body, has_code, no_other, entries_are}
use Rattle.cg_heap.proofs.heap.Heap.value_if.Goals as goal

pub seat_near-seat-requires : goal.seat_near-seat-requires
seat_near-seat-requires g c = has_node (stands c.self.inside.arena c.self.invariant c.self.view_is) c.args.object c.requires

pub value_of-requires : goal.value_of-requires
value_of-requires g c = has_body (stands c.self.inside.arena c.self.invariant c.self.view_is) c.args.object _ _ c.seat_near-seat.ensures

pub returns-then-not-is_of-clause-other : goal.returns-then-not-is_of-clause-other
returns-then-not-is_of-clause-other g c = λ has. no_other (stands c.self.inside.arena c.self.invariant c.self.view_is) c.args.object _ _ c.seat_near-seat.ensures
    c.args.code (λ e. let both : true ≡ false = sym (c.is_of.ensures.1 e) ∙ c.if-not-is_of.true in absurd (cc)) has

pub returns-clause-kind : goal.returns-clause-kind
returns-clause-kind g c = subst (HasCode c.args.self.now c.args.object) (c.is_of.ensures.0 c.if-not-is_of.false) (has_code (stands c.self.inside.arena c.self.invariant c.self.view_is) c.args.object _
    _ c.seat_near-seat.ensures)

pub returns-clause-value : goal.returns-clause-value
returns-clause-value g c = c.value_of.ensures ∙ ap (λ es. value_at es c.args.key) (entries_are (stands c.self.inside.arena c.self.invariant c.self.view_is) c.args.object _ _ c.seat_near-seat.ensures)
