use Rattle.std.proofs.Common.{◌≡◌, ◌++◌, ◌∷◌, [], ◌↔◌, None, IsNone, subst}
use Rattle.cg_graph.specs.Value.{without_last}
use Rattle.cg_heap.proofs.Calls.{stands, has_node, as_before}
use Rattle.cg_heap.proofs.CallsOnSeats.{has_body, entries_are, has_number, after_detaching, some_entries}
use Rattle.cg_value.specs.declared.Entry.{Entry}
use Rattle.cg_heap.proofs.heap.Heap.detach.Goals as goal

pub seat_of-seat-requires : goal.seat_of-seat-requires
seat_of-seat-requires g c = has_node (stands c.self.inside.arena c.self.invariant c.self.view_is) c.args.object c.requires.live

pub detach-requires : goal.detach-requires
detach-requires g c = has_body (stands c.self.inside.arena c.self.invariant c.self.view_is) c.args.object _ _ c.seat_of-seat.ensures

pub fewer-requires : goal.fewer-requires
fewer-requires g c = has_number (stands c.self.inside.arena c.self.invariant c.self.view_is) c.args.object _ _ c.seat_of-seat.ensures (some_entries (stands c.self.inside.arena c.self.invariant
    c.self.view_is) c.args.object _ _ c.seat_of-seat.ensures _ c.in-Some.ensures.last)

pub invariant_of-self : goal.invariant_of-self
invariant_of-self g c = (after_detaching (stands c.self.inside.arena c.self.invariant c.self.view_is) c.args.object _ _ c.seat_of-seat.ensures _ c.in-Some.ensures.last _ c.in-Some.ensures.rest _
    c.fewer.ensures c.requires.few).keeps

pub returns-in-Some-clause-rest : goal.returns-in-Some-clause-rest
returns-in-Some-clause-rest g c = (after_detaching (stands c.self.inside.arena c.self.invariant c.self.view_is) c.args.object _ _ c.seat_of-seat.ensures _ c.in-Some.ensures.last _
    c.in-Some.ensures.rest _ c.fewer.ensures c.requires.few).is

pub returns-in-Some-clause-last : goal.returns-in-Some-clause-last
returns-in-Some-clause-last g c = subst (λ es. es ≡ without_last es ++ c.in-Some.entry ∷ []) (entries_are (stands c.self.inside.arena c.self.invariant c.self.view_is) c.args.object _ _
    c.seat_of-seat.ensures) c.in-Some.ensures.last

pub invariant_of-self-in-None : goal.invariant_of-self-in-None
invariant_of-self-in-None g c = (as_before (stands c.self.inside.arena c.self.invariant c.self.view_is) _ c.in-None.ensures.none).keeps

pub returns-in-None-clause-none : goal.returns-in-None-clause-none
returns-in-None-clause-none g c = (as_before (stands c.self.inside.arena c.self.invariant c.self.view_is) _ c.in-None.ensures.none).is

pub returns-in-None-clause-empty : goal.returns-in-None-clause-empty
returns-in-None-clause-empty g c = subst (λ es. IsNone {T = Entry} None ↔ (es ≡ [])) (entries_are (stands c.self.inside.arena c.self.invariant c.self.view_is) c.args.object _ _
    c.seat_of-seat.ensures) c.in-None.ensures.empty
