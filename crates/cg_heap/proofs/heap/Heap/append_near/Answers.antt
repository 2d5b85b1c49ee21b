use Rattle.std.proofs.Common.{subst, arith}
use Rattle.cg_heap.specs.Boxes.{HasBody}
use Rattle.cg_heap.proofs.Calls.{stands, has_node, count_fits, live_value, as_before}
use Rattle.cg_heap.proofs.CallsOnSeats.{has_body, is_list, after_appending}
use Rattle.cg_heap.proofs.CallerLemmas.{live_of_kind}
use Rattle.cg_heap.proofs.heap.Heap.append_near.Goals as goal

pub seat_near-seat-requires : goal.seat_near-seat-requires
seat_near-seat-requires g c = has_node (stands c.self.inside.arena c.self.invariant c.self.view_is) c.args.list (live_of_kind c.args.self.now c.args.list _ c.requires.list)

pub append-requires : goal.append-requires
append-requires g c = subst (λ k. HasBody c.self.inside.boxes k c.seat_near-seat.result.body) (is_list (stands c.self.inside.arena c.self.invariant c.self.view_is) c.args.list _ _
    c.seat_near-seat.ensures c.requires.list) (has_body (stands c.self.inside.arena c.self.invariant c.self.view_is) c.args.list _ _ c.seat_near-seat.ensures)

pub count_in-requires-clause-live : goal.count_in-requires-clause-live
count_in-requires-clause-live g c = live_value (stands c.self.inside.arena c.self.invariant c.self.view_is) c.args.val c.requires.live

pub count_in-requires-clause-room : goal.count_in-requires-clause-room
count_in-requires-clause-room g c = λ s e. count_fits (stands c.self.inside.arena c.self.invariant c.self.view_is) s

pub invariant_of-self : goal.invariant_of-self
invariant_of-self g c = (after_appending (stands c.self.inside.arena c.self.invariant c.self.view_is) c.args.list _ _ c.seat_near-seat.ensures c.requires.list c.args.val _ _ c.in-Ok.ensures.ok
    c.requires.other c.requires.live (omega (arith, c.if-self-ge-MOST_ENTRIES.false)) _ c.count_in.ensures).keeps

pub returns-in-Ok-clause-ok : goal.returns-in-Ok-clause-ok
returns-in-Ok-clause-ok g c = (after_appending (stands c.self.inside.arena c.self.invariant c.self.view_is) c.args.list _ _ c.seat_near-seat.ensures c.requires.list c.args.val _ _ c.in-Ok.ensures.ok
    c.requires.other c.requires.live (omega (arith, c.if-self-ge-MOST_ENTRIES.false)) _ c.count_in.ensures).is

pub invariant_of-self-in-Err : goal.invariant_of-self-in-Err
invariant_of-self-in-Err g c = (as_before (stands c.self.inside.arena c.self.invariant c.self.view_is) _ c.in-Err.ensures.err).keeps

pub returns-in-Err-clause-err : goal.returns-in-Err-clause-err
returns-in-Err-clause-err g c = (as_before (stands c.self.inside.arena c.self.invariant c.self.view_is) _ c.in-Err.ensures.err).is
