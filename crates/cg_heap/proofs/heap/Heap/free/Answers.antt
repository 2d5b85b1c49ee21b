use Rattle.std.proofs.Common.{◌∙◌, arith}
use Rattle.cg_heap.proofs.Calls.{stands, has_node, count_is}
use Rattle.cg_heap.proofs.CallsOnSeats.{has_body, entries_are, after_free, has_object}
use Rattle.cg_heap.proofs.heap.Heap.free.Goals as goal

pub overflow_sub-self : goal.overflow_sub-self
overflow_sub-self g c = omega (
  arith,
  has_object (stands c.self.inside.arena c.self.invariant c.self.view_is) c.args.object _ _ c.drop_seat-seat.ensures.seat c.requires.unheld c.requires.empty,
)

pub drop_seat-seat-requires-clause-has : goal.drop_seat-seat-requires-clause-has
drop_seat-seat-requires-clause-has g c = has_node (stands c.self.inside.arena c.self.invariant c.self.view_is) c.args.object c.requires.live

pub free-requires-clause-held : goal.free-requires-clause-held
free-requires-clause-held g c = has_body (stands c.self.inside.arena c.self.invariant c.self.view_is) c.args.object _ _ c.drop_seat-seat.ensures.seat

pub free-requires-clause-empty : goal.free-requires-clause-empty
free-requires-clause-empty g c = entries_are (stands c.self.inside.arena c.self.invariant c.self.view_is) c.args.object _ _ c.drop_seat-seat.ensures.seat ∙ c.requires.empty

pub drop_seat-seat-requires-clause-unheld : goal.drop_seat-seat-requires-clause-unheld
drop_seat-seat-requires-clause-unheld g c = count_is (stands c.self.inside.arena c.self.invariant c.self.view_is) c.args.object ∙ c.requires.unheld

pub invariant_of-self : goal.invariant_of-self
invariant_of-self g c = (after_free (stands c.self.inside.arena c.self.invariant c.self.view_is) c.args.object _ _ c.drop_seat-seat.ensures.seat c.requires.unheld c.requires.empty c.requires.no_row _
    c.free.ensures _ _ c.drop_seat-seat.ensures.drops).keeps

pub returns : goal.returns
returns g c = (after_free (stands c.self.inside.arena c.self.invariant c.self.view_is) c.args.object _ _ c.drop_seat-seat.ensures.seat c.requires.unheld c.requires.empty c.requires.no_row _
    c.free.ensures _ _ c.drop_seat-seat.ensures.drops).is
