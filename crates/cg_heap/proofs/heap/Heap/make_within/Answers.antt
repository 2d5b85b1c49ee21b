use Rattle.std.proofs.Common.{arith}
use Rattle.cg_heap.proofs.Calls.{stands, has_node, root_live, with_other_room, with_rows, as_before, parts_fit, after_make, objects_are, entries_counted, on_err}
use Rattle.cg_heap.proofs.WeakCalls.{rows_below, after_making}
use Rattle.cg_heap.proofs.Saves.{can_save, after_reserve, can_make}
use Rattle.cg_heap.proofs.heap.Heap.make_within.Goals as goal

pub reserve_to_save-requires-clause-has : goal.reserve_to_save-requires-clause-has
reserve_to_save-requires-clause-has g c = has_node (with_rows (with_other_room (stands c.self.inside.arena c.self.invariant c.self.view_is) c.reserve.new.self _ c.in_ok-reserve.ensures.stays)
    c.reserve_row.new.weak.rows c.reserve_row.ensures.rows) 1 (root_live (with_rows (with_other_room (stands c.self.inside.arena c.self.invariant c.self.view_is) c.reserve.new.self _
    c.in_ok-reserve.ensures.stays) c.reserve_row.new.weak.rows c.reserve_row.ensures.rows))

pub reserve_to_save-requires-clause-can : goal.reserve_to_save-requires-clause-can
reserve_to_save-requires-clause-can g c = can_save (with_rows (with_other_room (stands c.self.inside.arena c.self.invariant c.self.view_is) c.reserve.new.self _ c.in_ok-reserve.ensures.stays)
    c.reserve_row.new.weak.rows c.reserve_row.ensures.rows)

pub invariant_of-self-in_err-body : goal.invariant_of-self-in_err-body
invariant_of-self-in_err-body g c = (as_before (after_reserve (with_rows (with_other_room (stands c.self.inside.arena c.self.invariant c.self.view_is) c.reserve.new.self _
    c.in_ok-reserve.ensures.stays) c.reserve_row.new.weak.rows c.reserve_row.ensures.rows) c.in_ok-savable.savable c.reserve_to_save.new.boxes c.in_ok-savable.ensures.ok) _
    c.in_err-body.ensures.err).keeps

pub returns-in_err-body-clause-err : goal.returns-in_err-body-clause-err
returns-in_err-body-clause-err g c = on_err c.from_residual-in_err-body.result (as_before (after_reserve (with_rows (with_other_room (stands c.self.inside.arena c.self.invariant c.self.view_is)
    c.reserve.new.self _ c.in_ok-reserve.ensures.stays) c.reserve_row.new.weak.rows c.reserve_row.ensures.rows) c.in_ok-savable.savable c.reserve_to_save.new.boxes c.in_ok-savable.ensures.ok) _
    c.in_err-body.ensures.err).is

pub add_object-near-requires-clause-room : goal.add_object-near-requires-clause-room
add_object-near-requires-clause-room g c = λ s. parts_fit (after_reserve (with_rows (with_other_room (stands c.self.inside.arena c.self.invariant c.self.view_is) c.reserve.new.self _
    c.in_ok-reserve.ensures.stays) c.reserve_row.new.weak.rows c.reserve_row.ensures.rows) c.in_ok-savable.savable c.reserve_to_save.new.boxes c.in_ok-savable.ensures.ok) c.args.parts.now (omega
    (arith, c.requires.entries)) s

pub add_row-requires-clause-newest : goal.add_row-requires-clause-newest
add_row-requires-clause-newest g c = rows_below (after_reserve (with_rows (with_other_room (stands c.self.inside.arena c.self.invariant c.self.view_is) c.reserve.new.self _
    c.in_ok-reserve.ensures.stays) c.reserve_row.new.weak.rows c.reserve_row.ensures.rows) c.in_ok-savable.savable c.reserve_to_save.new.boxes c.in_ok-savable.ensures.ok)

pub invariant_of-self-2 : goal.invariant_of-self-2
invariant_of-self-2 g c = (after_making (after_reserve (with_rows (with_other_room (stands c.self.inside.arena c.self.invariant c.self.view_is) c.reserve.new.self _ c.in_ok-reserve.ensures.stays)
    c.reserve_row.new.weak.rows c.reserve_row.ensures.rows) c.in_ok-savable.savable c.reserve_to_save.new.boxes c.in_ok-savable.ensures.ok) c.args.code c.args.class c.args.parts.now c.args.referent
    c.requires.referent c.requires.live_referent _ _ _ _ (after_make (after_reserve (with_rows (with_other_room (stands c.self.inside.arena c.self.invariant c.self.view_is) c.reserve.new.self _
    c.in_ok-reserve.ensures.stays) c.reserve_row.new.weak.rows c.reserve_row.ensures.rows) c.in_ok-savable.savable c.reserve_to_save.new.boxes c.in_ok-savable.ensures.ok) (can_make (with_rows
    (with_other_room (stands c.self.inside.arena c.self.invariant c.self.view_is) c.reserve.new.self _ c.in_ok-reserve.ensures.stays) c.reserve_row.new.weak.rows c.reserve_row.ensures.rows)
    c.in_ok-savable.savable c.reserve_to_save.new.boxes c.in_ok-savable.ensures.ok) c.args.code c.args.class c.args.parts.now c.requires.parts c.requires.class c.requires.live c.requires.few (omega (
      arith,
      c.requires.objects,
      objects_are (stands c.self.inside.arena c.self.invariant c.self.view_is),
    )) (omega (
      arith,
      c.requires.entries,
      entries_counted (stands c.self.inside.arena
          c.self.invariant c.self.view_is),
    )) c.in_ok-body.body c.in_ok-body.ensures.vacant _ c.make.new.self c.in_ok-body.ensures.made _ _ c.add_object-near.ensures.1) _ c.add_row.ensures).keeps

pub returns-clause-ok : goal.returns-clause-ok
returns-clause-ok g c = (after_making (after_reserve (with_rows (with_other_room (stands c.self.inside.arena c.self.invariant c.self.view_is) c.reserve.new.self _ c.in_ok-reserve.ensures.stays)
    c.reserve_row.new.weak.rows c.reserve_row.ensures.rows) c.in_ok-savable.savable c.reserve_to_save.new.boxes c.in_ok-savable.ensures.ok) c.args.code c.args.class c.args.parts.now c.args.referent
    c.requires.referent c.requires.live_referent _ _ _ _ (after_make (after_reserve (with_rows (with_other_room (stands c.self.inside.arena c.self.invariant c.self.view_is) c.reserve.new.self _
    c.in_ok-reserve.ensures.stays) c.reserve_row.new.weak.rows c.reserve_row.ensures.rows) c.in_ok-savable.savable c.reserve_to_save.new.boxes c.in_ok-savable.ensures.ok) (can_make (with_rows
    (with_other_room (stands c.self.inside.arena c.self.invariant c.self.view_is) c.reserve.new.self _ c.in_ok-reserve.ensures.stays) c.reserve_row.new.weak.rows c.reserve_row.ensures.rows)
    c.in_ok-savable.savable c.reserve_to_save.new.boxes c.in_ok-savable.ensures.ok) c.args.code c.args.class c.args.parts.now c.requires.parts c.requires.class c.requires.live c.requires.few (omega (
      arith,
      c.requires.objects,
      objects_are (stands c.self.inside.arena c.self.invariant c.self.view_is),
    )) (omega (
      arith,
      c.requires.entries,
      entries_counted (stands c.self.inside.arena
          c.self.invariant c.self.view_is),
    )) c.in_ok-body.body c.in_ok-body.ensures.vacant _ c.make.new.self c.in_ok-body.ensures.made _ _ c.add_object-near.ensures.1) _ c.add_row.ensures).is
