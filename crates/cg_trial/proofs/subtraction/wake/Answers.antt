use Rattle.std.proofs.Common.{◌≡◌, inl, refl, sym, subst, arith, List, [], ◌∷◌, ℕ, true, false}
use Rattle.cg_graph.specs.Member.{Includes}
use Rattle.cg_graph.specs.Places.{without_serial}
use Rattle.cg_graph.specs.Store.{list_at}
use Rattle.cg_graph.proofs.Members.{Includes-append_right}
use Rattle.cg_trial.specs.View.{view_of}
use Rattle.cg_trial.proofs.Entries.{live_same}
use Rattle.cg_trial.proofs.Lists.{absent}
use Rattle.cg_trial.proofs.Searches.{search_apart, search_places}
use Rattle.cg_trial.proofs.TakingBack.{woken_there, woken_back, back_fewer, there_fewer}
use Rattle.cg_trial.proofs.subtraction.wake.Goals as goal

pub set_number-requires-clause-live : goal.set_number-requires-clause-live
set_number-requires-clause-live g c = live_same (view_of c.args.heap.now) (view_of c.move_last.new.heap) c.args.object c.move_last.ensures.same c.requires.live

pub set_number-requires-clause-place : goal.set_number-requires-clause-place
set_number-requires-clause-place g c = (
  c.args.search.members,
  c.requires.search.0,
  subst (λ (xs : List ℕ). Includes xs c.args.object) (sym c.move_last.ensures.last)
      (Includes-append_right (without_serial c.args.object (list_at c.args.heap.now c.args.search.members)) (c.args.object ∷ []) c.args.object (inl refl)),
)

pub overflow_sub-left : goal.overflow_sub-left
overflow_sub-left g c = omega (
  arith,
  c.requires.left,
  back_fewer c.args.search (search_apart c.args.search c.requires.search) c.args.object (view_of c.args.heap.now) (view_of c.move_last.new.heap) (view_of c.set_number.new.heap) c.requires.zero
      (c.is_set_aside.ensures.once c.if-is_set_aside.true) (c.is_set_aside.ensures.alone c.if-is_set_aside.true) c.move_last.ensures c.set_number.ensures,
)

pub returns-then-is_set_aside : goal.returns-then-is_set_aside
returns-then-is_set_aside g c =
    let once = c.is_set_aside.ensures.once c.if-is_set_aside.true in
    let alone = c.is_set_aside.ensures.alone c.if-is_set_aside.true in
    record {
      woken = woken_back c.args.search (search_apart c.args.search c.requires.search) c.args.object (view_of c.args.heap.now) (view_of c.move_last.new.heap) (view_of c.set_number.new.heap) c.requires.zero once alone c.move_last.ensures c.set_number.ensures;
      left = omega (
        arith,
        c.requires.left,
        back_fewer c.args.search (search_apart c.args.search c.requires.search) c.args.object (view_of c.args.heap.now) (view_of c.move_last.new.heap) (view_of c.set_number.new.heap)
            c.requires.zero once alone c.move_last.ensures c.set_number.ensures,
      );
    }

pub overflow_sub-left-then-is_member : goal.overflow_sub-left-then-is_member
overflow_sub-left-then-is_member g c =
    omega (
      arith,
      c.requires.left,
      there_fewer c.args.search c.args.object (view_of c.args.heap.now) (view_of c.set_number-then-is_member.new.heap) c.requires.zero
          (c.is_member.ensures.is.0 c.if-is_member.true) c.set_number-then-is_member.ensures,
    )

pub returns-then-is_member : goal.returns-then-is_member
returns-then-is_member g c =
    record {
      woken = woken_there c.args.search c.args.object (view_of c.args.heap.now) (view_of c.set_number-then-is_member.new.heap) c.requires.zero
          (absent (list_at c.args.heap.now c.args.search.aside) c.args.object (λ h. let yes : c.is_set_aside.result ≡ true = c.is_set_aside.ensures.is.1 h
          in let no : c.is_set_aside.result ≡ false = c.if-is_set_aside.false in absurd (cc))) c.set_number-then-is_member.ensures;
      left = omega (
        arith,
        c.requires.left,
        there_fewer c.args.search c.args.object (view_of c.args.heap.now) (view_of c.set_number-then-is_member.new.heap) c.requires.zero
            (c.is_member.ensures.is.0 c.if-is_member.true) c.set_number-then-is_member.ensures,
      );
    }

pub move_last-requires-clause-place : goal.move_last-requires-clause-place
move_last-requires-clause-place g c = (search_places c.args.search c.requires.search).0

pub set_number-requires-then-is_member-clause-place : goal.set_number-requires-then-is_member-clause-place
set_number-requires-then-is_member-clause-place g c = (c.args.search.members, c.requires.search.0, c.is_member.ensures.is.0 c.if-is_member.true)
