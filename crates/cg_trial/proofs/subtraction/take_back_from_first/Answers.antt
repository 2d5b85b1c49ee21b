use Rattle.std.proofs.Common.{List, ℕ, subst, refl, arith}
use Rattle.cg_graph.specs.Member.{Includes}
use Rattle.cg_trial.specs.View.{view_of}
use Rattle.cg_trial.specs.Sift.{Woken}
use Rattle.cg_trial.proofs.Entries.{live_same, length_same, next_live, few_last}
use Rattle.cg_trial.proofs.TakingBack.{waking_first, waking_more, waking_all, waking_over}
use Rattle.cg_trial.proofs.subtraction.take_back_from_first.Goals as goal

pub entries-init : goal.entries-init
entries-init g c = record { waking = waking_first c.args.search _ _; looks = omega arith; left = c.requires.left; space = refl }

pub note_near-noted-requires-clause-live : goal.note_near-noted-requires-clause-live
note_near-noted-requires-clause-live g c = live_same (view_of c.args.heap.now) (view_of c.entries.heap) c.args.object c.entries.invariant.waking.woken.same c.requires.live

pub note_near-noted-requires-clause-within : goal.note_near-noted-requires-clause-within
note_near-noted-requires-clause-within g c = omega (
  arith,
  c.entries.invariant.waking.within,
  length_same (view_of c.args.heap.now) (view_of c.entries.heap)
      c.args.object c.entries.invariant.waking.woken.same,
)

pub take_back_each-requires-clause-left : goal.take_back_each-requires-clause-left
take_back_each-requires-clause-left g c = c.entries.invariant.left

pub take_back_each-requires-clause-live : goal.take_back_each-requires-clause-live
take_back_each-requires-clause-live g c = λ p h.
    next_live c.args.search.members (view_of c.args.heap.now) (view_of c.entries.heap) c.args.object c.entries.from c.requires.ready c.requires.live c.entries.invariant.waking.woken.same p
    (subst (λ (xs : List ℕ). Includes xs p) c.note_near-noted.ensures.references h)

pub returns-then-noted-from-lt-AT_ONCE-clause-woken : goal.returns-then-noted-from-lt-AT_ONCE-clause-woken
returns-then-noted-from-lt-AT_ONCE-clause-woken g c =
    waking_all c.args.search c.args.object (view_of c.args.heap.now) (view_of c.take_back_each.new.heap) c.note_near-noted.result.next
    (few_last c.args.object (view_of c.args.heap.now) (view_of c.entries.heap) c.entries.from c.note_near-noted.result.next c.entries.invariant.waking.within
    c.entries.invariant.waking.woken.same c.note_near-noted.ensures.next (omega (arith, c.note_near-noted.ensures.next, c.if-noted-from-lt-AT_ONCE.true)))
    (waking_more c.args.search c.args.object (view_of c.args.heap.now) (view_of c.entries.heap) (view_of c.take_back_each.new.heap) c.entries.from
    c.note_near-noted.result.next c.entries.invariant.waking c.note_near-noted.ensures.next
    (subst (λ (xs : List ℕ). Woken c.args.search xs (view_of c.entries.heap) (view_of c.take_back_each.new.heap)) c.note_near-noted.ensures.references c.take_back_each.ensures.woken))

pub returns-then-noted-from-lt-AT_ONCE-clause-looks : goal.returns-then-noted-from-lt-AT_ONCE-clause-looks
returns-then-noted-from-lt-AT_ONCE-clause-looks g c =
    omega (
      arith,
      c.entries.invariant.looks,
      c.note_near-noted.ensures.steps,
      c.note_near-noted.ensures.next,
      few_last c.args.object (view_of c.args.heap.now) (view_of c.entries.heap) c.entries.from c.note_near-noted.result.next c.entries.invariant.waking.within
          c.entries.invariant.waking.woken.same c.note_near-noted.ensures.next (omega (arith, c.note_near-noted.ensures.next, c.if-noted-from-lt-AT_ONCE.true)),
    )

pub entries-smaller : goal.entries-smaller
entries-smaller g c =
    let so = waking_more c.args.search c.args.object (view_of c.args.heap.now) (view_of c.entries.heap) (view_of c.take_back_each.new.heap) c.entries.from
    c.note_near-noted.result.next c.entries.invariant.waking c.note_near-noted.ensures.next
    (subst (λ (xs : List ℕ). Woken c.args.search xs (view_of c.entries.heap) (view_of c.take_back_each.new.heap)) c.note_near-noted.ensures.references c.take_back_each.ensures.woken) in
    omega (arith, so.within, c.if-noted-from-lt-AT_ONCE.false, c.note_near-noted.ensures.next)

pub entries-preserved : goal.entries-preserved
entries-preserved g c = record {
  waking = waking_more c.args.search c.args.object (view_of c.args.heap.now) (view_of c.entries.heap) (view_of c.take_back_each.new.heap) c.entries.from
      c.note_near-noted.result.next c.entries.invariant.waking c.note_near-noted.ensures.next
      (subst (λ (xs : List ℕ). Woken c.args.search xs (view_of c.entries.heap) (view_of c.take_back_each.new.heap)) c.note_near-noted.ensures.references c.take_back_each.ensures.woken);
  looks = omega (arith, c.entries.invariant.looks, c.note_near-noted.ensures.steps, c.note_near-noted.ensures.next);
  left = c.take_back_each.ensures.left;
  space = omega (arith, c.note_near-noted.ensures.room, c.entries.invariant.space);
}

pub returns-clause-woken : goal.returns-clause-woken
returns-clause-woken g c = waking_over c.args.search c.args.object (view_of c.args.heap.now) (view_of c.entries.heap) c.entries.from
    (omega (arith, c.entries.invariant.left, c.entries-test.false)) c.entries.invariant.waking

pub returns-clause-left : goal.returns-clause-left
returns-clause-left g c = c.entries.invariant.left
