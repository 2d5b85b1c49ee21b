use Rattle.std.proofs.Common.{◌≤◌, List, ℕ, sym, subst, arith}
use Rattle.cg_graph.specs.Member.{Includes}
use Rattle.cg_graph.specs.Holdings.{occurrences}
use Rattle.cg_trial.specs.View.{view_of, Lowered}
use Rattle.cg_trial.proofs.Entries.{live_same, length_same, next_live, few_last, lowering_room, lowering_more, lowering_all}
use Rattle.cg_trial.proofs.TakingBack.{few_same}
use Rattle.cg_trial.proofs.subtraction.lower_all.Goals as goal

pub note_near-noted-requires-clause-live : goal.note_near-noted-requires-clause-live
note_near-noted-requires-clause-live g c = live_same (view_of c.args.heap.now) (view_of c.entries.heap) c.args.object c.entries.invariant.lowering.lowered.rest.same c.requires.live

pub note_near-noted-requires-clause-within : goal.note_near-noted-requires-clause-within
note_near-noted-requires-clause-within g c = omega (
  arith,
  c.entries.invariant.lowering.within,
  length_same (view_of c.args.heap.now) (view_of c.entries.heap)
      c.args.object c.entries.invariant.lowering.lowered.rest.same,
)

pub lower_each-requires-clause-live : goal.lower_each-requires-clause-live
lower_each-requires-clause-live g c = λ p h.
    next_live c.args.members (view_of c.args.heap.now) (view_of c.entries.heap) c.args.object c.entries.from c.requires.ready c.requires.live c.entries.invariant.lowering.lowered.rest.same p
    (subst (λ (xs : List ℕ). Includes xs p) c.note_near-noted.ensures.references h)

pub lower_each-requires-clause-room : goal.lower_each-requires-clause-room
lower_each-requires-clause-room g c = λ p h.
    subst (λ (xs : List ℕ). occurrences p xs ≤ (view_of c.entries.heap).number p) (sym c.note_near-noted.ensures.references)
    (lowering_room c.args.members c.args.object (view_of c.args.heap.now) (view_of c.entries.heap) c.entries.from c.entries.invariant.lowering c.requires.room p h)

pub returns-then-noted-from-lt-AT_ONCE-clause-lowered : goal.returns-then-noted-from-lt-AT_ONCE-clause-lowered
returns-then-noted-from-lt-AT_ONCE-clause-lowered g c =
    lowering_all c.args.members c.args.object (view_of c.args.heap.now) (view_of c.lower_each.new.heap) c.note_near-noted.result.next
    (few_last c.args.object (view_of c.args.heap.now) (view_of c.entries.heap) c.entries.from c.note_near-noted.result.next c.entries.invariant.lowering.within
    c.entries.invariant.lowering.lowered.rest.same c.note_near-noted.ensures.next (omega (
      arith,
      c.note_near-noted.ensures.next,
      c.if-noted-from-lt-AT_ONCE.true,
    )))
    (lowering_more c.args.members c.args.object (view_of c.args.heap.now) (view_of c.entries.heap) (view_of c.lower_each.new.heap) c.entries.from c.note_near-noted.result.next
    c.entries.invariant.lowering c.note_near-noted.ensures.next
    (subst (λ (xs : List ℕ). Lowered c.args.members xs (view_of c.entries.heap) (view_of c.lower_each.new.heap)) c.note_near-noted.ensures.references c.lower_each.ensures.lowered))

pub returns-then-noted-from-lt-AT_ONCE-clause-looks : goal.returns-then-noted-from-lt-AT_ONCE-clause-looks
returns-then-noted-from-lt-AT_ONCE-clause-looks g c =
    omega (
      arith,
      c.entries.invariant.looks,
      c.note_near-noted.ensures.steps,
      c.note_near-noted.ensures.next,
      few_last c.args.object (view_of c.args.heap.now) (view_of c.entries.heap) c.entries.from c.note_near-noted.result.next c.entries.invariant.lowering.within
          c.entries.invariant.lowering.lowered.rest.same c.note_near-noted.ensures.next (omega (
            arith,
            c.note_near-noted.ensures.next,
            c.if-noted-from-lt-AT_ONCE.true,
          )),
    )

pub entries-smaller : goal.entries-smaller
entries-smaller g c =
    let so = lowering_more c.args.members c.args.object (view_of c.args.heap.now) (view_of c.entries.heap) (view_of c.lower_each.new.heap) c.entries.from
    c.note_near-noted.result.next c.entries.invariant.lowering c.note_near-noted.ensures.next
    (subst (λ (xs : List ℕ). Lowered c.args.members xs (view_of c.entries.heap) (view_of c.lower_each.new.heap)) c.note_near-noted.ensures.references c.lower_each.ensures.lowered) in
    omega (arith, so.within, c.if-noted-from-lt-AT_ONCE.false, c.note_near-noted.ensures.next)

pub entries-preserved : goal.entries-preserved
entries-preserved g c = record {
  lowering = lowering_more c.args.members c.args.object (view_of c.args.heap.now) (view_of c.entries.heap) (view_of c.lower_each.new.heap) c.entries.from
      c.note_near-noted.result.next c.entries.invariant.lowering c.note_near-noted.ensures.next
      (subst (λ (xs : List ℕ). Lowered c.args.members xs (view_of c.entries.heap) (view_of c.lower_each.new.heap)) c.note_near-noted.ensures.references c.lower_each.ensures.lowered);
  unheld = c.lower_each.ensures.unheld;
  looks = omega (arith, c.entries.invariant.looks, c.note_near-noted.ensures.steps, c.note_near-noted.ensures.next);
  space = omega (arith, c.note_near-noted.ensures.room, c.entries.invariant.space);
}

pub lower_each-requires-clause-few : goal.lower_each-requires-clause-few
lower_each-requires-clause-few g c = few_same c.args.members (view_of c.args.heap.now) (view_of c.entries.heap) c.entries.invariant.lowering.lowered.rest c.requires.few
