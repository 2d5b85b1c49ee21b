use Rattle.std.proofs.Common.{◌≡◌, List, ℕ, ◌+◌, ◌-◌, subst, arith}
use Rattle.cg_graph.specs.Member.{Includes}
use Rattle.cg_trial.specs.View.{view_of}
use Rattle.cg_trial.specs.Sift.{Woken}
use Rattle.cg_trial.proofs.Entries.{live_same, length_same, next_live}
use Rattle.cg_trial.proofs.Backward.{WakingBack, waking_back-first, waking_back-more, waking_back-behind, waking_back-over, blocks_within, blocks_enough}
use Rattle.cg_trial.proofs.subtraction.take_back_behind.Goals as goal

pub entries-init : goal.entries-init
entries-init g c = record {
  waking = waking_back-first c.args.search c.args.object (view_of c.args.heap.now) _ _ (blocks_within _ _ c.len_near.ensures) (blocks_enough _ _ c.len_near.ensures);
  left = c.requires.left;
  some = omega arith;
}

pub note_near-noted-requires-clause-live : goal.note_near-noted-requires-clause-live
note_near-noted-requires-clause-live g c = live_same (view_of c.args.heap.now) (view_of c.entries.heap) c.args.object c.entries.invariant.waking.woken.same c.requires.live

pub note_near-noted-requires-clause-within : goal.note_near-noted-requires-clause-within
note_near-noted-requires-clause-within g c =
    omega (arith, c.entries.invariant.waking.within, length_same (view_of c.args.heap.now) (view_of c.entries.heap) c.args.object c.entries.invariant.waking.woken.same)

pub take_back_each_from_last-requires-clause-left : goal.take_back_each_from_last-requires-clause-left
take_back_each_from_last-requires-clause-left g c = c.entries.invariant.left

pub take_back_each_from_last-requires-clause-live : goal.take_back_each_from_last-requires-clause-live
take_back_each_from_last-requires-clause-live g c = λ p h.
    next_live c.args.search.members (view_of c.args.heap.now) (view_of c.entries.heap) c.args.object _ c.requires.ready c.requires.live c.entries.invariant.waking.woken.same p
    (subst (λ (xs : List ℕ). Includes xs p) c.note_near-noted.ensures.references h)

pub entries-preserved : goal.entries-preserved
entries-preserved g c =
    let one_more : c.entries.blocks ≡ c.entries.blocks - 1 + 1 = omega (arith, c.if-blocks-gt1.true) in
    record {
      waking = waking_back-more c.args.search c.args.object (view_of c.args.heap.now) (view_of c.entries.heap) (view_of c.take_back_each_from_last.new.heap) (c.entries.blocks - 1) _ _ _
          (subst (λ n. WakingBack c.args.search c.args.object (view_of c.args.heap.now) (view_of c.entries.heap) n c.args.steps.now c.entries.steps) one_more c.entries.invariant.waking)
          c.note_near-noted.ensures.steps
          (subst (λ (xs : List ℕ). Woken c.args.search xs (view_of c.entries.heap) (view_of c.take_back_each_from_last.new.heap)) c.note_near-noted.ensures.references c.take_back_each_from_last.ensures.woken);
      left = c.take_back_each_from_last.ensures.left;
      some = omega (arith, c.if-blocks-gt1.true);
    }

pub returns-else-blocks-gt1-clause-woken : goal.returns-else-blocks-gt1-clause-woken
returns-else-blocks-gt1-clause-woken g c =
    waking_back-behind c.args.search c.args.object (view_of c.args.heap.now) (view_of c.entries.heap) c.entries.blocks _ _ (omega (arith, c.if-blocks-gt1.false, c.entries.invariant.some)) c.entries.invariant.waking

pub returns-else-blocks-gt1-clause-looks : goal.returns-else-blocks-gt1-clause-looks
returns-else-blocks-gt1-clause-looks g c = omega (arith, c.entries.invariant.waking.looks, c.entries.invariant.some, c.requires.long)

pub returns-after-entries-clause-woken : goal.returns-after-entries-clause-woken
returns-after-entries-clause-woken g c =
    waking_back-over c.args.search c.args.object (view_of c.args.heap.now) (view_of c.entries.heap) c.entries.blocks _ _ (omega (arith, c.entries.invariant.left, c.entries-test.false)) c.entries.invariant.some c.entries.invariant.waking

pub returns-after-entries-clause-looks : goal.returns-after-entries-clause-looks
returns-after-entries-clause-looks g c = omega (arith, c.entries.invariant.waking.looks, c.entries.invariant.some, c.requires.long)
