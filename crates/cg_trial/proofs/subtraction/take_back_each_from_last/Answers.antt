use Rattle.std.proofs.Common.{refl, arith}
use Rattle.std.proofs.lemmas.List.{length-take}
use Rattle.cg_trial.specs.View.{view_of}
use Rattle.cg_trial.proofs.Entries.{live_same, one_of}
use Rattle.cg_trial.proofs.Backward.{front_of, woken_before, woken_front}
use Rattle.cg_trial.proofs.subtraction.take_back_each_from_last.Goals as goal

pub last_to_wake-requires : goal.last_to_wake-requires
last_to_wake-requires g c = λ p h.
    live_same (view_of c.args.heap.now) (view_of c.zeros.heap) p c.zeros.invariant.woken.same (c.requires.live p (front_of c.args.objects.now c.zeros.end p h))

pub wake-requires-clause-live : goal.wake-requires-clause-live
wake-requires-clause-live g c =
    live_same (view_of c.args.heap.now) (view_of c.zeros.heap) _ c.zeros.invariant.woken.same
    (c.requires.live _ (one_of c.args.objects.now c.in-Some.at (omega (arith, c.in-Some.ensures.last.within, length-take c.zeros.end c.args.objects.now))))

pub zeros-preserved : goal.zeros-preserved
zeros-preserved g c = record {
  woken = woken_before c.args.search c.args.objects.now c.zeros.end c.in-Some.at (view_of c.args.heap.now) (view_of c.zeros.heap) (view_of c.wake.new.heap)
      c.zeros.invariant.within c.zeros.invariant.woken c.in-Some.ensures.last c.wake.ensures.woken;
  within = omega (arith, c.in-Some.ensures.last.within, length-take c.zeros.end c.args.objects.now);
  left = c.wake.ensures.left;
}

pub returns-clause-woken : goal.returns-clause-woken
returns-clause-woken g c = woken_front c.args.search c.args.objects.now c.zeros.end (view_of c.args.heap.now) (view_of c.zeros.heap) c.zeros.invariant.woken (c.in_default.ensures.none refl)
