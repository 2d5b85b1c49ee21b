use Rattle.std.proofs.Common.{List, ℕ, ◌+◌, refl, sym, subst, arith}
use Rattle.std.proofs.lemmas.List.{take_rest}
use Rattle.cg_graph.specs.Member.{Includes}
use Rattle.cg_trial.specs.View.{view_of}
use Rattle.cg_trial.specs.Sift.{IsFirstZero}
use Rattle.cg_trial.proofs.Entries.{live_same, one_of, rest_of}
use Rattle.cg_trial.proofs.TakingBack.{woken_none, woken_next, woken_rest}
use Rattle.cg_trial.proofs.subtraction.take_back_each.Goals as goal

pub zeros-init : goal.zeros-init
zeros-init g c = record { woken = woken_none c.args.search (view_of c.args.heap.now); within = omega arith; left = c.requires.left }

pub first_to_wake-requires : goal.first_to_wake-requires
first_to_wake-requires g c = λ p h.
    live_same (view_of c.args.heap.now) (view_of c.zeros.heap) p c.zeros.invariant.woken.same
    (c.requires.live p (rest_of c.args.objects.now c.zeros.from p (subst (λ (xs : List ℕ). Includes xs p) (take_rest c.args.objects.now c.zeros.from) h)))

pub wake-requires-clause-live : goal.wake-requires-clause-live
wake-requires-clause-live g c =
    live_same (view_of c.args.heap.now) (view_of c.zeros.heap) _ c.zeros.invariant.woken.same
    (c.requires.live _ (one_of c.args.objects.now (c.zeros.from + c.in-Some.at) (omega (arith, c.in-Some.ensures.first.within))))

pub wake-requires-clause-left : goal.wake-requires-clause-left
wake-requires-clause-left g c = c.zeros.invariant.left

pub zeros-preserved : goal.zeros-preserved
zeros-preserved g c = record {
  woken = woken_next c.args.search c.args.objects.now c.zeros.from c.in-Some.at (view_of c.args.heap.now) (view_of c.zeros.heap) (view_of c.wake.new.heap) c.zeros.invariant.woken
      (subst (λ (xs : List ℕ). IsFirstZero (view_of c.zeros.heap) xs c.in-Some.at) (take_rest c.args.objects.now c.zeros.from) c.in-Some.ensures.first)
      c.wake.ensures.woken;
  within = omega (arith, c.in-Some.ensures.first.within);
  left = c.wake.ensures.left;
}

pub returns-clause-woken : goal.returns-clause-woken
returns-clause-woken g c = woken_rest c.args.search c.args.objects.now c.zeros.from (view_of c.args.heap.now) (view_of c.zeros.heap) c.zeros.invariant.woken
    (λ p h. c.in_default.ensures.none refl p (subst (λ (xs : List ℕ). Includes xs p) (sym (take_rest c.args.objects.now c.zeros.from)) h))

pub returns-clause-left : goal.returns-clause-left
returns-clause-left g c = c.zeros.invariant.left
