use Rattle.std.proofs.Common.{◌-◌, ◌∙◌, arith}
use Rattle.cg_trial.specs.View.{view_of}
use Rattle.cg_trial.proofs.Entries.{one_of}
use Rattle.cg_trial.proofs.EffectsOfCalls.{number_told}
use Rattle.cg_trial.proofs.Backward.{none_behind, awake_before}
use Rattle.cg_trial.proofs.subtraction.last_to_wake.Goals as goal

pub objects-init : goal.objects-init
objects-init g c = record { behind = λ o h. none_behind (view_of c.args.heap.now) c.args.objects.now o h; within = omega arith }

pub head_of-head-requires : goal.head_of-head-requires
head_of-head-requires g c = c.requires _ (one_of c.args.objects.now (c.objects.end - 1) (omega (arith, c.objects-test.true, c.objects.invariant.within)))

pub objects-preserved : goal.objects-preserved
objects-preserved g c =
    let live = c.requires _ (one_of c.args.objects.now (c.objects.end - 1) (omega (arith, c.objects-test.true, c.objects.invariant.within))) in
    record {
      behind = awake_before (view_of c.args.heap.now) c.args.objects.now c.objects.end (omega (arith, c.objects-test.true)) c.objects.invariant.within
          (λ z. c.if-head-eq0.false (number_told c.args.heap.now _ _ live c.head_of-head.ensures.number ∙ z)) c.objects.invariant.behind;
      within = omega (arith, c.objects.invariant.within);
    }
