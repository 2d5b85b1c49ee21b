use Rattle.std.proofs.Common.{◌∙◌, arith}
use Rattle.cg_trial.specs.View.{view_of}
use Rattle.cg_trial.proofs.Entries.{one_of}
use Rattle.cg_trial.proofs.EffectsOfCalls.{number_told}
use Rattle.cg_trial.proofs.TakingBack.{awake_next}
use Rattle.cg_trial.proofs.subtraction.first_to_wake.Goals as goal

pub head_of-head-requires : goal.head_of-head-requires
head_of-head-requires g c = c.requires _ (one_of c.args.objects.now c.objects.at c.objects-test.true)

pub objects-preserved : goal.objects-preserved
objects-preserved g c =
    let live = c.requires _ (one_of c.args.objects.now c.objects.at c.objects-test.true) in
    record {
      before = awake_next (view_of c.args.heap.now) c.args.objects.now c.objects.at c.objects-test.true
          (λ z. c.if-head-eq0.false (number_told c.args.heap.now _ _ live c.head_of-head.ensures.number ∙ z)) c.objects.invariant.before;
      within = omega (arith, c.objects-test.true);
    }
