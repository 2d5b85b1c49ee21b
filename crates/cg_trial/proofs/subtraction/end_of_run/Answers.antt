use Rattle.std.proofs.Common.{arith}
use Rattle.cg_trial.proofs.Entries.{run_more}
use Rattle.cg_trial.proofs.subtraction.end_of_run.Goals as goal

pub run-preserved : goal.run-preserved
run-preserved c = record {
  run = run_more c.args.objects.now c.args.from c.run.end _ c.run.invariant.run c.run.invariant.behind c.run-test.true c.if-objects-end.true;
  behind = omega (arith, c.run.invariant.behind);
  within = omega (arith, c.run-test.true);
}
