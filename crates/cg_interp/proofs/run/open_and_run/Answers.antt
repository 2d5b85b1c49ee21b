use Rattle.cg_interp.proofs.RunLemmas.{may_run}
use Rattle.cg_interp.proofs.run.open_and_run.Goals as goal

pub run_turns-requires : goal.run_turns-requires
run_turns-requires g c = record {
  may = may_run c.worlds_stay_kept.ensures c.lines_are_printable.ensures.known c.args.script.now c.args.heap c.args.budget c.requires.may c.in-Ok.engine
      c.in-Ok.ensures.stands c.in-Ok.ensures.fit c.in-Ok.ensures.first_budget;
}
