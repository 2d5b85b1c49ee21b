use Rattle.std.proofs.KnownBytes.{Appends-nil}
use Rattle.cg_interp.proofs.RunLemmas.{may_run}
use Rattle.cg_interp.proofs.RecordingLemmas.{nothing_recorded}
use Rattle.cg_interp.proofs.recorded.open_and_record.Goals as goal

pub record_turns-requires : goal.record_turns-requires
record_turns-requires g c = record {
  may = may_run c.worlds_stay_kept.ensures c.lines_are_printable.ensures.known c.args.script.now c.args.heap c.args.budget c.requires.may c.in-Ok.engine
      c.in-Ok.ensures.stands c.in-Ok.ensures.fit c.in-Ok.ensures.first_budget;
}

pub returns-in_default-clause-memory : goal.returns-in_default-clause-memory
returns-in_default-clause-memory g c = λ _. nothing_recorded c.no_run_is_stuck.ensures c.args.script.now _ _ _ (Appends-nil _)

pub returns-in_default-with_capacity-clause-memory : goal.returns-in_default-with_capacity-clause-memory
returns-in_default-with_capacity-clause-memory g c = λ _. nothing_recorded c.no_run_is_stuck.ensures c.args.script.now _ _ _ (Appends-nil _)
