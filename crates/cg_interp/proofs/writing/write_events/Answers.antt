use Rattle.std.proofs.Common.{arith}
use Rattle.std.proofs.lemmas.Result.{err_from_is_err_and}
use Rattle.cg_interp.proofs.LineByLine.{is_one, wrote_part, gathers_next}
use Rattle.cg_interp.proofs.writing.write_events.Goals as goal

pub write_event-requires : goal.write_event-requires
write_event-requires g c = c.requires _ (is_one c.args.events.now c.events.event-index _ c.events-test.true)

pub returns-in_err-write_event-clause-err : goal.returns-in_err-write_event-clause-err
returns-in_err-write_event-clause-err g c =
    let p = err_from_is_err_and c.from_residual.result c.from_residual.ensures.1 in
    rw (p.1) (wrote_part c.args.events.now c.events.event-index _ c.events-test.true c.args.names.now _ _ _ _ _ c.events.invariant.gathered c.in_err-write_event.ensures.err)

pub events-preserved : goal.events-preserved
events-preserved g c = record {
  gathered = gathers_next c.args.events.now c.events.event-index _ c.events-test.true c.args.names.now _ _ _ _ _ c.events.invariant.gathered _ c.in_ok-write_event.ensures.ok;
  later = omega (arith, c.events.invariant.later, c.write_event.ensures.cause.later);
}
