use Rattle.std.proofs.Common.{◌≡◌, ◌∙◌, sym, ap, Some, false, arith}
use Rattle.cg_interp.specs.declared.run.RunEnd.TheVariants.{Done, Budget, WriteFault}
use Rattle.cg_interp.proofs.RoomStays.{fit_here, fit_then}
use Rattle.cg_interp.proofs.Sizes.{small}
use Rattle.cg_interp.proofs.RecordingLemmas.{turn_may_be_recorded, recorded_start, recorded_on, recorded_falls, recorded_cut, recorded_refused, recorded_to_end, recorded_out, recorded_end_cut}
use Rattle.cg_interp.proofs.recorded.record_turns.Goals as goal

pub turns-init : goal.turns-init
turns-init g c = record { so = recorded_start c.args.script.now _ _ _ c.requires.may.opens; fit = fit_here _; later = omega arith }

pub turn_and_record-requires : goal.turn_and_record-requires
turn_and_record-requires g c = record {
  stands = turn_may_be_recorded c.no_run_is_stuck.ensures _ _ _ _ _ _ c.turns.invariant.so c.requires.may.laws c.turns.invariant.fit.first_budget
      c.requires.may.spelled (c.turns.invariant.fit.fit c.args.script.now c.requires.may.fit);
}

pub turns-smaller : goal.turns-smaller
turns-smaller g c =
    recorded_falls c.no_run_is_stuck.ensures _ _ _ _ _ _ c.turns.invariant.so c.requires.may.laws c.turns.invariant.fit.first_budget _ _ _
    c.turn_and_record.ensures.was_sound.listed c.turn_and_record.ensures.sound.listed
    _ (small _ c.turn_and_record.ensures.sound) (c.in-Ok-Some-Running.field-0-is ∙ ap Some c.in-Ok-Some-Running.field-0-0-is) c.in-Ok-Some-Running.ensures.ok

pub turns-preserved : goal.turns-preserved
turns-preserved g c = record {
  so =
      recorded_on c.no_run_is_stuck.ensures _ _ _ _ _ _ c.turns.invariant.so c.requires.may.laws c.turns.invariant.fit.first_budget _ _ _
      c.turn_and_record.ensures.was_sound.listed c.turn_and_record.ensures.sound.listed
      _ (c.in-Ok-Some-Running.field-0-is ∙ ap Some c.in-Ok-Some-Running.field-0-0-is) c.in-Ok-Some-Running.ensures.ok;
  fit = fit_then _ _ _ c.turns.invariant.fit c.turn_and_record.ensures.fit;
  later = omega (arith, c.turns.invariant.later, c.turn_and_record.ensures.cause.later);
}

pub returns-in-Ok-Some-Ended-clause-done : goal.returns-in-Ok-Some-Ended-clause-done
returns-in-Ok-Some-Ended-clause-done g c = λ done.
    recorded_to_end c.no_run_is_stuck.ensures _ _ _ _ _ _ c.turns.invariant.so c.requires.may.laws c.turns.invariant.fit.first_budget _ _ _
    c.turn_and_record.ensures.was_sound.listed c.turn_and_record.ensures.sound.listed
    _ (c.end_records.ensures.ok (λ fault. let same : Done ≡ WriteFault = sym done ∙ fault in cc)) _ (c.in-Ok-Some-Ended.field-0-is
    ∙ ap Some c.in-Ok-Some-Ended.field-0-0-is) c.in-Ok-Some-Ended.ensures.ok

pub returns-in-Ok-Some-Ended-clause-part : goal.returns-in-Ok-Some-Ended-clause-part
returns-in-Ok-Some-Ended-clause-part g c = λ fault.
    recorded_end_cut c.no_run_is_stuck.ensures _ _ _ _ _ _ c.turns.invariant.so c.requires.may.laws c.turns.invariant.fit.first_budget _ _ _
    c.turn_and_record.ensures.was_sound.listed c.turn_and_record.ensures.sound.listed
    _ _ (c.in-Ok-Some-Ended.field-0-is ∙ ap Some c.in-Ok-Some-Ended.field-0-0-is) (λ n. cc) c.in-Ok-Some-Ended.ensures.ok _ (c.end_records.ensures.part fault)

pub returns-in-Ok-Some-Spent-clause-spent : goal.returns-in-Ok-Some-Spent-clause-spent
returns-in-Ok-Some-Spent-clause-spent g c = λ spent.
    recorded_out c.no_run_is_stuck.ensures _ _ _ _ _ _ c.turns.invariant.so c.requires.may.laws c.turns.invariant.fit.first_budget _ _ _
    c.turn_and_record.ensures.was_sound.listed c.turn_and_record.ensures.sound.listed
    _ (c.end_records-in-Ok-Some-Spent.ensures.ok (λ fault. let same : Budget ≡ WriteFault = sym spent ∙ fault in cc)) _ (c.in-Ok-Some-Spent.field-0-is
    ∙ ap Some c.in-Ok-Some-Spent.field-0-0-is) c.in-Ok-Some-Spent.ensures.ok

pub returns-in-Ok-Some-Spent-clause-part : goal.returns-in-Ok-Some-Spent-clause-part
returns-in-Ok-Some-Spent-clause-part g c = λ fault.
    recorded_end_cut c.no_run_is_stuck.ensures _ _ _ _ _ _ c.turns.invariant.so c.requires.may.laws c.turns.invariant.fit.first_budget _ _ _
    c.turn_and_record.ensures.was_sound.listed c.turn_and_record.ensures.sound.listed
    _ _ (c.in-Ok-Some-Spent.field-0-is ∙ ap Some c.in-Ok-Some-Spent.field-0-0-is) (λ n. cc) c.in-Ok-Some-Spent.ensures.ok _ (c.end_records-in-Ok-Some-Spent.ensures.part fault)

pub returns-in-Ok-None-clause-memory : goal.returns-in-Ok-None-clause-memory
returns-in-Ok-None-clause-memory g c = λ _.
    recorded_refused c.no_run_is_stuck.ensures _ _ _ _ _ _ c.turns.invariant.so c.requires.may.laws c.turns.invariant.fit.first_budget _ _ _
    c.turn_and_record.ensures.was_sound.listed c.turn_and_record.ensures.sound.listed _ c.in-Ok-None.ensures.ok

pub returns-in-Err-clause-part : goal.returns-in-Err-clause-part
returns-in-Err-clause-part g c = λ _.
    recorded_cut c.no_run_is_stuck.ensures _ _ _ _ _ _ c.turns.invariant.so c.requires.may.laws c.turns.invariant.fit.first_budget _ false _
    c.turn_and_record.ensures.was_sound.listed c.turn_and_record.ensures.sound.listed c.in-Err.ensures.err
