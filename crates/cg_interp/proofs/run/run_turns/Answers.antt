use Rattle.std.proofs.Common.{arith}
use Rattle.cg_interp.proofs.RoomStays.{fit_here, fit_then}
use Rattle.cg_interp.proofs.Sizes.{small}
use Rattle.cg_interp.proofs.RunLemmas.{turn_may_be_taken, ran_on, ran_to_end, ran_out, ran_cut, falls_on, ran_start}
use Rattle.cg_interp.proofs.run.run_turns.Goals as goal

pub turns-init : goal.turns-init
turns-init g c = record { ran = ran_start c.args.script.now _ _ _ c.requires.may.opens _ c.new-text.ensures; fit = fit_here _; later = omega arith }

pub turn_and_write-requires : goal.turn_and_write-requires
turn_and_write-requires g c = record {
  may = turn_may_be_taken _ _ _ _ _ _ c.turns.invariant.ran c.requires.may.laws c.turns.invariant.fit.first_budget
      c.requires.may.spelled (c.turns.invariant.fit.fit c.args.script.now c.requires.may.fit);
}

pub turns-smaller : goal.turns-smaller
turns-smaller g c = falls_on _ _ _ _ _ _ c.turns.invariant.ran c.requires.may.laws c.turns.invariant.fit.first_budget _ _ _ _
    (small _ c.turn_and_write.ensures.sound) c.in-Ok-Running.field-0-is c.in-Ok-Running.ensures.ok

pub turns-preserved : goal.turns-preserved
turns-preserved g c = record {
  ran = ran_on _ _ _ _ _ _ c.turns.invariant.ran c.requires.may.laws c.turns.invariant.fit.first_budget _ _ _ _ c.in-Ok-Running.field-0-is c.in-Ok-Running.ensures.ok;
  fit = fit_then _ _ _ c.turns.invariant.fit c.turn_and_write.ensures.fit;
  later = omega (arith, c.turns.invariant.later, c.turn_and_write.ensures.cause.later);
}

pub returns-in-Ok-Ended-clause-done : goal.returns-in-Ok-Ended-clause-done
returns-in-Ok-Ended-clause-done g c = λ _. ran_to_end _ _ _ _ _ _ c.turns.invariant.ran c.requires.may.laws c.turns.invariant.fit.first_budget _ _ _ _ c.in-Ok-Ended.field-0-is c.in-Ok-Ended.ensures.ok

pub returns-in-Ok-Spent-clause-spent : goal.returns-in-Ok-Spent-clause-spent
returns-in-Ok-Spent-clause-spent g c = λ _. ran_out _ _ _ _ _ _ c.turns.invariant.ran c.requires.may.laws c.turns.invariant.fit.first_budget _ _ _ _ c.in-Ok-Spent.field-0-is c.in-Ok-Spent.ensures.ok

pub returns-in-Err-clause-part : goal.returns-in-Err-clause-part
returns-in-Err-clause-part g c = λ _. ran_cut _ _ _ _ _ _ c.turns.invariant.ran c.requires.may.laws c.turns.invariant.fit.first_budget c.fronts_begin_whole_texts.ensures _ _ c.in-Err.ensures.err
