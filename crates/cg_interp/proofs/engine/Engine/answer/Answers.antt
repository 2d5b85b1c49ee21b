use Rattle.std.proofs.Common.{subst, inl}
use Rattle.cg_machine.specs.Commands.{effect, refused}
use Rattle.cg_commands.specs.Refusals.{number_of}
use Rattle.cg_interp.specs.Callers.{caller_activity, IsPerformed, HasPerformed}
use Rattle.cg_interp.specs.Turns.{Makes}
use Rattle.cg_interp.proofs.AnswerLemmas.{refusal_may, as_before}
use Rattle.cg_interp.proofs.engine.Engine.answer.Goals as goal

pub proceed-requires-clause-performed : goal.proceed-requires-clause-performed
proceed-requires-clause-performed g c =
    let (script, spelled, fit, performed) = c.requires.performed in
    (script, spelled, fit, subst (HasPerformed script (caller_activity c.args.caller.now) c.args.self.now) c.in-Ok.is performed)

pub returns-in-Ok-clause-does : goal.returns-in-Ok-clause-does
returns-in-Ok-clause-does g c = λ script w command before was performed.
    c.proceed.ensures.does script w command before was (subst (IsPerformed script (caller_activity c.args.caller.now) c.args.self.now w command before was) c.in-Ok.is performed)

pub returns-in-Err-clause-does : goal.returns-in-Err-clause-does
returns-in-Err-clause-does g c = λ script w command before was performed.
    let p = subst (IsPerformed script (caller_activity c.args.caller.now) c.args.self.now w command before was) c.in-Err.is performed in
    inl (record {
      transition = refused (number_of c.in-Err.refusal) w;
      may = refusal_may script w (effect w command) c.in-Err.refusal p.answers.heap.0;
      makes = subst (λ n. Makes script (refused n w) c.refuse.new.self c.refuse.result) c.number.ensures
          (c.refuse.ensures.refuses script w (as_before script c.args.self.now (caller_activity c.args.caller.now) w command before was p.stood p.answers.heap.1 p.answers.policy));
    })
