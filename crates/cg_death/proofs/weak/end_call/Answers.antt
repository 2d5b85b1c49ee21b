use Rattle.std.proofs.Common.{rules, subst, sym, Some, None}
use Rattle.cg_death.specs.declared.phase.Phase.TheVariants as phase_of
use Rattle.cg_death.specs.Activities.{activities}
use Rattle.cg_death.specs.Answers.{DeathSteps}
use Rattle.cg_death.specs.Falls.{Falls}
use Rattle.cg_death.proofs.Steps.{turn-call_ended}
use Rattle.cg_death.proofs.WorkLeft.{falls-call_ended}
use Rattle.cg_death.specs.Steady.{IsSteadyAt}
use Rattle.cg_death.proofs.SteadyRows.{steady-call_ended}
use Rattle.cg_death.proofs.weak.end_call.Goals as goal

pub returns : goal.returns
returns g c = λ script. record {
  steps =
      subst (λ a. DeathSteps script c.args.heap.now (activities c.args.object (phase_of.AfterCall c.args.weak c.args.callback) None c.args.heap.now)
      c.give_up-answer.new.heap (activities c.args.object phase_of.Calling (Some c.of.result) c.give_up-answer.new.heap) a) (sym
      c.give_up-answer.ensures.answer)
      (turn-call_ended script c.args.heap.now c.args.object c.args.weak c.args.callback c.give_up-answer.new.heap c.of.result c.give_up-answer.ensures.rest c.of.ensures);
  answers = search rules;
  falls = λ e.
      subst (λ st. Falls c.args.object c.args.heap.now (phase_of.AfterCall c.args.weak c.args.callback) None st phase_of.Calling (Some c.of.result)) (sym c.give_up-answer.ensures.rest)
      (falls-call_ended c.args.heap.now c.args.object c.args.weak c.args.callback c.of.result c.of.ensures);
  going = λ e over. absurd (cc);
  ends = search rules;
  framed = search rules;
  died = c.give_up-answer.ensures.died;
  settled = tt;
  steady = λ s.
      subst (λ st. IsSteadyAt script st c.args.object phase_of.Calling (Some c.of.result)) (sym c.give_up-answer.ensures.rest)
      (steady-call_ended script c.args.heap.now c.args.object c.args.weak c.args.callback c.of.result c.of.ensures s);
  rest = c.give_up-answer.ensures.leaves;
}
