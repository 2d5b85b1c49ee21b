use Rattle.std.proofs.Common.{subst, sym}
use Rattle.cg_death.specs.Answers.{DeathSteps}
use Rattle.cg_death.specs.Activities.{activities}
use Rattle.cg_death.specs.Falls.{Falls}
use Rattle.cg_death.proofs.Steps.{RestsIfOver, step-given_up, step-turned}
use Rattle.cg_death.proofs.WorkLeft.{falls-step}
use Rattle.cg_death.specs.Steady.{IsSteadyAt}
use Rattle.cg_death.proofs.SteadySteps.{steady-given_up, steady-popped}
use Rattle.cg_death.proofs.DeathEnds.{none_left}
use Rattle.cg_death.proofs.death.Death.step.Goals as goal

pub returns-in-Some-clause-steps : goal.returns-in-Some-clause-steps
returns-in-Some-clause-steps g c =
    subst (λ a. DeathSteps c.args.script.now c.args.heap.now (activities c.args.self.now.object c.args.self.now.phase c.args.self.now.release c.args.heap.now)
    c.give_up.new.heap (activities c.args.self.now.object c.args.self.now.phase c.next_reference.new.release c.give_up.new.heap) a) (sym
    c.give_up.ensures.answer)
    (step-given_up c.args.script.now c.args.heap.now c.give_up.new.heap c.args.self.now.object c.in-Some.object c.args.self.now.phase c.args.self.now.release
    c.next_reference.new.release c.in-Some.ensures c.give_up.ensures.rest)

pub returns-in-Some-clause-falls : goal.returns-in-Some-clause-falls
returns-in-Some-clause-falls g c = λ e.
    subst (λ st. Falls c.args.self.now.object c.args.heap.now c.args.self.now.phase c.args.self.now.release st c.args.self.now.phase c.next_reference.new.release) (sym c.give_up.ensures.rest)
    (falls-step c.args.heap.now c.args.self.now.object c.in-Some.object c.args.self.now.phase c.args.self.now.release c.next_reference.new.release c.in-Some.ensures)

pub returns-clause-steps : goal.returns-clause-steps
returns-clause-steps g c =
    let tops = activities c.args.self.now.object c.turn-turn.result.phase c.turn-turn.result.release c.turn-turn.new.heap in
    let rests : RestsIfOver c.args.heap.now c.turn-turn.new.heap c.args.self.now.phase tops c.turn-turn.result.answer = record {
      heap = c.turn-turn.ensures.rests;
      nothing = λ over. none_left c.args.self.now.object c.turn-turn.result c.turn-turn.new.heap (c.turn-turn.ensures.takes.ends (c.turn-turn.ensures.over over));
      gone = c.turn-turn.ensures.over;
    } in
    step-turned c.args.script.now c.args.heap.now c.turn-turn.new.heap c.args.self.now.object tops c.turn-turn.result.answer c.args.self.now.phase rests
    c.turn-turn.ensures.takes.steps c.args.self.now.release c.next_reference.new.release c.in_default.ensures

pub returns-clause-over : goal.returns-clause-over
returns-clause-over g c = λ e. none_left c.args.self.now.object c.turn-turn.result c.turn-turn.new.heap (c.turn-turn.ensures.takes.ends e)

pub returns-in-Some-clause-steady : goal.returns-in-Some-clause-steady
returns-in-Some-clause-steady g c = λ s.
    subst (λ st. IsSteadyAt c.args.script.now st c.args.self.now.object c.args.self.now.phase c.next_reference.new.release) (sym c.give_up.ensures.rest)
    (steady-given_up c.args.script.now c.args.heap.now c.args.self.now.object c.in-Some.object c.args.self.now.phase c.args.self.now.release c.next_reference.new.release c.in-Some.ensures s)

pub returns-clause-steady : goal.returns-clause-steady
returns-clause-steady g c = λ s. c.turn-turn.ensures.takes.steady (steady-popped c.args.script.now c.args.heap.now c.args.self.now.object c.args.self.now.phase
    c.args.self.now.release c.next_reference.new.release c.in_default.ensures s)
