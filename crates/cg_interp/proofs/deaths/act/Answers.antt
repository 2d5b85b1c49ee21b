use Rattle.std.proofs.Common.{refl, subst, arith}
use Rattle.cg_death.specs.Deaths.{IsGoingAfter}
use Rattle.cg_death.proofs.ObjectNumbers.{none_then}
use Rattle.cg_interp.proofs.DeathActions.{came_nowhere, acting_now, act_few, act_held, act_ready, act_falls, came_on, last_action}
use Rattle.cg_interp.proofs.Sizes.{small}
use Rattle.cg_interp.proofs.deaths.act.Goals as goal

pub actions-init : goal.actions-init
actions-init g c = record { came = came_nowhere c.args.script.now c.args.heap.now c.args.death.now; objects = record { objects = omega arith; names = refl } }

pub step-requires : goal.step-requires
step-requires g c =
    let now = acting_now c.args.script.now c.args.heap.now c.actions.heap c.args.death.now c.actions.death c.actions.invariant.came c.requires.stands in
    record {
      few = act_few c.args.script.now c.actions.heap c.actions.death c.sound.ensures now;
      held = act_held c.args.script.now c.actions.heap c.actions.death c.sound.ensures now;
      ready = act_ready c.args.script.now c.actions.heap c.actions.death c.sound.ensures now;
    }

pub actions-smaller : goal.actions-smaller
actions-smaller g c =
    act_falls c.actions.death c.step.new.self c.actions.heap c.step.new.heap (small c.step.new.heap c.sound-in-Continue.ensures) c.step.ensures.object (c.step.ensures.falls c.in-Continue.is)

pub actions-preserved : goal.actions-preserved
actions-preserved g c = record {
  came = came_on c.args.script.now c.args.heap.now c.actions.heap c.args.death.now c.actions.death c.actions.invariant.came c.step.new.heap c.step.new.self
      c.step.result c.step.ensures.steps c.step.ensures.settled c.step.ensures.object c.step.ensures.falls c.sound.ensures.rows
      c.in-Continue.is (subst (λ a. IsGoingAfter a c.step.new.self) c.in-Continue.is c.step.ensures.going refl) c.sound-in-Continue.ensures.rows;
  objects = none_then _ _ _ c.actions.invariant.objects c.step.ensures.objects;
}

pub returns-in_default-clause-acts : goal.returns-in_default-clause-acts
returns-in_default-clause-acts g c =
    last_action c.args.script.now c.args.heap.now c.actions.heap c.args.death.now c.actions.death c.actions.invariant.came c.step.new.heap c.step.new.self
    c.step.result c.step.ensures.steps c.step.ensures.settled c.step.ensures.object c.step.ensures.falls c.sound.ensures.rows
    c.step.ensures.cause
