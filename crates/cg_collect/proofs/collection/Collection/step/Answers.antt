use Rattle.std.proofs.Common.{◌+◌, subst, sym, arith}
use Rattle.std.proofs.lemmas.Grind.{common_steps}
use Rattle.cg_heap.specs.Calls.{HasFewHolds}
use Rattle.cg_collect.specs.declared.collection.Collection.{Collection}
use Rattle.cg_collect.specs.Ready.{GivesUpIn}
use Rattle.cg_collect.proofs.Stages.{TakesStep, also-ready, also-step}
use Rattle.cg_collect.proofs.GivingUp.{gives_up-step}
use Rattle.cg_collect.proofs.StepsOfPhases.{given_up_held, ready_on, held_on, looks_on, none_left, turned}
use Rattle.cg_collect.proofs.collection.Collection.step.Goals as goal

pub give_up-requires : goal.give_up-requires
give_up-requires g c = given_up_held (record c.args.self.now { detected = c.detection-self.result }) c.args.heap.now c.requires.held

-- It gave something up.
pub returns-in-Some : goal.returns-in-Some
returns-in-Some g c =
    let was = c.args.self.now in
    let now = c.give_up.new.self in
    let script = c.args.script.now in
    let s : TakesStep script was c.args.heap.now c.args.policy.now now c.give_up.new.heap c.args.policy.now c.in-Some.answer =
    also-step c.detection-self.result script was c.args.heap.now c.args.policy.now now c.give_up.new.heap c.args.policy.now c.in-Some.answer
    (gives_up-step (record was { detected = c.detection-self.result }) c.args.heap.now now c.give_up.new.heap c.in-Some.answer c.requires.ready.gives_up c.in-Some.ensures.some script c.args.policy.now
    (also-ready c.detection-self.result script was c.args.heap.now c.requires.ready) c.detection-self.ensures) in
    record {
      steps = s.steps;
      ready = s.ready;
      falls = s.falls;
      died = s.died;
      stops = λ set_aside at none. absurd (let had = c.in-Some.ensures.some.had in cc);
      ends = s.ends;
      generation = s.generation;
      begun = s.begun;
      detected = s.detected;
      stage = s.stage;
      meets = s.meets;
      onward = s.onward;
      objects = s.keeps.objects;
      names = s.keeps.names;
      looks = let none = none_left was.phase now.phase c.in-Some.ensures.some.before c.give_up.new.heap (subst (GivesUpIn was.phase) c.in-Some.ensures.some.had
          c.requires.ready.gives_up) in omega (arith, none);
    }

-- Its phase had a turn.
pub turn-turn-requires : goal.turn-turn-requires
turn-turn-requires g c =
    let old : Collection = record c.args.self.now { detected = c.detection-self.result } in
    let same = c.in_default.ensures.none in
    let ready = ready_on old c.give_up.new.self c.args.heap.now c.give_up.new.heap same c.args.script.now (also-ready c.detection-self.result c.args.script.now
    c.args.self.now c.args.heap.now c.requires.ready) in
    record {
      generation = ready.generation;
      ready = ready.phase;
      walk = ready.walk;
      few = subst HasFewHolds (sym same.1) c.requires.few;
      held = held_on old c.give_up.new.self c.args.heap.now c.give_up.new.heap same c.requires.held;
      bounded = c.requires.bounded;
    }

pub returns : goal.returns
returns g c =
    let was = c.args.self.now in
    let old : Collection = record was { detected = c.detection-self.result } in
    let script = c.args.script.now in
    let same = c.in_default.ensures.none in
    let turn = c.turn-turn.result in
    let new : Collection = record c.give_up.new.self { collected = c.give_up.new.self.collected + turn.collected; phase = turn.phase; release = turn.release } in
    let s : TakesStep script was c.args.heap.now c.args.policy.now new c.turn-turn.new.heap c.turn-turn.new.policy turn.answer =
    also-step c.detection-self.result script was c.args.heap.now c.args.policy.now new c.turn-turn.new.heap c.turn-turn.new.policy turn.answer
    (turned old c.give_up.new.self c.args.heap.now c.give_up.new.heap same script c.args.policy.now c.turn-turn.new.heap c.turn-turn.new.policy turn
    (also-ready c.detection-self.result script was c.args.heap.now c.requires.ready) c.detection-self.ensures c.turn-turn.ensures.takes c.turn-turn.ensures.apart) in
    record {
      steps = s.steps;
      ready = s.ready;
      falls = s.falls;
      died = s.died;
      stops = grind (arith, common_steps);
      ends = s.ends;
      generation = s.generation;
      begun = s.begun;
      detected = s.detected;
      stage = s.stage;
      meets = s.meets;
      onward = s.onward;
      objects = s.keeps.objects;
      names = s.keeps.names;
      looks = looks_on old c.give_up.new.self c.args.heap.now c.give_up.new.heap same c.turn-turn.new.steps c.args.steps.now turn.phase c.turn-turn.new.heap c.turn-turn.ensures.looks;
    }
