use Rattle.std.proofs.Common.{◌∙◌, ◌<◌, ap, subst, arith}
use Rattle.cg_heap.specs.Calls.{IsSound}
use Rattle.cg_interp.specs.declared.activity.Activity.TheVariants as activity_of
use Rattle.cg_interp.specs.Engines.{State}
use Rattle.cg_interp.proofs.CollectMoves.{engine_of}
use Rattle.cg_interp.proofs.TopDeaths.{popped_below}
use Rattle.cg_interp.proofs.TopSteps.{room_to_step, collection_goes_on, collection_tells, collection_calls, few_at_call, lives_at_call, collection_kills, may_kill, collection_ends}
use Rattle.cg_interp.proofs.engine.Engine.go_on_collecting.Goals as goal

pub collect_on_top-requires : goal.collect_on_top-requires
collect_on_top-requires g c = record { stands = (c.args.asked, c.requires.stands) }

pub returns-in-Continue-clause-turns : goal.returns-in-Continue-clause-turns
returns-in-Continue-clause-turns g c = λ k below top.
    collection_goes_on c.args.script.now c.args.asked k below c.args.self.now c.collect_on_top.new.self (c.in-Continue.ensures.steps c.args.asked k below top)

pub returns-in-Emit-clause-turns : goal.returns-in-Emit-clause-turns
returns-in-Emit-clause-turns g c = λ k below top.
    collection_tells c.args.script.now c.args.asked k below c.args.self.now c.collect_on_top.new.self c.in-Emit.event (c.in-Emit.ensures.steps c.args.asked k below top)

pub start-requires-clause-few : goal.start-requires-clause-few
start-requires-clause-few g c = λ call.
    let on = c.requires.stands in
    few_at_call c.args.script.now c.args.asked on.collection on.below c.args.self.now c.collect_on_top.new.self c.in-Frame.spec
    (c.in-Frame.ensures.steps c.args.asked on.collection on.below on.top) on.next (subst (λ (e : State). IsSound e.store) c.self.view_is c.sound.ensures)

pub start-requires-clause-live : goal.start-requires-clause-live
start-requires-clause-live g c = λ some call.
    let on = c.requires.stands in
    let done = c.in-Frame.ensures.steps c.args.asked on.collection on.below on.top in
    lives_at_call c.args.script.now c.args.asked on.collection on.below c.args.self.now c.collect_on_top.new.self c.in-Frame.spec done on.next (subst (λ n. 0 < n) done.budget some)

pub start-requires-clause-room : goal.start-requires-clause-room
start-requires-clause-room g c = omega (arith, room_to_step c.args.script.now c.args.asked c.args.self.now c.requires.stands, c.collect_on_top.ensures.room)

pub returns-in-Frame-clause-turns : goal.returns-in-Frame-clause-turns
returns-in-Frame-clause-turns g c = λ k below top.
    collection_calls c.args.script.now c.args.asked k below c.args.self.now c.collect_on_top.new.self c.in-Frame.spec
    (c.in-Frame.ensures.steps c.args.asked k below top) c.start.new.self c.start.result (λ w stands. c.start.ensures.starts c.args.script.now w stands)

pub die-requires-clause-room : goal.die-requires-clause-room
die-requires-clause-room g c =
    omega (arith, room_to_step c.args.script.now c.args.asked c.args.self.now c.requires.stands, c.collect_on_top.ensures.room)

pub die-requires-clause-stands : goal.die-requires-clause-stands
die-requires-clause-stands g c =
    let on = c.requires.stands in
    may_kill c.args.script.now c.args.asked on.collection on.below c.args.self.now c.collect_on_top.new.self c.in-Died.object
    (c.in-Died.ensures.steps c.args.asked on.collection on.below on.top) on.next

pub returns-in-Died-clause-turns : goal.returns-in-Died-clause-turns
returns-in-Died-clause-turns g c = λ k below top.
    collection_kills c.args.script.now c.args.asked k below c.args.self.now c.collect_on_top.new.self c.in-Died.object
    (c.in-Died.ensures.steps c.args.asked k below top) c.die.new.self (λ w stands. c.die.ensures.begins c.args.script.now w stands)

pub overflow_add-collected : goal.overflow_add-collected
overflow_add-collected g c =
    let on = c.requires.stands in
    let few = (c.in-Finished.ensures.steps c.args.asked on.collection on.below on.top).ready.1 in
    omega (arith, few)

pub returns-in-Finished-clause-turns : goal.returns-in-Finished-clause-turns
returns-in-Finished-clause-turns g c = λ k below top.
    let now = c.self-in-Finished.inside in
    let new : State = engine_of now.heap now.policy c.pop.new.self now.budget now.first_budget in
    let done = c.in-Finished.ensures.steps c.args.asked k below top in
    let is = ap (λ (e : State). e.activities) c.self-in-Finished.view_is ∙ done.stays in
    collection_ends c.args.script.now c.args.asked k below c.args.self.now c.collect_on_top.new.self c.in-Finished.collected c.in-Finished.uncollectable done new
    c.answered.result (ap (λ (e : State). e.store) c.self-in-Finished.view_is) (ap (λ (e : State). e.policy) c.self-in-Finished.view_is)
    (popped_below c.pop.result now.stack.activities (activity_of.Collecting c.args.asked done.after) below c.pop.new.self.activities is c.pop.ensures.top c.pop.ensures.none)
    (ap (λ (e : State). e.budget) c.self-in-Finished.view_is) c.answered.ensures.asked c.answered.ensures.not
