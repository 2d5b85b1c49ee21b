use Rattle.std.proofs.Common.{◌+◌, ◌<◌, ◌≤◌, ℕ, [], ◌∷◌, subst, sym, arith}
use Rattle.cg_machine.specs.Program.{profile_of}
use Rattle.cg_represents.proofs.Representing.{occurrences-one}
use Rattle.cg_graph.specs.Store.{Store, outside_of}
use Rattle.cg_death.specs.Activities.{HasHolds}
use Rattle.cg_collect.specs.declared.phase.Phase.{Phase}
use Rattle.cg_collect.specs.Ready.{IsWalk, HasItsWalk}
use Rattle.cg_collect.specs.Looks.{looks_left, most_looks}
use Rattle.cg_collect.specs.Collections.{facts_of, own_holds_at}
use Rattle.cg_collect.proofs.TakingTurns.{at_phase, ready_at, ends}
use Rattle.cg_collect.proofs.collection.Collection.turn.Goals as goal

pub returns-in-Start-clause-takes : goal.returns-in-Start-clause-takes
returns-in-Start-clause-takes g c = at_phase c.in-Start.is c.start.ensures.takes

pub returns-in-Sizes-clause-takes : goal.returns-in-Sizes-clause-takes
returns-in-Sizes-clause-takes g c = at_phase c.in-Sizes.is (c.tell_sizes.ensures c.args.script.now c.args.policy.now)

pub returns-in-Telling-clause-takes : goal.returns-in-Telling-clause-takes
returns-in-Telling-clause-takes g c = at_phase c.in-Telling.is (c.tell_condemned.ensures c.args.script.now (facts_of c.args.self.now) c.args.policy.now)

pub returns-in-WeakClearing-clause-takes : goal.returns-in-WeakClearing-clause-takes
returns-in-WeakClearing-clause-takes g c = at_phase c.in-WeakClearing.is (c.clear_one.ensures.takes c.args.script.now (sym c.profile.ensures) (facts_of c.args.self.now) c.args.policy.now)

pub returns-in-WeakCalling-clause-takes : goal.returns-in-WeakCalling-clause-takes
returns-in-WeakCalling-clause-takes g c = at_phase c.in-WeakCalling.is (c.call_one.ensures.takes c.args.script.now (facts_of c.args.self.now) c.args.policy.now)

pub returns-in-AfterCallback-clause-takes : goal.returns-in-AfterCallback-clause-takes
returns-in-AfterCallback-clause-takes g c = at_phase c.in-AfterCallback.is (c.after_callback.ensures c.args.script.now (facts_of c.args.self.now)
    c.args.heap.now c.args.policy.now (ready_at c.args.heap.now c.args.self.now.generation c.in-AfterCallback.is c.requires.ready))

pub returns-in-AfterRelease-clause-takes : goal.returns-in-AfterRelease-clause-takes
returns-in-AfterRelease-clause-takes g c = at_phase c.in-AfterRelease.is (c.after_release.ensures c.args.script.now c.args.policy.now)

pub returns-in-Finalizing-clause-takes : goal.returns-in-Finalizing-clause-takes
returns-in-Finalizing-clause-takes g c = at_phase c.in-Finalizing.is (c.look_at_one.ensures (facts_of c.args.self.now) c.args.policy.now)

pub returns-in-AfterFinalizing-clause-takes : goal.returns-in-AfterFinalizing-clause-takes
returns-in-AfterFinalizing-clause-takes g c = at_phase c.in-AfterFinalizing.is (c.after_finalizer.ensures c.args.script.now (facts_of c.args.self.now)
    c.args.heap.now c.args.policy.now (ready_at c.args.heap.now c.args.self.now.generation c.in-AfterFinalizing.is c.requires.ready))

pub returns-in-Split-clause-takes : goal.returns-in-Split-clause-takes
returns-in-Split-clause-takes g c = at_phase c.in-Split.is (c.detect.ensures.takes c.args.script.now c.args.policy.now)

pub returns-in-Living-clause-takes : goal.returns-in-Living-clause-takes
returns-in-Living-clause-takes g c = at_phase c.in-Living.is (c.tell_living.ensures c.args.script.now c.args.policy.now)

pub returns-in-Detaching-clause-takes : goal.returns-in-Detaching-clause-takes
returns-in-Detaching-clause-takes g c = at_phase c.in-Detaching.is (c.detach_one.ensures.takes c.args.script.now (facts_of c.args.self.now) c.args.policy.now)

pub returns-in-Unlinking-clause-takes : goal.returns-in-Unlinking-clause-takes
returns-in-Unlinking-clause-takes g c = at_phase c.in-Unlinking.is (c.unlink_one.ensures.takes c.args.script.now (facts_of c.args.self.now) c.args.policy.now)

pub returns-in-Turns-clause-takes : goal.returns-in-Turns-clause-takes
returns-in-Turns-clause-takes g c = at_phase c.in-Turns.is (c.take_turn.ensures c.args.script.now c.args.policy.now)

pub returns-in-Turn-clause-takes : goal.returns-in-Turn-clause-takes
returns-in-Turn-clause-takes g c = at_phase c.in-Turn.is (c.empty_one.ensures.takes c.args.script.now (facts_of c.args.self.now) c.args.policy.now)

pub returns-in-AfterTurn-clause-takes : goal.returns-in-AfterTurn-clause-takes
returns-in-AfterTurn-clause-takes g c = at_phase c.in-AfterTurn.is (c.after_turn.ensures c.args.script.now c.args.policy.now)

pub returns-in-Ending-clause-takes : goal.returns-in-Ending-clause-takes
returns-in-Ending-clause-takes g c = at_phase c.in-Ending.is c.end.ensures

pub returns-in-Uncollectable-clause-takes : goal.returns-in-Uncollectable-clause-takes
returns-in-Uncollectable-clause-takes g c = at_phase c.in-Uncollectable.is (c.tell_uncollectable.ensures c.args.script.now c.args.policy.now)

pub returns-in-Saved-clause-takes : goal.returns-in-Saved-clause-takes
returns-in-Saved-clause-takes g c = at_phase c.in-Saved.is (c.tell_saved.ensures c.args.policy.now)

pub returns-in-Stopping-clause-takes : goal.returns-in-Stopping-clause-takes
returns-in-Stopping-clause-takes g c = at_phase c.in-Stopping.is (c.tell_end.ensures.takes c.args.script.now c.args.heap.now c.args.policy.now)

pub returns-in-Over-clause-takes : goal.returns-in-Over-clause-takes
returns-in-Over-clause-takes g c = at_phase c.in-Over.is (ends {number = c.in-Over.number} c.answers.ensures)

pub clear_one-requires-clause-walk : goal.clear_one-requires-clause-walk
clear_one-requires-clause-walk g c =
    subst (λ profile. IsWalk profile c.args.heap.now c.in-WeakClearing.member c.in-WeakClearing.weak) (sym c.profile.ensures)
    (subst (HasItsWalk (profile_of c.args.script.now.items) c.args.heap.now) c.in-WeakClearing.is c.requires.walk)

one_held : (store : Store) (o : ℕ) → HasHolds store (o ∷ []) → 0 < outside_of store o
one_held store o held = let here = held o in omega (arith, here, occurrences-one o)

pub empty_one-requires-clause-held : goal.empty_one-requires-clause-held
empty_one-requires-clause-held g c = one_held c.args.heap.now c.in-Turn.object (subst (λ (p : Phase). HasHolds c.args.heap.now (own_holds_at p)) c.in-Turn.is c.requires.held)

-- the reachability passes
pub returns-in-Start-clause-looks : goal.returns-in-Start-clause-looks
returns-in-Start-clause-looks g c = subst (λ (p : Phase). c.start.new.steps + looks_left p c.start.result.phase c.start.new.heap ≤ c.args.steps.now + most_looks
    c.args.self.now.generation p c.args.heap.now) (sym c.in-Start.is) (let looks = c.start.ensures.looks in omega (arith, looks))

pub returns-in-Split-clause-looks : goal.returns-in-Split-clause-looks
returns-in-Split-clause-looks g c = subst (λ (p : Phase). c.detect.new.steps + looks_left p c.detect.result.phase c.detect.new.heap ≤ c.args.steps.now +
    most_looks c.args.self.now.generation p c.args.heap.now) (sym c.in-Split.is) (let looks = c.detect.ensures.looks in omega (arith, looks))

pub returns-in-Turn-clause-looks : goal.returns-in-Turn-clause-looks
returns-in-Turn-clause-looks g c = subst (λ (p : Phase). c.empty_one.new.steps + looks_left p c.empty_one.result.phase c.empty_one.new.heap ≤ c.args.steps.now +
    most_looks c.args.self.now.generation p c.args.heap.now) (sym c.in-Turn.is) (let looks = c.empty_one.ensures.looks in omega (arith, looks))

pub returns-in-WeakClearing-clause-looks : goal.returns-in-WeakClearing-clause-looks
returns-in-WeakClearing-clause-looks g c = subst (λ (p : Phase). c.clear_one.new.steps + looks_left p c.clear_one.result.phase c.clear_one.new.heap ≤
    c.args.steps.now + most_looks c.args.self.now.generation p c.args.heap.now) (sym c.in-WeakClearing.is) c.clear_one.ensures.looks

pub returns-in-WeakCalling-clause-looks : goal.returns-in-WeakCalling-clause-looks
returns-in-WeakCalling-clause-looks g c = subst (λ (p : Phase). c.call_one.new.steps + looks_left p c.call_one.result.phase c.call_one.new.heap ≤
    c.args.steps.now + most_looks c.args.self.now.generation p c.args.heap.now) (sym c.in-WeakCalling.is) (let looks = c.call_one.ensures.looks
    in omega (arith, looks))

pub returns-in-Detaching-clause-looks : goal.returns-in-Detaching-clause-looks
returns-in-Detaching-clause-looks g c = subst (λ (p : Phase). c.detach_one.new.steps + looks_left p c.detach_one.result.phase c.detach_one.new.heap ≤
    c.args.steps.now + most_looks c.args.self.now.generation p c.args.heap.now) (sym c.in-Detaching.is) c.detach_one.ensures.looks

pub returns-in-Unlinking-clause-looks : goal.returns-in-Unlinking-clause-looks
returns-in-Unlinking-clause-looks g c = subst (λ (p : Phase). c.unlink_one.new.steps + looks_left p c.unlink_one.result.phase c.unlink_one.new.heap ≤
    c.args.steps.now + most_looks c.args.self.now.generation p c.args.heap.now) (sym c.in-Unlinking.is) c.unlink_one.ensures.looks

-- the start comes before no other pass
pub returns-in-Start-clause-apart : goal.returns-in-Start-clause-apart
returns-in-Start-clause-apart g c = λ is. c.start.ensures.apart
