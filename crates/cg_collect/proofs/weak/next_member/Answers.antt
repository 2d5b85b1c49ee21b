use Rattle.std.proofs.Common.{◌+◌, ◌≤◌, None, Some, refl, ap, sym, subst, inl, inr, arith}
use Rattle.cg_value.specs.declared.Place.TheVariants.{Cand, Pend}
use Rattle.cg_trial.proofs.PlacesOfObjects.{where_is}
use Rattle.cg_collect.specs.declared.phase.Phase.TheVariants as phase_of
use Rattle.cg_collect.specs.Ready.{IsWalk}
use Rattle.cg_collect.proofs.NothingIsMade.{keeps_all}
use Rattle.cg_collect.proofs.TakingTurns.{at_phase, goes_on}
use Rattle.cg_collect.proofs.Unreferred.{unreferred_walk}
use Rattle.cg_collect.proofs.WalkTurns.{ahead, looks, walk_next, next_falls, steps_passing, turn-all_cleared, list_few}
use Rattle.cg_collect.specs.Looks.{looks_left, most_looks}
use Rattle.cg_collect.proofs.WalkLooks.{clearing_next, phase_is, walk_on, walk_over}
use Rattle.cg_collect.proofs.weak.next_member.Goals as goal

pub next-requires : goal.next-requires
next-requires g c = (where_is c.args.heap.now c.sound.ensures.listed Cand c.in-Some.object (subst (λ m. IsWalk c.args.profile c.args.heap.now m None) c.in-Some.is c.requires.walk).member_at).0

pub first_to_look_at-requires : goal.first_to_look_at-requires
first_to_look_at-requires g c = (where_is c.args.heap.now c.sound.ensures.listed Cand c.in-Some.object
    (subst (λ m. IsWalk c.args.profile c.args.heap.now m None) c.in-Some.is c.requires.walk).member_at).0

pub returns-then-is_unreferred-clause-takes : goal.returns-then-is_unreferred-clause-takes
returns-then-is_unreferred-clause-takes g c = λ script in_profile facts policy.
    let store = c.args.heap.now in
    let none = c.is_unreferred.ensures.0 c.if-is_unreferred.true in
    goes_on c.to.ensures
    (turn-all_cleared c.args.profile store (unreferred_walk c.args.profile store c.args.member none c.requires.walk) script in_profile facts policy c.args.member) c.requires.ready
    tt (inl (omega arith)) (λ n few. omega (arith, few, list_few store c.sound.ensures Pend)) (omega arith, refl) (keeps_all store)

pub returns-in-Some-clause-takes : goal.returns-in-Some-clause-takes
returns-in-Some-clause-takes g c = λ script in_profile facts policy.
    let store = c.args.heap.now in
    let walk = subst (λ m. IsWalk c.args.profile store m None) c.in-Some.is c.requires.walk in
    at_phase (ap (λ m. phase_of.WeakClearing m None) c.in-Some.is) (goes_on c.to-in-Some.ensures (steps_passing script facts store policy _ _ None _) c.requires.ready
    (subst (λ p. IsWalk p store c.next.result c.first_to_look_at.result) (sym in_profile)
    (walk_next c.args.profile store c.sound.ensures.listed c.sound.ensures.rows c.in-Some.object walk c.next.result c.first_to_look_at.result c.next.ensures c.first_to_look_at.ensures.first))
    (inr (
      refl,
      next_falls c.args.profile store c.sound.ensures.listed c.sound.ensures.rows c.in-Some.object walk c.next.result c.first_to_look_at.result
          c.next.ensures c.first_to_look_at.ensures.first,
    ))
    (λ n none. none) (omega arith, refl) (keeps_all store))

pub returns-in-None-clause-takes : goal.returns-in-None-clause-takes
returns-in-None-clause-takes g c = λ script in_profile facts policy.
    let store = c.args.heap.now in
    at_phase (ap (λ m. phase_of.WeakClearing m None) c.in-None.is) (goes_on c.to-in-None.ensures
    (turn-all_cleared c.args.profile store (subst (λ m. IsWalk c.args.profile store m None) c.in-None.is c.requires.walk) script in_profile facts policy None) c.requires.ready
    tt (inl (omega arith)) (λ n none. omega (arith, none, list_few store c.sound.ensures Pend)) (omega arith, refl) (keeps_all store))

-- the remaining looks
pub returns-then-is_unreferred-clause-looks : goal.returns-then-is_unreferred-clause-looks
returns-then-is_unreferred-clause-looks g c = walk_over (phase_of.WeakClearing c.args.member None) phase_of.WeakCalling c.to.result.phase c.args.heap.now
    c.args.steps.now (most_looks 0 (phase_of.WeakClearing c.args.member None) c.args.heap.now) (phase_is _ _ c.to.ensures) refl

pub returns-in-Some-clause-looks : goal.returns-in-Some-clause-looks
returns-in-Some-clause-looks g c =
    let store = c.args.heap.now in
    let walk = subst (λ m. IsWalk c.args.profile store m None) c.in-Some.is c.requires.walk in
    let next = c.next.result in
    let weak = c.first_to_look_at.result in
    subst
    (λ m. c.first_to_look_at.new.steps + looks_left (phase_of.WeakClearing m None) c.to-in-Some.result.phase store ≤ c.args.steps.now + most_looks 0
    (phase_of.WeakClearing m None) store) (sym c.in-Some.is)
    (walk_on (phase_of.WeakClearing (Some c.in-Some.object) None) (phase_of.WeakClearing next weak) c.to-in-Some.result.phase store c.first_to_look_at.new.steps
    c.args.steps.now 4 (most_looks 0 (phase_of.WeakClearing (Some c.in-Some.object) None) store)
    (phase_is _ _ c.to-in-Some.ensures) c.first_to_look_at.ensures.looks (clearing_next c.args.profile store c.in-Some.object next weak
    (ahead c.args.profile store c.sound.ensures.listed c.sound.ensures.rows c.in-Some.object walk next weak c.next.ensures c.first_to_look_at.ensures.first)
    (looks c.args.profile store c.sound.ensures.listed c.sound.ensures.rows c.in-Some.object walk next weak c.next.ensures c.first_to_look_at.ensures.first)))

pub returns-in-None-clause-looks : goal.returns-in-None-clause-looks
returns-in-None-clause-looks g c = walk_over (phase_of.WeakClearing c.args.member None) phase_of.WeakCalling c.to-in-None.result.phase c.args.heap.now
    c.args.steps.now (most_looks 0 (phase_of.WeakClearing c.args.member None) c.args.heap.now) (phase_is _ _ c.to-in-None.ensures) refl
