use Rattle.std.proofs.Common.{◌+◌, ◌≤◌, None, Some, refl, ap, subst, sym, inl, inr, arith}
use Rattle.cg_value.specs.declared.Place.TheVariants.{Cand}
use Rattle.cg_trial.proofs.PlacesOfObjects.{where_is}
use Rattle.cg_collect.specs.declared.phase.Phase.TheVariants as phase_of
use Rattle.cg_collect.specs.Ready.{IsMemberWalk}
use Rattle.cg_collect.proofs.NothingIsMade.{keeps_all}
use Rattle.cg_collect.proofs.TakingTurns.{at_phase, goes_on}
use Rattle.cg_collect.proofs.Unlinking.{ahead, looks, unlink_next, unlink_nearer, turn-next, turn-all_unlinked}
use Rattle.cg_collect.specs.Looks.{looks_left, most_looks}
use Rattle.cg_collect.proofs.WalkLooks.{phase_is, unlinking_next, walk_on, walk_over}
use Rattle.cg_collect.proofs.detection.next_member.Goals as goal

pub next-requires : goal.next-requires
next-requires g c = (where_is c.args.heap.now c.sound.ensures.listed Cand c.in-Some.object (subst (λ m. IsMemberWalk c.args.heap.now m None) c.in-Some.is c.requires.ready.1).member_at).0

pub newest_beside-requires : goal.newest_beside-requires
newest_beside-requires g c = (where_is c.args.heap.now c.sound.ensures.listed Cand c.in-Some.object (subst (λ m. IsMemberWalk c.args.heap.now m None) c.in-Some.is c.requires.ready.1).member_at).0

pub returns-in-Some-clause-takes : goal.returns-in-Some-clause-takes
returns-in-Some-clause-takes g c = λ script facts policy.
    let store = c.args.heap.now in
    let walk = subst (λ m. IsMemberWalk store m None) c.in-Some.is c.requires.ready.1 in
    at_phase (ap (λ m. phase_of.Unlinking m None) c.in-Some.is) (goes_on c.to.ensures
    (turn-next store c.sound.ensures.listed c.sound.ensures.rows c.in-Some.object walk c.next.result c.newest_beside.result c.next.ensures c.newest_beside.ensures.newest script facts policy)
    (c.requires.ready.0, unlink_next store c.sound.ensures.listed c.sound.ensures.rows c.in-Some.object walk c.next.result c.newest_beside.result c.next.ensures c.newest_beside.ensures.newest)
    tt (inr (refl, unlink_nearer store c.sound.ensures.listed c.sound.ensures.rows c.in-Some.object walk c.next.result c.newest_beside.result c.next.ensures c.newest_beside.ensures.newest))
    (λ n few. few) (omega arith, refl) (keeps_all store))

pub returns-in-None-clause-takes : goal.returns-in-None-clause-takes
returns-in-None-clause-takes g c = λ script facts policy.
    let store = c.args.heap.now in
    at_phase (ap (λ m. phase_of.Unlinking m None) c.in-None.is) (goes_on c.to-in-None.ensures
    (turn-all_unlinked store c.sound.ensures.rows.rise (subst (λ m. IsMemberWalk store m None) c.in-None.is c.requires.ready.1) script facts policy)
    c.requires.ready.0 tt (inl (omega arith)) (λ n few. few) (omega arith, refl) (keeps_all store))

-- the remaining looks
pub returns-in-Some-clause-looks : goal.returns-in-Some-clause-looks
returns-in-Some-clause-looks g c =
    let store = c.args.heap.now in
    let walk = subst (λ m. IsMemberWalk store m None) c.in-Some.is c.requires.ready.1 in
    let next = c.next.result in
    let weak = c.newest_beside.result in
    subst
    (λ m. c.newest_beside.new.steps + looks_left (phase_of.Unlinking m None) c.to.result.phase store ≤ c.args.steps.now + most_looks 0 (phase_of.Unlinking m None) store) (sym c.in-Some.is)
    (walk_on (phase_of.Unlinking (Some c.in-Some.object) None) (phase_of.Unlinking next weak) c.to.result.phase store c.newest_beside.new.steps c.args.steps.now
    2 (most_looks 0 (phase_of.Unlinking (Some c.in-Some.object) None) store)
    (phase_is _ _ c.to.ensures) c.newest_beside.ensures.looks (unlinking_next store c.in-Some.object next weak
    (ahead store c.sound.ensures.listed c.sound.ensures.rows c.in-Some.object walk next weak c.next.ensures c.newest_beside.ensures.newest)
    (looks store c.sound.ensures.listed c.sound.ensures.rows c.in-Some.object walk next weak c.next.ensures c.newest_beside.ensures.newest)))

pub returns-in-None-clause-looks : goal.returns-in-None-clause-looks
returns-in-None-clause-looks g c = walk_over (phase_of.Unlinking c.args.member None) phase_of.Turns c.to-in-None.result.phase c.args.heap.now c.args.steps.now
    (most_looks 0 (phase_of.Unlinking c.args.member None) c.args.heap.now) (phase_is _ _ c.to-in-None.ensures) refl
