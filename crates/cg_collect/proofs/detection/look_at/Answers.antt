use Rattle.std.proofs.Common.{◌+◌, ◌∙◌, Some, IsSome, false, refl, ap, sym, subst, inr, arith}
use Rattle.cg_graph.specs.Rows.{IsRising, next_older_in, without_row}
use Rattle.cg_graph.specs.Store.{Store}
use Rattle.cg_collect.specs.declared.phase.Phase.TheVariants as phase_of
use Rattle.cg_collect.proofs.NothingIsMade.{keeps_all, keeps-cleared}
use Rattle.cg_collect.proofs.TakingTurns.{in_heap, leads_to, goes_on, tells}
use Rattle.cg_collect.proofs.Unlinking.{looked_lives, is_final, apart_rows, skips, unlinks, Skips, Unlinks}
use Rattle.cg_collect.specs.Looks.{most_looks}
use Rattle.cg_collect.proofs.WalkLooks.{in_store, phase_is, unlinking_lost, unlinking_passed, walk_on}
use Rattle.cg_collect.proofs.detection.look_at.Goals as goal

pub older_looking-requires-clause-live : goal.older_looking-requires-clause-live
older_looking-requires-clause-live g c = looked_lives c.args.heap.now c.sound.ensures.rows c.args.member c.args.weak c.requires.ready.1

pub older_looking-requires-clause-refers : goal.older_looking-requires-clause-refers
older_looking-requires-clause-refers g c = subst IsSome (sym (c.requires.ready.1.weak_live c.args.weak refl).1) refl

pub is_member-requires : goal.is_member-requires
is_member-requires g c = looked_lives c.args.heap.now c.sound.ensures.rows c.args.member c.args.weak c.requires.ready.1

pub clear_weak-requires-clause-live : goal.clear_weak-requires-clause-live
clear_weak-requires-clause-live g c = looked_lives c.args.heap.now c.sound.ensures.rows c.args.member c.args.weak c.requires.ready.1

pub clear_weak-requires-clause-refers : goal.clear_weak-requires-clause-refers
clear_weak-requires-clause-refers g c = subst IsSome (sym (c.requires.ready.1.weak_live c.args.weak refl).1) refl

-- A member is cleared.
pub returns-then-is_member-clause-takes : goal.returns-then-is_member-clause-takes
returns-then-is_member-clause-takes g c = λ script facts policy.
    let store = c.args.heap.now in
    let one = sym (is_final store c.sound.ensures.listed c.args.weak (looked_lives store c.sound.ensures.rows c.args.member c.args.weak c.requires.ready.1))
    ∙ sym c.is_member.ensures ∙ c.if-is_member.true in
    let u : Unlinks store c.args.member c.args.weak = unlinks store c.sound.ensures.rows c.args.member c.args.weak c.requires.ready.1 one in
    let rise = subst (λ (now : Store). IsRising now.rows) c.clear_weak.ensures c.sound-then-is_member.ensures.rows.rise in
    in_heap c.clear_weak.ensures (tells (leads_to c.tells.ensures (ap (phase_of.Unlinking c.args.member) c.older_looking.ensures.older)) (u.steps rise script facts policy)
    (apart_rows store (without_row c.args.weak store.rows) c.requires.ready.0, u.goes_on rise) tt (λ n few. few) (omega arith, refl) (keeps-cleared c.args.weak false store))

-- Any other is passed.
pub returns-else-is_member-clause-takes : goal.returns-else-is_member-clause-takes
returns-else-is_member-clause-takes g c = λ script facts policy.
    let store = c.args.heap.now in
    let none = sym (is_final store c.sound.ensures.listed c.args.weak (looked_lives store c.sound.ensures.rows c.args.member c.args.weak c.requires.ready.1))
    ∙ sym c.is_member.ensures ∙ c.if-is_member.false in
    let s : Skips store c.args.member c.args.weak = skips store c.sound.ensures.rows c.args.member c.args.weak c.requires.ready.1 none in
    goes_on (leads_to c.to.ensures (ap (phase_of.Unlinking c.args.member) c.older_looking.ensures.older)) (s.steps script facts policy)
    (c.requires.ready.0, s.goes_on) tt (inr (refl, s.falls)) (λ n few. few) (omega arith, refl) (keeps_all store)

-- fewer looks are left
pub returns-then-is_member-clause-looks : goal.returns-then-is_member-clause-looks
returns-then-is_member-clause-looks g c =
    let store = c.args.heap.now in
    let rise = subst (λ (now : Store). IsRising now.rows) c.clear_weak.ensures c.sound-then-is_member.ensures.rows.rise in
    let there = c.requires.ready.1.weak_live c.args.weak refl in
    let lost : Store = record store { rows = without_row c.args.weak store.rows } in
    in_store (phase_of.Unlinking c.args.member (Some c.args.weak)) c.tells.result.phase c.clear_weak.new.self lost c.older_looking.new.steps
    (c.args.steps.now + most_looks 0 (phase_of.Unlinking c.args.member (Some c.args.weak)) store) c.clear_weak.ensures
    (walk_on (phase_of.Unlinking c.args.member (Some c.args.weak)) (phase_of.Unlinking c.args.member (next_older_in c.args.heap.now.rows c.args.weak))
    c.tells.result.phase lost c.older_looking.new.steps c.args.steps.now 2 (most_looks 0 (phase_of.Unlinking c.args.member (Some c.args.weak)) store)
    (phase_is _ _ c.tells.ensures ∙ ap (phase_of.Unlinking c.args.member) c.older_looking.ensures.older) (omega (arith, c.older_looking.ensures.steps))
    (unlinking_lost store c.sound.ensures.rows c.args.weak there.0 there.1 lost refl refl rise c.args.member))

pub returns-else-is_member-clause-looks : goal.returns-else-is_member-clause-looks
returns-else-is_member-clause-looks g c =
    let store = c.args.heap.now in
    let none = sym (is_final store c.sound.ensures.listed c.args.weak (looked_lives store c.sound.ensures.rows c.args.member c.args.weak c.requires.ready.1))
    ∙ sym c.is_member.ensures ∙ c.if-is_member.false in
    let s : Skips store c.args.member c.args.weak = skips store c.sound.ensures.rows c.args.member c.args.weak c.requires.ready.1 none in
    walk_on (phase_of.Unlinking c.args.member (Some c.args.weak)) (phase_of.Unlinking c.args.member (next_older_in c.args.heap.now.rows c.args.weak))
    c.to.result.phase store c.older_looking.new.steps c.args.steps.now 2 (most_looks 0 (phase_of.Unlinking c.args.member (Some c.args.weak)) store)
    (phase_is _ _ c.to.ensures ∙ ap (phase_of.Unlinking c.args.member) c.older_looking.ensures.older) (omega (arith, c.older_looking.ensures.steps))
    (unlinking_passed store c.args.weak (next_older_in store.rows c.args.weak) c.args.member s.shorter)
