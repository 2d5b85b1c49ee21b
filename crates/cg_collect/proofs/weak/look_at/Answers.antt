use Rattle.std.proofs.Common.{◌<◌, ◌∙◌, ℕ, ◌+◌, Some, IsSome, refl, ap, sym, subst, inr, arith}
use Rattle.cg_value.specs.declared.KindCode.TheVariants.{Weak}
use Rattle.cg_graph.specs.Rows.{next_older_in}
use Rattle.cg_graph.specs.Store.{Store, IsLive, objects_of}
use Rattle.cg_machine.specs.Collect.{waits}
use Rattle.cg_heap.specs.Weak.{AreRows}
use Rattle.cg_heap.proofs.CallerLemmas.{live_of_kind}
use Rattle.cg_heap.proofs.RowLemmas.{refers_live}
use Rattle.cg_collect.specs.declared.phase.Phase.TheVariants as phase_of
use Rattle.cg_collect.specs.Ready.{IsWalk}
use Rattle.cg_collect.specs.Turns.{KeepsObjects}
use Rattle.cg_collect.proofs.NothingIsMade.{keeps_all, keeps-lost}
use Rattle.cg_collect.proofs.ClearingWeakReferences.{loses_then, passes_then}
use Rattle.cg_collect.proofs.TakingTurns.{leads_to, goes_on, tells}
use Rattle.cg_collect.proofs.WalkTurns.{steps_passing}
use Rattle.cg_collect.specs.Looks.{most_looks}
use Rattle.cg_collect.proofs.WalkLooks.{clearing_lost, clearing_passed, phase_is, walk_on}
use Rattle.cg_collect.proofs.weak.look_at.Goals as goal

weak_lives : (profile : ℕ) (store : Store) → AreRows store → (member : _) (weak : ℕ) → IsWalk profile store member (Some weak) → IsLive store weak
weak_lives profile store ok member weak walk = let there = walk.weak_live weak refl in live_of_kind store weak Weak (refers_live store ok weak there.0 there.1).0

pub older_looking-requires-clause-live : goal.older_looking-requires-clause-live
older_looking-requires-clause-live g c = weak_lives c.args.profile c.args.heap.now c.sound.ensures.rows c.args.member c.args.weak c.requires.walk

pub older_looking-requires-clause-refers : goal.older_looking-requires-clause-refers
older_looking-requires-clause-refers g c = subst IsSome (sym (c.requires.walk.weak_live c.args.weak refl).1) refl

pub loses-requires : goal.loses-requires
loses-requires g c = weak_lives c.args.profile c.args.heap.now c.sound.ensures.rows c.args.member c.args.weak c.requires.walk

pub lose-requires-clause-live : goal.lose-requires-clause-live
lose-requires-clause-live g c = weak_lives c.args.profile c.args.heap.now c.sound.ensures.rows c.args.member c.args.weak c.requires.walk

pub lose-requires-clause-refers : goal.lose-requires-clause-refers
lose-requires-clause-refers g c = subst IsSome (sym (c.requires.walk.weak_live c.args.weak refl).1) refl

pub returns-then-loses-clause-takes : goal.returns-then-loses-clause-takes
returns-then-loses-clause-takes g c = λ script in_profile facts policy.
    let lost = loses_then c.args.profile c.args.heap.now c.lose.new.heap c.sound.ensures c.args.weak c.args.member c.requires.walk (sym c.loses.ensures.loses ∙ c.if-loses.true) c.lose.ensures.heap in
    tells (leads_to c.tells.ensures (ap (phase_of.WeakClearing c.args.member) c.older_looking.ensures.older)) (lost.steps script in_profile facts policy)
    (lost.apart c.requires.ready.0, lost.callbacks c.requires.ready.1)
    (subst (λ p. IsWalk p c.lose.new.heap c.args.member (next_older_in c.args.heap.now.rows c.args.weak)) (sym in_profile) (lost.goes_on c.sound-then-loses.ensures.rows.rise))
    (λ n none. none) (omega arith, refl) (subst (KeepsObjects c.args.heap.now) (sym c.lose.ensures.heap) (keeps-lost (waits (objects_of c.args.heap.now) c.args.weak) c.args.weak c.args.heap.now))

less_left : (a b c : ℕ) → b < c → (a + b) + 0 < (a + c) + 0
less_left a b c h = omega (arith, h)

pub returns-else-loses-clause-takes : goal.returns-else-loses-clause-takes
returns-else-loses-clause-takes g c = λ script in_profile facts policy.
    let passes = passes_then c.args.profile c.args.heap.now c.sound.ensures.rows c.args.weak c.args.member c.requires.walk (sym c.loses.ensures.loses ∙ c.if-loses.false) in
    goes_on (leads_to c.to.ensures (ap (phase_of.WeakClearing c.args.member) c.older_looking.ensures.older)) (steps_passing script facts c.args.heap.now policy
    c.args.member _ (Some c.args.weak) _) c.requires.ready
    (subst (λ p. IsWalk p c.args.heap.now c.args.member (next_older_in c.args.heap.now.rows c.args.weak)) (sym in_profile) passes.0)
    (inr (refl, less_left _ _ _ passes.1)) (λ n none. none) (omega arith, refl) (keeps_all c.args.heap.now)

-- fewer looks are left
pub returns-then-loses-clause-looks : goal.returns-then-loses-clause-looks
returns-then-loses-clause-looks g c =
    let lost = loses_then c.args.profile c.args.heap.now c.lose.new.heap c.sound.ensures c.args.weak c.args.member c.requires.walk (sym c.loses.ensures.loses ∙ c.if-loses.true) c.lose.ensures.heap in
    let there = c.requires.walk.weak_live c.args.weak refl in
    let less = clearing_lost c.args.heap.now c.sound.ensures.rows c.args.weak there.0 there.1 c.lose.new.heap lost.rows lost.candidates c.sound-then-loses.ensures.rows.rise c.args.member in
    walk_on (phase_of.WeakClearing c.args.member (Some c.args.weak)) (phase_of.WeakClearing c.args.member (next_older_in c.args.heap.now.rows c.args.weak))
    c.tells.result.phase c.lose.new.heap c.lose.new.steps c.args.steps.now 4 (most_looks 0 (phase_of.WeakClearing c.args.member (Some c.args.weak))
    c.args.heap.now)
    (phase_is _ _ c.tells.ensures ∙ ap (phase_of.WeakClearing c.args.member) c.older_looking.ensures.older)
    (omega (arith, c.lose.ensures.looks, c.loses.ensures.looks, c.older_looking.ensures.steps)) less

pub returns-else-loses-clause-looks : goal.returns-else-loses-clause-looks
returns-else-loses-clause-looks g c =
    let passes = passes_then c.args.profile c.args.heap.now c.sound.ensures.rows c.args.weak c.args.member c.requires.walk (sym c.loses.ensures.loses ∙ c.if-loses.false) in
    walk_on (phase_of.WeakClearing c.args.member (Some c.args.weak)) (phase_of.WeakClearing c.args.member (next_older_in c.args.heap.now.rows c.args.weak))
    c.to.result.phase c.args.heap.now c.loses.new.steps c.args.steps.now 4 (most_looks 0 (phase_of.WeakClearing c.args.member (Some c.args.weak))
    c.args.heap.now)
    (phase_is _ _ c.to.ensures ∙ ap (phase_of.WeakClearing c.args.member) c.older_looking.ensures.older) (omega (arith, c.loses.ensures.looks, c.older_looking.ensures.steps))
    (clearing_passed c.args.heap.now c.args.weak (next_older_in c.args.heap.now.rows c.args.weak) c.args.member passes.1)
