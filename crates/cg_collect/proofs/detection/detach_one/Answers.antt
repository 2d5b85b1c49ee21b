use Rattle.std.proofs.Common.{◌+◌, ◌≤◌, ◌≡◌, [], ◌∷◌, ℕ, Some, None, IsSome, false, inl, inr, refl, subst, sym, ap, ◌∙◌, length, arith}
use Rattle.cg_value.specs.declared.KindCode.TheVariants.{Weak}
use Rattle.cg_value.specs.declared.Place.TheVariants.{Cand}
use Rattle.cg_graph.specs.Member.{Includes}
use Rattle.cg_graph.specs.Rows.{referent_in, weak_references_in, without_row}
use Rattle.cg_graph.specs.Store.{Store, list_at}
use Rattle.cg_graph.proofs.Members.{either}
use Rattle.cg_heap.proofs.CallerLemmas.{live_of_kind}
use Rattle.cg_heap.proofs.RowLemmas.{refers_live}
use Rattle.cg_trial.proofs.PlacesOfObjects.{where_is}
use Rattle.cg_machine.specs.declared.event.Event.TheVariants.{Cleared}
use Rattle.cg_death.proofs.Clearing.{none_first}
use Rattle.cg_collect.specs.declared.answer.CollectStep.TheVariants as answer_of
use Rattle.cg_collect.specs.declared.phase.Phase.TheVariants as phase_of
use Rattle.cg_collect.specs.Phases.{from_on}
use Rattle.cg_collect.specs.Ready.{IsReadyForCollectionAt}
use Rattle.cg_collect.specs.Answers.{CollectSteps}
use Rattle.cg_collect.specs.Turns.{collection_at}
use Rattle.cg_collect.proofs.NothingIsMade.{keeps_all, keeps-cleared}
use Rattle.cg_collect.proofs.TakingTurns.{at_phase, in_heap, goes_on, tells}
use Rattle.cg_collect.proofs.StartLines.{next_from, next_at}
use Rattle.cg_collect.proofs.Detecting.{turn-passed, turn-detached, turn-lost, apart_lost, behind_lost, lost_refers, Newest, newest_row, from_here}
use Rattle.cg_collect.proofs.Unlinking.{unlink_begins}
use Rattle.cg_collect.proofs.Unreferred.{turn-unreferred}
use Rattle.cg_collect.specs.Looks.{looks_left, most_looks}
use Rattle.cg_collect.proofs.WalkLooks.{detaching_lost, detaching_next, in_store, phase_is, walk_on, walk_over}
use Rattle.cg_collect.proofs.RowFilters.{newest_left}
use Rattle.cg_graph.specs.Rows.{refers_to}
use Rattle.cg_collect.proofs.detection.detach_one.Goals as goal

-- No weak reference has a referent.
pub returns-then-is_unreferred-clause-takes : goal.returns-then-is_unreferred-clause-takes
returns-then-is_unreferred-clause-takes g c = λ script facts policy.
    let store = c.args.heap.now in
    goes_on c.to.ensures (turn-unreferred script facts store policy c.args.next (c.is_unreferred.ensures.0 c.if-is_unreferred.true))
    c.requires.ready.0 tt (inl (omega arith)) (λ n few. few) (omega arith, refl) (keeps_all store)

-- All are cleared.
pub returns-in_default-clause-takes : goal.returns-in_default-clause-takes
returns-in_default-clause-takes g c = λ script facts policy.
    let store = c.args.heap.now in
    let ready = subst (λ n. IsReadyForCollectionAt store 0 (phase_of.Detaching n)) c.in_default.is c.requires.ready in
    let bare : (o : ℕ) → Includes (list_at store Cand) o → weak_references_in store.rows o ≡ [] = λ o m. either (ready.2 o m) (λ e. absurd e) (λ none. none) in
    at_phase (ap phase_of.Detaching c.in_default.is) (goes_on c.to-in_default.ensures (turn-detached script facts store policy bare c.first.result c.first.ensures)
    (ready.0, unlink_begins store bare c.first.result c.first.ensures) tt (inl (omega arith)) (λ n few. few) (omega arith, refl) (keeps_all store))

-- the object is a member
pub newest_looking-requires : goal.newest_looking-requires
newest_looking-requires g c =
    let ready = subst (λ n. IsReadyForCollectionAt c.args.heap.now 0 (phase_of.Detaching n)) c.in-Some.is c.requires.ready in
    (where_is c.args.heap.now c.sound.ensures.listed Cand c.in-Some.object ready.1).0

-- Its newest weak reference is cleared.
pub clear_weak-requires-clause-live : goal.clear_weak-requires-clause-live
clear_weak-requires-clause-live g c =
    let n : Newest c.args.heap.now c.in-Some.object c.in-Some-newest_looking.weak = newest_row c.args.heap.now c.in-Some.object c.in-Some-newest_looking.weak
    (sym c.newest_looking.ensures.newest ∙ c.in-Some-newest_looking.is) in
    live_of_kind c.args.heap.now c.in-Some-newest_looking.weak Weak
    (refers_live c.args.heap.now c.sound.ensures.rows c.in-Some-newest_looking.weak c.in-Some.object
    (ap (referent_in c.args.heap.now.rows) (sym n.is) ∙ lost_refers c.args.heap.now c.sound.ensures.rows.rise c.in-Some.object n.older n.row n.inside n.passes n.first)).0

pub clear_weak-requires-clause-refers : goal.clear_weak-requires-clause-refers
clear_weak-requires-clause-refers g c =
    let n : Newest c.args.heap.now c.in-Some.object c.in-Some-newest_looking.weak = newest_row c.args.heap.now c.in-Some.object c.in-Some-newest_looking.weak
    (sym c.newest_looking.ensures.newest ∙ c.in-Some-newest_looking.is) in
    subst IsSome (sym (ap (referent_in c.args.heap.now.rows) (sym n.is) ∙ lost_refers c.args.heap.now c.sound.ensures.rows.rise c.in-Some.object n.older n.row n.inside n.passes n.first)) refl

pub returns-in-Some-newest_looking-clause-takes : goal.returns-in-Some-newest_looking-clause-takes
returns-in-Some-newest_looking-clause-takes g c = λ script facts policy.
    let store = c.args.heap.now in
    let o = c.in-Some.object in
    let weak = c.in-Some-newest_looking.weak in
    let ready = subst (λ n. IsReadyForCollectionAt store 0 (phase_of.Detaching n)) c.in-Some.is c.requires.ready in
    let n : Newest store o weak = newest_row store o weak (sym c.newest_looking.ensures.newest ∙ c.in-Some-newest_looking.is) in
    let rest = from_here store c.sound.ensures.listed Cand o ready.1 in
    at_phase (ap phase_of.Detaching c.in-Some.is) (in_heap c.clear_weak.ensures (tells c.tells.ensures
    (subst (λ (v : ℕ). CollectSteps script (collection_at facts (phase_of.Detaching (Some o)) None) store policy
    (collection_at facts (phase_of.Detaching (Some o)) None) (record store { rows = without_row v store.rows }) policy (answer_of.Emit (Cleared v))) n.is
    (turn-lost store c.sound.ensures.rows.rise o n.older n.row n.inside n.passes n.first script facts policy rest.0 ready.1 rest.1 rest.2))
    (subst (λ (v : ℕ). IsReadyForCollectionAt (record store { rows = without_row v store.rows }) facts.generation (phase_of.Detaching (Some o))) n.is (
      apart_lost store c.sound.ensures.rows.rise o n.older n.row n.inside n.passes n.first ready.0,
      ready.1,
      behind_lost store c.sound.ensures.rows.rise o
          n.older n.row n.inside n.passes n.first ready.2,
    ))
    tt (λ n few. few) (omega arith, refl) (keeps-cleared weak false store)))

-- It has none: the next member follows.
pub next-requires : goal.next-requires
next-requires g c =
    let ready = subst (λ n. IsReadyForCollectionAt c.args.heap.now 0 (phase_of.Detaching n)) c.in-Some.is c.requires.ready in
    (where_is c.args.heap.now c.sound.ensures.listed Cand c.in-Some.object ready.1).0

pub returns-in-None-clause-takes : goal.returns-in-None-clause-takes
returns-in-None-clause-takes g c = λ script facts policy.
    let store = c.args.heap.now in
    let o = c.in-Some.object in
    let ready = subst (λ n. IsReadyForCollectionAt store 0 (phase_of.Detaching n)) c.in-Some.is c.requires.ready in
    let next = next_from store c.sound.ensures.listed Cand o ready.1 c.next.result c.next.ensures in
    let bare = none_first (weak_references_in store.rows o) (sym c.newest_looking.ensures.newest ∙ c.in-None.is) in
    let shorter : length (from_on (Some o) (list_at store Cand)) ≡ length (o ∷ from_on c.next.result (list_at store Cand)) = ap length next in
    at_phase (ap phase_of.Detaching c.in-Some.is) (goes_on c.to-in-None.ensures (turn-passed script facts store policy o c.next.result next bare) (
      ready.0,
      next_at store c.sound.ensures.listed Cand o ready.1 c.next.result c.next.ensures,
      λ q m. either (ready.2 q m)
          (λ ahead. either (subst (λ l. Includes l q) next ahead) (λ e. inr (ap (weak_references_in store.rows) (sym e) ∙ bare)) (λ later. inl later))
          (λ none. inr none),
    )
    tt (inr (refl, omega (arith, shorter))) (λ n few. few) (omega arith, refl) (keeps_all store))

-- the remaining looks
pub returns-then-is_unreferred-clause-looks : goal.returns-then-is_unreferred-clause-looks
returns-then-is_unreferred-clause-looks g c = walk_over (phase_of.Detaching c.args.next) phase_of.Turns c.to.result.phase c.args.heap.now c.args.steps.now
    (most_looks 0 (phase_of.Detaching c.args.next) c.args.heap.now) (phase_is _ _ c.to.ensures) refl

pub returns-in_default-clause-looks : goal.returns-in_default-clause-looks
returns-in_default-clause-looks g c = walk_over (phase_of.Detaching c.args.next) (phase_of.Unlinking c.first.result None) c.to-in_default.result.phase
    c.args.heap.now c.args.steps.now (most_looks 0 (phase_of.Detaching c.args.next) c.args.heap.now) (phase_is _ _ c.to-in_default.ensures) refl

pub returns-in-Some-newest_looking-clause-looks : goal.returns-in-Some-newest_looking-clause-looks
returns-in-Some-newest_looking-clause-looks g c =
    let store = c.args.heap.now in
    let o = c.in-Some.object in
    let weak = c.in-Some-newest_looking.weak in
    let rise = c.sound.ensures.rows.rise in
    let ready = subst (λ n. IsReadyForCollectionAt store 0 (phase_of.Detaching n)) c.in-Some.is c.requires.ready in
    let n : Newest store o weak = newest_row store o weak (sym c.newest_looking.ensures.newest ∙ c.in-Some-newest_looking.is) in
    let rest = from_here store c.sound.ensures.listed Cand o ready.1 in
    let lost : Store = record store { rows = without_row weak store.rows } in
    let less =
    subst (λ (v : ℕ). 1 + most_looks 0 (phase_of.Detaching (Some o)) (record store { rows = without_row v store.rows }) ≤ most_looks 0 (phase_of.Detaching (Some o)) store) n.is
    (detaching_lost store rise o n.row n.inside rest.0 n.older rest.1 n.first (newest_left (refers_to o) store.rows rise n.older n.row n.inside n.passes n.first)) in
    subst
    (λ m. c.newest_looking.new.steps + looks_left (phase_of.Detaching m) c.tells.result.phase c.clear_weak.new.self ≤ c.args.steps.now + most_looks 0 (phase_of.Detaching m) store) (sym c.in-Some.is)
    (in_store (phase_of.Detaching (Some o)) c.tells.result.phase c.clear_weak.new.self lost c.newest_looking.new.steps
    (c.args.steps.now + most_looks 0 (phase_of.Detaching (Some o)) store) c.clear_weak.ensures
    (walk_on (phase_of.Detaching (Some o)) (phase_of.Detaching (Some o)) c.tells.result.phase lost c.newest_looking.new.steps c.args.steps.now 1 (most_looks 0 (phase_of.Detaching (Some o)) store)
    (phase_is _ _ c.tells.ensures) (omega (arith, c.newest_looking.ensures.steps)) less))

pub returns-in-None-clause-looks : goal.returns-in-None-clause-looks
returns-in-None-clause-looks g c =
    let store = c.args.heap.now in
    let o = c.in-Some.object in
    let ready = subst (λ n. IsReadyForCollectionAt store 0 (phase_of.Detaching n)) c.in-Some.is c.requires.ready in
    subst
    (λ m. c.newest_looking.new.steps + looks_left (phase_of.Detaching m) c.to-in-None.result.phase store ≤ c.args.steps.now + most_looks 0 (phase_of.Detaching m) store) (sym c.in-Some.is)
    (walk_on (phase_of.Detaching (Some o)) (phase_of.Detaching c.next.result) c.to-in-None.result.phase store c.newest_looking.new.steps c.args.steps.now 1
    (most_looks 0 (phase_of.Detaching (Some o)) store)
    (phase_is _ _ c.to-in-None.ensures) (omega (arith, c.newest_looking.ensures.steps)) (detaching_next store o c.next.result
    (next_from store c.sound.ensures.listed Cand o ready.1 c.next.result c.next.ensures)))
