-- From the second reachability pass until its collection stops, the final set is sealed, and only the line that frees a member
-- names it.
use Rattle.std.proofs.Common.{◌≡◌, refl, sym, ◌∙◌, ap, subst, ℕ, ◌≤◌, false, inl, inr, ◌⊎◌, List, [], ◌∷◌, ◌++◌, arith}
use Rattle.cg_value.specs.declared.Place.TheVariants.{Cand}
use Rattle.cg_script.specs.declared.Script.{Script}
use Rattle.cg_graph.specs.Member.{Includes}
use Rattle.cg_graph.specs.Object.{Object, serials_at}
use Rattle.cg_graph.proofs.Members.{either, Includes-append_left, Includes-append_right, Includes-append_cases}
use Rattle.cg_machine.specs.declared.event.Event.{Event}
use Rattle.cg_machine.specs.World.{World, Activity, Collecting, Collection, Split, opening, with_stack}
use Rattle.cg_machine.specs.Holdings.{is_collection}
use Rattle.cg_machine.specs.Collect.{SplitStep}
use Rattle.cg_machine.specs.Run.{Run, Step, StepOf, StepTaken, events_of, last_world}
use Rattle.cg_laws.specs.Laws.{OnlyFreesNameMembers, Sealing, Splits, final_set}
use Rattle.cg_laws.proofs.InvariantOfRuns.{collections_in}
use Rattle.cg_laws.proofs.Sums.{member_le, tally}
use Rattle.cg_laws.proofs.Ending.{last_world-append}
use Rattle.cg_laws.proofs.Unreferred.{lives_within}
use Rattle.cg_laws.proofs.LeftBelowRuns.{LeavesUnder, leaves_below, step_leaves}
use Rattle.cg_laws.proofs.StackFacts.{AreKnown}
use Rattle.cg_laws.proofs.StackFactsOfRuns.{known}
use Rattle.cg_laws.proofs.Unheld.{AreOver, IsStack}
use Rattle.cg_laws.proofs.HeldLivesDeaths.{HasOrder}
use Rattle.cg_laws.specs.Apart.{IsApart}
use Rattle.cg_laws.proofs.RunsApart.{runs_apart}
use Rattle.cg_laws.proofs.SetsApart.{NoneCollects}
use Rattle.cg_laws.proofs.StepsPlain.{IsPlainUnder, step_plain}
use Rattle.cg_promises.proofs.FinalizersDone.{IsWanted, Primed, other_primed, phase_primed}
use Rattle.cg_promises.proofs.FinalSetRuns.{IsSealedWorld, is_sealed, sealed_after, step_keeps_on}
use Rattle.cg_promises.proofs.FinalSetStart.{split_sealed}
use Rattle.cg_promises.proofs.FinalizerOnceRuns.{Fit, opening_fit, run_back, run_front, run_fit, step_fit, step_goes}

-- at most one collection
pub alone_below : (c : Collection) (below : List Activity) → tally collections_in (Collecting c ∷ below) ≤ 1 → NoneCollects below
alone_below c below h d m = let more = member_le collections_in below (Collecting d) m in omega (arith, h, more)

-- each step keeps the condemned objects without finalizers to run
other_step : (script : Script) (w : World) (a : Activity) (below : List Activity) (events : List Event) (after : World) → w.stack ≡ a ∷ below → is_collection a
    ≡ false → Step script w events after → Fit script w → IsApart w → Primed script w.objects w.stack → Primed script after.objects after.stack
other_step script w a below events after top none step fit apart h =
    let stack : IsStack script w (a ∷ below) = subst (IsStack script w) top fit.calm.stack in
    let left : LeavesUnder w (a ∷ below) after = subst (λ st. LeavesUnder w st after) top (step_leaves script w events after step fit.sound fit.calm fit.order) in
    let made = lives_within 1 w.next_serial w.objects 1 fit.sound.rises fit.order.root_lives in
    let plain : IsPlainUnder w.objects (a ∷ below) after = subst (λ st. IsPlainUnder w.objects st after) top (step_plain script w events after step apart.garbage made.1 fit.calm fit.sound.bottom) in
    let leaves = leaves_below script w a below after top fit.sound.rises stack.1 fit.order left in
    other_primed script w after fit.sound.rises (step_goes script w events after step fit).follows (leaves.places none)
    (λ c m. either ((plain none).stack c m) (λ k. inl (subst (λ st. Includes st (Collecting c)) (sym top) (inr k))) (λ k. inr k.1)) h

step_primed : (script : Script) (w : World) (stack : List Activity) (events : List Event) (after : World) → w.stack ≡ stack → Step script w events after
    → Fit script w → IsApart w → Primed script w.objects w.stack → Primed script after.objects after.stack
step_primed script w [] events after top step fit apart h = absurd (subst (λ st. StepOf script w st events after) top step.step)
step_primed script w (Collecting c ∷ below) events after top step fit apart h =
    phase_primed script c below w fit.sound.rises (alone_below c below (subst (λ st. tally collections_in st ≤ 1) top fit.sound.single)) c.phase events after
    (apart.phases c (subst (λ st. Includes st (Collecting c)) (sym top) (inl refl)))
    (subst (λ st. StepOf script (with_stack st w) st events after) top step.step)
    (subst (λ st. Primed script w.objects st) top h)
step_primed script w (a ∷ below) events after top step fit apart h = other_step script w a below events after top refl step fit apart h

primed_after : (script : Script) (w : World) (steps : List StepTaken) → ((more : List StepTaken) → Run script w more → IsApart (last_world w more))
    → Run script w steps → Fit script w → Primed script w.objects w.stack → (let last : World = last_world w steps in Primed script last.objects last.stack)
primed_after script w [] apart run fit h = h
primed_after script w (step ∷ steps) apart run fit h = primed_after script step.world steps (λ more goes. apart (step ∷ more) (run.0, goes)) run.1 (step_fit script w step.events step.world run.0 fit)
    (step_primed script w w.stack step.events step.world refl run.0 fit (apart [] tt) h)

opening_primed : (script : Script) (budget : ℕ) → (let w : World = opening script budget in Primed script w.objects w.stack)
opening_primed script budget = record {
  no_legacy = λ x m k. either m (λ e. absurd (subst (λ (z : Object). IsWanted z.place) (sym e) k)) (λ none. absurd none);
  ran = λ c m. either m (λ e. absurd (cc)) (λ none. absurd none);
}

-- the step of the second reachability pass
module _ (script : Script) (budget : ℕ) (before : List StepTaken) (split : StepTaken) (run : Run script (opening script budget) before)
    (step : Step script (last_world (opening script budget) before) split.events split.world) (splits : Splits (last_world (opening script budget) before))
  where
    abbrev w : World
    w = last_world (opening script budget) before

    fit : Fit script w
    fit = run_fit script (opening script budget) before run (opening_fit script budget)

    abbrev c : Collection
    c = record splits.collection { phase = Split }

    top : w.stack ≡ Collecting c ∷ splits.below
    top = splits.top ∙ ap (λ p. Collecting (record splits.collection { phase = p }) ∷ splits.below) splits.phase

    split_step : SplitStep c splits.below (with_stack (Collecting c ∷ splits.below) w) split.events split.world
    split_step = subst (λ st. StepOf script (with_stack st w) st split.events split.world) top step.step

    pub starts_sealed_world : IsSealedWorld script (final_set split) split.world
    starts_sealed_world = subst (λ (after : World). IsSealedWorld script (serials_at after.objects Cand) after) (sym split_step.world)
        (split_sealed script c splits.below w fit.sound.rises (alone_below c splits.below (subst (λ st. tally collections_in st ≤ 1) top fit.sound.single)) splits.clears
        (subst (λ st. HasOrder (with_stack st w)) top fit.order) (subst AreOver top fit.calm.over) (subst (AreKnown w.objects) top (known script budget before run))
        (subst (λ st. Primed script w.objects st) top (primed_after script (opening script budget) before (λ more goes. runs_apart script budget more goes) run
        (opening_fit script budget) (opening_primed script budget)))
        (subst (λ st. IsStack script (with_stack st w) st) top fit.calm.stack).1
        split.events split.world split_step)

pub sealing : Sealing
sealing script budget before split during run splits none x m k =
    let front = run_front script (opening script budget) before (split ∷ during) run in
    let rest = run_back script (opening script budget) before (split ∷ during) run in
    let fit_before = run_fit script (opening script budget) before front (opening_fit script budget) in
    let fit_now = step_fit script (last_world (opening script budget) before) split.events split.world rest.0 fit_before in
    let ends = sealed_after script (final_set split) split.world during rest.1 fit_now none (starts_sealed_world script budget before split front rest.0 splits) in
    is_sealed script (final_set split) (last_world split.world during) ends.0 x m k

pub only_frees : OnlyFreesNameMembers
only_frees script budget before split during next run splits none event n m i k =
    let all = run_front script (opening script budget) (before ++ split ∷ during) (next ∷ []) run in
    let front = run_front script (opening script budget) before (split ∷ during) all in
    let rest = run_back script (opening script budget) before (split ∷ during) all in
    let fit_before = run_fit script (opening script budget) before front (opening_fit script budget) in
    let fit_now = step_fit script (last_world (opening script budget) before) split.events split.world rest.0 fit_before in
    let first = rest.1 in
    let last = subst (λ v. Run script v (next ∷ [])) (last_world-append (opening script budget) before (split ∷ during))
    (run_back script (opening script budget) (before ++ split ∷ during) (next ∷ []) run) in
    let ends = sealed_after script (final_set split) split.world during first fit_now none (starts_sealed_world script budget before split front rest.0 splits) in
    let keeps = step_keeps_on script (final_set split) (last_world split.world during) next.events next.world last.0 (run_fit script split.world during first fit_now) ends.0 in
    either (of_both during next event m) (λ a. ends.1 event a n i k) (λ b. keeps.lines event b n i k)
  where
    of_both : (during : List StepTaken) (next : StepTaken) (event : Event) → Includes (events_of (during ++ next ∷ [])) event → Includes (events_of during) event ⊎ Includes next.events event
    of_both [] next event m = either (Includes-append_cases next.events [] event m) (λ a. inr a) (λ none. absurd none)
    of_both (step ∷ during) next event m = either (Includes-append_cases step.events (events_of (during ++ next ∷ [])) event m) (λ a. inl (Includes-append_left step.events (events_of during) event a))
        (λ b. either (of_both during next event b) (λ a. inl (Includes-append_right step.events (events_of during) event a)) (λ a. inr a))
