-- Each step of a release: it makes progress, or is caught.
use Rattle.std.proofs.Common.{◌≡◌, ◌≢◌, refl, sym, ◌∙◌, ap, subst, ℕ, Bool, true, false, not, ◌&&◌, ◌||◌, inl, inr, ◌⊎◌, List, [], ◌∷◌, ◌++◌, Option, Some, None}
use Rattle.std.specs.Prelude.{◌==◌, count_by, flat_map, if◌then◌else◌, is_some, option_and_then}
use Rattle.std.proofs.lemmas.Bool.{and_parts, eqb-true}
use Rattle.std.proofs.lemmas.List.{append-nil, append_assoc}
use Rattle.cg_value.specs.declared.Entry.{Entry}
use Rattle.cg_value.specs.declared.Place.TheVariants.{Gen}
use Rattle.cg_script.specs.declared.Script.{Script}
use Rattle.cg_graph.specs.Member.{Includes}
use Rattle.cg_graph.specs.Value.{entry_references, last_entry, without_last}
use Rattle.cg_graph.specs.Object.{Object, change, entries_of, object_at, marked, with_entries, with_place}
use Rattle.cg_graph.specs.Holdings.{entry_holdings, graph_of}
use Rattle.cg_graph.proofs.Members.{either, Includes-append_right, Includes-append_cases}
use Rattle.cg_machine.specs.declared.event.Event.{Event}
use Rattle.cg_machine.specs.declared.event.Event.TheVariants.{Cleared, Free}
use Rattle.cg_machine.specs.declared.event.FrameSort.TheVariants.{Del, Legacy}
use Rattle.cg_machine.specs.Program.{legacy_of}
use Rattle.cg_machine.specs.World.{World, Activity, TopLevel, Framed, Releasing, Dying, Collecting, ShuttingDown, DyingPhase, Finalizer, AfterFinalizer, Clearing, Calling, AfterCall, LegacyFinalizer, AfterLegacy, Detaching, Emptying, with_change, with_stack}
use Rattle.cg_machine.specs.Holdings.{dying_holds, holds, in_degree, is_dying}
use Rattle.cg_machine.specs.Frame.{Transition, Yields, begin_death, released}
use Rattle.cg_machine.specs.Weak.{callback_of, has_weak_references, loses_referent, weak_references_if}
use Rattle.cg_machine.specs.Dying.{clear_one, death_at, detach_one, dying, empty_one, finalizer_to_run, has_finalizers, run_finalizer, run_legacy}
use Rattle.cg_machine.specs.Run.{Run, StepOf, StepTaken, events_of, last_world}
use Rattle.cg_represents.specs.Orderly.{IsOrderly}
use Rattle.cg_laws.specs.Laws.{is_enter}
use Rattle.cg_promises.proofs.FullRuns.{enters_first}
use Rattle.cg_release.proofs.Counts.{Lets, last_held, lets_lose, lets_same, lets_shorten}
use Rattle.cg_release.proofs.WithinRelease.{Between, IsBare, IsBarePhase, begins, frees, goes}
use Rattle.cg_release.proofs.WaitingDeaths.{IsCaught, caught_stays, longer, starts_caught}

-- no line, and the line for a cleared weak reference, frees nothing
none_freed : (o : ℕ) → ¬ Includes [] (Free o)
none_freed o m = absurd m

cleared_frees_none : (weak o : ℕ) → ¬ Includes (Cleared weak ∷ []) (Free o)
cleared_frees_none weak o (inl e) = cc
cleared_frees_none weak o (inr m) = absurd m

bare_holds : (o : ℕ) (phase : DyingPhase) → IsBarePhase phase → dying_holds o phase ≡ []
bare_holds o Finalizer h = refl
bare_holds o AfterFinalizer h = absurd h
bare_holds o (Clearing []) h = refl
bare_holds o (Clearing (weak ∷ waiting)) h = absurd h
bare_holds o (Calling []) h = refl
bare_holds o (Calling (weak ∷ waiting)) h = absurd h
bare_holds o (AfterCall weak callback waiting) h = absurd h
bare_holds o LegacyFinalizer h = refl
bare_holds o AfterLegacy h = absurd h
bare_holds o Detaching h = refl
bare_holds o Emptying h = refl

module _ (script : Script) (w : World) (given : List ℕ) (below : List Activity) (orderly : IsOrderly w) (top : w.stack ≡ Releasing given ∷ below) where
  -- the world after a step, and what was printed since the release started
  abbrev pub IsWithinRelease : List Event → World → Type 0
  IsWithinRelease done after = ((gone : ℕ → Bool) × (tops : List Activity) × Between w given below gone tops done after.names after.objects after.stack) ⊎ IsCaught below after.stack after.outcome

  module _ (gone : ℕ → Bool) (tops : List Activity) (done : List Event) (u : World) where
    abbrev R : List Event → World → Type 0
    R lines v = count_by is_enter lines ≡ 0 → IsWithinRelease (done ++ lines) v

    to : (t : Transition) (events : List Event) (after : World) → R t.0 t.1 → Yields t events after → R events after
    to t events after k y = subst (λ (es : List Event). R es after) (sym y.0) (subst (λ (v : World). R t.0 v) (sym y.1) k)

    -- the death of an object
    module _ (o : ℕ) where
      abbrev on : DyingPhase → List Activity
      on phase = Dying (record { object = o; phase = phase }) ∷ tops

      abbrev At : DyingPhase → Type 0
      At phase = Between w given below gone (on phase) done u.names u.objects u.stack

      is_gone : (phase : DyingPhase) → At phase → gone o ≡ true
      is_gone phase b = (b.bare (Dying (record { object = o; phase = phase })) (inl refl)).0

      turns : (phase next : DyingPhase) (lines : List Event) (objects : List Object) → Lets gone u.objects objects → IsBarePhase next → ((p : ℕ) → ¬ Includes lines (Free p))
          → At phase → IsWithinRelease (done ++ lines) (death_at o next (tops ++ below) (record u { objects = objects }))
      turns phase next lines objects l bare none b = inl (gone, on next, goes w given below gone (on phase) (on next) done lines u.names u.objects objects u.stack l still held (λ p k. k) none b)
        where
          still : (a : Activity) → Includes (on next) a → IsBare gone a
          still a (inl e) = subst (IsBare gone) e (is_gone phase b, bare)
          still a (inr m) = b.bare a (inr m)

          held : (p : ℕ) → Includes (flat_map holds (on next)) p → Includes (flat_map holds (on phase)) p ⊎ Includes (entry_holdings (graph_of u.objects)) p
          held p m = either (Includes-append_cases (dying_holds o next) (flat_map holds tops) p m)
              (λ k. absurd (subst (λ (hs : List ℕ). Includes hs p) (bare_holds o next bare) k))
              (λ k. inl (Includes-append_right (dying_holds o phase) (flat_map holds tops) p k))

      finalizes : (m : Option ℕ) → At Finalizer → (let t : Transition = run_finalizer script o (tops ++ below) u m in R t.0 t.1)
      finalizes None b = λ quiet. turns Finalizer (Clearing []) [] u.objects (lets_same gone u.objects) tt none_freed b
      finalizes (Some p) b = λ quiet. inr (starts_caught script (record { sort = Del; proc = p; subject = o; func = None })
          (death_at o AfterFinalizer (tops ++ below) (with_change (λ x. marked (with_place (Gen 0) x)) o u)) below (Dying (record { object = o; phase = AfterFinalizer })) tops refl quiet)

      clears : (weaks : List ℕ) → At (Clearing []) → (let t : Transition = clear_one o [] (tops ++ below) u weaks in R t.0 t.1)
      clears [] b = λ quiet. turns (Clearing []) (Calling []) [] u.objects (lets_same gone u.objects) tt none_freed b
      clears (weak ∷ weaks) b = λ quiet. waits (is_some (callback_of u.objects weak))
        where
          waits : (t : Bool) → IsWithinRelease (done ++ Cleared weak ∷ []) (death_at o (Clearing ([] ++ (if t then weak ∷ [] else []))) (tops ++ below) (record u { objects = loses_referent weak u.objects }))
          waits true = inr (record { top = Dying (record { object = o; phase = Clearing (weak ∷ []) }); tops = tops; is = refl; why = inr tt })
          waits false = turns (Clearing []) (Clearing []) (Cleared weak ∷ []) (loses_referent weak u.objects) (lets_lose gone weak u.objects) tt (cleared_frees_none weak) b

      legacy : (m : Option ℕ) → At LegacyFinalizer → (let t : Transition = run_legacy script o (tops ++ below) u m in R t.0 t.1)
      legacy None b = λ quiet. turns LegacyFinalizer Detaching [] u.objects (lets_same gone u.objects) tt none_freed b
      legacy (Some p) b = λ quiet. inr (starts_caught script (record { sort = Legacy; proc = p; subject = o; func = None })
          (death_at o AfterLegacy (tops ++ below) (with_change (with_place (Gen 0)) o u)) below (Dying (record { object = o; phase = AfterLegacy })) tops refl quiet)

      detaches : (weaks : List ℕ) → At Detaching → (let t : Transition = detach_one o (tops ++ below) u weaks in R t.0 t.1)
      detaches [] b = λ quiet. turns Detaching Emptying [] u.objects (lets_same gone u.objects) tt none_freed b
      detaches (weak ∷ weaks) b = λ quiet. turns Detaching Detaching (Cleared weak ∷ []) (loses_referent weak u.objects) (lets_lose gone weak u.objects) tt (cleared_frees_none weak) b

      empties : (m : Option Entry) → last_entry (entries_of u.objects o) ≡ m → At Emptying → (let t : Transition = empty_one o (tops ++ below) u m in R t.0 t.1)
      empties None last b = λ quiet. inl (gone, tops, frees w given below gone o tops done u.names u.objects u.stack b)
      empties (Some e) last b = λ quiet. inl (
        gone,
        Releasing (entry_references e) ∷ on Emptying,
        goes w given below gone (on Emptying) (Releasing (entry_references e) ∷ on Emptying) done [] u.names u.objects
            (change (with_entries (without_last (entries_of u.objects o))) o u.objects) u.stack
            (lets_shorten gone o u.objects (is_gone Emptying b)) still held (λ p k. k) none_freed b,
      )
        where
          still : (a : Activity) → Includes (Releasing (entry_references e) ∷ on Emptying) a → IsBare gone a
          still a (inl i) = subst (IsBare gone) i tt
          still a (inr m) = b.bare a m

          held : (p : ℕ) → Includes (flat_map holds (Releasing (entry_references e) ∷ on Emptying)) p → Includes (flat_map holds (on Emptying)) p ⊎ Includes (entry_holdings (graph_of u.objects)) p
          held p m = either (Includes-append_cases (entry_references e) (flat_map holds (on Emptying)) p m) (λ k. inr (last_held u.objects o p e last k)) (λ k. inl k)

      dies_on : (phase : DyingPhase) → IsBarePhase phase → At phase → (let t : Transition = dying script o phase (tops ++ below) u in R t.0 t.1)
      dies_on Finalizer h b = finalizes (option_and_then (finalizer_to_run script) (object_at u.objects o)) b
      dies_on AfterFinalizer h b = absurd h
      dies_on (Clearing []) h b = clears (weak_references_if has_weak_references u.objects o) b
      dies_on (Clearing (weak ∷ waiting)) h b = absurd h
      dies_on (Calling []) h b = λ quiet. turns (Calling []) LegacyFinalizer [] u.objects (lets_same gone u.objects) tt none_freed b
      dies_on (Calling (weak ∷ waiting)) h b = absurd h
      dies_on (AfterCall weak callback waiting) h b = absurd h
      dies_on LegacyFinalizer h b = legacy (option_and_then (legacy_of script) (object_at u.objects o)) b
      dies_on AfterLegacy h b = absurd h
      dies_on Detaching h b = detaches (weak_references_if (has_finalizers script) u.objects o) b
      dies_on Emptying h b = empties (last_entry (entries_of u.objects o)) refl b

    releases : (refs : List ℕ) → Between w given below gone (Releasing refs ∷ tops) done u.names u.objects u.stack → (let t : Transition = released refs (tops ++ below) u in R t.0 t.1)
    releases [] b = λ quiet. inl (
      gone,
      tops,
      goes w given below gone (Releasing [] ∷ tops) tops done [] u.names u.objects u.objects u.stack
          (lets_same gone u.objects) (λ a m. b.bare a (inr m)) (λ p m. inl m) (λ p k. k) none_freed b,
    )
    releases (o ∷ refs) b = go (not (is_dying now o) && (in_degree now o == 0)) refl
      where
        now : World
        now = with_stack (Releasing refs ∷ (tops ++ below)) u

        still : (a : Activity) → Includes (Releasing refs ∷ tops) a → IsBare gone a
        still a (inl e) = subst (IsBare gone) e tt
        still a (inr m) = b.bare a (inr m)

        go : (t : Bool) → (not (is_dying now o) && (in_degree now o == 0)) ≡ t → (let step : Transition = if t then ([], begin_death o now) else ([], now) in R step.0 step.1)
        go true e = λ quiet. inl (
          λ n. o == n || gone n,
          Dying (record { object = o; phase = Finalizer }) ∷ Releasing refs ∷ tops,
          begins w given below orderly
              top u gone o refs tops done b (eqb-true (in_degree now o) 0 (and_parts (not (is_dying now o)) (in_degree now o == 0) e).1),
        )
        go false e = λ quiet. inl (
          gone,
          Releasing refs ∷ tops,
          goes w given below gone (Releasing (o ∷ refs) ∷ tops) (Releasing refs ∷ tops) done [] u.names
              u.objects u.objects u.stack (lets_same gone u.objects) still (λ p m. inl (inr m)) (λ p k. k) none_freed b,
        )

    step_goes : (a : Activity) → Between w given below gone (a ∷ tops) done u.names u.objects u.stack → (events : List Event) (after : World)
        → StepOf script u (a ∷ (tops ++ below)) events after → R events after
    step_goes (TopLevel commands) b events after step = absurd (b.bare (TopLevel commands) (inl refl))
    step_goes (Framed f) b events after step = absurd (b.bare (Framed f) (inl refl))
    step_goes (Releasing refs) b events after step = to (released refs (tops ++ below) u) events after (releases refs b) step
    step_goes (Dying d) b events after step = to (dying script d.object d.phase (tops ++ below) u) events after (dies_on d.object d.phase (b.bare (Dying d) (inl refl)).1 b) step
    step_goes (Collecting c) b events after step = absurd (b.bare (Collecting c) (inl refl))
    step_goes (ShuttingDown started) b events after step = absurd (b.bare (ShuttingDown started) (inl refl))

  -- the first world whose stack is the one below
  pub ends_between : (gone : ℕ → Bool) (tops : List Activity) (done : List Event) (u : World) (steps : List StepTaken) → Between w given below gone tops done u.names u.objects u.stack
      → Run script u steps → count_by is_enter (events_of steps) ≡ 0
      → ((front back : List StepTaken) (step : StepTaken) → steps ≡ front ++ step ∷ back → (last_world u front).stack ≢ below) → (last_world u steps).stack ≡ below
      → (last : ℕ → Bool) × Between w given below last [] (done ++ events_of steps) (last_world u steps).names (last_world u steps).objects (last_world u steps).stack
  ends_between gone [] done u [] b run quiet first ends = (gone, subst (λ (es : List Event). Between w given below gone [] es u.names u.objects u.stack) (sym (append-nil done)) b)
  ends_between gone (a ∷ tops) done u [] b run quiet first ends = absurd (longer a tops below (sym b.stack ∙ ends))
  ends_between gone [] done u (step ∷ steps) b run quiet first ends = absurd (first [] steps step refl b.stack)
  ends_between gone (a ∷ tops) done u (step ∷ steps) b run quiet first ends =
      let parts = enters_first step.events (events_of steps) quiet in
      either (step_goes gone tops done u a b step.events step.world (subst (λ (st : List Activity). StepOf script u st step.events step.world) b.stack run.0.step) parts.0)
      (λ k.
      let rest = ends_between k.0 k.1 (done ++ step.events) step.world steps k.2 run.1 parts.1 (λ front back s e. first (step ∷ front) back s (ap (λ (ss : List StepTaken). step ∷ ss) e)) ends in (
        rest.0,
        subst (λ (es : List Event). Between w given below rest.0 [] es (last_world step.world steps).names (last_world step.world steps).objects
            (last_world step.world steps).stack) (append_assoc done step.events (events_of steps)) rest.1,
      ))
      (λ c. absurd (caught_stays script below step.world steps run.1 parts.1 c ends))
