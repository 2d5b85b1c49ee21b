-- In the phases that call finalizers, the heap does the machine's step.
use Rattle.std.proofs.Common.{◌≡◌, ◌≢◌, refl, sym, ◌∙◌, ap, subst, ℕ, Bool, List, [], ◌∷◌, ◌++◌, Some, None, arith}
use Rattle.std.specs.Prelude.{flat_map, if◌then◌else◌, option_and_then}
use Rattle.std.proofs.lemmas.Bool.{eq-eqb, ne_eqb}
use Rattle.cg_value.specs.declared.Place.TheVariants.{Untracked, Gen}
use Rattle.cg_script.specs.declared.Script.{Script}
use Rattle.cg_graph.specs.Holdings.{occurrences}
use Rattle.cg_graph.specs.Object.{Object, object_at, with_place as object_placed, marked as object_marked}
use Rattle.cg_graph.specs.Store.{Store, objects_of, outside_of, count_of, IsLive, waiting_for}
use Rattle.cg_graph.specs.Changes.{held, unheld, moved}
use Rattle.cg_machine.specs.declared.event.Event.TheVariants.{Alive}
use Rattle.cg_machine.specs.declared.event.FrameSort.TheVariants.{Del, Legacy}
use Rattle.cg_machine.specs.declared.event.FrameSpec.{FrameSpec}
use Rattle.cg_machine.specs.Program.{legacy_of}
use Rattle.cg_machine.specs.World.{World, Activity, DyingPhase, Finalizer, AfterFinalizer, Clearing, LegacyFinalizer, AfterLegacy, Detaching, with_stack, with_change}
use Rattle.cg_machine.specs.Holdings.{holds, in_degree, dying_holds}
use Rattle.cg_machine.specs.Frame.{Transition, start_frame}
use Rattle.cg_machine.specs.Dying.{dying, death_at, finalizer_to_run, run_finalizer, run_legacy, after_frame}
use Rattle.cg_represents.specs.Represents.{Represents}
use Rattle.cg_represents.specs.Orderly.{death_waits}
use Rattle.cg_heap.specs.Calls.{with_node, marked}
use Rattle.cg_death.specs.declared.phase.Phase.TheVariants as phase_of
use Rattle.cg_death.specs.Activities.{death_of}
use Rattle.cg_death.specs.Answers.{DeathStands, WentOn, GaveFrame, TurnSteps}
use Rattle.cg_death.proofs.Worlds.{went_to, gave_frame}
use Rattle.cg_death.proofs.TakingTurns.{going_on, telling, running, turn_at}
use Rattle.cg_represents.proofs.Representing.{Matches, matches, represents, count-in_degree}
use Rattle.cg_represents.proofs.Lists.{occurrences-cons}
use Rattle.cg_heap.proofs.HoldLemmas.{outside-unheld, outside-held, outside-moved, outside-with_node}
use Rattle.cg_heap.proofs.CallerLemmas.{lives_on, kinds-moved, kinds-with_node}
use Rattle.cg_death.proofs.Releases.{matches-unheld}
use Rattle.cg_death.proofs.Turns.{here, rephased, ended, waits_are, steps_to, only_phase}
use Rattle.cg_death.proofs.Places.{matches-held, matches-moved, matches-marked, only-one}

-- A frame of the object comes next: the object is tracked and held.
module _ (script : Script) (store : Store) (v : World) (o : ℕ) (below : List Activity) (none : count_of store o ≡ 0) (phase next : DyingPhase)
    (s : DeathStands store (here store v o phase below) (death_of o phase ∷ below)) (spec : FrameSpec) (f : Object → Object) (ready : Store) (live : IsLive ready o)
    (same : (q : ℕ) → outside_of ready q ≡ outside_of store q)
    (matching : Matches (moved o (Gen 0) store) (with_change (object_placed (Gen 0)) o (here store v o phase below)) → Matches ready (with_change f o (here store v o phase below)))
    (nothing : dying_holds o phase ≡ []) (once : dying_holds o next ≡ o ∷ []) (waits : death_waits next ≡ waiting_for ready o) where
  abbrev before : World
  before = death_at o next below (with_change f o (here store v o phase below))

  outside_once : (q : ℕ) → outside_of (held (o ∷ []) ready) q ≡ occurrences q (o ∷ flat_map holds below)
  outside_once q =
      let more = outside-held (o ∷ []) ready q (λ h. subst (IsLive ready) (sym (only-one o q h)) live) in
      let was : outside_of store q ≡ occurrences q (flat_map holds below) = s.represents.outside q ∙ ap (λ hs. occurrences q (hs ++ flat_map holds below)) nothing in
      omega (arith, more, same q, was, occurrences-cons q o (flat_map holds below), occurrences-cons q o [])

  frame_runs : dying script o phase below (here store v o phase below) ≡ start_frame script spec before
      → GaveFrame script (here store v o phase below) spec (held (o ∷ []) ready) (death_of o next ∷ below)
  frame_runs does = gave_frame spec before
      (steps_to store v o phase below script s (start_frame script spec before).0 (start_frame script spec before).1 does)
      (represents (held (o ∷ []) ready) before
      (matches-held (o ∷ []) ready before (rephased ready before o phase below next waits
      (matching (matches-moved store (here store v o phase below) o (Gen 0) (λ e. absurd (omega (arith, e))) s.represents none))))
      (λ q. outside_once q ∙ sym (ap (λ hs. occurrences q (hs ++ flat_map holds below)) once))) refl (refl, refl, refl)

-- The death gives up its own hold.
module _ (script : Script) (store : Store) (v : World) (o : ℕ) (below : List Activity) (phase next : DyingPhase)
    (does : dying script o phase below (here store v o phase below) ≡ after_frame o next below (here store v o phase below)) (held_once : dying_holds o phase
    ≡ o ∷ []) (holds_none : dying_holds o next ≡ [])
    (waits : death_waits phase ≡ []) (waits_none : death_waits next ≡ [])
    (s : DeathStands store (here store v o phase below) (death_of o phase ∷ below)) where
  abbrev w : World
  w = here store v o phase below

  abbrev let_off : Store
  let_off = unheld (o ∷ []) store

  abbrev goes_on : World
  goes_on = death_at o next below w

  waits_store : [] ≡ waiting_for store o
  waits_store = sym waits ∙ waits_are store v o phase below (matches store w s.represents)

  outside-let_off : (q : ℕ) → outside_of let_off q ≡ occurrences q (flat_map holds below)
  outside-let_off q =
      let was : outside_of store q ≡ occurrences q (o ∷ flat_map holds below) = s.represents.outside q ∙ ap (λ hs. occurrences q (hs ++ flat_map holds below)) held_once in
      omega (arith, was, outside-unheld (o ∷ []) store q, occurrences-cons q o (flat_map holds below), occurrences-cons q o [])

  represents-let_off : Represents let_off goes_on
  represents-let_off =
      represents let_off goes_on (rephased let_off v o phase below next (waits_none ∙ waits_store) (matches-unheld (o ∷ []) store w (matches store w s.represents)))
      (λ q. outside-let_off q ∙ sym (ap (λ hs. occurrences q (hs ++ flat_map holds below)) holds_none))

  count : count_of let_off o ≡ in_degree goes_on o
  count = count-in_degree let_off goes_on represents-let_off o

  choice : Bool → Transition
  choice b = if b then ([], with_change (object_placed Untracked) o goes_on) else (Alive o ∷ [], with_stack below w)

  -- nothing else holds it
  pub unheld_again : count_of let_off o ≡ 0 → WentOn script w [] w.numbers (moved o Untracked let_off) (death_of o next ∷ below)
  unfolding choice
  unheld_again none = went_to (with_change (object_placed Untracked) o goes_on)
      (steps_to store v o phase below script s [] (with_change (object_placed Untracked) o goes_on) (does ∙ ap choice (eq-eqb _ 0 (sym count ∙ none))))
      (represents (moved o Untracked let_off) (with_change (object_placed Untracked) o goes_on)
      (matches-moved let_off goes_on o Untracked (λ e. absurd (omega (arith, e))) represents-let_off none)
      (λ q. outside-moved o Untracked let_off q ∙ represents-let_off.outside q)) refl (refl, refl, refl)

  -- it was resurrected
  pub brought_back : count_of let_off o ≢ 0 → WentOn script w (Alive o ∷ []) w.numbers let_off below
  unfolding choice
  brought_back held = went_to (with_stack below w)
      (steps_to store v o phase below script s (Alive o ∷ []) (with_stack below w) (does ∙ ap choice (ne_eqb _ 0 (λ z. held (count ∙ z)))))
      (represents let_off (with_stack below w) (ended let_off v o phase below (sym waits_store) (matches-unheld (o ∷ []) store w (matches store w s.represents))) outside-let_off)
      refl (refl, refl, refl)

module _ (script : Script) (store : Store) (o : ℕ) where
  pub turn-no_finalizer : option_and_then (finalizer_to_run script) (object_at (objects_of store) o) ≡ None → TurnSteps script store o phase_of.Finalizer store (going_on phase_of.Clearing)
  turn-no_finalizer due =
      turn_at script store o phase_of.Finalizer store (going_on phase_of.Clearing)
      (λ v below s.
      let waits : [] ≡ waiting_for store o = waits_are store v o Finalizer below (matches store (here store v o Finalizer below) s.represents) in
      subst (λ ws. WentOn script (here store v o Finalizer below) [] v.numbers store (death_of o (Clearing ws) ∷ below)) waits
      (only_phase store v o Finalizer below script s (Clearing [])
      (ap (run_finalizer script o below (here store v o Finalizer below)) (ap (λ os. option_and_then (finalizer_to_run script) (object_at os o)) (sym s.represents.objects) ∙ due))
      waits (λ q. refl)))

  pub turn-finalizer : (p : ℕ) → option_and_then (finalizer_to_run script) (object_at (objects_of store) o) ≡ Some p → IsLive store o → count_of store o ≡ 0
      → TurnSteps script store o phase_of.Finalizer (held (o ∷ []) (with_node marked o (moved o (Gen 0) store)))
      (running phase_of.AfterFinalizer (record { sort = Del; proc = p; subject = o; func = None }))
  turn-finalizer p due live none =
      turn_at script store o phase_of.Finalizer (held (o ∷ []) (with_node marked o (moved o (Gen 0) store)))
      (running phase_of.AfterFinalizer (record { sort = Del; proc = p; subject = o; func = None }))
      (λ v below s.
      let tracked : Store = moved o (Gen 0) store in
      let w : World = here store v o Finalizer below in
      frame_runs script store v o below none Finalizer AfterFinalizer s (record { sort = Del; proc = p; subject = o; func = None }) (λ x. object_marked (object_placed (Gen 0) x))
      (with_node marked o tracked) (lives_on tracked (with_node marked o tracked) (kinds-with_node marked (λ n. refl) o tracked) o (lives_on store tracked (kinds-moved o (Gen 0) store) o live))
      (λ q. outside-with_node marked (λ n. refl) o tracked q ∙ outside-moved o (Gen 0) store q)
      (matches-marked tracked w o (Gen 0)) refl refl (waits_are store v o Finalizer below (matches store w s.represents))
      (ap (run_finalizer script o below w) (ap (λ os. option_and_then (finalizer_to_run script) (object_at os o)) (sym s.represents.objects) ∙ due)))

  pub turn-no_legacy : option_and_then (legacy_of script) (object_at (objects_of store) o) ≡ None → TurnSteps script store o phase_of.LegacyFinalizer store (going_on phase_of.Detaching)
  turn-no_legacy due =
      turn_at script store o phase_of.LegacyFinalizer store (going_on phase_of.Detaching)
      (λ v below s.
      only_phase store v o LegacyFinalizer below script s Detaching
      (ap (run_legacy script o below (here store v o LegacyFinalizer below)) (ap (λ os. option_and_then (legacy_of script) (object_at os o)) (sym s.represents.objects) ∙ due))
      (waits_are store v o LegacyFinalizer below (matches store (here store v o LegacyFinalizer below) s.represents)) (λ q. refl))

  pub turn-legacy : (p : ℕ) → option_and_then (legacy_of script) (object_at (objects_of store) o) ≡ Some p → IsLive store o → count_of store o ≡ 0
      → TurnSteps script store o phase_of.LegacyFinalizer (held (o ∷ []) (moved o (Gen 0) store)) (running phase_of.AfterLegacy (record { sort = Legacy; proc = p; subject = o; func = None }))
  turn-legacy p due live none =
      turn_at script store o phase_of.LegacyFinalizer (held (o ∷ []) (moved o (Gen 0) store)) (running phase_of.AfterLegacy (record { sort = Legacy; proc = p; subject = o; func = None }))
      (λ v below s.
      let w : World = here store v o LegacyFinalizer below in
      frame_runs script store v o below none LegacyFinalizer AfterLegacy s (record { sort = Legacy; proc = p; subject = o; func = None }) (object_placed (Gen 0))
      (moved o (Gen 0) store) (lives_on store (moved o (Gen 0) store) (kinds-moved o (Gen 0) store) o live) (outside-moved o (Gen 0) store)
      (λ m. m) refl refl (waits_are store v o LegacyFinalizer below (matches store w s.represents))
      (ap (run_legacy script o below w) (ap (λ os. option_and_then (legacy_of script) (object_at os o)) (sym s.represents.objects) ∙ due)))

  pub turn-unheld_again : count_of (unheld (o ∷ []) store) o ≡ 0 → TurnSteps script store o phase_of.AfterFinalizer (moved o Untracked (unheld (o ∷ []) store)) (going_on phase_of.Clearing)
  turn-unheld_again none =
      turn_at script store o phase_of.AfterFinalizer (moved o Untracked (unheld (o ∷ []) store)) (going_on phase_of.Clearing)
      (λ v below s.
      subst (λ ws. WentOn script (here store v o AfterFinalizer below) [] v.numbers (moved o Untracked (unheld (o ∷ []) store)) (death_of o (Clearing ws) ∷ below))
      (waits_are store v o AfterFinalizer below (matches store (here store v o AfterFinalizer below) s.represents))
      (unheld_again script store v o below AfterFinalizer (Clearing []) refl refl refl refl refl s none))

  pub turn-brought_back : count_of (unheld (o ∷ []) store) o ≢ 0 → TurnSteps script store o phase_of.AfterFinalizer (unheld (o ∷ []) store) (telling (Alive o) phase_of.Over)
  turn-brought_back held =
      turn_at script store o phase_of.AfterFinalizer (unheld (o ∷ []) store) (telling (Alive o) phase_of.Over)
      (λ v below s. brought_back script store v o below AfterFinalizer (Clearing []) refl refl refl refl refl s held)

  pub turn-unheld_after_legacy : count_of (unheld (o ∷ []) store) o ≡ 0 → TurnSteps script store o phase_of.AfterLegacy (moved o Untracked (unheld (o ∷ []) store)) (going_on phase_of.Detaching)
  turn-unheld_after_legacy none =
      turn_at script store o phase_of.AfterLegacy (moved o Untracked (unheld (o ∷ []) store)) (going_on phase_of.Detaching)
      (λ v below s. unheld_again script store v o below AfterLegacy Detaching refl refl refl refl refl s none)

  pub turn-brought_back_by_legacy : count_of (unheld (o ∷ []) store) o ≢ 0 → TurnSteps script store o phase_of.AfterLegacy (unheld (o ∷ []) store) (telling (Alive o) phase_of.Over)
  turn-brought_back_by_legacy held =
      turn_at script store o phase_of.AfterLegacy (unheld (o ∷ []) store) (telling (Alive o) phase_of.Over)
      (λ v below s. brought_back script store v o below AfterLegacy Detaching refl refl refl refl refl s held)
