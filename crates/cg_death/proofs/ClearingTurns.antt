-- The turns of the phases that clear weak references.
use Rattle.std.proofs.Common.{◌≡◌, refl, sym, ◌∙◌, ap, subst, ℕ, Bool, true, false, inl, List, [], ◌∷◌, ◌++◌, Some, None}
use Rattle.std.specs.Prelude.{if◌then◌else◌, is_some, slice_get}
use Rattle.cg_script.specs.declared.Script.{Script}
use Rattle.cg_graph.specs.Member.{Includes}
use Rattle.cg_graph.specs.Rows.{Row, referent_in}
use Rattle.cg_graph.specs.Store.{Store, objects_of, waiting_for}
use Rattle.cg_graph.specs.Changes.{held}
use Rattle.cg_machine.specs.declared.event.Event.TheVariants.{Cleared}
use Rattle.cg_machine.specs.World.{World, Activity, Clearing, Calling, Detaching, Emptying}
use Rattle.cg_machine.specs.Weak.{weak_references_if, has_weak_references, loses_referent, callback_of}
use Rattle.cg_machine.specs.Dying.{death_at, clear_one, detach_one, has_finalizers}
use Rattle.cg_represents.specs.Represents.{Goes}
use Rattle.cg_heap.specs.Weak.{AreRows, cleared_weak}
use Rattle.cg_death.specs.declared.phase.Phase.TheVariants as phase_of
use Rattle.cg_death.specs.Activities.{death_of, AreNewer}
use Rattle.cg_death.specs.Answers.{DeathStands, WentOn, TurnSteps}
use Rattle.cg_death.proofs.Worlds.{append_none, went_to}
use Rattle.cg_death.proofs.TakingTurns.{going_on, telling, turn_at}
use Rattle.cg_represents.proofs.Representing.{matches}
use Rattle.cg_death.proofs.Turns.{here, waits_are, steps_to, only_phase, death}
use Rattle.cg_death.proofs.Clearing.{none_first, some_first, represents-lost, represents-waits}
use Rattle.cg_death.proofs.WeakObjects.{referring_row}

module _ (script : Script) (store : Store) (o : ℕ) where
  -- none is left to clear
  pub turn-all_cleared : slice_get (weak_references_if has_weak_references (objects_of store) o) 0 ≡ None
      → TurnSteps script store o phase_of.Clearing store (going_on phase_of.Calling)
  turn-all_cleared none =
      let ws : List ℕ = waiting_for store o in
      turn_at script store o phase_of.Clearing store (going_on phase_of.Calling)
      (λ v below s.
      only_phase store v o (Clearing ws) below script s (Calling ws)
      (ap (clear_one o ws below (here store v o (Clearing ws) below))
      (ap (λ os. weak_references_if has_weak_references os o) (sym s.represents.objects) ∙ (none_first (weak_references_if has_weak_references (objects_of store) o) none)))
      refl (λ q. refl))

  pub turn-all_detached : slice_get (weak_references_if (has_finalizers script) (objects_of store) o) 0 ≡ None
      → TurnSteps script store o phase_of.Detaching store (going_on phase_of.Emptying)
  turn-all_detached none =
      turn_at script store o phase_of.Detaching store (going_on phase_of.Emptying)
      (λ v below s.
      only_phase store v o Detaching below script s Emptying
      (ap (detach_one o below (here store v o Detaching below))
      (ap (λ os. weak_references_if (has_finalizers script) os o) (sym s.represents.objects) ∙ (none_first (weak_references_if (has_finalizers script) (objects_of store) o) none)))
      (waits_are store v o Detaching below (matches store (here store v o Detaching below) s.represents)) (λ q. refl))

-- One is cleared, by its row.
module _ (script : Script) (store : Store) (r : Row) (ok : AreRows store) (inside : Includes store.rows r) (stays : r.waits ≡ false) where
  abbrev o : ℕ
  o = r.referent

  abbrev ws : List ℕ
  ws = waiting_for store o

  abbrev left_now : Bool → Store
  left_now b = if b then cleared_weak r.weak true (held (r.weak ∷ []) store) else cleared_weak r.weak false store

  module _ (v : World) (below : List Activity) (s : DeathStands store (here store v o (Clearing ws) below) (death_of o (Clearing ws) ∷ below))
      (newer : AreNewer store o) (newest : slice_get (weak_references_if has_weak_references (objects_of store) o) 0 ≡ Some r.weak) where
    abbrev w : World
    w = here store v o (Clearing ws) below

    abbrev after : Bool → World
    after b = death_at o (Clearing (ws ++ (if b then r.weak ∷ [] else []))) below (record w { objects = loses_referent r.weak w.objects })

    step_is : (b : Bool) → is_some (callback_of (objects_of store) r.weak) ≡ b → Goes script w (Cleared r.weak ∷ []) (after b)
    step_is b has =
        let first = some_first (weak_references_if has_weak_references (objects_of store) o) r.weak newest in
        steps_to store v o (Clearing ws) below script s (Cleared r.weak ∷ []) (after b)
        (ap (clear_one o ws below w) (ap (λ os. weak_references_if has_weak_references os o) (sym s.represents.objects) ∙ first.1)
        ∙ ap (λ c. (Cleared r.weak ∷ [], after c)) (ap (λ os. is_some (callback_of os r.weak)) (sym s.represents.objects) ∙ has))

    by_callback : (b : Bool) → is_some (callback_of (objects_of store) r.weak) ≡ b → WentOn script w (Cleared r.weak ∷ []) v.numbers (left_now b)
        (death_of o (Clearing (waiting_for (left_now b) o)) ∷ below)
    by_callback true has =
        let now = represents-waits script store v r below ok inside stays newer s in
        went_to (after true) (step_is true has) now (ap (λ l. death_of o (Clearing l) ∷ below) (now.deaths (death o (Clearing (ws ++ r.weak ∷ []))) (inl refl))) (refl, refl, refl)
    by_callback false has =
        let now = represents-lost script store v r below ok inside stays (Clearing ws) (Clearing (ws ++ [])) s (append_none ws) (append_none ws) in
        went_to (after false) (step_is false has) now (ap (λ l. death_of o (Clearing l) ∷ below) (now.deaths (death o (Clearing (ws ++ []))) (inl refl))) (refl, refl, refl)

  row-cleared : AreNewer store o → slice_get (weak_references_if has_weak_references (objects_of store) o) 0 ≡ Some r.weak
      → TurnSteps script store o phase_of.Clearing (left_now (is_some (callback_of (objects_of store) r.weak))) (telling (Cleared r.weak) phase_of.Clearing)
  row-cleared newer newest =
      turn_at script store o phase_of.Clearing (left_now (is_some (callback_of (objects_of store) r.weak))) (telling (Cleared r.weak) phase_of.Clearing)
      (λ v below s. by_callback v below s newer newest (is_some (callback_of (objects_of store) r.weak)) refl)

  row-detached : slice_get (weak_references_if (has_finalizers script) (objects_of store) o) 0 ≡ Some r.weak
      → TurnSteps script store o phase_of.Detaching (cleared_weak r.weak false store) (telling (Cleared r.weak) phase_of.Detaching)
  row-detached newest =
      turn_at script store o phase_of.Detaching (cleared_weak r.weak false store) (telling (Cleared r.weak) phase_of.Detaching)
      (λ v below s.
      let u : World = here store v o Detaching below in
      let first = some_first (weak_references_if (has_finalizers script) (objects_of store) o) r.weak newest in
      went_to (death_at o Detaching below (record u { objects = loses_referent r.weak u.objects }))
      (steps_to store v o Detaching below script s (Cleared r.weak ∷ []) (death_at o Detaching below (record u { objects = loses_referent r.weak u.objects }))
      (ap (detach_one o below u) (ap (λ os. weak_references_if (has_finalizers script) os o) (sym s.represents.objects) ∙ first.1)))
      (represents-lost script store v r below ok inside stays Detaching Detaching s refl refl) refl (refl, refl, refl))

-- the same by its referent
module _ (script : Script) (store : Store) (o weak : ℕ) (ok : AreRows store) (refers : referent_in store.rows weak ≡ Some o) where
  abbrev found : (r : Row) × Includes store.rows r × (r.waits ≡ false) × ◌≡◌ {A = ℕ × ℕ} (r.referent, r.weak) (o, weak)
  found = referring_row store.rows weak o refers

  pub turn-cleared : AreNewer store o → slice_get (weak_references_if has_weak_references (objects_of store) o) 0 ≡ Some weak
      → TurnSteps script store o phase_of.Clearing (if is_some (callback_of (objects_of store) weak) then cleared_weak weak true (held (weak ∷ []) store) else cleared_weak weak false store)
      (telling (Cleared weak) phase_of.Clearing)
  turn-cleared =
      subst (λ (q : ℕ × ℕ). AreNewer store q.0 → slice_get (weak_references_if has_weak_references (objects_of store) q.0) 0 ≡ Some q.1 → TurnSteps script store q.0 phase_of.Clearing
      (if is_some (callback_of (objects_of store) q.1) then cleared_weak q.1 true (held (q.1 ∷ []) store) else cleared_weak q.1 false store) (telling (Cleared q.1) phase_of.Clearing)) found.3
      (row-cleared script store found.0 ok found.1 found.2)

  pub turn-detached : slice_get (weak_references_if (has_finalizers script) (objects_of store) o) 0 ≡ Some weak
      → TurnSteps script store o phase_of.Detaching (cleared_weak weak false store) (telling (Cleared weak) phase_of.Detaching)
  turn-detached =
      subst (λ (q : ℕ × ℕ). slice_get (weak_references_if (has_finalizers script) (objects_of store) q.0) 0 ≡ Some q.1
      → TurnSteps script store q.0 phase_of.Detaching (cleared_weak q.1 false store) (telling (Cleared q.1) phase_of.Detaching)) found.3
      (row-detached script store found.0 ok found.1 found.2)
