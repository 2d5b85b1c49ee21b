-- A step leaves a steady death: a reference above it is given up, or its phase has a turn. And how one begins.
use Rattle.std.proofs.Common.{◌≡◌, ◌≢◌, refl, sym, ◌∙◌, ap, subst, ℕ, Bool, true, false, List, [], ◌∷◌, ◌++◌, Option, Some, None, arith}
use Rattle.std.specs.Prelude.{flat_map, if◌then◌else◌, is_some}
use Rattle.std.specs.List.{All}
use Rattle.cg_value.specs.declared.Place.TheVariants.{Untracked}
use Rattle.cg_script.specs.declared.Script.{Script}
use Rattle.cg_graph.specs.Member.{Includes}
use Rattle.cg_graph.specs.Holdings.{occurrences}
use Rattle.cg_graph.specs.Rows.{Row, referent_in, refers_to, waits_with}
use Rattle.cg_graph.specs.Store.{Store, waiting_for}
use Rattle.cg_graph.specs.Changes.{unheld, moved}
use Rattle.cg_machine.specs.Holdings.{holds}
use Rattle.cg_machine.specs.Weak.{has_weak_references}
use Rattle.cg_machine.specs.Dying.{has_finalizers}
use Rattle.cg_represents.proofs.Lists.{occurrences-cons}
use Rattle.cg_heap.specs.Weak.{AreRows, cleared_weak}
use Rattle.cg_heap.proofs.HoldLemmas.{outside-unheld}
use Rattle.cg_death.specs.declared.release.Release.{Release}
use Rattle.cg_death.specs.declared.phase.Phase.{Phase}
use Rattle.cg_death.specs.declared.phase.Phase.TheVariants as phase_of
use Rattle.cg_death.specs.Activities.{death_activities, references_left, HasHolds, HaveCallbacks, IsUnheld, IsReadyForDeathAt}
use Rattle.cg_death.specs.Deaths.{TakesNext, forgets_referent}
use Rattle.cg_death.specs.Steady.{RowsFit, IsSteadyAt, IsFresh}
use Rattle.cg_death.proofs.WorkLeft.{entries-unheld}
use Rattle.cg_death.proofs.UnheldStays.{unheld-unheld, unheld-moved}
use Rattle.cg_heap.proofs.RowLemmas.{row_left}
use Rattle.cg_death.proofs.RowSplits.{split_at, referent-is, left-in}
use Rattle.cg_death.proofs.RowsLeft.{all_of, none_of_fewer}
use Rattle.cg_death.proofs.SteadyPhases.{weak_references_by_kind, finalizers_by_kind, only-unheld, only-moved, passes-same, no_holds, steady_at}

-- Giving up holds preserves what each phase requires.
module _ (script : Script) (store : Store) (o : ℕ) (refs : List ℕ) where
  abbrev given_up : Store
  given_up = unheld refs store

  callbacks_kept : HaveCallbacks store o → HaveCallbacks given_up o
  callbacks_kept had w waits = let one = had w waits in (one.0, entries-unheld refs store w ∙ one.1)

  ready_kept : (phase : Phase) → IsReadyForDeathAt store o phase → IsReadyForDeathAt given_up o phase
  ready_kept phase_of.AfterFinalizer u = tt
  ready_kept phase_of.AfterLegacy u = tt
  ready_kept phase_of.Over u = tt
  ready_kept phase_of.Clearing r = (unheld-unheld store o r.0 refs, r.1)
  ready_kept phase_of.Emptying r = (unheld-unheld store o r.0 refs, r.1)
  ready_kept phase_of.Calling r = (unheld-unheld store o r.0 refs, callbacks_kept r.1)
  ready_kept phase u = unheld-unheld store o u refs

  rows_kept : (phase : Phase) → RowsFit script store o phase → RowsFit script given_up o phase
  rows_kept phase_of.Finalizer r = (r.0, only-unheld has_weak_references weak_references_by_kind refs store o r.1)
  rows_kept phase_of.AfterFinalizer r = (r.0, only-unheld has_weak_references weak_references_by_kind refs store o r.1)
  rows_kept phase_of.Clearing r = (callbacks_kept r.0, only-unheld has_weak_references weak_references_by_kind refs store o r.1)
  rows_kept phase_of.Calling r = (callbacks_kept r.0, r.1)
  rows_kept (phase_of.AfterCall weak callback) r = (callbacks_kept r.0, r.1)
  rows_kept phase_of.AfterLegacy r = (r.0, only-unheld (has_finalizers script) (finalizers_by_kind script) refs store o r.1)
  rows_kept phase_of.Detaching r = (r.0, only-unheld (has_finalizers script) (finalizers_by_kind script) refs store o r.1)
  rows_kept phase r = r

pub steady-given_up : (script : Script) (store : Store) (o q : ℕ) (phase : Phase) (before after : Option Release) → TakesNext before (Some q) after
    → IsSteadyAt script store o phase before → IsSteadyAt script (unheld (q ∷ []) store) o phase after
steady-given_up script store o q phase None after takes s = absurd takes
steady-given_up script store o q phase (Some release) None takes s = absurd takes
steady-given_up script store o q phase (Some release) (Some left) takes s = record {
  ready = ready_kept script store o (q ∷ []) phase s.ready;
  during = unheld-unheld store o s.during (q ∷ []);
  held = λ p.
      let rest : List ℕ = flat_map holds (death_activities o phase (waiting_for store o)) in
      let was = s.held p in
      let is : occurrences p (references_left release ++ rest) ≡ occurrences p (q ∷ references_left left ++ rest) = ap (λ l. occurrences p (l ++ rest)) takes in
      omega (arith, was, is, outside-unheld (q ∷ []) store p, occurrences-cons p q (references_left left ++ rest), occurrences-cons p q []);
  rows = rows_kept script store o (q ∷ []) phase s.rows;
  no_own_row = s.no_own_row;
}

-- none is left to give up
pub steady-popped : (script : Script) (store : Store) (o : ℕ) (phase : Phase) (before after : Option Release) → TakesNext before None after
    → IsSteadyAt script store o phase before → IsSteadyAt script store o phase None
steady-popped script store o phase None after takes s = s
steady-popped script store o phase (Some release) after takes s = steady_at script store o phase s.ready
    (subst (λ l. HasHolds store (l ++ flat_map holds (death_activities o phase (waiting_for store o)))) takes s.held) s.rows s.no_own_row

-- A death begins: its object is untracked, and a weak reference is cleared.
module _ (script : Script) (store : Store) (o : ℕ) (ok : AreRows store) (u : IsUnheld store o) (none_waits : waiting_for store o ≡ []) (fresh : IsFresh store o) where
  abbrev placed : Store
  placed = moved o Untracked store

  begun_with : (new : Store) → new.nodes ≡ placed.nodes → IsUnheld new o → ((x : Row) → Includes new.rows x → Includes store.rows x)
      → All (λ r. r.weak ≢ o) new.rows → IsSteadyAt script new o phase_of.Finalizer None
  begun_with new nodes free inside others = steady_at script new o phase_of.Finalizer free (no_holds new) (
    none_of_fewer (waits_with o) store.rows new.rows inside none_waits,
    λ fails. none_of_fewer (refers_to o) store.rows new.rows inside (only-moved has_weak_references weak_references_by_kind Untracked store o fresh.refers
        (sym (passes-same has_weak_references weak_references_by_kind placed new nodes o) ∙ fails)),
  ) others

  placed_unheld : IsUnheld placed o
  placed_unheld = unheld-moved store o Untracked u.live u.none

  no_row : is_some (referent_in store.rows o) ≡ false → (r : Row) → Includes store.rows r → r.weak ≢ o
  no_row none r m same =
      let stays = fresh.does_not_wait r m same in
      let refers : referent_in store.rows o ≡ Some r.referent = ap (referent_in store.rows) (sym same) ∙ referent-is store.rows r (split_at store.rows r ok.rise m) stays in
      absurd (let no : true ≡ false = sym (ap is_some refers) ∙ none in cc)

  pub steady-begun : IsSteadyAt script (forgets_referent o placed) o phase_of.Finalizer None
  steady-begun = known (is_some (referent_in store.rows o)) refl
    where
      known : (b : Bool) → is_some (referent_in store.rows o) ≡ b → IsSteadyAt script (if b then cleared_weak o false placed else placed) o phase_of.Finalizer None
      known true has = begun_with (cleared_weak o false placed) refl (record { live = placed_unheld.live; none = placed_unheld.none }) (left-in o store.rows) (row_left o store.rows)
      known false none = begun_with placed refl placed_unheld (λ x m. m) (all_of (λ r. r.weak ≢ o) store.rows (no_row none))
