-- Each phase leaves a steady death.
use Rattle.std.proofs.Common.{◌≡◌, ◌≢◌, refl, sym, ◌∙◌, ap, subst, ℕ, ◌<◌, Bool, true, false, List, [], ◌∷◌, ◌++◌, Option, Some, None, arith}
use Rattle.std.specs.Prelude.{◌==◌, if◌then◌else◌, flat_map, option_map, unwrap_or}
use Rattle.std.specs.List.{All}
use Rattle.std.specs.Ordering.{nat_cmp}
use Rattle.std.specs.FinMap as fin
use Rattle.cg_value.specs.declared.KindCode.{KindCode}
use Rattle.cg_value.specs.declared.Place.{Place}
use Rattle.cg_value.specs.declared.Place.TheVariants.{Untracked, Gen}
use Rattle.cg_script.specs.declared.Script.{Script}
use Rattle.cg_graph.specs.Maps.{mapped, changed}
use Rattle.cg_graph.specs.Member.{Includes}
use Rattle.cg_graph.specs.Holdings.{occurrences}
use Rattle.cg_graph.specs.Object.{Object}
use Rattle.cg_graph.specs.Rows.{weak_references_in}
use Rattle.cg_graph.specs.Store.{Store, Node, object_from, outside_of, count_of, IsLive, waiting_for}
use Rattle.cg_graph.specs.Changes.{held, more, unheld, less, moved, with_place}
use Rattle.cg_graph.proofs.Maps.{get-mapped}
use Rattle.cg_graph.proofs.Objects.{object-at}
use Rattle.cg_machine.specs.Weak.{has_weak_references}
use Rattle.cg_machine.specs.Dying.{has_finalizers}
use Rattle.cg_heap.specs.Calls.{with_node, marked}
use Rattle.cg_heap.proofs.HoldLemmas.{outside_live, outside-held}
use Rattle.cg_heap.proofs.CallerLemmas.{lives_on, kinds-moved, kinds-with_node, kinds-unheld}
use Rattle.cg_death.specs.declared.phase.Phase.TheVariants as phase_of
use Rattle.cg_machine.specs.Holdings.{holds}
use Rattle.cg_death.specs.declared.phase.Phase.{Phase}
use Rattle.cg_death.specs.Activities.{activities, HasHolds, HaveCallbacks, IsUnheld, IsReadyForDeathAt, AreNewer}
use Rattle.cg_death.specs.Steady.{NoneWaits, passes, RefersOnlyIf, RowsFit, IsSteadyAt}
use Rattle.cg_death.proofs.Places.{only-one}
use Rattle.cg_death.proofs.UnheldStays.{unheld-moved}

-- Tests that examine only the kind and the class.
abbrev pub IsByKind : (Object → Bool) → Type 0
IsByKind test = (x y : Object) → x.code ≡ y.code → x.class ≡ y.class → test x ≡ test y

pub weak_references_by_kind : IsByKind has_weak_references
weak_references_by_kind x y code class = ap (λ (c : KindCode). has_weak_references (record x { code = c })) code

pub finalizers_by_kind : (script : Script) → IsByKind (has_finalizers script)
finalizers_by_kind script x y code class = λ i. has_finalizers script (record x { code = code i; class = class i })

-- such a test gives the same result where nodes keep both
pub passes-mapped : (test : Object → Bool) → IsByKind test → (g : ℕ → Node → Node) → ((s : ℕ) (n : Node) → (g s n).code ≡ n.code)
    → ((s : ℕ) (n : Node) → (g s n).class ≡ n.class) → (old new : Store) → new.nodes ≡ mapped g old.nodes → (o : ℕ) → passes test new o ≡ passes test old o
passes-mapped test by_kind g codes classes old new is o =
    ap (λ x. unwrap_or (option_map test x) false) (object-at new o ∙ ap (option_map (object_from new.rows o)) (ap (λ m. fin.get m o) is ∙ get-mapped g old.nodes o))
    ∙ known (fin.get old.nodes o)
    ∙ sym (ap (λ x. unwrap_or (option_map test x) false) (object-at old o))
  where
    known : (x : Option Node) → unwrap_or (option_map test (option_map (object_from new.rows o) (option_map (g o) x))) false ≡ unwrap_or (option_map test (option_map (object_from old.rows o) x)) false
    known None = refl
    known (Some n) = by_kind (object_from new.rows o (g o n)) (object_from old.rows o n) (codes o n) (classes o n)

pub passes-same : (test : Object → Bool) → IsByKind test → (old new : Store) → new.nodes ≡ old.nodes → (o : ℕ) → passes test new o ≡ passes test old o
passes-same test by_kind old new is o =
    ap (λ x. unwrap_or (option_map test x) false) (object-at new o ∙ ap (λ (m : fin.FinMap nat_cmp Node). option_map (object_from new.rows o) (fin.get m o)) is)
    ∙ known (fin.get old.nodes o)
    ∙ sym (ap (λ x. unwrap_or (option_map test x) false) (object-at old o))
  where
    known : (x : Option Node) → unwrap_or (option_map test (option_map (object_from new.rows o) x)) false ≡ unwrap_or (option_map test (option_map (object_from old.rows o) x)) false
    known None = refl
    known (Some n) = by_kind (object_from new.rows o n) (object_from old.rows o n) refl refl

-- what refers to an object, in an equal heap
only_if : (test : Object → Bool) (old new : Store) (o : ℕ) → passes test new o ≡ passes test old o → new.rows ≡ old.rows → RefersOnlyIf test old o → RefersOnlyIf test new o
only_if test old new o same rows was fails = ap (λ rs. weak_references_in rs o) rows ∙ was (sym same ∙ fails)

pub no_holds : (store : Store) → HasHolds store []
no_holds store s = omega arith

-- if no weak reference waits, every claim about the waiting ones holds
none_newer : (store : Store) (o : ℕ) → NoneWaits store o → AreNewer store o
none_newer store o none v w waits refers = absurd (subst (λ l. Includes l v) none waits)

none_without : (store : Store) (o : ℕ) → NoneWaits store o → HaveCallbacks store o
none_without store o none w waits = absurd (subst (λ l. Includes l w) none waits)

nothing_held : (store : Store) (o : ℕ) → NoneWaits store o → HasHolds store (waiting_for store o ++ [])
nothing_held store o none = subst (λ l. HasHolds store (l ++ [])) (sym none) (no_holds store)

-- A death with nothing to give up above it is steady.
pub steady_at : (script : Script) (store : Store) (o : ℕ) (phase : Phase) → IsReadyForDeathAt store o phase → HasHolds store (flat_map holds (activities o phase None store))
    → RowsFit script store o phase → All (λ r. r.weak ≢ o) store.rows → IsSteadyAt script store o phase None
steady_at script store o phase ready held rows others = record { ready = ready; during = tt; held = held; rows = rows; no_own_row = others }

-- The finalizer has run, or there is none.
pub steady-no_finalizer : (script : Script) (store : Store) (o : ℕ) → IsSteadyAt script store o phase_of.Finalizer None → IsSteadyAt script store o phase_of.Clearing None
steady-no_finalizer script store o s = steady_at script store o phase_of.Clearing (s.ready, none_newer store o s.rows.0) (nothing_held store o s.rows.0)
    (none_without store o s.rows.0, s.rows.1) s.no_own_row

-- what refers to it after it moved, and after holds are taken or given up
only-held : (test : Object → Bool) → IsByKind test → (refs : List ℕ) (store : Store) (o : ℕ) → RefersOnlyIf test store o → RefersOnlyIf test (held refs store) o
only-held test by_kind refs store o = only_if test store (held refs store) o (passes-mapped test by_kind (λ s n. more (occurrences s refs) n) (λ s n. refl)
    (λ s n. refl) store (held refs store) refl o) refl

pub only-unheld : (test : Object → Bool) → IsByKind test → (refs : List ℕ) (store : Store) (o : ℕ) → RefersOnlyIf test store o → RefersOnlyIf test (unheld refs store) o
only-unheld test by_kind refs store o = only_if test store (unheld refs store) o (passes-mapped test by_kind (λ s n. less (occurrences s refs) n) (λ s n. refl)
    (λ s n. refl) store (unheld refs store) refl o) refl

only-changed : (test : Object → Bool) → IsByKind test → (f : Node → Node) → ((n : Node) → (f n).code ≡ n.code) → ((n : Node) → (f n).class ≡ n.class) → (old new : Store) (o : ℕ)
    → new.nodes ≡ changed f o old.nodes → new.rows ≡ old.rows → RefersOnlyIf test old o → RefersOnlyIf test new o
only-changed test by_kind f codes classes old new o is rows =
    only_if test old new o (passes-mapped test by_kind (λ s n. if s == o then f n else n) (λ s n. kept (λ n. n.code) codes (s == o) n)
    (λ s n. kept (λ n. n.class) classes (s == o) n) old new is o) rows
  where
    kept : {X : Type 0} (pick : Node → X) → ((n : Node) → pick (f n) ≡ pick n) → (b : Bool) (n : Node) → pick (if b then f n else n) ≡ pick n
    kept pick same true n = same n
    kept pick same false n = refl

pub only-moved : (test : Object → Bool) → IsByKind test → (p : Place) (store : Store) (o : ℕ) → RefersOnlyIf test store o → RefersOnlyIf test (moved o p store) o
only-moved test by_kind p store o = only-changed test by_kind (with_place p) (λ n. refl) (λ n. refl) store (moved o p store) o refl refl

only-marked : (test : Object → Bool) → IsByKind test → (store : Store) (o : ℕ) → RefersOnlyIf test store o → RefersOnlyIf test (with_node marked o store) o
only-marked test by_kind store o = only-changed test by_kind marked (λ n. refl) (λ n. refl) store (with_node marked o store) o refl refl

-- a living object, held once more
own_hold : (store : Store) (o : ℕ) → IsLive store o → HasHolds (held (o ∷ []) store) (o ∷ [])
own_hold store o live s = omega (arith, outside-held (o ∷ []) store s (λ h. subst (IsLive store) (sym (only-one o s h)) live))

-- Its frame comes next.
pub steady-finalizer : (script : Script) (store : Store) (o : ℕ) → IsSteadyAt script store o phase_of.Finalizer None
    → IsSteadyAt script (held (o ∷ []) (with_node marked o (moved o (Gen 0) store))) o phase_of.AfterFinalizer None
steady-finalizer script store o s =
    let placed : Store = moved o (Gen 0) store in
    let ready : Store = with_node marked o placed in
    let live : IsLive ready o = lives_on placed ready (kinds-with_node marked (λ n. refl) o placed) o (lives_on store placed (kinds-moved o (Gen 0) store) o s.ready.live) in
    steady_at script (held (o ∷ []) ready) o phase_of.AfterFinalizer tt (own_hold ready o live) (
      s.rows.0,
      only-held has_weak_references weak_references_by_kind (o ∷ []) ready o (only-marked has_weak_references weak_references_by_kind placed o
          (only-moved has_weak_references weak_references_by_kind (Gen 0) store o s.rows.1)),
    ) s.no_own_row

pub steady-legacy : (script : Script) (store : Store) (o : ℕ) → IsSteadyAt script store o phase_of.LegacyFinalizer None
    → IsSteadyAt script (held (o ∷ []) (moved o (Gen 0) store)) o phase_of.AfterLegacy None
steady-legacy script store o s =
    let placed : Store = moved o (Gen 0) store in
    steady_at script (held (o ∷ []) placed) o phase_of.AfterLegacy tt
    (own_hold placed o (lives_on store placed (kinds-moved o (Gen 0) store) o s.ready.live)) (s.rows.0, λ fails. s.rows.1) s.no_own_row

pub steady-no_legacy : (script : Script) (store : Store) (o : ℕ) → IsSteadyAt script store o phase_of.LegacyFinalizer None → IsSteadyAt script store o phase_of.Detaching None
steady-no_legacy script store o s = steady_at script store o phase_of.Detaching s.ready (no_holds store) (s.rows.0, λ fails. s.rows.1) s.no_own_row

-- The hold of its own frame is given up, and the object is unheld,
ended_ready : (store : Store) (o : ℕ) → IsLive store o → count_of (unheld (o ∷ []) store) o ≡ 0 → IsUnheld (moved o Untracked (unheld (o ∷ []) store)) o
ended_ready store o live none = unheld-moved (unheld (o ∷ []) store) o Untracked (lives_on store (unheld (o ∷ []) store) (kinds-unheld (o ∷ []) store) o live) none

ended_only : (test : Object → Bool) → IsByKind test → (store : Store) (o : ℕ) → RefersOnlyIf test store o → RefersOnlyIf test (moved o Untracked (unheld (o ∷ []) store)) o
ended_only test by_kind store o was = only-moved test by_kind Untracked (unheld (o ∷ []) store) o (only-unheld test by_kind (o ∷ []) store o was)

pub steady-frame_ended : (script : Script) (store : Store) (o : ℕ) → 0 < outside_of store o → count_of (unheld (o ∷ []) store) o ≡ 0 → IsSteadyAt script store o
    phase_of.AfterFinalizer None → IsSteadyAt script (moved o Untracked (unheld (o ∷ []) store)) o phase_of.Clearing None
steady-frame_ended script store o has none s =
    let new : Store = moved o Untracked (unheld (o ∷ []) store) in
    steady_at script new o phase_of.Clearing (ended_ready store o (outside_live store o has) none, none_newer new o s.rows.0)
    (nothing_held new o s.rows.0) (none_without new o s.rows.0, ended_only has_weak_references weak_references_by_kind store o s.rows.1)
    s.no_own_row

pub steady-legacy_ended : (script : Script) (store : Store) (o : ℕ) → 0 < outside_of store o → count_of (unheld (o ∷ []) store) o ≡ 0 → IsSteadyAt script store
    o phase_of.AfterLegacy None → IsSteadyAt script (moved o Untracked (unheld (o ∷ []) store)) o phase_of.Detaching None
steady-legacy_ended script store o has none s =
    let new : Store = moved o Untracked (unheld (o ∷ []) store) in
    steady_at script new o phase_of.Detaching (ended_ready store o (outside_live store o has) none) (no_holds new)
    (s.rows.0, ended_only (has_finalizers script) (finalizers_by_kind script) store o s.rows.1) s.no_own_row

-- or it was resurrected, and the death is over.
pub steady-over : (script : Script) (store : Store) (o : ℕ) → All (λ r. r.weak ≢ o) store.rows → IsSteadyAt script store o phase_of.Over None
steady-over script store o = steady_at script store o phase_of.Over tt (no_holds store) tt
