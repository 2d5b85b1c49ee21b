-- What the parts of the start leave: the untracked objects, and the uncollectable ones. (Developer guide, "optimization:
-- delay tracking containers"; `gc` manual, `gc.garbage`.)
use Rattle.std.specs.Prelude.{◌≡◌, ◌≢◌, ℕ, ◌+◌, Bool, true, false, ◌⊎◌, List, ◌++◌, length, None, slice_get, option_and_then, is_some, if◌then◌else◌}
use Rattle.std.specs.List.{list_any}
use Rattle.std.specs.FinMap as fin
use Rattle.cg_value.specs.declared.Place.TheVariants.{Untracked, Gen, Frozen, Cand, Legacy}
use Rattle.cg_value.specs.declared.KindCode.{KindCode}
use Rattle.cg_value.specs.declared.KindCode.TheVariants.{Tuple, Dict}
use Rattle.cg_script.specs.declared.Script.{Script}
use Rattle.cg_graph.specs.Member.{Includes}
use Rattle.cg_graph.specs.Value.{references}
use Rattle.cg_graph.specs.Object.{object_at}
use Rattle.cg_graph.specs.Reach.{Reach, edges}
use Rattle.cg_graph.specs.Reachable.{graph_at, StandsAt}
use Rattle.cg_graph.specs.Store.{Store, HasCode, list_at, objects_of, entries_of, place_of}
use Rattle.cg_graph.specs.Changes.{moved}
use Rattle.cg_machine.specs.Program.{legacy_of}
use Rattle.cg_machine.specs.Collect.{merged_place, older, has_flag, collectable}
use Rattle.cg_heap.specs.Calls.{node_may_be_tracked}
use Rattle.cg_trial.specs.Split.{IsSameButPlaces}
use Rattle.cg_collect.specs.declared.phase.Phase.{Phase}
use Rattle.cg_collect.specs.declared.phase.Phase.TheVariants as phase_of

-- the phase that prints the sizes that the generations had
abbrev pub told_sizes : Store → Phase
told_sizes store = phase_of.Sizes (length (list_at store (Gen 0))) (length (list_at store (Gen 1))) (length (list_at store (Gen 2))) (length (list_at store Frozen))

-- the weak phase, starting with the first condemned object
abbrev pub told_weak : Store → Phase
told_weak store = phase_of.WeakClearing (slice_get (list_at store Cand) 0) None

-- the phase that prints the condemned objects, if they are to be printed
abbrev pub told_if : Bool → Store → Phase
told_if b store = if b then phase_of.Telling (slice_get (list_at store Cand) 0) else told_weak store

-- with COLLECTABLE they are
abbrev pub told_after_sizes : ℕ → Store → Phase
told_after_sizes flags store = told_if (has_flag flags collectable) store

-- the phase after the start; the sizes come first, if they are to be printed
abbrev pub told_start : Bool → Bool → Store → Store → Phase
told_start true b old store = told_sizes old
told_start false b old store = told_if b store

-- an object stays where it was
abbrev pub StaysAt : Store → Store → ℕ → Type 0
StaysAt old new o = place_of new o ≡ place_of old o

-- the generations below one are merged into it
pub record MergesYounger (g : ℕ) (old new : Store) : Type 0 where
  pub same : IsSameButPlaces old new
  pub places : (o : ℕ) → place_of new o ≡ merged_place g (place_of old o)

-- the objects of a generation move to the older one
pub record GetOlder (g : ℕ) (old new : Store) : Type 0 where
  pub same : IsSameButPlaces old new
  pub moved : (o : ℕ) → place_of old o ≡ Gen g → place_of new o ≡ Gen (older g)
  pub others : (o : ℕ) → place_of old o ≢ Gen g → StaysAt old new o

-- whether an object has a reference that may be tracked
abbrev pub has_tracked : Store → ℕ → Bool
has_tracked store o = list_any (λ p. node_may_be_tracked (fin.get store.nodes p)) (references (entries_of store o))

-- an object of a kind was untracked: afterwards it has no reference that may be tracked
pub record WasUntracked (g : ℕ) (kind : KindCode) (old new : Store) (o : ℕ) : Type 0 where
  pub stood : place_of old o ≡ Gen g
  pub stands : place_of new o ≡ Untracked
  pub of_kind : HasCode old o kind
  pub none_tracked : has_tracked new o ≡ false

-- A pass over the objects of a kind in a generation untracks those that it could untrack at once, and none that it could not
-- untrack at its end.
pub record Untracks (g : ℕ) (kind : KindCode) (old new : Store) : Type 0 where
  pub same : IsSameButPlaces old new
  pub at_least : (o : ℕ) → place_of old o ≡ Gen g → HasCode old o kind → has_tracked old o ≡ false → place_of new o ≡ Untracked
  pub at_most : (o : ℕ) → StaysAt old new o ⊎ WasUntracked g kind old new o

-- one object is untracked, if it is of the kind and has no reference that may be tracked
abbrev pub UntracksOne : ℕ → KindCode → Store → Store → Type 0
UntracksOne o kind old new =
    ((new ≡ moved o Untracked old) × HasCode old o kind × (has_tracked old o ≡ false)) ⊎ ((new ≡ old) × ¬ (HasCode old o kind × (has_tracked old o ≡ false)))

-- tuples are untracked, and then, in a collection of 2, dictionaries
pub record UntracksSurvivors (g : ℕ) (old new : Store) : Type 0 where
  pub between : Store
  pub tuples : Untracks g Tuple old between
  pub dictionaries : g ≡ 2 → Untracks 2 Dict between new
  pub younger : g ≢ 2 → new ≡ between

-- whether the class of an object has a legacy finalizer
abbrev pub has_legacy_in : Script → Store → ℕ → Bool
has_legacy_in script store o = is_some (option_and_then (legacy_of script) (object_at (objects_of store) o))

-- a candidate with a legacy finalizer, or one reachable from such a candidate through candidates
abbrev pub IsLedByLegacy : Script → Store → ℕ → Type 0
IsLedByLegacy script store o = Reach (λ x. has_legacy_in script store x ≡ true) (StandsAt store Cand) (edges (graph_at store Cand)) o

-- exactly these are set aside
pub record SetsLegacyAside (script : Script) (old new : Store) : Type 0 where
  pub same : IsSameButPlaces old new
  pub aside : (o : ℕ) → IsLedByLegacy script old o → place_of new o ≡ Legacy
  pub others : (o : ℕ) → StaysAt old new o ⊎ IsLedByLegacy script old o

-- the candidates with a legacy finalizer are set aside
pub record SetsFinalizedAside (script : Script) (old new : Store) : Type 0 where
  pub same : IsSameButPlaces old new
  pub aside : (o : ℕ) → place_of old o ≡ Cand → has_legacy_in script old o ≡ true → place_of new o ≡ Legacy
  pub others : (o : ℕ) → StaysAt old new o ⊎ ((place_of old o ≡ Cand) × (place_of new o ≡ Legacy) × (has_legacy_in script old o ≡ true))

-- The candidates among some references go to the end of the list of uncollectable objects.
pub record SetsReferencesAside (refs : List ℕ) (old new : Store) : Type 0 where
  pub same : IsSameButPlaces old new
  pub more : List ℕ
  pub behind : list_at new Legacy ≡ list_at old Legacy ++ more
  pub fewer : length (list_at new Cand) + length more ≡ length (list_at old Cand)
  pub aside : (o : ℕ) → Includes refs o → place_of new o ≢ Cand
  pub others : (o : ℕ) → StaysAt old new o ⊎ ((place_of old o ≡ Cand) × (place_of new o ≡ Legacy) × Includes refs o)

-- a reference of an uncollectable object
abbrev pub IsHeldByLegacy : Store → ℕ → Type 0
IsHeldByLegacy store o = (q : ℕ) × (place_of store q ≡ Legacy) × Includes (references (entries_of store q)) o

-- a candidate reachable through candidates from an uncollectable one
abbrev pub FollowsLegacy : Store → ℕ → Type 0
FollowsLegacy store o = Reach (IsHeldByLegacy store) (StandsAt store Cand) (edges (graph_at store Cand)) o

-- everything reachable from the uncollectable objects among the candidates is found
pub record Closes (old new : Store) : Type 0 where
  pub same : IsSameButPlaces old new
  pub closed : (q p : ℕ) → place_of new q ≡ Legacy → Includes (references (entries_of old q)) p → place_of new p ≢ Cand
  pub others : (o : ℕ) → StaysAt old new o ⊎ ((place_of new o ≡ Legacy) × FollowsLegacy old o)
