-- Which activities of the machine a release and a death represent, and what they hold. (Ours.)
use Rattle.std.specs.Prelude.{◌≡◌, ℕ, ◌≤◌, ◌<◌, ◌++◌, List, [], ◌∷◌, Option, Some, None, option_to_list}
use Rattle.cg_value.specs.declared.Val.TheVariants.{Ref}
use Rattle.cg_graph.specs.Member.{Includes}
use Rattle.cg_graph.specs.Value.{item}
use Rattle.cg_graph.specs.Holdings.{occurrences}
use Rattle.cg_graph.specs.Rows.{weak_references_in}
use Rattle.cg_graph.specs.Store.{Store, IsLive, entries_of, outside_of, count_of, waiting_for}
use Rattle.cg_machine.specs.World as machine
use Rattle.cg_machine.specs.World.{Activity, Releasing, Dying}
use Rattle.cg_heap.specs.Weak.{IsInNoRow}
use Rattle.cg_death.specs.declared.release.Release.{Release}
use Rattle.cg_death.specs.declared.phase.Phase.{Phase}
use Rattle.cg_death.specs.declared.phase.Phase.TheVariants as phase_of

-- the references that a release is still to give up
abbrev pub references_left : Release → List ℕ
references_left release = option_to_list release.first ++ option_to_list release.second

-- the death of an object at a phase of the machine
abbrev pub death_of : ℕ → machine.DyingPhase → Activity
death_of o phase = Dying (record { object = o; phase = phase })

-- A death as an activity, given the weak references that wait with its object. None if it is over.
abbrev pub death_activities : ℕ → Phase → List ℕ → List Activity
death_activities o phase_of.Finalizer waiting = death_of o machine.Finalizer ∷ []
death_activities o phase_of.AfterFinalizer waiting = death_of o machine.AfterFinalizer ∷ []
death_activities o phase_of.Clearing waiting = death_of o (machine.Clearing waiting) ∷ []
death_activities o phase_of.Calling waiting = death_of o (machine.Calling waiting) ∷ []
death_activities o (phase_of.AfterCall weak callback) waiting = death_of o (machine.AfterCall weak callback waiting) ∷ []
death_activities o phase_of.LegacyFinalizer waiting = death_of o machine.LegacyFinalizer ∷ []
death_activities o phase_of.AfterLegacy waiting = death_of o machine.AfterLegacy ∷ []
death_activities o phase_of.Detaching waiting = death_of o machine.Detaching ∷ []
death_activities o phase_of.Emptying waiting = death_of o machine.Emptying ∷ []
death_activities o phase_of.Over waiting = []

-- The references to give up are above it.
abbrev pub activities : ℕ → Phase → Option Release → Store → List Activity
activities o phase None store = death_activities o phase (waiting_for store o)
activities o phase (Some release) store = Releasing (references_left release) ∷ death_activities o phase (waiting_for store o)

-- Each reference of a list is an outside hold of its object.
abbrev pub HasHolds : Store → List ℕ → Type 0
HasHolds store references = (s : ℕ) → occurrences s references ≤ outside_of store s

-- an unheld object
pub record IsUnheld (store : Store) (o : ℕ) : Type 0 where
  pub live : IsLive store o
  pub none : count_of store o ≡ 0

-- Weak references to an object are cleared newest first: those that wait with it are newer than those that still refer to
-- it. (`weakref` manual: callbacks are called from the most recently registered on. That they are cleared in this order
-- is ours.)
abbrev pub AreNewer : Store → ℕ → Type 0
AreNewer store o = (v w : ℕ) → Includes (waiting_for store o) v → Includes (weak_references_in store.rows o) w → w < v

-- a weak reference has a callback: its only entry
abbrev pub HasCallback : Store → ℕ → Type 0
HasCallback store weak = (f : ℕ) × (entries_of store weak ≡ item (Ref f) ∷ [])

-- each weak reference that waits with an object has a callback
abbrev pub HaveCallbacks : Store → ℕ → Type 0
HaveCallbacks store o = (w : ℕ) → Includes (waiting_for store o) w → HasCallback store w

-- what a death itself holds at a phase, not counting the waiting weak references
abbrev pub own_holds_at : ℕ → Phase → List ℕ
own_holds_at o phase_of.AfterFinalizer = o ∷ []
own_holds_at o (phase_of.AfterCall weak callback) = callback ∷ weak ∷ []
own_holds_at o phase_of.AfterLegacy = o ∷ []
own_holds_at o phase = []

-- What a phase requires of the heap: of its object, which is unheld except at the end of its own frames, and of its
-- weak references. (PEP 442: an object is held while its own finalizer runs.)
abbrev pub IsReadyForDeathAt : Store → ℕ → Phase → Type 0
IsReadyForDeathAt store o phase_of.Finalizer = IsUnheld store o
IsReadyForDeathAt store o phase_of.AfterFinalizer = Unit {0}
IsReadyForDeathAt store o phase_of.Clearing = IsUnheld store o × AreNewer store o
IsReadyForDeathAt store o phase_of.Calling = IsUnheld store o × HaveCallbacks store o
IsReadyForDeathAt store o (phase_of.AfterCall weak callback) = IsUnheld store o
IsReadyForDeathAt store o phase_of.LegacyFinalizer = IsUnheld store o
IsReadyForDeathAt store o phase_of.AfterLegacy = Unit {0}
IsReadyForDeathAt store o phase_of.Detaching = IsUnheld store o
IsReadyForDeathAt store o phase_of.Emptying = IsUnheld store o × IsInNoRow o store.rows
IsReadyForDeathAt store o phase_of.Over = Unit {0}
