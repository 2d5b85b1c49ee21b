-- What a death preserves from step to step, so that it can end if nothing else runs in between. (Ours.)
use Rattle.std.specs.Prelude.{◌≡◌, ◌≢◌, ℕ, ◌+◌, ◌≤◌, Bool, false, [], Option, None, Some, flat_map, option_map, unwrap_or}
use Rattle.std.specs.List.{All}
use Rattle.cg_script.specs.declared.Script.{Script}
use Rattle.cg_graph.specs.Member.{Includes}
use Rattle.cg_graph.specs.Object.{Object, object_at}
use Rattle.cg_graph.specs.Rows.{Row, weak_references_in}
use Rattle.cg_graph.specs.Store.{Store, objects_of, waiting_for}
use Rattle.cg_machine.specs.declared.event.FrameSort.{FrameSort}
use Rattle.cg_machine.specs.declared.event.FrameSort.TheVariants as sort_of
use Rattle.cg_machine.specs.declared.event.FrameSpec.{FrameSpec}
use Rattle.cg_machine.specs.Holdings.{holds}
use Rattle.cg_machine.specs.Weak.{has_weak_references}
use Rattle.cg_machine.specs.Dying.{has_finalizers}
use Rattle.cg_heap.specs.Keeps.{outside_total}
use Rattle.cg_death.specs.declared.answer.DeathStep.{DeathStep}
use Rattle.cg_death.specs.declared.answer.DeathStep.TheVariants as answer_of
use Rattle.cg_death.specs.declared.release.Release.{Release}
use Rattle.cg_death.specs.declared.phase.Phase.{Phase}
use Rattle.cg_death.specs.declared.phase.Phase.TheVariants as phase_of
use Rattle.cg_death.specs.declared.phase.Turn.{Turn}
use Rattle.cg_death.specs.declared.death.Death.{Death}
use Rattle.cg_death.specs.Activities.{activities, HasHolds, HaveCallbacks, IsUnheld, IsReadyForDeathAt}
use Rattle.cg_death.specs.Deaths.{IsUnheldDuring}

-- no weak reference waits with an object
abbrev pub NoneWaits : Store → ℕ → Type 0
NoneWaits store o = waiting_for store o ≡ []

-- no weak reference refers to it
abbrev pub NoneRefers : Store → ℕ → Type 0
NoneRefers store o = weak_references_in store.rows o ≡ []

-- whether an object passes a test; a serial without an object does not
abbrev pub passes : (Object → Bool) → Store → ℕ → Bool
passes test store o = unwrap_or (option_map test (object_at (objects_of store) o)) false

-- a weak reference refers to an object only if the object passes a test
abbrev pub RefersOnlyIf : (Object → Bool) → Store → ℕ → Type 0
RefersOnlyIf test store o = passes test store o ≡ false → NoneRefers store o

-- Which weak references a dying object has, phase by phase. Those that wait have a callback, and once all are cleared only
-- frames of its own make new ones. (`weakref` manual: instances and functions have weak references.)
abbrev pub RowsFit : Script → Store → ℕ → Phase → Type 0
RowsFit script store o phase_of.Finalizer = NoneWaits store o × RefersOnlyIf has_weak_references store o
RowsFit script store o phase_of.AfterFinalizer = NoneWaits store o × RefersOnlyIf has_weak_references store o
RowsFit script store o phase_of.Clearing = HaveCallbacks store o × RefersOnlyIf has_weak_references store o
RowsFit script store o phase_of.Calling = HaveCallbacks store o × NoneRefers store o
RowsFit script store o (phase_of.AfterCall weak callback) = HaveCallbacks store o × NoneRefers store o
RowsFit script store o phase_of.LegacyFinalizer = NoneWaits store o × NoneRefers store o
RowsFit script store o phase_of.AfterLegacy = NoneWaits store o × RefersOnlyIf (has_finalizers script) store o
RowsFit script store o phase_of.Detaching = NoneWaits store o × RefersOnlyIf (has_finalizers script) store o
RowsFit script store o phase_of.Emptying = Unit {0}
RowsFit script store o phase_of.Over = Unit {0}

-- A death that can take a step, with its holds. Its object is no weak reference that waits or refers.
pub record IsSteadyAt (script : Script) (store : Store) (o : ℕ) (phase : Phase) (release : Option Release) : Type 0 where
  pub ready : IsReadyForDeathAt store o phase
  pub during : IsUnheldDuring store o release
  pub held : HasHolds store (flat_map holds (activities o phase release store))
  pub rows : RowsFit script store o phase
  pub no_own_row : All (λ r. r.weak ≢ o) store.rows

abbrev pub IsSteady : Script → Death → Store → Type 0
IsSteady script d store = IsSteadyAt script store d.object d.phase d.release

-- A turn leaves a steady death.
abbrev pub TurnStaysSteady : Script → Store → ℕ → Phase → Store → Turn → Type 0
TurnStaysSteady script old o phase new turn = IsSteadyAt script old o phase None → IsSteadyAt script new o turn.phase turn.release

-- An object whose death begins in this way: if its kind has no weak references, none refers to it, and it does not wait
-- itself.
pub record IsFresh (store : Store) (o : ℕ) : Type 0 where
  pub refers : RefersOnlyIf has_weak_references store o
  pub does_not_wait : (r : Row) → Includes store.rows r → r.weak ≡ o → r.waits ≡ false

-- At most two outside holds are added: those of a removed entry.
abbrev pub TakesFewHolds : Store → Store → Type 0
TakesFewHolds old new = outside_total new ≤ outside_total old + 2

-- No name changes, and no serial is given.
abbrev pub KeepsNames : Store → Store → Type 0
KeepsNames old new = (new.names ≡ old.names) × (new.last ≡ old.last)

-- the phase after a frame was answered
abbrev pub IsPhaseAfter : FrameSpec → FrameSort → Phase → Type 0
IsPhaseAfter spec sort_of.Del phase = phase ≡ phase_of.AfterFinalizer
IsPhaseAfter spec sort_of.Legacy phase = phase ≡ phase_of.AfterLegacy
IsPhaseAfter spec sort_of.Callback phase = (f : ℕ) × (spec.func ≡ Some f) × (phase ≡ phase_of.AfterCall spec.subject f)
IsPhaseAfter spec sort_of.Call phase = ⊥

-- After the frame that it answered, a death has nothing to give up.
abbrev pub StandsAfterFrame : DeathStep → Phase → Option Release → Type 0
StandsAfterFrame (answer_of.Frame spec) phase release = IsPhaseAfter spec spec.sort phase × (release ≡ None)
StandsAfterFrame answer phase release = Unit {0}

abbrev pub DeathStandsAfterFrame : DeathStep → Death → Type 0
DeathStandsAfterFrame answer d = StandsAfterFrame answer d.phase d.release

-- The object whose death is to begin lives and is unheld.
abbrev pub DiesUnheld : DeathStep → Store → Type 0
DiesUnheld (answer_of.Died q) store = IsUnheld store q
DiesUnheld answer store = Unit {0}
