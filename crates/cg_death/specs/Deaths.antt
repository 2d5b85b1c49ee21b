-- A death as its callers see it. (Ours.)
use Rattle.std.specs.Prelude.{◌≡◌, ◌≢◌, ℕ, List, [], ◌∷◌, Option, Some, None, flat_map, false, is_some, if◌then◌else◌}
use Rattle.cg_graph.specs.Rows.{referent_in}
use Rattle.cg_graph.specs.Store.{Store}
use Rattle.cg_machine.specs.World.{Activity}
use Rattle.cg_machine.specs.Holdings.{holds}
use Rattle.cg_heap.specs.Weak.{cleared_weak}
use Rattle.cg_death.specs.declared.release.Release.{Release}
use Rattle.cg_death.specs.declared.phase.Phase.{Phase}
use Rattle.cg_death.specs.declared.phase.Phase.TheVariants as phase_of
use Rattle.cg_death.specs.declared.phase.Turn.{Turn}
use Rattle.cg_death.specs.declared.death.Death.{Death}
use Rattle.cg_death.specs.Activities.{activities, references_left, IsUnheld, IsReadyForDeathAt}
use Rattle.cg_death.specs.declared.answer.DeathStep.{DeathStep}
use Rattle.cg_death.specs.Answers.{IsCaused, may_end}
use Rattle.cg_death.specs.Falls.{Falls, still_released}

-- the object that dies
abbrev pub object_of : Death → ℕ
object_of d = d.object

-- what a death represents on top of the machine's stack
abbrev pub on_stack : Death → Store → List Activity
on_stack d store = activities d.object d.phase d.release store

-- what it holds: references still to be given up, and what its phase holds
abbrev pub held_by : Death → Store → List ℕ
held_by d store = flat_map holds (on_stack d store)

-- while references are given up, the object is unheld
abbrev pub IsUnheldDuring : Store → ℕ → Option Release → Type 0
IsUnheldDuring store o None = Unit {0}
IsUnheldDuring store o (Some release) = IsUnheld store o

-- What a step requires of the heap; commands, frames and other deaths may have changed it since the step before.
abbrev pub IsReadyForDeath : Death → Store → Type 0
IsReadyForDeath d store = IsReadyForDeathAt store d.object d.phase × IsUnheldDuring store d.object d.release

-- references are given up in the phases that call callbacks and remove entries
abbrev pub GivesUpAt : Phase → Type 0
GivesUpAt phase_of.Calling = Unit {0}
GivesUpAt phase_of.Emptying = Unit {0}
GivesUpAt phase = ⊥

-- and in no other phase
abbrev pub IsSettledAt : Phase → Option Release → Type 0
IsSettledAt phase None = Unit {0}
IsSettledAt phase (Some release) = GivesUpAt phase

-- the same of a death
abbrev pub IsSettled : Death → Type 0
IsSettled d = IsSettledAt d.phase d.release

-- Something of a death is on the stack, whatever the heap,
abbrev pub IsGoing : Death → Type 0
IsGoing d = (store : Store) → on_stack d store ≢ []

-- or nothing of it is.
abbrev pub IsOffStack : Death → Type 0
IsOffStack d = (store : Store) → on_stack d store ≡ []

-- After any answer but a line or the end, the death has something left to do.
abbrev pub IsGoingAfter : DeathStep → Death → Type 0
IsGoingAfter answer d = may_end answer ≡ false → IsGoing d

-- the object was freed or resurrected
abbrev pub IsOver : Death → Type 0
IsOver d = (d.phase ≡ phase_of.Over) × (still_released d.release ≡ 0)

-- a turn that leaves nothing of a death
abbrev pub EndsSo : Turn → Type 0
EndsSo turn = (turn.phase ≡ phase_of.Over) × (turn.release ≡ None)

-- A step that goes on without an answer reaches a later pass, or leaves less in the same pass.
abbrev pub DeathFalls : Death → Store → Death → Store → Type 0
DeathFalls old store new after = Falls old.object store old.phase old.release after new.phase new.release

-- the cause of an answer
abbrev pub HasCause : Death → Store → DeathStep → Type 0
HasCause d new answer = IsCaused d.object d.phase new answer

-- The first reference still to be given up is taken, if there is one.
abbrev pub TakesNext : Option Release → Option ℕ → Option Release → Type 0
TakesNext None None after = Unit {0}
TakesNext None (Some o) after = ⊥
TakesNext (Some release) None after = references_left release ≡ []
TakesNext (Some release) (Some o) None = ⊥
TakesNext (Some release) (Some o) (Some left) = references_left release ≡ o ∷ references_left left

-- A weak reference is cleared. (`weakref` manual: a weak reference that is gone calls nothing.)
abbrev pub forgets_referent : ℕ → Store → Store
forgets_referent o store = if is_some (referent_in store.rows o) then cleared_weak o false store else store
