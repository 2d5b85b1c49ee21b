-- What the steps of releases and deaths may answer, in every world that the heap represents. (Ours.)
use Rattle.std.specs.Prelude.{◌≡◌, ◌≢◌, ℕ, ◌≤◌, ◌-◌, Bool, true, false, List, [], ◌∷◌, ◌++◌, None, count_by, ◌==◌, if◌then◌else◌, length}
use Rattle.cg_script.specs.declared.Script.{Script}
use Rattle.cg_graph.specs.Member.{Includes}
use Rattle.cg_graph.specs.Store.{Store, count_of, objects_of}
use Rattle.cg_graph.specs.Changes.{unheld}
use Rattle.cg_machine.specs.declared.event.Event.{Event}
use Rattle.cg_machine.specs.declared.event.Event.TheVariants.{Free, Alive, Cleared}
use Rattle.cg_machine.specs.declared.event.FrameSort.{FrameSort}
use Rattle.cg_machine.specs.declared.event.FrameSort.TheVariants as sort_of
use Rattle.cg_machine.specs.declared.event.FrameSpec.{FrameSpec}
use Rattle.cg_machine.specs.World.{World, Activity, Releasing, Dying, Death, Numbers, Running}
use Rattle.cg_machine.specs.Holdings.{holdings, is_death_of}
use Rattle.cg_represents.specs.Orderly.{IsHeldInItsFramesAlone}
use Rattle.cg_represents.specs.Represents.{Represents, GoesOn, HandsOutDeath, HandsOutFrame}
use Rattle.cg_death.specs.declared.phase.Phase.{Phase}
use Rattle.cg_death.specs.declared.phase.Phase.TheVariants as phase_of
use Rattle.cg_death.specs.declared.phase.Turn.{Turn}
use Rattle.cg_death.specs.Activities.{activities}
use Rattle.cg_death.specs.declared.answer.DeathStep.{DeathStep}
use Rattle.cg_death.specs.declared.answer.DeathStep.TheVariants as answer_of

-- The heap represents a running world with these activities. The laws of every run about deaths hold there: a dying
-- object is held only by its own death, and dies once at a time.
pub record DeathStands (store : Store) (w : World) (stack : List Activity) : Type 0 where
  pub represents : Represents store w
  pub top : w.stack ≡ stack
  pub running : w.outcome ≡ Running
  pub unheld : (d : Death) → Includes w.stack (Dying d) → IsHeldInItsFramesAlone d.object d.phase (holdings w)
  pub once : (o : ℕ) → count_by (is_death_of o) w.stack ≤ 1

-- what no step of a death or a release changes, except the numbers: it starts no frame itself and ends no run
pub record DeathKeeps (w : World) (wanted : Numbers) (after : World) : Type 0 where
  pub numbers : after.numbers ≡ wanted
  pub budget : after.budget ≡ w.budget
  pub outcome : after.outcome ≡ w.outcome

-- It went on, and printed zero or more lines.
pub record WentOn (script : Script) (w : World) (events : List Event) (numbers : Numbers) (store : Store) (stack : List Activity) : Type 0 where
  pub goes : GoesOn script w events store stack
  pub keeps : DeathKeeps w numbers goes.after

-- It answers an object whose death is to begin.
pub record GaveDeath (script : Script) (w : World) (o : ℕ) (store : Store) (stack : List Activity) : Type 0 where
  pub hands : HandsOutDeath script w o store stack
  pub keeps : DeathKeeps w w.numbers hands.before

-- It answers a frame.
pub record GaveFrame (script : Script) (w : World) (spec : FrameSpec) (store : Store) (stack : List Activity) : Type 0 where
  pub hands : HandsOutFrame script w spec store stack
  pub keeps : DeathKeeps w w.numbers hands.before

-- what a step of a release leaves of a heap, with these references left
abbrev pub once_released : List ℕ → Store → Store
once_released [] store = store
once_released (o ∷ references) store = unheld (o ∷ []) store

-- and what it answers, by the in-degree that the first one's object then has
abbrev pub release_answer : List ℕ → Store → DeathStep
release_answer [] new = answer_of.Gone
release_answer (o ∷ references) new = if count_of new o == 0 then answer_of.Died o else answer_of.Continue

-- what it may answer in a world of the machine
abbrev pub ReleaseAnswer : Script → World → List Activity → Store → List ℕ → DeathStep → Type 0
ReleaseAnswer script w below store left answer_of.Continue = WentOn script w [] w.numbers store (Releasing left ∷ below)
ReleaseAnswer script w below store left (answer_of.Emit event) = ⊥
ReleaseAnswer script w below store left (answer_of.Frame spec) = ⊥
ReleaseAnswer script w below store left (answer_of.Died o) = GaveDeath script w o store (Releasing left ∷ below)
ReleaseAnswer script w below store left answer_of.Gone = WentOn script w [] w.numbers store below

-- The answer is right in every world that the heap represented before the call.
abbrev pub ReleaseSteps : Store → List ℕ → Store → List ℕ → DeathStep → Type 0
ReleaseSteps old left new left_after answer =
    (script : Script) (w : World) (below : List Activity) → DeathStands old w (Releasing left ∷ below) → ReleaseAnswer script w below new left_after answer

-- the numbers after a line: freeing an object lowers count 0 (developer guide, "optimization: generations")
abbrev pub numbers_after : Event → Numbers → Numbers
numbers_after (Free o) numbers = record numbers { zero_count = numbers.zero_count - 1 }
numbers_after event numbers = numbers

-- what a step of a death answers; the stack is what the death then represents, above what lies below
abbrev pub DeathAnswer : Script → World → Store → List Activity → DeathStep → Type 0
DeathAnswer script w store stack answer_of.Continue = WentOn script w [] w.numbers store stack
DeathAnswer script w store stack (answer_of.Emit event) = WentOn script w (event ∷ []) (numbers_after event w.numbers) store stack
DeathAnswer script w store stack (answer_of.Frame spec) = GaveFrame script w spec store stack
DeathAnswer script w store stack (answer_of.Died o) = GaveDeath script w o store stack
DeathAnswer script w store stack answer_of.Gone = WentOn script w [] w.numbers store stack

-- The answer is right in every world that the heap represented before the call.
abbrev pub DeathSteps : Script → Store → List Activity → Store → List Activity → DeathStep → Type 0
DeathSteps script old tops new tops_after answer = (w : World) (below : List Activity) → DeathStands old w (tops ++ below) → DeathAnswer script w new (tops_after ++ below) answer

-- the same for a turn of a phase
abbrev pub TurnSteps : Script → Store → ℕ → Phase → Store → Turn → Type 0
TurnSteps script old o phase new turn = DeathSteps script old (activities o phase None old) new (activities o turn.phase turn.release new) turn.answer

-- which frames a phase answers (PEP 442: a finalizer; `weakref` manual: callbacks)
abbrev pub CallsAt : Phase → FrameSort → Type 0
CallsAt phase_of.Finalizer sort = sort ≡ sort_of.Del
CallsAt phase_of.Calling sort = sort ≡ sort_of.Callback
CallsAt phase_of.LegacyFinalizer sort = sort ≡ sort_of.Legacy
CallsAt phase sort = ⊥

-- which lines it prints
abbrev pub TellsAt : ℕ → Phase → Event → Type 0
TellsAt o phase_of.AfterFinalizer event = event ≡ Alive o
TellsAt o phase_of.Clearing event = (w : ℕ) × (event ≡ Cleared w)
TellsAt o phase_of.AfterLegacy event = event ≡ Alive o
TellsAt o phase_of.Detaching event = (w : ℕ) × (event ≡ Cleared w)
TellsAt o phase_of.Emptying event = event ≡ Free o
TellsAt o phase event = ⊥

-- The cause of each answer: lines and frames come in their phases, another object's death only if that object is unheld,
-- and the end only if the death is over.
abbrev pub IsCaused : ℕ → Phase → Store → DeathStep → Type 0
IsCaused o phase new answer_of.Continue = Unit {0}
IsCaused o phase new (answer_of.Emit event) = TellsAt o phase event
IsCaused o phase new (answer_of.Frame spec) = CallsAt phase spec.sort
IsCaused o phase new (answer_of.Died q) = (count_of new q ≡ 0) × (q ≢ o)
IsCaused o phase new answer_of.Gone = phase ≡ phase_of.Over

-- the answers after which a death may be over: a line, or that it ended
abbrev pub may_end : DeathStep → Bool
may_end (answer_of.Emit event) = true
may_end answer_of.Gone = true
may_end answer = false

-- No object is made and no name changes: there are at most as many objects as before, and the names are the same.
pub record MakesNone (old new : Store) : Type 0 where
  pub objects : length (objects_of new) ≤ length (objects_of old)
  pub names : new.names ≡ old.names
