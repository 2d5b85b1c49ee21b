-- What a turn of an engine answers: what the machine does. (Ours.)
use Rattle.std.specs.Prelude.{◌≡◌, ◌≢◌, Bool, true, false, ℕ, ◌+◌, ◌*◌, ◌≤◌, length, List, [], ◌∷◌, ◌⊎◌, count_by}
use Rattle.cg_script.specs.declared.Script.{Script}
use Rattle.cg_script.specs.declared.limits.TheConstants.{MOST_BUDGET}
use Rattle.cg_machine.specs.declared.event.Event.{Event}
use Rattle.cg_machine.specs.declared.event.Event.TheVariants.{End, BudgetSpent, Enter, Left}
use Rattle.cg_machine.specs.declared.event.FrameSort.{FrameSort}
use Rattle.cg_machine.specs.World as machine
use Rattle.cg_machine.specs.World.{World, Outcome, Ended, BudgetIsSpent, Dying}
use Rattle.cg_graph.specs.Member.{Includes}
use Rattle.cg_graph.specs.Store.{objects_of}
use Rattle.cg_machine.specs.Holdings.{holdings, is_death_of}
use Rattle.cg_represents.specs.Orderly.{IsHeldInItsFramesAlone}
use Rattle.cg_machine.specs.Frame.{Transition, begin_death}
use Rattle.cg_machine.specs.Run.{StepTaken, Run, last_world}
use Rattle.cg_represents.specs.Represents.{Goes}
use Rattle.cg_death.specs.declared.death.Death.{Death}
use Rattle.cg_death.specs.Deaths.{IsGoing, IsOffStack}
use Rattle.cg_interp.specs.declared.activity.Activity.{Activity}
use Rattle.cg_interp.specs.declared.activity.Activity.TheVariants as activity
use Rattle.cg_interp.specs.declared.turned.Turned.{Turned}
use Rattle.cg_interp.specs.declared.turned.Turned.TheVariants as turned
use Rattle.cg_interp.specs.Engines.{State, StandsFor}

-- The machine made a transition: its lines are those answered, and the engine represents its world, or the run has
-- ended.
abbrev pub Makes : Script → Transition → State → Turned → Type 0
Makes script transition e turned.Quiet = (transition.0 ≡ []) × StandsFor script e transition.1
Makes script transition e (turned.Line event) = (transition.0 ≡ event ∷ []) × StandsFor script e transition.1
Makes script transition e (turned.Lines events) = (transition.0 ≡ events) × StandsFor script e transition.1
Makes script transition e turned.Ended = (transition.0 ≡ End ∷ []) × (transition.1.outcome ≡ Ended)
Makes script transition e (turned.Left n) = (transition.0 ≡ Left n ∷ End ∷ []) × (transition.1.outcome ≡ Ended)
Makes script transition e turned.Spent = (transition.0 ≡ BudgetSpent ∷ []) × (transition.1.outcome ≡ BudgetIsSpent)

-- the answer where a frame was to start: that it did, or that the budget is spent
abbrev pub entered : FrameSort → ℕ → Bool → Turned
entered sort serial true = turned.Line (Enter sort serial)
entered sort serial false = turned.Spent

-- The machine goes on, with these lines, to a world that the engine represents.
pub record GoesTo (script : Script) (w : World) (events : List Event) (e : State) : Type 0 where
  pub after : World
  pub goes : Goes script w events after
  pub moves : goes.steps ≢ []
  pub stands : StandsFor script e after

-- The run ends in this way, with these lines.
pub record RunEndsWith (script : Script) (w : World) (lines : List Event) (outcome : Outcome) : Type 0 where
  pub after : World
  pub goes : Goes script w lines after
  pub ended : after.outcome ≡ outcome

-- what a turn answers
abbrev pub Turns : Script → World → State → Turned → Type 0
Turns script w e turned.Quiet = GoesTo script w [] e
Turns script w e (turned.Line event) = GoesTo script w (event ∷ []) e
Turns script w e (turned.Lines events) = GoesTo script w events e
Turns script w e turned.Ended = RunEndsWith script w (End ∷ []) Ended
Turns script w e (turned.Left n) = RunEndsWith script w (Left n ∷ End ∷ []) Ended
Turns script w e turned.Spent = RunEndsWith script w (BudgetSpent ∷ []) BudgetIsSpent

-- The machine goes on, without a line, to a world in which the death of an object has begun; the engine represents the
-- world just before.
pub record GivesDeath (script : Script) (w : World) (o : ℕ) (e : State) : Type 0 where
  pub before : World
  pub goes : Goes script w [] (begin_death o before)
  pub moves : goes.steps ≢ []
  pub stands : StandsFor script e before

-- The laws on deaths: a dying object is held only by its own death, and dies once at a time.
pub record DyingIsSound (w : World) : Type 0 where
  pub unheld : (d : machine.Death) → Includes w.stack (Dying d) → IsHeldInItsFramesAlone d.object d.phase (holdings w)
  pub once : (o : ℕ) → count_by (is_death_of o) w.stack ≤ 1

-- They hold in every world that the machine reaches.
abbrev pub StaysSound : Script → World → Type 0
StaysSound script w = (steps : List StepTaken) → Run script w steps → DyingIsSound (last_world w steps)

-- A death stands on top of these activities, or nothing of it is left.
abbrev pub StaysOn : Death → List Activity → List Activity → Type 0
StaysOn d below activities = (IsGoing d × (activities ≡ activity.Dying d ∷ below)) ⊎ (IsOffStack d × (activities ≡ below))

-- What a turn without a new object keeps: there are no more objects, the stack may grow as high as before, the number of
-- names and the first budget are the same.
pub record TurnKeeps (old new : State) : Type 0 where
  pub objects : length (objects_of new.store) ≤ length (objects_of old.store)
  pub room : length old.activities + old.room ≤ length new.activities + new.room
  pub names : length new.store.names ≡ length old.store.names
  pub first_budget : new.first_budget ≡ old.first_budget

-- Room for all possible activities: the frames of the first budget, and the deaths and releases of all objects.
abbrev pub HasRoom : State → Type 0
HasRoom e = e.first_budget + 2 * length (objects_of e.store) + 8 ≤ length e.activities + e.room

-- the invariant of an engine from turn to turn
pub record IsFit (script : Script) (e : State) : Type 0 where
  pub names : length e.store.names ≡ length script.names
  pub first_budget : e.first_budget ≤ MOST_BUDGET
  pub room : HasRoom e

-- also room for the death of one more object
abbrev pub HasRoomForOneMore : State → Type 0
HasRoomForOneMore e = e.first_budget + 2 * (length (objects_of e.store) + 1) + 8 ≤ length e.activities + e.room

-- A fit engine is still fit, and its first budget is the same.
pub record StaysFit (old new : State) : Type 0 where
  pub fit : (script : Script) → IsFit script old → IsFit script new
  pub first_budget : new.first_budget ≡ old.first_budget

-- The stack may grow higher than before; nothing else has changed.
pub record HasMoreRoom (old new : State) : Type 0 where
  pub more : old.room ≤ new.room
  pub store : new.store ≡ old.store
  pub policy : new.policy ≡ old.policy
  pub activities : new.activities ≡ old.activities
  pub budget : new.budget ≡ old.budget
  pub first_budget : new.first_budget ≡ old.first_budget

-- The activities and their room may differ; heap, policy and budget are as before.
pub record HasOtherStack (old new : State) : Type 0 where
  pub store : new.store ≡ old.store
  pub policy : new.policy ≡ old.policy
  pub budget : new.budget ≡ old.budget
