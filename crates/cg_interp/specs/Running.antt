-- A run of an engine: its turns with their lines, and what was written so far. (Ours.)
use Rattle.std.specs.Prelude.{◌≡◌, ◌≢◌, ◌≤◌, ℕ, List, [], ◌∷◌, ◌++◌, Option, flat_map, length}
use Rattle.std.specs.Io.KnownBytes.{Appends}
use Rattle.cg_io.specs.Causes.{AppendsFront}
use Rattle.cg_script.specs.declared.Script.{Script}
use Rattle.cg_script.specs.declared.limits.TheConstants.{MOST_BUDGET}
use Rattle.cg_script.specs.Spelled.{IsSpelled}
use Rattle.cg_script.specs.Texts.{TextsAreKnown}
use Rattle.cg_graph.specs.Store.{Store}
use Rattle.cg_graph.specs.Changes.{opening_store}
use Rattle.cg_graph.specs.Member.{Includes}
use Rattle.cg_machine.specs.declared.event.Event.{Event}
use Rattle.cg_machine.specs.declared.event.Event.TheVariants.{End, BudgetSpent, Left}
use Rattle.cg_machine.specs.World.{World, opening}
use Rattle.cg_machine.specs.Run.{StepTaken, Run, IsRun, world_after, events_of}
use Rattle.cg_machine.specs.Lines.{line, IsPrintable}
use Rattle.cg_laws.specs.Kept.{StaysKept}
use Rattle.cg_interp.specs.declared.turned.Turned.{Turned}
use Rattle.cg_interp.specs.declared.turned.Turned.TheVariants as turned
use Rattle.cg_interp.specs.declared.turned.Standing.{Standing}
use Rattle.cg_interp.specs.declared.turned.Standing.TheVariants as standing
use Rattle.cg_interp.specs.Engines.{State, StandsFor}
use Rattle.cg_interp.specs.Turns.{IsFit}
use Rattle.cg_interp.specs.Collecting.{StandsWith}
use Rattle.cg_interp.specs.Telling.{TurnsAfter, Advances, IsAtAnyTurn}

-- the events to print after a turn
abbrev pub events_told : Turned → List Event
events_told turned.Quiet = []
events_told (turned.Line event) = event ∷ []
events_told (turned.Lines events) = events
events_told turned.Ended = End ∷ []
events_told (turned.Left n) = Left n ∷ End ∷ []
events_told turned.Spent = BudgetSpent ∷ []

-- the state of the run after it
abbrev pub standing_after : Turned → Standing
standing_after turned.Quiet = standing.Running
standing_after (turned.Line event) = standing.Running
standing_after (turned.Lines events) = standing.Running
standing_after turned.Ended = standing.Ended
standing_after (turned.Left n) = standing.Ended
standing_after turned.Spent = standing.Spent

-- Bytes were gathered behind those that were held; what is not held now was written.
pub record Gathers (before now : Option (List ℕ)) (held holds bytes : List ℕ) : Type 0 where
  pub front : List ℕ
  pub whole : held ++ bytes ≡ front ++ holds
  pub written : Appends before now front

-- A turn of the engine that leaves the run in this state; its lines were gathered, and written if the run has ended.
pub record WritesTurn (script : Script) (old : State) (w : World) (left : List Event) (e : State) (stands : Standing) (before now : Option (List ℕ)) (held holds : List ℕ) : Type 0 where
  pub waits : List Event
  pub answer : Turned
  pub is : standing_after answer ≡ stands
  pub turns : TurnsAfter script (Advances old left e) w left e waits answer
  pub gathered : Gathers before now held holds (flat_map (line script.names) (waits ++ events_told answer))
  pub all : stands ≢ standing.Running → holds ≡ []

-- A turn of the engine; a prefix of what was held and its lines was written.
pub record CutsTurn (script : Script) (old : State) (w : World) (left : List Event) (e : State) (before now : Option (List ℕ)) (held : List ℕ) : Type 0 where
  pub waits : List Event
  pub answer : Turned
  pub turns : TurnsAfter script (Advances old left e) w left e waits answer
  pub written : AppendsFront before now (held ++ flat_map (line script.names) (waits ++ events_told answer))

-- Each remaining line, and each that the machine will print, can be printed.
abbrev pub StaysPrintable : Script → List Event → World → Type 0
StaysPrintable script left w = (steps : List StepTaken) → Run script w steps → (event : Event) → Includes (left ++ events_of steps) event → IsPrintable script.names event

-- What the laws of the machine say of the runs of a script with a budget: those on one world hold of their worlds, and their
-- lines can be printed.
pub record HasLaws (script : Script) (budget : ℕ) : Type 0 where
  pub kept : (steps : List StepTaken) → IsRun script budget steps → StaysKept script budget (world_after script budget steps)
  pub printable : (steps : List StepTaken) → IsRun script budget steps → (event : Event) → Includes (events_of steps) event → IsPrintable script.names event

-- An engine that may take a turn and write its lines: they and all later ones can be printed.
pub record MayWrite (script : Script) (e : State) : Type 0 where
  pub at : IsAtAnyTurn script e
  pub printable : StaysPrintable script at.left at.world

-- A fit engine that represents the start of a run of a script that some bytes spell. The laws hold of its runs.
pub record MayRun (script : Script) (e : State) : Type 0 where
  pub spelled : IsSpelled script
  pub fit : IsFit script e
  pub opens : StandsFor script e (opening script e.first_budget)
  pub laws : HasLaws script e.first_budget

-- What a run requires at its start: a script that some bytes spell, a new heap, and an allowed budget.
pub record MayOpen (script : Script) (store : Store) (budget : ℕ) : Type 0 where
  pub spelled : IsSpelled script
  pub known : TextsAreKnown script
  pub empty : store ≡ opening_store (length script.names)
  pub allowed : budget ≤ MOST_BUDGET

-- A run of the machine so far: its lines are those written, those held and those that a collection still has to print, and the
-- engine represents the world after it.
pub record Ran (script : Script) (budget : ℕ) (before : Option (List ℕ)) (e : State) (now : Option (List ℕ)) (held : List ℕ) : Type 0 where
  pub steps : List StepTaken
  pub told : List Event
  pub left : List Event
  pub run : IsRun script budget steps
  pub lines : events_of steps ≡ told ++ left
  pub stands : StandsWith script e left (world_after script budget steps)
  pub gathered : Gathers before now [] held (flat_map (line script.names) told)
