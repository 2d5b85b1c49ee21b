-- What a turn answers if a collection on top may have lines left to print. (Ours.)
use Rattle.std.specs.Prelude.{◌≡◌, ◌≢◌, ◌<◌, ◌⊎◌, Bool, List, [], ◌∷◌, ◌++◌, length}
use Rattle.cg_script.specs.declared.Script.{Script}
use Rattle.cg_script.specs.Spelled.{IsSpelled}
use Rattle.cg_graph.specs.Store.{Store}
use Rattle.cg_machine.specs.declared.event.Event.{Event}
use Rattle.cg_machine.specs.declared.event.Event.TheVariants.{End, BudgetSpent, Left}
use Rattle.cg_machine.specs.World.{World, Ended, BudgetIsSpent}
use Rattle.cg_represents.specs.Represents.{Goes}
use Rattle.cg_laws.specs.Kept.{StaysKept}
use Rattle.cg_collect.specs.declared.collection.Collection.{Collection}
use Rattle.cg_collect.specs.Collections.{CollectFalls}
use Rattle.cg_interp.specs.declared.activity.Activity.{Activity}
use Rattle.cg_interp.specs.declared.activity.Activity.TheVariants as activity
use Rattle.cg_interp.specs.declared.turned.Turned.{Turned}
use Rattle.cg_interp.specs.declared.turned.Turned.TheVariants as turned
use Rattle.cg_interp.specs.Engines.{State, StandsFor, under, lowered}
use Rattle.cg_interp.specs.Collecting.{StandsWith, Collects}
use Rattle.cg_interp.specs.Turns.{RunEndsWith, IsFit}

-- The machine goes on, or rests where that is allowed. What it prints after the lines that were left is what is answered
-- and the lines that are left now; the engine represents the world before those.
pub record GoesOnTo (script : Script) (may_rest : List Event → Type 0) (w : World) (left told : List Event) (e : State) : Type 0 where
  pub events : List Event
  pub after : World
  pub still : List Event
  pub goes : Goes script w events after
  pub lines : left ++ events ≡ told ++ still
  pub moves : (goes.steps ≢ []) ⊎ may_rest still
  pub stands : StandsWith script e still after

-- what a turn answers, after lines that wait to be printed; the run ends only if no line is left
abbrev pub TurnsAfter : Script → (List Event → Type 0) → World → List Event → State → List Event → Turned → Type 0
TurnsAfter script may_rest w left e waits turned.Quiet = GoesOnTo script may_rest w left (waits ++ []) e
TurnsAfter script may_rest w left e waits (turned.Line event) = GoesOnTo script may_rest w left (waits ++ event ∷ []) e
TurnsAfter script may_rest w left e waits (turned.Lines events) = GoesOnTo script may_rest w left (waits ++ events) e
TurnsAfter script may_rest w left e waits turned.Ended = (left ≡ []) × RunEndsWith script w (waits ++ End ∷ []) Ended
TurnsAfter script may_rest w left e waits (turned.Left n) = (left ≡ []) × RunEndsWith script w (waits ++ Left n ∷ End ∷ []) Ended
TurnsAfter script may_rest w left e waits turned.Spent = (left ≡ []) × RunEndsWith script w (waits ++ BudgetSpent ∷ []) BudgetIsSpent

-- if none waits
abbrev pub TurnsWith : Script → (List Event → Type 0) → World → List Event → State → Turned → Type 0
TurnsWith script may_rest w left e answer = TurnsAfter script may_rest w left e [] answer

-- The collection on top is nearer to its end, or over.
abbrev pub IsNearer : List Activity → Store → List Activity → Store → Type 0
IsNearer (activity.Collecting asked c ∷ below) store (activity.Collecting also d ∷ rest) now = CollectFalls c store d now
IsNearer (activity.Collecting asked c ∷ below) store rest now = Unit {0}
IsNearer activities store rest now = ⊥

-- Without a step of the machine, fewer lines are left, or the collection on top is nearer to its end.
abbrev pub Advances : State → List Event → State → List Event → Type 0
Advances old left new still = (length still < length left) ⊎ ((length still ≡ length left) × IsNearer old.activities old.store new.activities new.store)

-- A fit engine with this top activity represents a world of a run of a script that some bytes spell.
pub record IsAtTurn (script : Script) (top : Activity) (e : State) : Type 0 where
  pub spelled : IsSpelled script
  pub fit : IsFit script e
  pub world : World
  pub stands : StandsFor script (under top e) world
  pub kept : StaysKept script e.first_budget world

-- From each such world the machine goes on as answered, by at least one step.
abbrev pub TurnsBy : Script → List Event → Activity → State → State → Turned → Type 0
TurnsBy script waits top old new answer = (w : World) → StandsFor script (under top old) w → StaysKept script old.first_budget w → TurnsAfter script (λ still. ⊥) w [] new waits answer

abbrev pub TurnsFrom : Script → Activity → State → State → Turned → Type 0
TurnsFrom script top old new answer = TurnsBy script [] top old new answer

-- the same for any engine; a collection may be on top and have lines left
pub record IsAtAnyTurn (script : Script) (e : State) : Type 0 where
  pub spelled : IsSpelled script
  pub fit : IsFit script e
  pub world : World
  pub left : List Event
  pub stands : StandsWith script e left world
  pub kept : StaysKept script e.first_budget world

abbrev pub TurnsAnyBy : Script → List Event → State → State → Turned → Type 0
TurnsAnyBy script waits old new answer = (w : World) (left : List Event) → StandsWith script old left w → StaysKept script old.first_budget w → TurnsAfter script (Advances old left new) w left new waits answer

abbrev pub TurnsAny : Script → State → State → Turned → Type 0
TurnsAny script old new answer = TurnsAnyBy script [] old new answer

-- With a collection on top that may make its next step, a fit engine represents a world of such a run.
pub record CollectsNext (script : Script) (asked : Bool) (c : Collection) (e : State) : Type 0 where
  pub spelled : IsSpelled script
  pub fit : IsFit script e
  pub world : World
  pub left : List Event
  pub collects : Collects script asked c e left world
  pub kept : StaysKept script e.first_budget world

-- A collection is on top of an engine, and may make its next step.
pub record CollectsNextOnTop (script : Script) (asked : Bool) (e : State) : Type 0 where
  pub collection : Collection
  pub below : List Activity
  pub top : e.activities ≡ activity.Collecting asked collection ∷ below
  pub next : CollectsNext script asked collection (lowered below e)

-- From each such world the machine goes on as answered.
abbrev pub CollectTurns : Script → Bool → Collection → State → State → Turned → Type 0
CollectTurns script asked c old new answer = (w : World) (left : List Event) → Collects script asked c old left w → StaysKept script old.first_budget w
    → TurnsWith script (Advances (under (activity.Collecting asked c) old) left new) w left new answer
