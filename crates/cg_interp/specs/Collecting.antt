-- A collection on top. (Ours.)
use Rattle.std.specs.Prelude.{◌≡◌, ◌⊎◌, Bool, false, List, [], ◌∷◌}
use Rattle.cg_script.specs.declared.Script.{Script}
use Rattle.cg_machine.specs.declared.event.Event.{Event}
use Rattle.cg_machine.specs.World as machine
use Rattle.cg_machine.specs.World.{World, Running}
use Rattle.cg_collect.specs.declared.collection.Collection.{Collection}
use Rattle.cg_collect.specs.Phases.{lines_left}
use Rattle.cg_collect.specs.Answers.{CollectionShows}
use Rattle.cg_collect.specs.Collections.{IsReadyForCollection}
use Rattle.cg_interp.specs.declared.activity.Activity.{Activity}
use Rattle.cg_interp.specs.declared.activity.Activity.TheVariants as activity
use Rattle.cg_interp.specs.Engines.{State, StandsFor, ShowsAll, any_collecting}

-- An engine with a collection on top represents a world, after these lines are printed. No other collection is under way,
-- and this one may make its next step.
pub record Collects (script : Script) (asked : Bool) (c : Collection) (e : State) (left : List Event) (w : World) : Type 0 where
  pub below : List machine.Activity
  pub shows : CollectionShows asked c e.store e.policy w below
  pub over : ShowsAll script e.activities below
  pub budget : w.budget ≡ e.budget
  pub running : w.outcome ≡ Running
  pub alone : any_collecting e.activities ≡ false
  pub ready : IsReadyForCollection script c e.store
  pub lines : left ≡ lines_left script asked c c.phase e.store

-- such a collection is on top of an engine
pub record CollectsOnTop (script : Script) (e : State) (left : List Event) (w : World) : Type 0 where
  pub asked : Bool
  pub collection : Collection
  pub rest : List Activity
  pub top : e.activities ≡ activity.Collecting asked collection ∷ rest
  pub collects : Collects script asked collection (record e { activities = rest }) left w

-- An engine represents a world after these lines are printed: those that a collection on top has left of the machine's last
-- step, and none without one.
abbrev pub StandsWith : Script → State → List Event → World → Type 0
StandsWith script e left w = (StandsFor script e w × (left ≡ [])) ⊎ CollectsOnTop script e left w
