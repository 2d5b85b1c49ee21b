-- What contracts see of the stack of activities. (Ours.)
use Rattle.std.specs.Prelude.{ℕ, Bool, List, [], ◌∷◌, Option, None, Some}
use Rattle.cg_death.specs.declared.death.Death.{Death}
use Rattle.cg_collect.specs.declared.collection.Collection.{Collection}
use Rattle.cg_interp.specs.declared.activity.Activity.{Activity}
use Rattle.cg_interp.specs.declared.activity.Activity.TheVariants as activity

-- the activities, top first, and how many more may be pushed
pub record Stacked : Type 0 where
  pub activities : List Activity
  pub room : ℕ

-- the collection that an activity is, if any
abbrev pub collection_in : Activity → Option Collection
collection_in (activity.Collecting asked collection) = Some collection
collection_in top = None

-- the collection on top, if any
abbrev pub collection_on : List Activity → Option Collection
collection_on [] = None
collection_on (top ∷ rest) = collection_in top

-- the death that an activity is, if any
abbrev pub death_in : Activity → Option Death
death_in (activity.Dying death) = Some death
death_in top = None

-- the death on top, if any
abbrev pub death_on : List Activity → Option Death
death_on [] = None
death_on (top ∷ rest) = death_in top

-- the activities below the top
abbrev pub below_top : List Activity → List Activity
below_top [] = []
below_top (top ∷ rest) = rest

-- a stack with another death on top
abbrev pub with_death : Stacked → Death → Stacked
with_death s death = record s { activities = activity.Dying death ∷ below_top s.activities }

-- whether a command asked for the collection that an activity is, if it is one
abbrev pub asked_in : Activity → Option Bool
asked_in (activity.Collecting asked collection) = Some asked
asked_in top = None

-- the same of the collection on top, if any
abbrev pub asked_on : List Activity → Option Bool
asked_on [] = None
asked_on (top ∷ rest) = asked_in top

-- an activity with another collection, if it is one
abbrev pub collecting : Collection → Activity → Activity
collecting collection (activity.Collecting asked old) = activity.Collecting asked collection
collecting collection top = top

-- a stack with another collection on top, if one is there
abbrev pub collecting_on : Collection → List Activity → List Activity
collecting_on collection [] = []
collecting_on collection (top ∷ rest) = collecting collection top ∷ rest

abbrev pub with_collection : Stacked → Collection → Stacked
with_collection s collection = record s { activities = collecting_on collection s.activities }
