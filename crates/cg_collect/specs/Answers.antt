-- What the steps of a collection may answer, in every world that heap and policy represent. (Ours.)
use Rattle.std.specs.Prelude.{◌≡◌, ℕ, ◌+◌, ◌≤◌, Bool, false, List, [], ◌∷◌, ◌++◌, count_by, is_some}
use Rattle.cg_script.specs.declared.Script.{Script}
use Rattle.cg_graph.specs.Member.{Includes}
use Rattle.cg_graph.specs.Store.{Store}
use Rattle.cg_machine.specs.declared.event.Event.{Event}
use Rattle.cg_machine.specs.declared.event.FrameSpec.{FrameSpec}
use Rattle.cg_machine.specs.World.{World, Activity, Dying, Death, Numbers, Running}
use Rattle.cg_machine.specs.Collect.{begun}
use Rattle.cg_machine.specs.Frame.{begin_death, start_frame}
use Rattle.cg_machine.specs.Holdings.{holdings, is_death_of, is_collection}
use Rattle.cg_represents.specs.Orderly.{IsHeldInItsFramesAlone, IsOrderly}
use Rattle.cg_represents.specs.Represents.{Represents, Goes}
use Rattle.cg_policy.specs.Policy.{Policy}
use Rattle.cg_collect.specs.declared.answer.CollectStep.{CollectStep}
use Rattle.cg_collect.specs.declared.answer.CollectStep.TheVariants as answer_of
use Rattle.cg_collect.specs.declared.collection.Collection.{Collection}
use Rattle.cg_collect.specs.declared.phase.Phase.{Phase}
use Rattle.cg_collect.specs.declared.phase.Phase.TheVariants as phase_of
use Rattle.cg_collect.specs.Phases.{machine_phase, on_stack, lines_left, store_after, answer_lines}

-- The policy counts a collection when it begins, the machine in the step that starts it.
abbrev pub numbers_at : Phase → ℕ → Numbers → Numbers
numbers_at phase_of.Start generation numbers = begun generation numbers
numbers_at phase generation numbers = numbers

-- what a collection knows of the world, after the remaining lines are printed
pub record CollectionShows (asked : Bool) (c : Collection) (store : Store) (policy : Policy) (w : World) (below : List Activity) : Type 0 where
  pub represents : Represents (store_after c.phase store) w
  pub numbers : policy.numbers ≡ numbers_at c.phase c.generation w.numbers
  pub running : policy.running ≡ is_some (machine_phase c.phase [])
  pub top : w.stack ≡ on_stack asked c store ++ below

-- Heap and policy represent a running world with this collection on top. The laws of every run hold there: the world is
-- orderly, a dying object is held only by its own death and dies once at a time, and only one collection runs.
pub record CollectionStands (asked : Bool) (c : Collection) (store : Store) (policy : Policy) (w : World) (below : List Activity) : Type 0 where
  pub shows : CollectionShows asked c store policy w below
  pub running : w.outcome ≡ Running
  pub orderly : IsOrderly w
  pub unheld : (d : Death) → Includes w.stack (Dying d) → IsHeldInItsFramesAlone d.object d.phase (holdings w)
  pub once : (o : ℕ) → count_by (is_death_of o) w.stack ≤ 1
  pub alone : count_by is_collection below ≡ 0

-- what no step of a collection changes: it starts no frame itself, and ends no run
pub record CollectionKeeps (w after : World) : Type 0 where
  pub budget : after.budget ≡ w.budget
  pub outcome : after.outcome ≡ w.outcome

-- It went on, and printed zero or more lines: of the machine's steps that it made, or of the one before.
pub record WentOn (script : Script) (asked : Bool) (w : World) (below : List Activity) (left told : List Event) (c : Collection) (store : Store) (policy : Policy) : Type 0 where
  pub events : List Event
  pub after : World
  pub goes : Goes script w events after
  pub lines : left ++ events ≡ told ++ lines_left script asked c c.phase store
  pub shows : CollectionShows asked c store policy after below
  pub keeps : CollectionKeeps w after

-- It answers an object whose death is to begin: the machine's step also begins it.
pub record GaveDeath (script : Script) (asked : Bool) (w : World) (below : List Activity) (o : ℕ) (c : Collection) (store : Store) (policy : Policy) : Type 0 where
  pub before : World
  pub goes : Goes script w [] (begin_death o before)
  pub shows : CollectionShows asked c store policy before below
  pub keeps : CollectionKeeps w before

-- It answers a frame: the machine's step also starts it, or ends the run because the budget is spent.
pub record GaveFrame (script : Script) (asked : Bool) (w : World) (below : List Activity) (spec : FrameSpec) (c : Collection) (store : Store) (policy : Policy) : Type 0 where
  pub before : World
  pub goes : Goes script w (start_frame script spec before).0 (start_frame script spec before).1
  pub shows : CollectionShows asked c store policy before below
  pub keeps : CollectionKeeps w before

-- It ended: nothing of it is on the stack, and the only line left is the answer to the command that asked for it.
pub record HasFinished (asked : Bool) (w : World) (below : List Activity) (left : List Event) (collected set_aside : ℕ) (store : Store) (policy : Policy) : Type 0 where
  pub represents : Represents store w
  pub numbers : policy.numbers ≡ w.numbers
  pub idle : policy.running ≡ false
  pub stack : w.stack ≡ below
  pub lines : left ≡ answer_lines asked (collected + set_aside)

-- what a step answers; a frame or a death comes only if no line is left
abbrev pub CollectAnswer : Script → Bool → World → List Activity → List Event → Collection → Store → Policy → CollectStep → Type 0
CollectAnswer script asked w below left c store policy answer_of.Continue = WentOn script asked w below left [] c store policy
CollectAnswer script asked w below left c store policy (answer_of.Emit event) = WentOn script asked w below left (event ∷ []) c store policy
CollectAnswer script asked w below left c store policy (answer_of.Frame spec) = (left ≡ []) × (lines_left script asked c c.phase store ≡ []) × GaveFrame script asked w below spec c store policy
CollectAnswer script asked w below left c store policy (answer_of.Died o) = (left ≡ []) × (lines_left script asked c c.phase store ≡ []) × GaveDeath script asked w below o c store policy
CollectAnswer script asked w below left c store policy (answer_of.Finished collected set_aside) = HasFinished asked w below left collected set_aside store policy

-- The answer is right in every world that heap and policy represented before the call.
abbrev pub CollectSteps : Script → Collection → Store → Policy → Collection → Store → Policy → CollectStep → Type 0
CollectSteps script old store policy new store_now policy_now answer =
    (asked : Bool) (w : World) (below : List Activity) → CollectionStands asked old store policy w below
    → CollectAnswer script asked w below (lines_left script asked old old.phase store) new store_now policy_now answer
