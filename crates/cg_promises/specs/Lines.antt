-- What the lines of a run never do. (Ours, after PEP 442: a finalizer is called once. The layers that write the lines need this
-- for the lines alone.)
use Rattle.std.specs.Prelude.{◌≡◌, ◌≤◌, ℕ, List, ◌∷◌, ◌++◌, count_by}
use Rattle.cg_script.specs.declared.Script.{Script}
use Rattle.cg_graph.specs.Member.{Includes}
use Rattle.cg_machine.specs.declared.event.Event.{Event}
use Rattle.cg_machine.specs.declared.event.Event.TheVariants.{Free}
use Rattle.cg_machine.specs.Run.{StepTaken, IsRun, events_of}
use Rattle.cg_laws.specs.Laws.{named, is_finalizer_of}

-- after the line that frees an object, no line names it
abbrev pub NamesNoneDead : List Event → Type 0
NamesNoneDead events = (n : ℕ) (front back : List Event) → events ≡ front ++ Free n ∷ back → (event : Event) → Includes back event → ¬ Includes (named event) n

-- This holds for the lines of every run.
abbrev pub NoDeadLines : Type 0
NoDeadLines = (script : Script) (budget : ℕ) (steps : List StepTaken) → IsRun script budget steps → NamesNoneDead (events_of steps)

-- Lines keep the promises of every run: the finalizer of an object begins at most once, and no line names a freed object.
pub record KeepPromises (events : List Event) : Type 0 where
  pub finalizers : (n : ℕ) → count_by (is_finalizer_of n) events ≤ 1
  pub dead : NamesNoneDead events
