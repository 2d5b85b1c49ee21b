-- The order in which weak references to a dying object are cleared. (`weakref` manual: callbacks are called from the
-- most recently registered on.)
use Rattle.std.specs.Prelude.{◌≡◌, ℕ, ◌<◌, List}
use Rattle.cg_script.specs.declared.Script.{Script}
use Rattle.cg_graph.specs.Member.{Includes}
use Rattle.cg_machine.specs.World.{World, Dying, Death, Clearing}
use Rattle.cg_machine.specs.Weak.{weak_references}
use Rattle.cg_machine.specs.Run.{StepTaken, IsRun, world_after}

-- During the clearing, the weak references that are cleared and wait are newer than those that still refer to the
-- object.
abbrev pub ClearsNewestFirst : World → Type 0
ClearsNewestFirst w = (d : Death) → Includes w.stack (Dying d) → (waiting : List ℕ) → d.phase ≡ Clearing waiting
    → (v q : ℕ) → Includes waiting v → Includes (weak_references w.objects d.object) q → q < v

-- This holds in every world of a run.
abbrev pub DeathsClearNewestFirst : Type 0
DeathsClearNewestFirst = (script : Script) (budget : ℕ) (steps : List StepTaken) → IsRun script budget steps → ClearsNewestFirst (world_after script budget steps)
