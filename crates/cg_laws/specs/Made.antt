-- How many objects a run can make. (Ours: the machine itself has no limit, and a serial in memory has one.)
use Rattle.std.specs.Prelude.{ℕ, ◌+◌, ◌*◌, ◌≤◌, List, length}
use Rattle.cg_script.specs.declared.Script.{Script}
use Rattle.cg_machine.specs.Program.{commands_of, body_of}
use Rattle.cg_machine.specs.World.{World}
use Rattle.cg_machine.specs.Run.{StepTaken, IsRun, world_after}

-- Each command makes at most one object. Commands outside procedures run once, and each frame runs those of one
-- procedure.
abbrev pub HasFewSerials : Script → ℕ → World → Type 0
HasFewSerials script budget w = (most : ℕ) → ((p : ℕ) → length (body_of script p) ≤ most) → w.next_serial ≤ 2 + length (commands_of script.items) + budget * most

-- This holds in every world of a run.
abbrev pub SerialsAreFew : Type 0
SerialsAreFew = (script : Script) (budget : ℕ) (steps : List StepTaken) → IsRun script budget steps → HasFewSerials script budget (world_after script budget steps)
