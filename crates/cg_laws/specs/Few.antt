-- How high the collector's numbers can rise. (Ours: the machine itself has no limit, and a number in memory has one.)
use Rattle.std.specs.Prelude.{ℕ, ◌+◌, ◌*◌, ◌≤◌, List, length}
use Rattle.cg_script.specs.declared.Script.{Script}
use Rattle.cg_machine.specs.Program.{commands_of, body_of}
use Rattle.cg_machine.specs.World.{World, Numbers}
use Rattle.cg_machine.specs.Run.{StepTaken, IsRun, world_after}

-- bounds by the commands that a run can do: one object for each, and a collection for each object and for each command that
-- asks for one
pub record AreFew (commands : ℕ) (n : Numbers) : Type 0 where
  pub zero : n.zero_count ≤ 4 * (commands + 1)
  pub one : n.one_count ≤ 4 * (commands + 1)
  pub two : n.two_count ≤ 4 * (commands + 1)
  pub total : n.total ≤ 4 * (commands + 1)
  pub pending : n.pending ≤ 16 * ((commands + 1) * (commands + 1))

-- the commands outside procedures, and for each frame those of the longest procedure
abbrev pub HasFewNumbers : Script → ℕ → World → Type 0
HasFewNumbers script budget w = (most : ℕ) → ((p : ℕ) → length (body_of script p) ≤ most) → AreFew (length (commands_of script.items) + budget * most) w.numbers

-- This holds in every world of a run.
abbrev pub NumbersAreFew : Type 0
NumbersAreFew = (script : Script) (budget : ℕ) (steps : List StepTaken) → IsRun script budget steps → HasFewNumbers script budget (world_after script budget steps)
