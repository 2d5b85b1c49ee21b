-- What all laws say of one world of a run. (Ours: what an interpreter may rely on at each turn.)
use Rattle.std.specs.Prelude.{ℕ, List}
use Rattle.cg_script.specs.declared.Script.{Script}
use Rattle.cg_machine.specs.World.{World}
use Rattle.cg_machine.specs.Run.{StepTaken, Run, IsRun, last_world, world_after}
use Rattle.cg_laws.specs.Lawful.{IsLawful}
use Rattle.cg_laws.specs.Apart.{IsApart}
use Rattle.cg_laws.specs.Few.{HasFewNumbers}

-- a world of a run of the script with this budget
pub record IsKept (script : Script) (budget : ℕ) (w : World) : Type 0 where
  pub lawful : IsLawful script budget w
  pub apart : IsApart w
  pub few : HasFewNumbers script budget w

-- each world that a step leads to is kept
abbrev pub StaysKept : Script → ℕ → World → Type 0
StaysKept script budget w = (steps : List StepTaken) → Run script w steps → IsKept script budget (last_world w steps)

-- Every world of a run is kept, and so is each one after it.
abbrev pub WorldsStayKept : Type 0
WorldsStayKept = (script : Script) (budget : ℕ) (steps : List StepTaken) → IsRun script budget steps → StaysKept script budget (world_after script budget steps)
