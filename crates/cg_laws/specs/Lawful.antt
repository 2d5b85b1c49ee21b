-- What the laws say of one world of a run. (Ours: what an interpreter may rely on at each turn.)
use Rattle.std.specs.Prelude.{ℕ, List}
use Rattle.cg_script.specs.declared.Script.{Script}
use Rattle.cg_graph.specs.Member.{Includes}
use Rattle.cg_machine.specs.World.{World, Dying, Death}
use Rattle.cg_machine.specs.Holdings.{holdings}
use Rattle.cg_machine.specs.Run.{StepTaken, Run, IsRun, last_world, world_after}
use Rattle.cg_represents.specs.Orderly.{IsOrderly, IsHeldInItsFramesAlone}
use Rattle.cg_laws.specs.Bounds.{IsBounded}
use Rattle.cg_laws.specs.Origins.{HasOrigins}
use Rattle.cg_laws.specs.Locals.{HasLivingLocals}
use Rattle.cg_laws.specs.Newest.{ClearsNewestFirst}
use Rattle.cg_laws.specs.Made.{HasFewSerials}

-- a world of a run of the script with this budget
pub record IsLawful (script : Script) (budget : ℕ) (w : World) : Type 0 where
  pub orderly : IsOrderly w
  pub unheld : (d : Death) → Includes w.stack (Dying d) → IsHeldInItsFramesAlone d.object d.phase (holdings w)
  pub bounded : IsBounded budget w
  pub origins : HasOrigins script w
  pub locals : HasLivingLocals w
  pub newest : ClearsNewestFirst w
  pub serials : HasFewSerials script budget w

-- each world that a step leads to is lawful
abbrev pub StaysLawful : Script → ℕ → World → Type 0
StaysLawful script budget w = (steps : List StepTaken) → Run script w steps → IsLawful script budget (last_world w steps)

-- Every world of a run is lawful, and so is each one after it.
abbrev pub RunsStayLawful : Type 0
RunsStayLawful = (script : Script) (budget : ℕ) (steps : List StepTaken) → IsRun script budget steps → StaysLawful script budget (world_after script budget steps)
