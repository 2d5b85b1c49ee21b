-- All laws together hold in each world of a run. A run that goes on is a run.
use Rattle.std.proofs.Common.{subst, ℕ, List, ◌++◌}
use Rattle.cg_script.specs.declared.Script.{Script}
use Rattle.cg_machine.specs.World.{opening}
use Rattle.cg_machine.specs.Run.{StepTaken, IsRun, world_after}
use Rattle.cg_laws.proofs.Ending.{Run-append, last_world-append}
use Rattle.cg_laws.proofs.LawsOfWorlds.{lawful_after}
use Rattle.cg_laws.specs.Kept.{IsKept, WorldsStayKept}
use Rattle.cg_laws.proofs.RunsApart.{runs_apart}
use Rattle.cg_laws.proofs.CollectorNumbersOfRuns.{numbers_few}

kept_after : (script : Script) (budget : ℕ) (steps : List StepTaken) → IsRun script budget steps → IsKept script budget (world_after script budget steps)
kept_after script budget steps run = record { lawful = lawful_after script budget steps run; apart = runs_apart script budget steps run; few = numbers_few script budget steps run }

pub stay_kept : WorldsStayKept
stay_kept script budget steps run more goes_on = subst (IsKept script budget) (last_world-append (opening script budget) steps more)
    (kept_after script budget (steps ++ more) (Run-append script (opening script budget) steps more run goes_on))
