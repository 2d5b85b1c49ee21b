-- The laws on one world, together. A run that goes on is a run, so they stay.
use Rattle.std.proofs.Common.{subst, ℕ, List, ◌++◌}
use Rattle.cg_script.specs.declared.Script.{Script}
use Rattle.cg_machine.specs.World.{opening}
use Rattle.cg_machine.specs.Run.{StepTaken, IsRun, world_after}
use Rattle.cg_laws.specs.Lawful.{IsLawful, RunsStayLawful}
use Rattle.cg_laws.proofs.Ending.{Run-append, last_world-append}
use Rattle.cg_laws.proofs.UnheldRuns.{dying_unheld}
use Rattle.cg_laws.proofs.HeldLivesRuns.{worlds_orderly}
use Rattle.cg_laws.proofs.StackHeights.{stacks_bounded}
use Rattle.cg_laws.proofs.OriginsOfRuns.{worlds_have_origins}
use Rattle.cg_laws.proofs.SerialsOfRuns.{few_serials}
use Rattle.cg_laws.proofs.StackFactsOfRuns.{locals_live, newest_first}

pub lawful_after : (script : Script) (budget : ℕ) (steps : List StepTaken) → IsRun script budget steps → IsLawful script budget (world_after script budget steps)
lawful_after script budget steps run = record {
  orderly = worlds_orderly script budget steps run;
  unheld = dying_unheld script budget steps run;
  bounded = stacks_bounded script budget steps run;
  origins = worlds_have_origins script budget steps run;
  locals = locals_live script budget steps run;
  newest = newest_first script budget steps run;
  serials = few_serials script budget steps run;
}

pub stay_lawful : RunsStayLawful
stay_lawful script budget steps run more goes_on =
    subst (IsLawful script budget) (last_world-append (opening script budget) steps more) (lawful_after script budget (steps ++ more)
    (Run-append script (opening script budget) steps more run goes_on))
