-- What a run wrote, as the text of a run of the machine.
use Rattle.std.specs.Prelude.{ℕ, List, Option, flat_map}
use Rattle.std.specs.Io.KnownBytes.{Appends}
use Rattle.cg_io.specs.Causes.{AppendsFront}
use Rattle.cg_script.specs.declared.Script.{Script}
use Rattle.cg_machine.specs.declared.event.Event.{Event}
use Rattle.cg_machine.specs.World.{Outcome}
use Rattle.cg_machine.specs.Run.{StepTaken, IsWholeRun}
use Rattle.cg_machine.specs.Lines.{line, text_of}
use Rattle.cg_promises.specs.Lines.{KeepPromises}

-- The text of a whole run of the script was written; the run ended in this way.
pub record WroteRun (script : Script) (budget : ℕ) (outcome : Outcome) (before now : Option (List ℕ)) : Type 0 where
  pub steps : List StepTaken
  pub whole : IsWholeRun script budget outcome steps
  pub written : Appends before now (text_of script steps)

-- A prefix of the text of a whole run of the script was written.
pub record WrotePart (script : Script) (budget : ℕ) (before now : Option (List ℕ)) : Type 0 where
  pub steps : List StepTaken
  pub outcome : Outcome
  pub whole : IsWholeRun script budget outcome steps
  pub written : AppendsFront before now (text_of script steps)

-- What was written is a prefix of lines that keep the promises of every run.
pub record WroteKept (names : List (List ℕ)) (before now : Option (List ℕ)) : Type 0 where
  pub events : List Event
  pub promises : KeepPromises events
  pub written : AppendsFront before now (flat_map (line names) events)
