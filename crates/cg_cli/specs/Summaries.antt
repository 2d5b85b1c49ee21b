-- What a job to run a large script writes. (Ours.)
use Rattle.std.specs.Prelude.{◌≡◌, ℕ, List, Bool, true, false, Option}
use Rattle.std.specs.List.{list_any}
use Rattle.std.specs.Io.KnownBytes.{Appends}
use Rattle.cg_io.specs.Causes.{AppendsFront}
use Rattle.cg_machine.specs.declared.event.Event.{Event}
use Rattle.cg_machine.specs.declared.event.Event.TheVariants.{Refused}
use Rattle.cg_machine.specs.World.{Ended}
use Rattle.cg_machine.specs.Run.{StepTaken, IsWholeRun, events_of}
use Rattle.cg_machine.specs.Lines.{text_of}
use Rattle.cg_generator.specs.Generated.{generated}
use Rattle.cg_generator.specs.Tallies.{tally_of, summary_of}
use Rattle.cg_generator.specs.declared.counts.Tally.{Tally}

-- an event reports a refused command
abbrev pub is_refused : Event → Bool
is_refused (Refused reason) = true
is_refused event = false

-- A whole run of the script of `blocks` blocks with the usual budget that ended by `end`, without a refused command.
pub record RanGenerated (blocks : ℕ) (steps : List StepTaken) : Type 0 where
  pub whole : IsWholeRun (generated blocks) 10000 Ended steps
  pub unrefused : list_any is_refused (events_of steps) ≡ false

-- This is the tally of the text of such a run.
pub record HasTally (blocks : ℕ) (tally : Tally) : Type 0 where
  pub steps : List StepTaken
  pub ran : RanGenerated blocks steps
  pub counted : tally ≡ tally_of (text_of (generated blocks) steps)

-- The summary of the text of such a run was written.
pub record WroteSummary (blocks : ℕ) (before now : Option (List ℕ)) : Type 0 where
  pub steps : List StepTaken
  pub ran : RanGenerated blocks steps
  pub wrote : Appends before now (summary_of (tally_of (text_of (generated blocks) steps)))

-- A prefix of it was written.
pub record WroteSummaryFront (blocks : ℕ) (before now : Option (List ℕ)) : Type 0 where
  pub steps : List StepTaken
  pub ran : RanGenerated blocks steps
  pub wrote : AppendsFront before now (summary_of (tally_of (text_of (generated blocks) steps)))
