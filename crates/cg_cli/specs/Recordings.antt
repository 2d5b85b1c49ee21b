-- What a job to record a run writes. (Ours.)
use Rattle.std.specs.Prelude.{◌≡◌, ◌<◌, ◌≤◌, ◌⊎◌, ℕ, List, length, codes, Option, None}
use Rattle.std.specs.Io.KnownBytes.{Keeps}
use Rattle.cg_io.specs.Causes.{AppendsFront}
use Rattle.cg_script.specs.declared.Script.{Script}
use Rattle.cg_script.specs.Reading.{reading, faulty}
use Rattle.cg_machine.specs.World.{Outcome}
use Rattle.cg_interp.specs.Recorded.{WroteRecords, WroteRecordsPart}
use Rattle.cg_cli.specs.Statuses.{Spells, budget_of, bad_script_text}
use Rattle.cg_cli.specs.declared.input.TheConstants.{LIMIT}

-- The bytes spell a script, and the text of the records of a whole run of it was written. The run ended with this status, and no
-- command was refused for memory.
pub record RecordedWhole (outcome : Outcome) (bytes : List ℕ) (before now : Option (List ℕ)) : Type 0 where
  pub few : length bytes < LIMIT
  pub script : Script
  pub spelled : Spells bytes script
  pub wrote : WroteRecords script (budget_of None script) outcome before now

-- The bytes spell a script, and a prefix of the text of the records of a whole run of it was written.
pub record RecordedPart (bytes : List ℕ) (before now : Option (List ℕ)) : Type 0 where
  pub few : length bytes < LIMIT
  pub script : Script
  pub spelled : Spells bytes script
  pub wrote : WroteRecordsPart script (budget_of None script) before now

-- Nothing was written, or such a prefix.
abbrev pub RecordedSome : List ℕ → Option (List ℕ) → Option (List ℕ) → Type 0
RecordedSome bytes before now = Keeps before now ⊎ RecordedPart bytes before now

-- A prefix was written of what such a job writes for these bytes: the records of a whole run, or the first bad line, or that they
-- are too many.
pub data RecordedFront (bytes : List ℕ) (before now : Option (List ℕ)) : Type 0 where
  records_front : RecordedPart bytes before now → RecordedFront bytes before now
  bad_front : (number code : ℕ) → length bytes < LIMIT → reading bytes ≡ faulty number code → AppendsFront before now (bad_script_text number code) → RecordedFront bytes before now
  large_front : LIMIT ≤ length bytes → AppendsFront before now (codes "too large\n") → RecordedFront bytes before now
