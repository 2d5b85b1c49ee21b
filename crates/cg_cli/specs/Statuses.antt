-- When each status comes, and what is written then. (Ours.)
use Rattle.std.specs.Prelude.{◌≡◌, ◌<◌, ◌≤◌, ◌⊎◌, ℕ, List, ◌++◌, length, codes, decimal, flat_map, Option, unwrap_or}
use Rattle.std.specs.Io.KnownBytes.{Appends, Consumes}
use Rattle.cg_io.specs.Causes.{AppendsFront}
use Rattle.cg_script.specs.declared.Script.{Script}
use Rattle.cg_script.specs.Items.{declared_budget}
use Rattle.cg_machine.specs.declared.event.Event.{Event}
use Rattle.cg_machine.specs.World.{Outcome}
use Rattle.cg_machine.specs.Run.{StepTaken, IsWholeRun}
use Rattle.cg_machine.specs.Lines.{line, text_of}
use Rattle.cg_promises.specs.Lines.{KeepPromises}
use Rattle.cg_script.specs.Reading.{Reading, reading, spells, faulty}
use Rattle.cg_interp.specs.Written.{WroteRun, WroteKept}
use Rattle.cg_cli.specs.declared.status.Status.{Status}
use Rattle.cg_cli.specs.declared.status.Status.TheVariants.{Done, BadScript, TooLarge, ReadFault, WriteFault, OutOfMemory, Budget}
use Rattle.cg_cli.specs.declared.input.TheConstants.{LIMIT}

-- the budget of a run: the one in the arguments, else that of the script, else 10,000
abbrev pub budget_of : Option ℕ → Script → ℕ
budget_of given script = unwrap_or given (unwrap_or (declared_budget script.items) 10000)

-- some bytes spell a script
abbrev pub Spells : List ℕ → Script → Type 0
Spells bytes script = reading bytes ≡ spells script.names script.items

-- The bytes spell a script, and the text of a whole run of it that ended with this status was written.
pub record RanWhole (given : Option ℕ) (outcome : Outcome) (bytes : List ℕ) (before now : Option (List ℕ)) : Type 0 where
  pub few : length bytes < LIMIT
  pub script : Script
  pub spelled : Spells bytes script
  pub wrote : WroteRun script (budget_of given script) outcome before now

-- The bytes spell a script, and lines were written that keep the promises of every run.
pub record RanKept (bytes : List ℕ) (before now : Option (List ℕ)) : Type 0 where
  pub script : Script
  pub spelled : Spells bytes script
  pub events : List Event
  pub promises : KeepPromises events
  pub written : Appends before now (flat_map (line script.names) events)

-- the line of the first bad line
abbrev pub bad_script_text : ℕ → ℕ → List ℕ
bad_script_text number code = codes "bad script " ++ decimal number ++ codes " " ++ decimal code ++ codes "\n"

-- The bytes have a first bad line, and that was written.
pub record RanBad (bytes : List ℕ) (before now : Option (List ℕ)) : Type 0 where
  pub few : length bytes < LIMIT
  pub number : ℕ
  pub code : ℕ
  pub fault : reading bytes ≡ faulty number code
  pub wrote : Appends before now (bad_script_text number code)

-- One byte more than a script may have was read, and no further one.
pub record TookTooMany (left after : Option (List ℕ)) : Type 0 where
  pub bytes : List ℕ
  pub number : length bytes ≡ LIMIT
  pub taken : Consumes left after bytes

-- What a run job writes for these bytes: the text of a whole run, or the first bad line, or that they are too many.
pub data RowText (given : Option ℕ) (bytes : List ℕ) : List ℕ → Type 0 where
  run_text : (script : Script) (outcome : Outcome) (steps : List StepTaken) → length bytes < LIMIT → Spells bytes script
      → IsWholeRun script (budget_of given script) outcome steps → RowText given bytes (text_of script steps)
  bad_text : (number code : ℕ) → length bytes < LIMIT → reading bytes ≡ faulty number code → RowText given bytes (bad_script_text number code)
  large_text : LIMIT ≤ length bytes → RowText given bytes (codes "too large\n")

-- A prefix of that was written.
pub record WroteFront (given : Option ℕ) (bytes : List ℕ) (before now : Option (List ℕ)) : Type 0 where
  pub text : List ℕ
  pub row : RowText given bytes text
  pub wrote : AppendsFront before now text

-- If the bytes are not too many and spell a script, a prefix of lines that keep the promises of every run was written.
abbrev pub FrontKept : List ℕ → Option (List ℕ) → Option (List ℕ) → Type 0
FrontKept bytes before now = length bytes < LIMIT → (script : Script) → Spells bytes script → WroteKept script.names before now

-- The answer to parsed bytes, if neither source nor sink failed and memory did not run out: `Done` or `Budget` for a
-- script, as its run ended.
abbrev pub AnswersReading : Reading → Status → Type 0
AnswersReading (spells names lines) status = (status ≡ Done) ⊎ (status ≡ Budget)
AnswersReading (faulty number code) status = status ≡ BadScript

-- up to the limit, the answer to the parsed bytes; beyond it, that there are too many
abbrev pub AnswersScript : List ℕ → Status → Type 0
AnswersScript bytes status = (length bytes < LIMIT → AnswersReading (reading bytes) status) × (LIMIT ≤ length bytes → status ≡ TooLarge)

-- a fault of the source or of the sink, or out of memory
abbrev pub IsCutShort : Status → Type 0
IsCutShort status = (status ≡ ReadFault) ⊎ (status ≡ WriteFault) ⊎ (status ≡ OutOfMemory)
