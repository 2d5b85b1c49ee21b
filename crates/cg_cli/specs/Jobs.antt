-- What a call does for each job: what each status means, what a fault leaves, which status comes. (Ours.)
use Rattle.std.specs.Prelude.{◌≡◌, ◌≢◌, ◌⊎◌, ℕ, List, codes, Option, IfSome}
use Rattle.std.specs.Io.KnownBytes.{Appends, Keeps, IsAtEnd}
use Rattle.cg_io.specs.Causes.{AppendsFront, Rose}
use Rattle.cg_machine.specs.World.{Ended, BudgetIsSpent}
use Rattle.cg_words.specs.Words.{AsksFor, Ask}
use Rattle.cg_words.specs.declared.words.Job.TheVariants.{Generate}
use Rattle.cg_cli.specs.Statuses.{RanWhole, RanKept, RanBad, TookTooMany, WroteFront, FrontKept, AnswersScript, IsCutShort}
use Rattle.cg_cli.specs.Summaries.{WroteSummary, WroteSummaryFront}
use Rattle.cg_cli.specs.Expansions.{WroteExpansion, WroteFirstBad, WroteExpandFront, AnswersExpand}
use Rattle.cg_cli.specs.Recordings.{RecordedWhole, RecordedPart, RecordedFront}
use Rattle.cg_cli.specs.declared.status.Status.{Status}
use Rattle.cg_cli.specs.declared.status.Status.TheVariants.{Done, BadScript, BadWords, ReadFault, WriteFault, OutOfMemory, Budget, TooLarge}

-- The state outside a call: the bytes that its source has left, those that its sink has received, as far as they report them,
-- and how often each has failed.
pub record Outside : Type 0 where
  pub left : Option (List ℕ)
  pub read_faults : ℕ
  pub written : Option (List ℕ)
  pub write_faults : ℕ

abbrev pub outside : Option (List ℕ) → ℕ → Option (List ℕ) → ℕ → Outside
outside left read_faults written write_faults = record { left = left; read_faults = read_faults; written = written; write_faults = write_faults }

-- What every job that reads its source keeps: too many bytes are reported, a fault has its cause, and after a failed read nothing was written.
pub record ReadsSource (status : Status) (was is : Outside) : Type 0 where
  pub too_large : status ≡ TooLarge → Appends was.written is.written (codes "too large\n")
  pub taken : status ≡ TooLarge → TookTooMany was.left is.left
  pub read_cause : status ≡ ReadFault → Rose was.read_faults is.read_faults
  pub read : status ≡ ReadFault → Keeps was.written is.written
  pub write_cause : status ≡ WriteFault → Rose was.write_faults is.write_faults
  pub words : status ≢ BadWords

-- If neither source nor sink fails, this answer comes unless memory runs out.
abbrev pub ComesWithoutFaults : Status → Outside → Outside → (List ℕ → Type 0) → Type 0
ComesWithoutFaults status was is Answer = ¬ (Rose was.read_faults is.read_faults) → ¬ (Rose was.write_faults is.write_faults)
    → (status ≡ OutOfMemory) ⊎ IfSome was.left Answer

-- A job to run a script, with the budget from the arguments.
pub record RunAnswers (given : Option ℕ) (status : Status) (was is : Outside) : Type 0 where
  -- The bytes spell a script, and what was written is the text of a whole run of the machine on it that ended with
  -- this status.
  pub done : status ≡ Done → IfSome was.left (λ bytes. RanWhole given Ended bytes was.written is.written)
  pub spent : status ≡ Budget → IfSome was.left (λ bytes. RanWhole given BudgetIsSpent bytes was.written is.written)
  -- Its lines begin the finalizer of an object at most once (PEP 442), and name no object that an earlier line frees.
  pub promises : (status ≡ Done) ⊎ (status ≡ Budget) → IfSome was.left (λ bytes. RanKept bytes was.written is.written)
  -- The same holds of the lines that a failed sink received.
  pub promises_in_part : status ≡ WriteFault → IfSome was.left (λ bytes. FrontKept bytes was.written is.written)
  pub bad_script : status ≡ BadScript → IfSome was.left (λ bytes. RanBad bytes was.written is.written)
  pub read_to_end : (status ≡ Done) ⊎ (status ≡ Budget) ⊎ (status ≡ BadScript) → IsAtEnd is.left
  pub reads : ReadsSource status was is
  -- What a failed sink received, and what was written if memory was refused.
  pub write : status ≡ WriteFault → IfSome was.left (λ bytes. WroteFront given bytes was.written is.written)
  pub memory : status ≡ OutOfMemory → Keeps was.written is.written
  -- Except for faults, memory and how the run ended, the bytes alone decide the answer.
  pub answers : IsCutShort status ⊎ IfSome was.left (λ bytes. AnswersScript bytes status)
  pub complete : ComesWithoutFaults status was is (λ bytes. AnswersScript bytes status)

-- A job that runs the script of `blocks` blocks and writes the summary of its text.
pub record GenerateAnswers (blocks : ℕ) (status : Status) (before now : Option (List ℕ)) (faults_before faults_now : ℕ) : Type 0 where
  -- What was written is the summary of the text of a whole run of that script without a refused command.
  pub done : status ≡ Done → WroteSummary blocks before now
  pub write : status ≡ WriteFault → WroteSummaryFront blocks before now
  pub write_cause : status ≡ WriteFault → Rose faults_before faults_now
  pub memory : status ≡ OutOfMemory → Keeps before now
  pub answers : (status ≡ Done) ⊎ (status ≡ WriteFault) ⊎ (status ≡ OutOfMemory)
  pub complete : ¬ (Rose faults_before faults_now) → (status ≡ Done) ⊎ (status ≡ OutOfMemory)

-- A job to expand an extended script.
pub record ExpandAnswers (status : Status) (was is : Outside) : Type 0 where
  -- The bytes have no bad line, and their expansion was written.
  pub done : status ≡ Done → IfSome was.left (λ bytes. WroteExpansion bytes was.written is.written)
  pub bad_script : status ≡ BadScript → IfSome was.left (λ bytes. WroteFirstBad bytes was.written is.written)
  pub read_to_end : (status ≡ Done) ⊎ (status ≡ BadScript) → IsAtEnd is.left
  pub reads : ReadsSource status was is
  pub write : status ≡ WriteFault → IfSome was.left (λ bytes. WroteExpandFront bytes was.written is.written)
  pub memory : status ≡ OutOfMemory → Keeps was.written is.written
  pub statuses : (status ≡ Done) ⊎ (status ≡ BadScript) ⊎ (status ≡ TooLarge) ⊎ IsCutShort status
  pub answers : IsCutShort status ⊎ IfSome was.left (λ bytes. AnswersExpand bytes status)
  pub complete : ComesWithoutFaults status was is (λ bytes. AnswersExpand bytes status)

-- A job to run a script with its own budget, and to write the records of its collections.
pub record RecordAnswers (status : Status) (was is : Outside) : Type 0 where
  -- The bytes spell a script, and what was written is the text of the records of a whole run of it that ended with this status,
  -- and in which no command was refused for memory.
  pub done : status ≡ Done → IfSome was.left (λ bytes. RecordedWhole Ended bytes was.written is.written)
  pub spent : status ≡ Budget → IfSome was.left (λ bytes. RecordedWhole BudgetIsSpent bytes was.written is.written)
  pub bad_script : status ≡ BadScript → IfSome was.left (λ bytes. RanBad bytes was.written is.written)
  pub read_to_end : (status ≡ Done) ⊎ (status ≡ Budget) ⊎ (status ≡ BadScript) → IsAtEnd is.left
  pub reads : ReadsSource status was is
  pub write : status ≡ WriteFault → IfSome was.left (λ bytes. RecordedFront bytes was.written is.written)
  -- Memory may be refused to a command too; then a prefix of the records was written.
  pub memory : status ≡ OutOfMemory → Keeps was.written is.written ⊎ IfSome was.left (λ bytes. RecordedPart bytes was.written is.written)
  pub answers : IsCutShort status ⊎ IfSome was.left (λ bytes. AnswersScript bytes status)
  pub complete : ComesWithoutFaults status was is (λ bytes. AnswersScript bytes status)

-- Arguments that ask for no job.
pub record NoJobAnswers (status : Status) (before now : Option (List ℕ)) (faults_before faults_now : ℕ) : Type 0 where
  pub bad_words : status ≡ BadWords → Appends before now (codes "bad words\n")
  pub write : status ≡ WriteFault → AppendsFront before now (codes "bad words\n")
  pub write_cause : status ≡ WriteFault → Rose faults_before faults_now
  pub memory : status ≡ OutOfMemory → Keeps before now
  pub answers : (status ≡ BadWords) ⊎ (status ≡ WriteFault) ⊎ (status ≡ OutOfMemory)

-- The arguments ask for no job, or for one that does not read the source.
abbrev pub ReadNothing : List (List ℕ) → Type 0
ReadNothing words = ((blocks : ℕ) × AsksFor words (Generate blocks)) ⊎ ¬ (Ask words)
