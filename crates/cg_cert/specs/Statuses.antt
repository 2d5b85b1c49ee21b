-- When each status of the checker comes, and what is written. (Ours.)
use Rattle.std.specs.Prelude.{◌≡◌, ◌<◌, ◌≤◌, ◌⊎◌, ℕ, List, ◌++◌, length, codes, decimal, Option}
use Rattle.std.specs.Io.KnownBytes.{Appends, Consumes}
use Rattle.cg_io.specs.Causes.{AppendsFront}
use Rattle.cg_cert.specs.Judged.{Judges}
use Rattle.cg_cert.specs.declared.check.Verdict.{Verdict}
use Rattle.cg_cert.specs.declared.check.Verdict.TheVariants as verdicts
use Rattle.cg_cert.specs.declared.status.CheckStatus.{CheckStatus}
use Rattle.cg_cert.specs.declared.status.CheckStatus.TheVariants.{Yes, No, TooLarge, ReadFault, WriteFault, OutOfMemory}
use Rattle.cg_cert.specs.declared.run.TheConstants.{LIMIT}

-- the line of a verdict
abbrev pub verdict_text : Verdict → List ℕ
verdict_text (verdicts.Yes records) = codes "yes " ++ decimal records ++ codes "\n"
verdict_text (verdicts.No graph code) = codes "no " ++ decimal graph ++ codes " " ++ decimal code ++ codes "\n"

-- the status of a verdict
abbrev pub status_of : Verdict → CheckStatus
status_of (verdicts.Yes records) = Yes
status_of (verdicts.No graph code) = No

-- The bytes have a verdict, with this status, and its line was written.
pub record ToldVerdict (status : CheckStatus) (bytes : List ℕ) (before now : Option (List ℕ)) : Type 0 where
  pub few : length bytes < LIMIT
  pub verdict : Verdict
  pub judges : Judges bytes verdict
  pub status_is : status ≡ status_of verdict
  pub wrote : Appends before now (verdict_text verdict)

-- Exactly one byte more than the size limit was read.
pub record TookTooMany (left after : Option (List ℕ)) : Type 0 where
  pub bytes : List ℕ
  pub number : length bytes ≡ LIMIT
  pub taken : Consumes left after bytes

-- what is written for these bytes: the line of their verdict, or that they are too many
pub data RowText (bytes : List ℕ) : List ℕ → Type 0 where
  verdict_row : (verdict : Verdict) → length bytes < LIMIT → Judges bytes verdict → RowText bytes (verdict_text verdict)
  large_row : LIMIT ≤ length bytes → RowText bytes (codes "too large\n")

-- A prefix of that line was written.
pub record ToldFront (bytes : List ℕ) (before now : Option (List ℕ)) : Type 0 where
  pub text : List ℕ
  pub row : RowText bytes text
  pub wrote : AppendsFront before now text

-- The status is that of the verdict on these bytes.
pub record AnswersVerdict (bytes : List ℕ) (status : CheckStatus) : Type 0 where
  pub verdict : Verdict
  pub judges : Judges bytes verdict
  pub status_is : status ≡ status_of verdict

-- The status for these bytes if neither source nor sink failed and memory sufficed: up to the limit that of their
-- verdict, beyond it that they are too many.
abbrev pub AnswersRecords : List ℕ → CheckStatus → Type 0
AnswersRecords bytes status = (length bytes < LIMIT → AnswersVerdict bytes status) × (LIMIT ≤ length bytes → status ≡ TooLarge)

-- a fault of the source or of the sink, or lack of memory
abbrev pub IsCutShort : CheckStatus → Type 0
IsCutShort status = (status ≡ ReadFault) ⊎ (status ≡ WriteFault) ⊎ (status ≡ OutOfMemory)
