-- What a job to expand an extended script writes. (Ours.)
use Rattle.std.specs.Prelude.{◌≡◌, ◌<◌, ◌≤◌, ℕ, List, length, codes, Option, None, Some}
use Rattle.std.specs.Io.KnownBytes.{Appends}
use Rattle.cg_io.specs.Causes.{AppendsFront}
use Rattle.cg_weakcoll.specs.Expansion.{expansion, first_bad}
use Rattle.cg_cli.specs.Statuses.{bad_script_text}
use Rattle.cg_cli.specs.declared.input.TheConstants.{LIMIT}
use Rattle.cg_cli.specs.declared.status.Status.{Status}
use Rattle.cg_cli.specs.declared.status.Status.TheVariants.{Done, BadScript, TooLarge}

-- The bytes have no bad line, and their expansion was written.
pub record WroteExpansion (bytes : List ℕ) (before now : Option (List ℕ)) : Type 0 where
  pub few : length bytes < LIMIT
  pub good : first_bad bytes ≡ None
  pub wrote : Appends before now (expansion bytes)

-- The bytes have a first bad line, and that was written.
pub record WroteFirstBad (bytes : List ℕ) (before now : Option (List ℕ)) : Type 0 where
  pub few : length bytes < LIMIT
  pub number : ℕ
  pub code : ℕ
  pub fault : first_bad bytes ≡ Some (number, code)
  pub wrote : Appends before now (bad_script_text number code)

-- What such a job writes for these bytes: their expansion, or the first bad line, or that they are too many.
pub data ExpandText (bytes : List ℕ) : List ℕ → Type 0 where
  expansion_text : length bytes < LIMIT → first_bad bytes ≡ None → ExpandText bytes (expansion bytes)
  first_bad_text : (number code : ℕ) → length bytes < LIMIT → first_bad bytes ≡ Some (number, code) → ExpandText bytes (bad_script_text number code)
  too_large_text : LIMIT ≤ length bytes → ExpandText bytes (codes "too large\n")

-- A prefix of that was written.
pub record WroteExpandFront (bytes : List ℕ) (before now : Option (List ℕ)) : Type 0 where
  pub text : List ℕ
  pub row : ExpandText bytes text
  pub wrote : AppendsFront before now text

-- The answer to a first bad line or none, if neither source nor sink failed and memory did not run out.
abbrev pub AnswersFirstBad : Option (ℕ × ℕ) → Status → Type 0
AnswersFirstBad None status = status ≡ Done
AnswersFirstBad (Some bad) status = status ≡ BadScript

-- up to the limit, the answer to the first bad line; beyond it, that there are too many bytes
abbrev pub AnswersExpand : List ℕ → Status → Type 0
AnswersExpand bytes status = (length bytes < LIMIT → AnswersFirstBad (first_bad bytes) status) × (LIMIT ≤ length bytes → status ≡ TooLarge)
