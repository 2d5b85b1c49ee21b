-- Facts of a run job whose source reports its bytes.
use Rattle.std.proofs.Common.{◌≡◌, ◌⊎◌, inl, inr, ◌<◌, ℕ, ◌≤◌, List, length, Option, None, Some, IfSome, sym, subst, arith, codes}
use Rattle.cg_io.specs.Causes.{AppendsFront}
use Rattle.cg_script.specs.Reading.{reading}
use Rattle.cg_machine.specs.World.{Outcome}
use Rattle.cg_cli.specs.Statuses.{WroteFront, large_text, RanWhole, RanBad, AnswersReading, AnswersScript, IsCutShort}
use Rattle.cg_cli.specs.declared.input.TheConstants.{LIMIT}
use Rattle.cg_cli.specs.declared.status.Status.{Status}
use Rattle.cg_cli.specs.declared.status.Status.TheVariants as status

-- A property of the bytes that were read holds of those that the source reported.
pub told : (left : Option (List ℕ)) (bytes : List ℕ) → IfSome left (λ t. t ≡ bytes) → (P : List ℕ → Type 0) → P bytes → IfSome left P
told None bytes all P here = tt
told (Some t) bytes all P here = subst P (sym all) here

-- So does a property of any too many bytes, if it reported those.
pub told_many : (left : Option (List ℕ)) → IfSome left (λ t. LIMIT ≤ length t) → (P : List ℕ → Type 0) → ((t : List ℕ) → LIMIT ≤ length t → P t) → IfSome left P
told_many None many P each = tt
told_many (Some t) many P each = each t many

module _ (left : Option (List ℕ)) (bytes : List ℕ) (all : IfSome left (λ t. t ≡ bytes)) where
  pub told_whole : (given : Option ℕ) (outcome : Outcome) (before now : Option (List ℕ)) → RanWhole given outcome bytes before now → IfSome left (λ bs. RanWhole given outcome bs before now)
  told_whole given outcome before now ran = told left bytes all (λ bs. RanWhole given outcome bs before now) ran

  pub told_bad : (before now : Option (List ℕ)) → RanBad bytes before now → IfSome left (λ bs. RanBad bs before now)
  told_bad before now ran = told left bytes all (λ bs. RanBad bs before now) ran

  pub told_front : (given : Option ℕ) (before now : Option (List ℕ)) → WroteFront given bytes before now → IfSome left (λ bs. WroteFront given bs before now)
  told_front given before now wrote = told left bytes all (λ bs. WroteFront given bs before now) wrote

  pub told_answers : (answer : Status) → length bytes < LIMIT → AnswersReading (reading bytes) answer → IfSome left (λ bs. AnswersScript bs answer)
  told_answers answer few says = told left bytes all (λ bs. AnswersScript bs answer) (λ fits. says, λ many. absurd (omega (arith, few, many)))

module _ (left : Option (List ℕ)) (many : IfSome left (λ t. LIMIT ≤ length t)) where
  pub many_front : (given : Option ℕ) (before now : Option (List ℕ)) → AppendsFront before now (codes "too large\n") → IfSome left (λ bs. WroteFront given bs before now)
  many_front given before now wrote = told_many left many (λ bs. WroteFront given bs before now) (λ t large. record { text = codes "too large\n"; row = large_text large; wrote = wrote })

  pub many_answers : (answer : Status) → answer ≡ status.TooLarge → IfSome left (λ bs. AnswersScript bs answer)
  many_answers answer is = told_many left many (λ bs. AnswersScript bs answer) (λ t large. (λ few. absurd (omega (arith, few, large)), λ many. is))

-- if neither source nor sink failed, only memory cuts a job short
pub complete : (answer : Status) (SourceRose SinkRose Told : Type 0) → (answer ≡ status.ReadFault → SourceRose) → (answer ≡ status.WriteFault → SinkRose) → IsCutShort answer ⊎ Told
    → ¬ SourceRose → ¬ SinkRose → (answer ≡ status.OutOfMemory) ⊎ Told
complete answer SourceRose SinkRose Told read write (inr told) no_source no_sink = inr told
complete answer SourceRose SinkRose Told read write (inl (inl e)) no_source no_sink = absurd (no_source (read e))
complete answer SourceRose SinkRose Told read write (inl (inr (inl e))) no_source no_sink = absurd (no_sink (write e))
complete answer SourceRose SinkRose Told read write (inl (inr (inr e))) no_source no_sink = inl e
