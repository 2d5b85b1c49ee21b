-- Facts of a record job whose source reports its bytes.
use Rattle.std.proofs.Common.{◌≡◌, ◌⊎◌, inl, inr, ◌≤◌, ℕ, List, length, Option, IfSome, codes}
use Rattle.std.specs.Io.KnownBytes.{Keeps}
use Rattle.cg_io.specs.Causes.{AppendsFront}
use Rattle.cg_machine.specs.World.{Outcome}
use Rattle.cg_cli.specs.declared.input.TheConstants.{LIMIT}
use Rattle.cg_cli.specs.Recordings.{RecordedWhole, RecordedPart, RecordedSome, RecordedFront, large_front}
use Rattle.cg_cli.proofs.RunFacts.{told, told_many}

module _ (left : Option (List ℕ)) (bytes : List ℕ) (all : IfSome left (λ t. t ≡ bytes)) where
  pub told_recorded : (outcome : Outcome) (before now : Option (List ℕ)) → RecordedWhole outcome bytes before now → IfSome left (λ bs. RecordedWhole outcome bs before now)
  told_recorded outcome before now wrote = told left bytes all (λ bs. RecordedWhole outcome bs before now) wrote

  -- nothing, or a prefix of the records
  pub told_recorded_some : (before now : Option (List ℕ)) → RecordedSome bytes before now → Keeps before now ⊎ IfSome left (λ bs. RecordedPart bs before now)
  told_recorded_some before now (inl kept) = inl kept
  told_recorded_some before now (inr part) = inr (told left bytes all (λ bs. RecordedPart bs before now) part)

  pub told_recorded_front : (before now : Option (List ℕ)) → RecordedFront bytes before now → IfSome left (λ bs. RecordedFront bs before now)
  told_recorded_front before now wrote = told left bytes all (λ bs. RecordedFront bs before now) wrote

pub many_recorded_front : (left before now : Option (List ℕ)) → IfSome left (λ t. LIMIT ≤ length t) → AppendsFront before now (codes "too large\n") → IfSome left (λ bs. RecordedFront bs before now)
many_recorded_front left before now many wrote = told_many left many (λ bs. RecordedFront bs before now) (λ t large. large_front large wrote)
