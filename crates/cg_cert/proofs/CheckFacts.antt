-- Facts of a check, for a source that reveals its bytes.
use Rattle.std.proofs.Common.{◌≡◌, ◌⊎◌, inl, inr, ◌<◌, ℕ, ◌≤◌, List, ◌++◌, length, length-append, append-nil, Option, None, Some, IfSome, sym, ap, subst, ◌∙◌, arith}
use Rattle.std.proofs.lemmas.Bool.{cases_lt}
use Rattle.std.specs.Io.KnownBytes.{Consumes, IsAtEnd}
use Rattle.cg_cert.specs.Statuses.{ToldFront, RowText, verdict_row, large_row, AnswersRecords, IsCutShort, status_of}
use Rattle.cg_cert.specs.declared.run.TheConstants.{LIMIT}
use Rattle.cg_cert.specs.Judged.{Judges}
use Rattle.cg_cert.specs.declared.check.Verdict.{Verdict}
use Rattle.cg_cert.specs.declared.status.CheckStatus.{CheckStatus}
use Rattle.cg_cert.specs.declared.status.CheckStatus.TheVariants as status

-- What holds of the bytes read holds of the source's bytes: either these are all of them, or there are too many.
module _ (left after : Option (List ℕ)) (bytes : List ℕ) (took : Consumes left after bytes) (ends : length bytes < LIMIT → IsAtEnd after) where
  told : (P : List ℕ → Type 0) → P bytes → ((more : List ℕ) → LIMIT ≤ length bytes → P bytes → P (bytes ++ more)) → IfSome left P
  told P here longer = by left after took ends
    where
      by : (l a : Option (List ℕ)) → Consumes l a bytes → (length bytes < LIMIT → IsAtEnd a) → IfSome l P
      by None a t e = tt
      by (Some xs) None t e = absurd t
      by (Some xs) (Some ys) t e = elim (cases_lt (length bytes) LIMIT) [
        | inl few ↦ subst P (sym (t ∙ ap (λ l. bytes ++ l) (e few) ∙ append-nil bytes)) here
        | inr many ↦ subst P (sym t) (longer ys many here)
      ]

  longer_row : (more text : List ℕ) → LIMIT ≤ length bytes → RowText bytes text → RowText (bytes ++ more) text
  longer_row more _ many (verdict_row verdict few judges) = absurd (omega (arith, many, few))
  longer_row more _ many (large_row large) = large_row (omega (arith, many, length-append bytes more))

  pub told_front : (before now : Option (List ℕ)) → ToldFront bytes before now → IfSome left (λ bs. ToldFront bs before now)
  told_front before now wrote = told (λ bs. ToldFront bs before now) wrote (λ more many w. record { text = w.text; row = longer_row more w.text many w.row; wrote = w.wrote })

-- if neither source nor sink failed, only lack of memory cuts a check short
pub complete : (answer : CheckStatus) (SourceRose SinkRose Told : Type 0) → (answer ≡ status.ReadFault → SourceRose) → (answer ≡ status.WriteFault → SinkRose) → IsCutShort answer ⊎ Told
    → ¬ SourceRose → ¬ SinkRose → (answer ≡ status.OutOfMemory) ⊎ Told
complete answer SourceRose SinkRose Told read write (inr told) no_source no_sink = inr told
complete answer SourceRose SinkRose Told read write (inl (inl e)) no_source no_sink = absurd (no_source (read e))
complete answer SourceRose SinkRose Told read write (inl (inr (inl e))) no_source no_sink = absurd (no_sink (write e))
complete answer SourceRose SinkRose Told read write (inl (inr (inr e))) no_source no_sink = inl e

-- the status of a verdict
pub answers_of : (bytes : List ℕ) (answer : CheckStatus) (v : Verdict) → length bytes < LIMIT → Judges bytes v → answer ≡ status_of v → AnswersRecords bytes answer
answers_of bytes answer v short judges is = (λ few. record { verdict = v; judges = judges; status_is = is }, λ many. absurd (omega (arith, short, many)))
