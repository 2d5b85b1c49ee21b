-- The summary of a run.
use Rattle.std.proofs.Common.{◌≡◌, ℕ, Bool, false, List, [], ◌++◌, Option, Some, sym, ap, subst, ◌∙◌}
use Rattle.std.specs.Io.KnownBytes.{Appends}
use Rattle.cg_io.specs.Causes.{AppendsFront}
use Rattle.cg_script.specs.declared.Script.{Script}
use Rattle.cg_machine.specs.World.{Ended}
use Rattle.cg_machine.specs.Run.{IsWholeRun, events_of}
use Rattle.cg_machine.specs.Lines.{text_of}
use Rattle.cg_interp.specs.Written.{WroteRun}
use Rattle.cg_generator.specs.Generated.{generated}
use Rattle.cg_generator.specs.Tallies.{Tallied, tally_of, has_refusal, summary_of}
use Rattle.cg_generator.specs.declared.counts.Tally.{Tally}
use Rattle.cg_cli.specs.Summaries.{HasTally, WroteSummary, WroteSummaryFront}
use Rattle.cg_cli.proofs.Refusals.{none_refused}

-- the tally of a sink that received a whole run without a refusal
pub tallied : (blocks : ℕ) (script : Script) (old now : Tallied) (tally : Tally) (refusal : Bool) → script ≡ generated blocks → old
    ≡ record { text = []; faults = 0 } → WroteRun script 10000 Ended (Some old.text) (Some now.text)
    → tally ≡ tally_of now.text → refusal ≡ has_refusal now.text → refusal ≡ false → HasTally blocks tally
tallied blocks script old now tally refusal is opens ran counted tells none =
    let text : now.text ≡ text_of script ran.steps = ran.written ∙ ap (λ (s : Tallied). s.text ++ text_of script ran.steps) opens in
    record {
      steps = ran.steps;
      ran = record {
        whole = subst (λ (s : Script). IsWholeRun s 10000 Ended ran.steps) is ran.whole;
        unrefused = none_refused script.names (events_of ran.steps) (sym (tells ∙ ap has_refusal text) ∙ none);
      };
      counted = counted ∙ ap tally_of (text ∙ ap (λ (s : Script). text_of s ran.steps) is);
    }

module _ (blocks : ℕ) (tally : Tally) (before now : Option (List ℕ)) (has : HasTally blocks tally) where
  pub summary_written : Appends before now (summary_of tally) → WroteSummary blocks before now
  summary_written wrote = record { steps = has.steps; ran = has.ran; wrote = subst (λ (t : Tally). Appends before now (summary_of t)) has.counted wrote }

  pub summary_begun : AppendsFront before now (summary_of tally) → WroteSummaryFront blocks before now
  summary_begun wrote = record { steps = has.steps; ran = has.ran; wrote = subst (λ (t : Tally). AppendsFront before now (summary_of t)) has.counted wrote }
