-- The lines of a written run keep the promises of every run.
use Rattle.std.proofs.Common.{◌≡◌, sym, ◌∙◌, subst, ℕ, List, Option, None, Some, IfSome, arith}
use Rattle.cg_io.specs.Causes.{AppendsFront}
use Rattle.cg_script.specs.Reading.{spells}
use Rattle.cg_machine.specs.World.{Outcome}
use Rattle.cg_machine.specs.Run.{events_of}
use Rattle.cg_laws.specs.Laws.{OneFinalizerEach}
use Rattle.cg_promises.specs.Lines.{NoDeadLines}
use Rattle.cg_interp.specs.Written.{WroteKept}
use Rattle.cg_cli.specs.Statuses.{RanWhole, RanKept, RowText, run_text, bad_text, large_text, WroteFront, FrontKept, budget_of}

module _ (one : OneFinalizerEach) (none_dead : NoDeadLines) where
  ran_kept : (given : Option ℕ) (outcome : Outcome) (bytes : List ℕ) (before now : Option (List ℕ)) → RanWhole given outcome bytes before now → RanKept bytes before now
  ran_kept given outcome bytes before now ran = record {
    script = ran.script;
    spelled = ran.spelled;
    events = events_of ran.wrote.steps;
    promises = record {
      finalizers = one ran.script (budget_of given ran.script) ran.wrote.steps ran.wrote.whole.run;
      dead = none_dead ran.script (budget_of given ran.script) ran.wrote.steps ran.wrote.whole.run;
    };
    written = ran.wrote.written;
  }

  -- where the source reports its bytes
  pub told_kept : (given : Option ℕ) (outcome : Outcome) (left before now : Option (List ℕ)) → IfSome left (λ bytes. RanWhole given outcome bytes before now)
      → IfSome left (λ bytes. RanKept bytes before now)
  told_kept given outcome None before now ran = tt
  told_kept given outcome (Some bytes) before now ran = ran_kept given outcome bytes before now ran

  -- of the three texts that a run job may write, bytes that spell a script get the first
  row_kept : (given : Option ℕ) (bytes text : List ℕ) (before now : Option (List ℕ)) → RowText given bytes text → AppendsFront before now text → FrontKept bytes before now
  row_kept given bytes text before now (run_text ran outcome steps few spelled whole) wrote small script spells_it =
      let read : spells ran.names ran.items ≡ spells script.names script.items = sym spelled ∙ spells_it in
      let same : ran.names ≡ script.names = cc in
      subst (λ names. WroteKept names before now) same (record {
        events = events_of steps;
        promises = record {
          finalizers = one ran (budget_of given ran) steps whole.run;
          dead = none_dead ran (budget_of given ran) steps whole.run;
        };
        written = wrote;
      })
  row_kept given bytes text before now (bad_text number code few fault) wrote small script spells_it = absurd (let no = sym fault ∙ spells_it in cc)
  row_kept given bytes text before now (large_text large) wrote small script spells_it = absurd (omega (arith, large, small))

  -- if the sink failed
  pub front_kept : (given : Option ℕ) (left before now : Option (List ℕ)) → IfSome left (λ bytes. WroteFront given bytes before now) → IfSome left (λ bytes. FrontKept bytes before now)
  front_kept given None before now front = tt
  front_kept given (Some bytes) before now front = row_kept given bytes front.text before now front.row front.wrote
