-- The written lines of a run keep the promises of every run.
use Rattle.std.proofs.Common.{◌≡◌, refl, sym, ◌∙◌, append-nil, ℕ, List, [], ◌∷◌, ◌++◌, Option, None, Some, arith}
use Rattle.std.specs.Io.KnownBytes.{Appends, Keeps}
use Rattle.cg_script.specs.declared.Script.{Script}
use Rattle.cg_machine.specs.declared.event.Event.{Event}
use Rattle.cg_machine.specs.declared.event.Event.TheVariants.{Free}
use Rattle.cg_machine.specs.World.{Outcome, Ended, BudgetIsSpent}
use Rattle.cg_machine.specs.Run.{StepTaken, IsWholeRun, events_of}
use Rattle.cg_machine.specs.Lines.{text_of}
use Rattle.cg_laws.specs.Laws.{OneFinalizerEach}
use Rattle.cg_promises.specs.Lines.{NoDeadLines, KeepPromises}
use Rattle.cg_interp.specs.Written.{WroteRun, WrotePart, WroteKept}
use Rattle.cg_interp.specs.declared.run.RunEnd.{RunEnd}
use Rattle.cg_interp.specs.declared.run.RunEnd.TheVariants.{Done, Budget, WriteFault, OutOfMemory}

-- no line breaks no promise
none_kept : KeepPromises []
none_kept = record { finalizers = λ n. omega arith; dead = λ n front back is. absurd (none front n back is) }
  where
    none : (front : List Event) (n : ℕ) (back : List Event) → [] ≡ front ++ Free n ∷ back → ⊥
    none [] n back is = absurd (cc)
    none (event ∷ front) n back is = absurd (cc)

-- known bytes that do not change are followed by none
appends_none : (before now : Option (List ℕ)) → Keeps before now → Appends before now []
appends_none None now kept = tt
appends_none (Some xs) None kept = absurd kept
appends_none (Some xs) (Some ys) kept = kept ∙ sym (append-nil xs)

module _ (one : OneFinalizerEach) (none_dead : NoDeadLines) (script : Script) (budget : ℕ) (before now : Option (List ℕ)) where
  whole_kept : (outcome : Outcome) (steps : List StepTaken) → IsWholeRun script budget outcome steps → KeepPromises (events_of steps)
  whole_kept outcome steps whole = record { finalizers = one script budget steps whole.run; dead = none_dead script budget steps whole.run }

  run_kept : (outcome : Outcome) → WroteRun script budget outcome before now → WroteKept script.names before now
  run_kept outcome wrote = record {
    events = events_of wrote.steps;
    promises = whole_kept outcome wrote.steps wrote.whole;
    written = record { front = text_of script wrote.steps; rest = []; whole = sym (append-nil _); appended = wrote.written };
  }

  part_kept : WrotePart script budget before now → WroteKept script.names before now
  part_kept wrote = record { events = events_of wrote.steps; promises = whole_kept wrote.outcome wrote.steps wrote.whole; written = wrote.written }

  nothing_kept : Keeps before now → WroteKept script.names before now
  nothing_kept kept = record {
    events = [];
    promises = none_kept;
    written = record { front = []; rest = []; whole = refl; appended = appends_none before now kept };
  }

  -- whatever the answer
  pub answer_kept : (answer : RunEnd) → (answer ≡ Done → WroteRun script budget Ended before now) → (answer ≡ Budget → WroteRun script budget BudgetIsSpent before now)
      → (answer ≡ WriteFault → WrotePart script budget before now) → (answer ≡ OutOfMemory → Keeps before now) → WroteKept script.names before now
  answer_kept Done done spent part memory = run_kept Ended (done refl)
  answer_kept Budget done spent part memory = run_kept BudgetIsSpent (spent refl)
  answer_kept WriteFault done spent part memory = part_kept (part refl)
  answer_kept OutOfMemory done spent part memory = nothing_kept (memory refl)
