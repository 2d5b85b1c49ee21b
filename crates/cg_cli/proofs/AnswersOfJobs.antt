-- What each job that reads its source answers: the answer for the bytes in hand is the answer for the source that
-- reports them.
use Rattle.std.proofs.Common.{◌≡◌, ◌⊎◌, inl, inr, ◌<◌, ℕ, ◌≤◌, List, length, Option, None, Some, IfSome, codes, arith}
use Rattle.std.specs.Io.KnownBytes.{Appends, Keeps, IsAtEnd}
use Rattle.cg_io.specs.Causes.{AppendsFront, Rose}
use Rattle.cg_script.specs.Reading.{Reading, reading, spells, faulty}
use Rattle.cg_machine.specs.World.{Ended, BudgetIsSpent}
use Rattle.cg_laws.specs.Laws.{OneFinalizerEach}
use Rattle.cg_promises.specs.Lines.{NoDeadLines}
use Rattle.cg_weakcoll.specs.Expansion.{first_bad}
use Rattle.cg_cli.specs.Jobs.{Outside, ReadsSource, ComesWithoutFaults, RunAnswers, ExpandAnswers, RecordAnswers}
use Rattle.cg_cli.specs.Statuses.{RanWhole, RanBad, TookTooMany, WroteFront, AnswersReading, AnswersScript, IsCutShort}
use Rattle.cg_cli.specs.Expansions.{WroteExpansion, WroteFirstBad, WroteExpandFront, AnswersFirstBad, AnswersExpand}
use Rattle.cg_cli.specs.Recordings.{RecordedWhole, RecordedSome, RecordedFront}
use Rattle.cg_cli.specs.declared.input.TheConstants.{LIMIT}
use Rattle.cg_cli.specs.declared.status.Status.{Status}
use Rattle.cg_cli.specs.declared.status.Status.TheVariants.{Done, BadScript, BadWords, ReadFault, WriteFault, OutOfMemory, Budget, TooLarge}
use Rattle.cg_cli.proofs.RunFacts.{told, told_front, told_answers, many_front, many_answers, complete}
use Rattle.cg_cli.proofs.RecordFacts.{told_recorded, told_recorded_some, told_recorded_front, many_recorded_front}
use Rattle.cg_cli.proofs.ExpandFacts.{told_expansion, told_first_bad, told_expand_front, told_expand_answers, many_expand_front, many_expand_answers}
use Rattle.cg_cli.proofs.KeptLines.{told_kept, front_kept}

-- the statuses that come after the bytes are in hand, and those that come before; memory and the sink may fail at any
-- time
abbrev pub IsOfBytes : Status → Type 0
IsOfBytes s = (s ≡ Done) ⊎ (s ≡ Budget) ⊎ (s ≡ BadScript) ⊎ (s ≡ WriteFault) ⊎ (s ≡ OutOfMemory)

abbrev pub IsBeforeBytes : Status → Type 0
IsBeforeBytes s = (s ≡ TooLarge) ⊎ (s ≡ ReadFault) ⊎ (s ≡ BadWords)

apart : (P : Type 0) (s : Status) → IsOfBytes s → IsBeforeBytes s → P
apart P s of before = absurd (grind arith)

unread : (P : Type 0) (s : Status) → IsCutShort s ⊎ (s ≡ TooLarge) → (s ≡ Done) ⊎ (s ≡ Budget) ⊎ (s ≡ BadScript) ⊎ (s ≡ BadWords) → P
unread P s only e = absurd (grind arith)

of_reading : (r : Reading) (s : Status) → AnswersReading r s ⊎ (s ≡ WriteFault) ⊎ (s ≡ OutOfMemory) → IsOfBytes s
of_reading (spells names lines) s (inl (inl e)) = inl e
of_reading (spells names lines) s (inl (inr e)) = inr (inl e)
of_reading (faulty number code) s (inl e) = inr (inr (inl e))
of_reading r s (inr e) = inr (inr (inr e))

of_first_bad : (bad : Option (ℕ × ℕ)) (s : Status) → AnswersFirstBad bad s ⊎ (s ≡ WriteFault) ⊎ (s ≡ OutOfMemory) → IsOfBytes s
of_first_bad None s (inl e) = inl e
of_first_bad (Some b) s (inl e) = inr (inr (inl e))
of_first_bad bad s (inr e) = inr (inr (inr e))

-- What holds of the bytes in hand, or a fault that cut the job short.
answered : (s : Status) (P : Type 0) → P ⊎ (s ≡ WriteFault) ⊎ (s ≡ OutOfMemory) → IsCutShort s ⊎ P
answered s P (inl p) = inr p
answered s P (inr (inl e)) = inl (inr (inl e))
answered s P (inr (inr e)) = inl (inr (inr e))

at_bytes : (A B C : Type 0) → (A → B) → A ⊎ C → B ⊎ C
at_bytes A B C f (inl a) = inl (f a)
at_bytes A B C f (inr c) = inr c

expand_statuses : (bad : Option (ℕ × ℕ)) (s : Status) → AnswersFirstBad bad s ⊎ (s ≡ WriteFault) ⊎ (s ≡ OutOfMemory) → (s ≡ Done) ⊎ (s ≡ BadScript) ⊎ (s ≡ TooLarge) ⊎ IsCutShort s
expand_statuses None s (inl e) = inl e
expand_statuses (Some b) s (inl e) = inr (inl e)
expand_statuses bad s (inr e) = inr (inr (inr (inr e)))

module _ (s : Status) (was is : Outside) where
  reads_of_bytes : IsOfBytes s → (s ≡ WriteFault → Rose was.write_faults is.write_faults) → ReadsSource s was is
  reads_of_bytes of cause = record {
    too_large = λ e. apart _ s of (inl e);
    taken = λ e. apart _ s of (inl e);
    read_cause = λ e. apart _ s of (inr (inl e));
    read = λ e. apart _ s of (inr (inl e));
    write_cause = cause;
    words = λ e. apart _ s of (inr (inr e));
  }

  -- if nothing fails, only memory cuts a job short
  completed : (Answer : List ℕ → Type 0) → ReadsSource s was is → IsCutShort s ⊎ IfSome was.left Answer → ComesWithoutFaults s was is Answer
  completed Answer reads answers = complete s (Rose was.read_faults is.read_faults) (Rose was.write_faults is.write_faults) (IfSome was.left Answer) reads.read_cause reads.write_cause answers

  module _ (bytes : List ℕ) (all : IfSome was.left (λ t. t ≡ bytes)) (few : length bytes < LIMIT) (end : IsAtEnd is.left) where
    script_answers : AnswersReading (reading bytes) s ⊎ (s ≡ WriteFault) ⊎ (s ≡ OutOfMemory) → IsCutShort s ⊎ IfSome was.left (λ bs. AnswersScript bs s)
    script_answers only = answered s _ (at_bytes _ _ _ (told_answers was.left bytes all s few) only)

    pub run_answers : (given : Option ℕ) → OneFinalizerEach → NoDeadLines
        → (s ≡ Done → RanWhole given Ended bytes was.written is.written) → (s ≡ Budget → RanWhole given BudgetIsSpent bytes was.written is.written)
        → (s ≡ BadScript → RanBad bytes was.written is.written) → (s ≡ WriteFault → WroteFront given bytes was.written is.written)
        → (s ≡ WriteFault → Rose was.write_faults is.write_faults) → (s ≡ OutOfMemory → Keeps was.written is.written)
        → AnswersReading (reading bytes) s ⊎ (s ≡ WriteFault) ⊎ (s ≡ OutOfMemory) → RunAnswers given s was is
    run_answers given one none done spent bad write cause memory only =
        let reads : ReadsSource s was is = reads_of_bytes (of_reading (reading bytes) s only) cause in
        let done' : (s ≡ Done → IfSome was.left (λ bs. RanWhole given Ended bs was.written is.written)) = λ e. told was.left bytes all
        (λ bs. RanWhole given Ended bs was.written is.written) (done e) in
        let spent' : (s ≡ Budget → IfSome was.left (λ bs. RanWhole given BudgetIsSpent bs was.written is.written)) = λ e. told was.left bytes all
        (λ bs. RanWhole given BudgetIsSpent bs was.written is.written) (spent e) in
        record {
          done = done';
          spent = spent';
          promises = λ ended. elim ended [
            | inl e ↦ told_kept one none given Ended was.left was.written is.written (done' e)
            | inr e ↦ told_kept one none given BudgetIsSpent was.left was.written is.written (spent' e)
          ];
          promises_in_part = λ e. front_kept one none given was.left was.written is.written (told_front was.left bytes all given was.written is.written (write e));
          bad_script = λ e. told was.left bytes all (λ bs. RanBad bs was.written is.written) (bad e);
          read_to_end = λ e. end;
          reads = reads;
          write = λ e. told_front was.left bytes all given was.written is.written (write e);
          memory = memory;
          answers = script_answers only;
          complete = completed (λ bs. AnswersScript bs s) reads (script_answers only);
        }

    pub record_answers : (s ≡ Done → RecordedWhole Ended bytes was.written is.written) → (s ≡ Budget → RecordedWhole BudgetIsSpent bytes was.written is.written)
        → (s ≡ BadScript → RanBad bytes was.written is.written) → (s ≡ WriteFault → RecordedFront bytes was.written is.written)
        → (s ≡ WriteFault → Rose was.write_faults is.write_faults) → (s ≡ OutOfMemory → RecordedSome bytes was.written is.written)
        → AnswersReading (reading bytes) s ⊎ (s ≡ WriteFault) ⊎ (s ≡ OutOfMemory) → RecordAnswers s was is
    record_answers done spent bad write cause memory only =
        let reads : ReadsSource s was is = reads_of_bytes (of_reading (reading bytes) s only) cause in
        record {
          done = λ e. told_recorded was.left bytes all Ended was.written is.written (done e);
          spent = λ e. told_recorded was.left bytes all BudgetIsSpent was.written is.written (spent e);
          bad_script = λ e. told was.left bytes all (λ bs. RanBad bs was.written is.written) (bad e);
          read_to_end = λ e. end;
          reads = reads;
          write = λ e. told_recorded_front was.left bytes all was.written is.written (write e);
          memory = λ e. told_recorded_some was.left bytes all was.written is.written (memory e);
          answers = script_answers only;
          complete = completed (λ bs. AnswersScript bs s) reads (script_answers only);
        }

    pub expand_answers : (s ≡ Done → WroteExpansion bytes was.written is.written) → (s ≡ BadScript → WroteFirstBad bytes was.written is.written)
        → (s ≡ WriteFault → WroteExpandFront bytes was.written is.written) → (s ≡ WriteFault → Rose was.write_faults is.write_faults)
        → (s ≡ OutOfMemory → Keeps was.written is.written) → AnswersFirstBad (first_bad bytes) s ⊎ (s ≡ WriteFault) ⊎ (s ≡ OutOfMemory) → ExpandAnswers s was is
    expand_answers done bad write cause memory only =
        let reads : ReadsSource s was is = reads_of_bytes (of_first_bad (first_bad bytes) s only) cause in
        let answers : IsCutShort s ⊎ IfSome was.left (λ bs. AnswersExpand bs s) = answered s _ (at_bytes _ _ _ (told_expand_answers was.left bytes all s few) only) in
        record {
          done = λ e. told_expansion was.left bytes all was.written is.written (done e);
          bad_script = λ e. told_first_bad was.left bytes all was.written is.written (bad e);
          read_to_end = λ e. end;
          reads = reads;
          write = λ e. told_expand_front was.left bytes all was.written is.written (write e);
          memory = memory;
          statuses = expand_statuses (first_bad bytes) s only;
          answers = answers;
          complete = completed (λ bs. AnswersExpand bs s) reads answers;
        }

  -- A source that failed, gave too many bytes, or was refused memory.
  module _ (only : IsCutShort s ⊎ (s ≡ TooLarge)) (too_large : s ≡ TooLarge → Appends was.written is.written (codes "too large\n")) (taken : s ≡ TooLarge → TookTooMany was.left is.left)
      (read_cause : s ≡ ReadFault → Rose was.read_faults is.read_faults) (read : s ≡ ReadFault → Keeps was.written is.written) (write_cause : s ≡ WriteFault → Rose was.write_faults is.write_faults)
      (write : s ≡ WriteFault → AppendsFront was.written is.written (codes "too large\n")) (memory : s ≡ OutOfMemory → Keeps was.written is.written)
      (many : (s ≡ TooLarge) ⊎ (s ≡ WriteFault) → IfSome was.left (λ t. LIMIT ≤ length t)) where
    unread_reads : ReadsSource s was is
    unread_reads = record { too_large = too_large; taken = taken; read_cause = read_cause; read = read; write_cause = write_cause; words = λ e. unread _ s only (inr (inr (inr e))) }

    unread_answers : (Answer : List ℕ → Type 0) → (s ≡ TooLarge → IfSome was.left (λ t. LIMIT ≤ length t) → IfSome was.left Answer) → IsCutShort s ⊎ IfSome was.left Answer
    unread_answers Answer f = elim only [
      | inl cut ↦ inl cut
      | inr e ↦ inr (f e (many (inl e)))
    ]

    script_unread : IsCutShort s ⊎ IfSome was.left (λ bs. AnswersScript bs s)
    script_unread = unread_answers (λ bs. AnswersScript bs s) (λ e large. many_answers was.left large s e)

    pub run_unread : (given : Option ℕ) → OneFinalizerEach → NoDeadLines → RunAnswers given s was is
    run_unread given one none = record {
      done = λ e. unread _ s only (inl e);
      spent = λ e. unread _ s only (inr (inl e));
      promises = λ ended. elim ended [
        | inl e ↦ unread _ s only (inl e)
        | inr e ↦ unread _ s only (inr (inl e))
      ];
      bad_script = λ e. unread _ s only (inr (inr (inl e)));
      read_to_end = λ ended. elim ended [
        | inl e ↦ unread _ s only (inl e)
        | inr (inl e) ↦ unread _ s only (inr (inl e))
        | inr (inr e) ↦ unread _ s only (inr (inr (inl e)))
      ];
      reads = unread_reads;
      promises_in_part = λ e. front_kept one none given was.left was.written is.written (many_front was.left (many (inr e)) given was.written is.written (write e));
      write = λ e. many_front was.left (many (inr e)) given was.written is.written (write e);
      memory = memory;
      answers = script_unread;
      complete = completed (λ bs. AnswersScript bs s) unread_reads script_unread;
    }

    pub record_unread : RecordAnswers s was is
    record_unread = record {
      done = λ e. unread _ s only (inl e);
      spent = λ e. unread _ s only (inr (inl e));
      bad_script = λ e. unread _ s only (inr (inr (inl e)));
      read_to_end = λ ended. elim ended [
        | inl e ↦ unread _ s only (inl e)
        | inr (inl e) ↦ unread _ s only (inr (inl e))
        | inr (inr e) ↦ unread _ s only (inr (inr (inl e)))
      ];
      reads = unread_reads;
      write = λ e. many_recorded_front was.left was.written is.written (many (inr e)) (write e);
      memory = λ e. inl (memory e);
      answers = script_unread;
      complete = completed (λ bs. AnswersScript bs s) unread_reads script_unread;
    }

    expand_unread_answers : IsCutShort s ⊎ IfSome was.left (λ bs. AnswersExpand bs s)
    expand_unread_answers = unread_answers (λ bs. AnswersExpand bs s) (λ e large. many_expand_answers was.left large s e)

    pub expand_unread : ExpandAnswers s was is
    expand_unread = record {
      done = λ e. unread _ s only (inl e);
      bad_script = λ e. unread _ s only (inr (inr (inl e)));
      read_to_end = λ ended. elim ended [
        | inl e ↦ unread _ s only (inl e)
        | inr e ↦ unread _ s only (inr (inr (inl e)))
      ];
      reads = unread_reads;
      write = λ e. many_expand_front was.left (many (inr e)) was.written is.written (write e);
      memory = memory;
      statuses = elim only [
        | inl cut ↦ inr (inr (inr cut))
        | inr e ↦ inr (inr (inl e))
      ];
      answers = expand_unread_answers;
      complete = completed (λ bs. AnswersExpand bs s) unread_reads expand_unread_answers;
    }
