-- An object that was never in a final set without SAVEALL loses entries only by a command, by its own death, or, if it is a weak
-- reference, by its referent's death.
use Rattle.std.proofs.Common.{◌≡◌, ◌≢◌, refl, sym, ◌∙◌, ap, subst, ℕ, ◌≤◌, true, false, inl, inr, List, [], ◌∷◌, ◌++◌, Option, Some, None, Bool}
use Rattle.std.proofs.lemmas.List.{append_assoc, append-nil}
use Rattle.cg_script.specs.declared.Script.{Script}
use Rattle.cg_script.specs.declared.Command.{Command}
use Rattle.cg_graph.specs.Member.{Includes}
use Rattle.cg_graph.specs.Object.{Object}
use Rattle.cg_graph.proofs.Members.{either, Includes-append_left}
use Rattle.cg_machine.specs.World.{World, Activity, TopLevel, Framed, Frame, Releasing, Dying, DyingPhase, Calling, Collecting, Collection, CollectPhase, Turns, Turn, AfterTurn, opening, with_stack, ShuttingDown}
use Rattle.cg_machine.specs.Holdings.{is_collection}
use Rattle.cg_machine.specs.Due.{due}
use Rattle.cg_machine.specs.Frame.{frame_end, gives_up_function}
use Rattle.cg_machine.specs.declared.event.FrameSort.{FrameSort}
use Rattle.cg_machine.specs.declared.event.FrameSort.TheVariants.{Del}
use Rattle.cg_machine.specs.Collect.{PhaseStep}
use Rattle.cg_represents.specs.Orderly.{death_waits, all_waits}
use Rattle.cg_machine.specs.Run.{CommandInFrame, FrameStep, Run, Step, StepOf, StepTaken, TopLevelStep, last_world}
use Rattle.cg_laws.specs.Laws.{EntriesLeaveOnlyBy, IsLengthened, IsOfCollection, MayLoseEntries, ReferredTo, WasFinal}
use Rattle.cg_laws.proofs.Ending.{Run-append, last_world-append}
use Rattle.cg_laws.proofs.Invariants.{on}
use Rattle.cg_laws.proofs.Unreferred.{lives_within}
use Rattle.cg_laws.proofs.LeftBelowRuns.{LeavesUnder, leaves_below, step_leaves}
use Rattle.cg_laws.proofs.Lookups.{same_object}
use Rattle.cg_laws.proofs.InvariantOfRuns.{collections_in}
use Rattle.cg_laws.proofs.Sums.{tally}
use Rattle.cg_laws.proofs.Unheld.{IsStack}
use Rattle.cg_laws.specs.Apart.{IsApart}
use Rattle.cg_laws.proofs.RunsApart.{runs_apart}
use Rattle.cg_laws.proofs.StepsPlain.{IsPlainUnder, step_plain}
use Rattle.cg_laws.proofs.Advancing.{phase_advances}
use Rattle.cg_promises.proofs.EntriesTaken.{CallsBack, dying_takes, phase_takes, released_lengthens}
use Rattle.cg_promises.proofs.FinalSetKept.{alone_below}
use Rattle.cg_promises.proofs.FinalizerOnceRuns.{Fit, opening_fit, run_back, run_front, run_fit, step_fit}
use Rattle.cg_promises.proofs.StackAfterSteps.{AreFinal, FinalAt, early_after, final_stays, late_final}
use Rattle.cg_promises.proofs.WaitingReferents.{Waited, step_waited}
use Rattle.cg_machine.specs.Program.{declares_shutdown}
use Rattle.cg_machine.specs.Shutdown.{greatest_bound, shut_down, after_commands}

ended_objects : (f : Frame) (w : World) → (frame_end f w).1.objects ≡ w.objects
ended_objects f w = go f.sort
  where
    go : (sort : FrameSort) → (gives_up_function sort f.function w).objects ≡ w.objects
    go Del = refl
    go sort = refl

-- the steps at the end of a script change no object
after_objects : (b : Bool) (below : List Activity) (w : World) → (after_commands b below w).1.objects ≡ w.objects
after_objects true below w = refl
after_objects false below w = refl

shut_objects : (started : Bool) (name : Option ℕ) (below : List Activity) (w : World) → (shut_down started name below w).1.objects ≡ w.objects
shut_objects false (Some name) below w = refl
shut_objects b name below w = refl

module _ (script : Script) (budget : ℕ) where
  abbrev world : List StepTaken → World
  world done = last_world (opening script budget) done

  -- the past of a run is part of a longer run's past
  was_longer : (done : List StepTaken) (step : StepTaken) (n : ℕ) → WasFinal script budget done n → WasFinal script budget (done ++ step ∷ []) n
  was_longer done step n w = record {
    before = w.before;
    split = w.split;
    after = w.after ++ step ∷ [];
    is = ap (λ steps. steps ++ step ∷ []) w.is
        ∙ append_assoc w.before (w.split ∷ w.after) (step ∷ []);
    splits = w.splits;
    member = w.member;
  }

  referred_longer : (done : List StepTaken) (step : StepTaken) (weak o : ℕ) → ReferredTo script budget done weak o → ReferredTo script budget (done ++ step ∷ []) weak o
  referred_longer done step weak o w = record {
    before = w.before;
    after = w.after ++ step ∷ [];
    is = ap (λ steps. steps ++ step ∷ []) w.is
        ∙ append_assoc w.before w.after (step ∷ []);
    object = w.object;
    member = w.member;
    same = w.same;
    refers = w.refers;
  }

  -- what the worlds of a run know of its past
  record Past (done : List StepTaken) (w : World) : Type 0 where
    waited : Waited (ReferredTo script budget done) w.stack
    final : AreFinal (WasFinal script budget done) w.objects w.stack

  finals_more : (P Q : ℕ → Type 0) → ((n : ℕ) → P n → Q n) → (c : Collection) (phase : CollectPhase) (objects : List Object) → FinalAt P c phase objects → FinalAt Q c phase objects
  finals_more P Q more c Turns objects h = λ clears x m e. more x.serial (h clears x m e)
  finals_more P Q more c (Turn o) objects h = (λ clears x m e. more x.serial (h.0 clears x m e), more o h.1)
  finals_more P Q more c (AfterTurn o) objects h = λ clears x m e. more x.serial (h clears x m e)
  finals_more P Q more c phase objects h = tt

  module _ (done : List StepTaken) (step : StepTaken) (run : Run script (opening script budget) done) (goes : Step script (world done) step.events step.world)
      (fit : Fit script (world done)) (apart : IsApart (world done)) where
    abbrev longer : List StepTaken
    longer = done ++ step ∷ []

    other_final : (a : Activity) (below : List Activity) → (world done).stack ≡ a ∷ below → is_collection a ≡ false → AreFinal (WasFinal script budget longer)
        (world done).objects (world done).stack → AreFinal (WasFinal script budget longer) step.world.objects step.world.stack
    other_final a below top none h c m =
        let w = world done in
        let stack : IsStack script w (a ∷ below) = subst (IsStack script w) top fit.calm.stack in
        let left : LeavesUnder w (a ∷ below) step.world = subst (λ st. LeavesUnder w st step.world) top (step_leaves script w step.events step.world goes fit.sound fit.calm fit.order) in
        let made = lives_within 1 w.next_serial w.objects 1 fit.sound.rises fit.order.root_lives in
        let plain : IsPlainUnder w.objects (a ∷ below) step.world = subst (λ st. IsPlainUnder w.objects st step.world) top
        (step_plain script w step.events step.world goes apart.garbage made.1 fit.calm fit.sound.bottom) in
        let leaves = leaves_below script w a below step.world top fit.sound.rises stack.1 fit.order left in
        either ((plain none).stack c m)
        (λ k. final_stays (WasFinal script budget longer) w.objects step.world.objects (λ y i e. let had = leaves.places none y i
        (subst (λ p. IsOfCollection p) (sym e) tt) in (had.0, had.1, had.2, sym had.3 ∙ e)) c c.phase
        (h c (subst (λ st. Includes st (Collecting c)) (sym top) (inr k))))
        (λ k. subst (λ p. FinalAt (WasFinal script budget longer) c p step.world.objects) (sym k.1) tt)

    step_final : (stack : List Activity) → (world done).stack ≡ stack → AreFinal (WasFinal script budget longer) (world done).objects (world done).stack
        → AreFinal (WasFinal script budget longer) step.world.objects step.world.stack
    step_final [] top h = absurd (subst (λ st. StepOf script (world done) st step.events step.world) top goes.step)
    step_final (Collecting c ∷ below) top h =
        let w = world done in
        let alone = alone_below c below (subst (λ st. tally collections_in st ≤ 1) top fit.sound.single) in
        let taken : PhaseStep script c c.phase below (with_stack (Collecting c ∷ below) w) step.events step.world =
        subst (λ st. StepOf script (with_stack st w) st step.events step.world) top goes.step in
        late_final (WasFinal script budget longer) script c below w alone c.phase step.events step.world taken
        (λ o clears phase k. record { before = done; split = step; after = []; is = refl; splits = record { collection = c; below = below; top = top; phase = phase; clears = clears }; member = k })
        (λ d m early other. early_after script w c below alone step.events step.world (phase_advances script c below w c.phase step.events step.world taken) early other d m)
        (h c (subst (λ st. Includes st (Collecting c)) (sym top) (inl refl)))
    step_final (a ∷ below) top h = other_final a below top refl h

    step_past : Past done (world done) → Past longer step.world
    step_past h = record {
      waited = step_waited (ReferredTo script budget longer) script (world done) step.events step.world goes
          (λ weak o r. record { before = done; after = step ∷ []; is = refl; object = r.0; member = r.1; same = r.2; refers = r.3 })
          (λ d m weak i. referred_longer done step weak d.object (h.waited d m weak i));
      final = step_final (world done).stack refl (λ c m. finals_more (WasFinal script budget done) (WasFinal script budget longer) (was_longer done step) c c.phase (world done).objects (h.final c m));
    }

  past_after : (done todo : List StepTaken) → Run script (opening script budget) done → Run script (world done) todo → Fit script (world done)
      → Past done (world done) → Past (done ++ todo) (world (done ++ todo))
  past_after done [] run goes fit h = subst (λ steps. Past steps (world steps)) (sym (append-nil done)) h
  past_after done (step ∷ todo) run goes fit h =
      let longer = done ++ step ∷ [] in
      let same : world longer ≡ step.world = last_world-append (opening script budget) done (step ∷ []) in
      let more : Run script (opening script budget) longer = Run-append script (opening script budget) done (step ∷ []) run (goes.0, tt) in
      let now = step_past done step run goes.0 fit (runs_apart script budget done run) h in
      subst (λ steps. Past steps (world steps)) (append_assoc done (step ∷ []) todo)
      (past_after longer todo more (subst (λ w. Run script w todo) (sym same) goes.1) (subst (Fit script) (sym same) (step_fit script (world done) step.events
      step.world goes.0 fit)) (subst (Past longer) (sym same) now))

  opening_past : Past [] (opening script budget)
  opening_past = record { waited = λ d m. either m (λ e. cc) (λ none. absurd none); final = λ c m. either m (λ e. cc) (λ none. absurd none) }

  -- a weak reference that is called back waits
  calls_waits : (phase : DyingPhase) (n : ℕ) → CallsBack phase n → Includes (death_waits phase) n
  calls_waits (Calling (weak ∷ waiting)) n h = inl h
  calls_waits phase n h = absurd h

  module _ (before : List StepTaken) (step : StepTaken) (goes : Step script (world before) step.events step.world) (fit : Fit script (world before))
      (past : Past before (world before)) (x y : Object) (mx : Includes (world before).objects x) (my : Includes step.world.objects y) (same : x.serial
      ≡ y.serial)
      (never : ¬ WasFinal script budget before x.serial) (shorter : ¬ IsLengthened x y) where
    is_x : (z : Object) → Includes (world before).objects z → z.serial ≡ y.serial → z ≡ x
    is_x z m e = same_object 1 (world before).next_serial (world before).objects z x fit.sound.rises m mx (e ∙ sym same)

    -- where no object changes, none loses entries
    unchanged : (next : World) → step.world ≡ next → next.objects ≡ (world before).objects → ⊥
    unchanged next e same_objects =
        let m = subst (λ os. Includes os y) (ap (λ (w : World). w.objects) e ∙ same_objects) my in
        shorter (subst (λ q. IsLengthened q y) (is_x y m refl) ([], sym (append-nil y.entries)))

    by_top_level : (commands : List Command) (below : List Activity) → (let w : World = on (TopLevel commands) below (world before) in (d : Option ℕ) → due w
        ≡ d → TopLevelStep script w d commands below step.events step.world → (commands ≢ []) × (due w ≡ None))
    by_top_level commands below (Some g) e taken = absurd (unchanged _ taken.1 refl)
    by_top_level [] below None e taken = absurd (unchanged _ taken.1 (after_objects (declares_shutdown script.items) below (on (TopLevel []) below (world before))))
    by_top_level (command ∷ commands) below None e taken = (λ i. cc, e)

    by_frame : (f : Frame) (commands : List Command) → f.commands ≡ commands → (below : List Activity) → (let w : World = on (Framed f) below (world before)
        in (d : Option ℕ) → due w ≡ d → FrameStep script w f commands below step.events step.world → (f.commands ≢ []) × (due w ≡ None))
    by_frame f [] left below d e taken = absurd (unchanged _ taken.1 (ended_objects f (with_stack below (world before))))
    by_frame f (command ∷ commands) left below d e taken = by_command (due (on (Framed f) below (world before))) refl taken
      where
        by_command : (let w : World = on (Framed f) below (world before) in (d : Option ℕ) → due w ≡ d → CommandInFrame script w d f command commands below
            step.events step.world → (f.commands ≢ []) × (due w ≡ None))
        by_command (Some g) e taken = absurd (unchanged _ taken.1 refl)
        by_command None e taken = (λ i. let no : [] ≡ command ∷ commands = sym i ∙ left in cc, e)

    none_due : (stack : List Activity) → (world before).stack ≡ stack → due (with_stack stack (world before)) ≡ None → due (world before) ≡ None
    none_due stack top e = ap (λ st. due (with_stack st (world before))) top ∙ e

    may : (stack : List Activity) → (world before).stack ≡ stack → StepOf script (with_stack stack (world before)) stack step.events step.world
        → MayLoseEntries script budget before x (world before) stack
    may [] top taken = taken
    may (TopLevel commands ∷ below) top taken = let k = by_top_level commands below (due (on (TopLevel commands) below (world before))) refl taken
        in (k.0, none_due (TopLevel commands ∷ below) top k.1)
    may (Framed f ∷ below) top taken = let k = by_frame f f.commands refl below (due (on (Framed f) below (world before))) refl taken in (k.0, none_due (Framed f ∷ below) top k.1)
    may (ShuttingDown started ∷ below) top taken = unchanged _ taken.1 (shut_objects started (greatest_bound (on (ShuttingDown started) below (world before)))
        below (on (ShuttingDown started) below (world before)))
    may (Releasing refs ∷ below) top taken = let z = released_lengthens refs below script (world before) y (subst (λ (w : World). Includes w.objects y) taken.1 my) in
        either z.2.1 (λ l. shorter (subst (λ q. IsLengthened q y) (is_x z.0 z.1 z.2.0) l)) (λ no. no)
    may (Dying d ∷ below) top taken =
        let z = dying_takes script d.object below (world before) d.phase y (subst (λ (w : World). Includes w.objects y) taken.1 my) in
        either z.2.1 (λ l. absurd (shorter (subst (λ q. IsLengthened q y) (is_x z.0 z.1 z.2.0) l)))
        (λ e. either e (λ own. inl (own ∙ sym same))
        (λ called. let waits = calls_waits d.phase x.serial (subst (CallsBack d.phase) (sym same) called) in
        inr (
          (fit.order.waiting x.serial (subst (λ st. Includes (all_waits st) x.serial) (sym top) (Includes-append_left (death_waits d.phase) (all_waits below) x.serial waits)) x mx refl).code,
          past.waited d (subst (λ st. Includes st (Dying d)) (sym top) (inl refl)) x.serial waits,
        )))
    may (Collecting c ∷ below) top taken =
        let z = phase_takes script c below (world before) c.phase step.events step.world taken y my in
        either z.2.1 (λ l. shorter (subst (λ q. IsLengthened q y) (is_x z.0 z.1 z.2.0) l))
        (λ turn. never (subst (WasFinal script budget before) (sym same) (subst (λ p. FinalAt (WasFinal script budget before) c p (world before).objects) turn
        (past.final c (subst (λ st. Includes st (Collecting c)) (sym top) (inl refl)))).1))

pub entries_leave : EntriesLeaveOnlyBy
entries_leave script budget before step run x y mx my same never shorter =
    let front = run_front script (opening script budget) before (step ∷ []) run in
    let rest = run_back script (opening script budget) before (step ∷ []) run in
    let w = last_world (opening script budget) before in
    let fit = run_fit script (opening script budget) before front (opening_fit script budget) in
    let past = past_after script budget [] before tt front (opening_fit script budget) (opening_past script budget) in
    may script budget before step rest.0 fit past x y mx my same never shorter w.stack refl rest.0.step
