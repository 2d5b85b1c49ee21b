-- A full collection in which no frame begins keeps the kept objects until its stop.
use Rattle.std.proofs.Common.{◌≡◌, ◌≢◌, refl, sym, ◌∙◌, ap, subst, ℕ, ◌+◌, Bool, true, false, not, ◌&&◌, inl, inr, List, [], ◌∷◌, ◌++◌, map, length, Option, Some, None, arith}
use Rattle.std.specs.Prelude.{◌==◌, cond, count_by, if◌then◌else◌, is_some, option_and_then}
use Rattle.std.proofs.lemmas.Bool.{eqb-true, not-true}
use Rattle.std.proofs.lemmas.List.Sums.{sum_by-cons}
use Rattle.std.proofs.lemmas.List.{append_assoc}
use Rattle.cg_value.specs.declared.Entry.{Entry}
use Rattle.cg_value.specs.declared.Place.TheVariants.{Untracked, Gen, Cand, Seen, Pend}
use Rattle.cg_script.specs.declared.Script.{Script}
use Rattle.cg_graph.specs.Member.{Includes, includes}
use Rattle.cg_graph.specs.Value.{entry_references, last_entry, without_last}
use Rattle.cg_graph.specs.Object.{Object, change, entries_of, is_at, object_at, objects_at, serials_at, with_place, with_referent}
use Rattle.cg_graph.proofs.Members.{either, or_left, or_right, true_and, Includes-filter_cases, Includes-map_cases}
use Rattle.cg_machine.specs.declared.event.Event.{Event}
use Rattle.cg_machine.specs.declared.event.Event.TheVariants.{Enter, GcSaved, GcUncollectable, Collected}
use Rattle.cg_machine.specs.declared.event.FrameSpec.{FrameSpec}
use Rattle.cg_machine.specs.Program.{legacy_of}
use Rattle.cg_machine.specs.World.{World, Activity, Releasing, Dying, Collecting, Collection, DyingPhase, Finalizer, AfterFinalizer, Clearing, Calling, AfterCall, LegacyFinalizer, AfterLegacy, Detaching, Emptying, CollectPhase, Start, WeakClearing, WeakCalling, AfterCallback, AfterRelease, Finalizing, AfterFinalizing, Split, Turns, Turn, AfterTurn, Ending, Running, BudgetIsSpent, with_change, with_objects, with_stack}
use Rattle.cg_machine.specs.Holdings.{in_degree, is_dying}
use Rattle.cg_machine.specs.Frame.{Yields, begin_death, released, start_frame}
use Rattle.cg_machine.specs.Weak.{callback_of, has_weak_references, loses_referent, weak_references_if}
use Rattle.cg_machine.specs.Dying.{after_frame, clear_one, death_at, detach_one, dying, empty_one, finalizer_to_run, has_finalizers, run_finalizer, run_legacy}
use Rattle.cg_machine.specs.Collect.{after_release, collection_at, empties, get_older, has_flag, is_condemned, lines_if, looks_at, loses_at_split, older, saved, takes_turn, uncollectable, waits, PhaseStep}
use Rattle.cg_machine.specs.Run.{StepOf}
use Rattle.cg_laws.specs.Laws.{is_enter, is_stop}
use Rattle.cg_laws.proofs.Starting.{starts_either, turn_either, called_back_either, own_frame_either, release_either, option_either}
use Rattle.cg_laws.proofs.Lookups.{same_object}
use Rattle.cg_represents.proofs.Serials.{Rises}
use Rattle.cg_promises.proofs.Kept.{Fares, Full, IsBare, IsKeptBy, Leaves, all_lose_leaves, entries_leave, leaves_same, leaves_trans, lives_on, lost_leaves, never_released, placed_leaves, saved_leaves, test_leaves, turns_of, without_leaves}
use Rattle.cg_promises.proofs.FinalSetRuns.{stops}

pub starts_none : (script : Script) (spec : FrameSpec) (u : World) (events : List Event) (after : World) → Yields (start_frame script spec u) events after
    → count_by is_enter events ≡ 0 → after.outcome ≡ Running → ⊥
starts_none script spec u events after step quiet running = starts_either (λ es w. events ≡ es → after ≡ w → ⊥) script spec u
    (λ e k. let no : BudgetIsSpent ≡ Running = sym (ap (λ (z : World). z.outcome) k) ∙ running in cc)
    (λ some e k.
    let none : count_by is_enter (Enter spec.sort spec.subject ∷ []) ≡ 0 = ap (count_by is_enter) (sym e) ∙ quiet in
    let one : count_by is_enter (Enter spec.sort spec.subject ∷ []) ≡ 1 + count_by is_enter [] = sum_by-cons (λ x. cond (is_enter x) 1 0) (Enter spec.sort spec.subject) [] in
    omega (arith, none, one)) step.0 step.1

module _ (script : Script) (kept : ℕ → Type 0) (start : List Object) (below : List Activity) (v : World) (rises : Rises 1 v.next_serial v.objects)
    (held : (o : ℕ) → kept o → IsKeptBy kept start v.names below o) (there : (o : ℕ) → kept o → (x : Object) × Includes start x × (x.serial ≡ o))
    (lives : (x : Object) → Includes start x → kept x.serial → (y : Object) × Includes v.objects y × Fares x y) where
  -- a world of the collection, with the same names
  pub record IsFull (w : World) : Type 0 where
    pub names : w.names ≡ v.names
    pub full : Full kept start below w.objects w.stack

  to : (after next : World) → after ≡ next → IsFull next → IsFull after
  to after next e h = subst IsFull (sym e) h

  full : (tops : List Activity) (c : Collection) (w : World) → w.names ≡ v.names → w.stack ≡ tops ++ Collecting c ∷ below → Leaves kept v.objects w.objects
      → ((a : Activity) → Includes tops a → IsBare kept a) → ((o : ℕ) → Includes (turns_of c.phase) o → ¬ kept o) → c.phase ≢ Start → IsFull w
  full tops c w names is leaves bare turn begun = record {
    names = names;
    full = record {
      tops = tops;
      collection = c;
      is = is;
      bare = bare;
      turn = turn;
      begun = begun;
      lives = lives_on kept start v.objects w.objects leaves lives;
    };
  }

  -- a condemned object is not kept
  not_kept : (x : Object) → Includes v.objects x → is_condemned x ≡ true → ¬ kept x.serial
  not_kept x m e k =
      let z = there x.serial k in
      let y = lives z.0 z.1 (subst kept (sym z.2) k) in
      let same : y.0 ≡ x = same_object 1 v.next_serial v.objects y.0 x rises y.1 m (y.2.serial ∙ z.2) in
      let no : true ≡ false = sym e ∙ ap is_condemned (sym same) ∙ y.2.clear in cc

  same : Leaves kept v.objects v.objects
  same = leaves_same kept v.objects

  -- releases and deaths on top of the collection
  module _ (tops : List Activity) (c : Collection) (bare : (a : Activity) → Includes tops a → IsBare kept a) (turn : (o : ℕ) → Includes (turns_of c.phase) o → ¬ kept o) (begun : c.phase ≢ Start) where
    abbrev under : List Activity
    under = tops ++ Collecting c ∷ below

    with_top : (a : Activity) → IsBare kept a → (b : Activity) → Includes (a ∷ tops) b → IsBare kept b
    with_top a k b m = either m (λ e. subst (IsBare kept) e k) (bare b)

    with_two : (a d : Activity) → IsBare kept a → IsBare kept d → (b : Activity) → Includes (a ∷ d ∷ tops) b → IsBare kept b
    with_two a d k l b m = either m (λ e. subst (IsBare kept) e k) (with_top d l b)

    released_full : (references : List ℕ) → IsFull (released references under (with_stack (Releasing references ∷ under) v)).1
    released_full [] = full tops c (with_stack under v) refl refl same bare turn begun
    released_full (o ∷ refs) = release_either (λ lines. IsFull) o refs under v
        (λ e. full (Dying (record { object = o; phase = Finalizer }) ∷ Releasing refs ∷ tops) c (begin_death o now) refl refl
        (test_leaves kept (λ x. with_referent None (with_place Untracked x)) (λ x. x.serial == o) v.objects
        (λ x m t k e. record { serial = refl; refers = λ r i. i; clear = refl }))
        (with_two (Dying (record { object = o; phase = Finalizer })) (Releasing refs) (dies e) tt) turn begun)
        (λ e. full (Releasing refs ∷ tops) c now refl refl same (with_top (Releasing refs) tt) turn begun)
      where
        now : World
        now = with_stack (Releasing refs ∷ under) v

        dies : (not (is_dying now o) && (in_degree now o == 0)) ≡ true → ¬ kept o
        dies e k = let parts = true_and (not (is_dying now o)) (in_degree now o == 0) e in
            never_released kept start (Releasing refs ∷ tops ++ Collecting c ∷ []) below now o (held o k) lives is (not-true (is_dying now o) parts.0) (eqb-true (in_degree now o) 0 parts.1)
          where
            is : Releasing refs ∷ under ≡ (Releasing refs ∷ tops ++ Collecting c ∷ []) ++ below
            is = ap (λ st. Releasing refs ∷ st) (sym (append_assoc tops (Collecting c ∷ []) below))

    module _ (o : ℕ) (apart : ¬ kept o) where
      abbrev at : DyingPhase → World
      at phase = death_at o phase under v

      dying_to : (next : DyingPhase) (w : World) → w.names ≡ v.names → w.stack ≡ Dying (record { object = o; phase = next }) ∷ under → Leaves kept v.objects w.objects → IsFull w
      dying_to next w names is leaves = full (Dying (record { object = o; phase = next }) ∷ tops) c w names is leaves (with_top (Dying (record { object = o; phase = next })) apart) turn begun

      giving : (refs : List ℕ) (next : DyingPhase) (w : World) → w.names ≡ v.names → w.stack ≡ Releasing refs ∷ Dying (record { object = o; phase = next })
          ∷ under → Leaves kept v.objects w.objects → IsFull w
      giving refs next w names is leaves = full (Releasing refs ∷ Dying (record { object = o; phase = next }) ∷ tops) c w names is leaves
          (with_two (Releasing refs) (Dying (record { object = o; phase = next })) tt apart) turn begun

      after_frame_full : (phase next : DyingPhase) → IsFull (after_frame o next under (at phase)).1
      after_frame_full phase next = own_frame_either (λ lines. IsFull) o next under (at phase)
          (λ t. dying_to next (with_change (with_place Untracked) o (at next)) refl refl (placed_leaves kept Untracked (λ x. x.serial == o) v.objects (λ x. refl)))
          (λ t. full tops c (with_stack under (at phase)) refl refl same bare turn begun)

      module _ (events : List Event) (after : World) (quiet : count_by is_enter events ≡ 0) (running : after.outcome ≡ Running) where
        finalizer_full : (m : Option ℕ) → Yields (run_finalizer script o under (at Finalizer) m) events after → IsFull after
        finalizer_full None step = to after _ step.1 (dying_to (Clearing []) (at (Clearing [])) refl refl same)
        finalizer_full (Some p) step = absurd (starts_none script _ _ events after step quiet running)

        legacy_full : (m : Option ℕ) → Yields (run_legacy script o under (at LegacyFinalizer) m) events after → IsFull after
        legacy_full None step = to after _ step.1 (dying_to Detaching (at Detaching) refl refl same)
        legacy_full (Some p) step = absurd (starts_none script _ _ events after step quiet running)

        clearing_full : (waiting weaks : List ℕ) → Yields (clear_one o waiting under (at (Clearing waiting)) weaks) events after → IsFull after
        clearing_full waiting [] step = to after _ step.1 (dying_to (Calling waiting) (at (Calling waiting)) refl refl same)
        clearing_full waiting (weak ∷ weaks) step =
            to after _ step.1 (dying_to (Clearing (waiting ++ (if is_some (callback_of v.objects weak) then weak ∷ [] else []))) _ refl refl
            (lost_leaves kept weak v.objects))

        detaching_full : (weaks : List ℕ) → Yields (detach_one o under (at Detaching) weaks) events after → IsFull after
        detaching_full [] step = to after _ step.1 (dying_to Emptying (at Emptying) refl refl same)
        detaching_full (weak ∷ weaks) step = to after _ step.1 (dying_to Detaching _ refl refl (lost_leaves kept weak v.objects))

        emptying_full : (m : Option Entry) → Yields (empty_one o under (at Emptying) m) events after → IsFull after
        emptying_full None step = to after _ step.1 (full tops c _ refl refl (without_leaves kept o v.objects apart) bare turn begun)
        emptying_full (Some entry) step = to after _ step.1 (giving (entry_references entry) Emptying _ refl refl (entries_leave kept (without_last (entries_of v.objects o)) o v.objects apart))

        dying_full : (phase : DyingPhase) → Yields (dying script o phase under (at phase)) events after → IsFull after
        dying_full Finalizer step = finalizer_full (option_and_then (finalizer_to_run script) (object_at v.objects o)) step
        dying_full AfterFinalizer step = to after _ step.1 (after_frame_full AfterFinalizer (Clearing []))
        dying_full (Clearing waiting) step = clearing_full waiting (weak_references_if has_weak_references v.objects o) step
        dying_full (Calling []) step = to after _ step.1 (dying_to LegacyFinalizer (at LegacyFinalizer) refl refl same)
        dying_full (Calling (weak ∷ waiting)) step = absurd (starts_none script _ _ events after step quiet running)
        dying_full (AfterCall weak callback waiting) step = to after _ step.1 (giving (callback ∷ weak ∷ []) (Calling waiting) _ refl refl same)
        dying_full LegacyFinalizer step = legacy_full (option_and_then (legacy_of script) (object_at v.objects o)) step
        dying_full AfterLegacy step = to after _ step.1 (after_frame_full AfterLegacy Detaching)
        dying_full Detaching step = detaching_full (weak_references_if (has_finalizers script) v.objects o) step
        dying_full Emptying step = emptying_full (last_entry (entries_of v.objects o)) step

  module _ (c : Collection) (events : List Event) (after : World) (quiet : count_by is_enter events ≡ 0) (on : count_by is_stop events ≡ 0) (running : after.outcome ≡ Running) where
    abbrev standing : CollectPhase → World
    standing phase = collection_at c phase below v

    goes_to : (d : Collection) (next : CollectPhase) (w : World) → w.names ≡ v.names → w.stack ≡ Collecting (record d { phase = next }) ∷ below
        → Leaves kept v.objects w.objects → ((o : ℕ) → Includes (turns_of next) o → ¬ kept o) → next ≢ Start → IsFull w
    goes_to d next w names is leaves turn begun = full [] (record d { phase = next }) w names is leaves (λ a m. absurd m) turn begun

    gives : (refs : List ℕ) (next : CollectPhase) (w : World) → w.names ≡ v.names → w.stack ≡ Releasing refs ∷ Collecting (record c { phase = next }) ∷ below
        → Leaves kept v.objects w.objects → ((o : ℕ) → Includes (turns_of next) o → ¬ kept o) → next ≢ Start → IsFull w
    gives refs next w names is leaves turn begun = full (Releasing refs ∷ []) (record c { phase = next }) w names is leaves (λ a m. either m (λ e. subst (IsBare kept) e tt) (λ k. absurd k)) turn begun

    aged : (o : ℕ) → Leaves kept v.objects (change (with_place (Gen (older c.generation))) o v.objects)
    aged o = placed_leaves kept (Gen (older c.generation)) (λ x. x.serial == o) v.objects (λ x. refl)

    after_release_full : (weak : ℕ) (waiting : List ℕ) → IsFull (after_release c weak waiting below (standing (AfterRelease weak waiting))).1
    after_release_full weak waiting = called_back_either (λ lines. IsFull) c weak waiting below (standing (AfterRelease weak waiting))
        (λ t. goes_to c (WeakCalling waiting) _ refl refl (aged weak) (λ o m. absurd m) (λ e. cc))
        (λ t. goes_to (record c { collected = c.collected + 1 }) (WeakCalling waiting) _ refl refl same (λ o m. absurd m) (λ e. cc))

    -- a condemned object is not kept
    cand_apart : (o : ℕ) → Includes (serials_at v.objects Cand) o → ¬ kept o
    cand_apart o m k =
        let z = Includes-map_cases (λ (y : Object). y.serial) (objects_at v.objects Cand) o m in
        let at = Includes-filter_cases (is_at Cand) v.objects z.0 z.1 in
        not_kept z.0 at.0 (or_left (is_at Cand z.0) (is_at Seen z.0) at.1) (subst kept (sym z.2) k)

    looks_at_full : (o : ℕ) (m : Option ℕ) → Includes (serials_at v.objects Cand) o → Yields (looks_at script c o below (standing Finalizing) m) events after → IsFull after
    looks_at_full o None i step = to after _ step.1 (goes_to c Finalizing _ refl refl (test_leaves kept (with_place Seen) (λ x. x.serial == o) v.objects
        (λ x m t k e. absurd (cand_apart o i (subst kept (eqb-true x.serial o t) k)))) (λ o m. absurd m) (λ e. cc))
    looks_at_full o (Some p) i step = absurd (starts_none script _ _ events after step quiet running)

    turn_taken : (x : Object) → Includes (objects_at v.objects Cand) x → IsFull (takes_turn c x below (standing Turns)).1
    turn_taken x m = turn_either (λ lines. IsFull) c x below (standing Turns)
        (λ t. goes_to c Turns _ refl refl (leaves_trans kept v.objects (saved x.serial v.objects) (change (with_place (Gen (older c.generation))) x.serial
        (saved x.serial v.objects)) (saved_leaves kept x.serial v.objects) (placed_leaves kept (Gen (older c.generation)) (λ z. z.serial == x.serial)
        (saved x.serial v.objects) (λ z. refl))) (λ o m. absurd m) (λ e. cc))
        (λ t s. goes_to c Turns _ refl refl (aged x.serial) (λ o m. absurd m) (λ e. cc))
        (λ t s. goes_to c (Turn x.serial) _ refl refl same not_this (λ e. cc))
      where
        not_this : (o : ℕ) → Includes (x.serial ∷ []) o → ¬ kept o
        not_this o (inl e) = λ k. let at = Includes-filter_cases (is_at Cand) v.objects x m in not_kept x at.0 (or_left (is_at Cand x) (is_at Seen x) at.1) (subst kept (sym e) k)
        not_this o (inr k) = λ i. absurd k

    phase_full : (phase : CollectPhase) → ((o : ℕ) → Includes (turns_of phase) o → ¬ kept o) → phase ≢ Start → PhaseStep script c phase below (standing phase) events after → IsFull after
    phase_full Start turn begun step = absurd (begun refl)
    phase_full (WeakClearing waiting) turn begun (inl step) = to after _ step.yields.1 (go (waits v.objects step.weak))
      where
        lost : List Object
        lost = loses_referent step.weak v.objects

        go : (t : Bool) → IsFull (if t then collection_at c (WeakClearing (waiting ++ step.weak ∷ [])) below
            (with_objects (change (with_place Pend) step.weak lost) (standing (WeakClearing waiting))) else collection_at c (WeakClearing waiting) below
            (with_objects lost (standing (WeakClearing waiting))))
        go true = goes_to c (WeakClearing (waiting ++ step.weak ∷ [])) _ refl refl (leaves_trans kept v.objects lost (change (with_place Pend) step.weak lost)
            (lost_leaves kept step.weak v.objects) (placed_leaves kept Pend (λ x. x.serial == step.weak) lost (λ x. refl))) (λ o m. absurd m) (λ e. cc)
        go false = goes_to c (WeakClearing waiting) _ refl refl (lost_leaves kept step.weak v.objects) (λ o m. absurd m) (λ e. cc)
    phase_full (WeakClearing waiting) turn begun (inr step) = to after _ step.1.1 (goes_to c (WeakCalling waiting) _ refl refl same (λ o m. absurd m) (λ e. cc))
    phase_full (WeakCalling []) turn begun step = to after _ step.1 (goes_to c Finalizing _ refl refl same (λ o m. absurd m) (λ e. cc))
    phase_full (WeakCalling (weak ∷ waiting)) turn begun step = absurd (starts_none script _ _ events after step quiet running)
    phase_full (AfterCallback weak waiting) turn begun step = to after _ step.1 (gives (weak ∷ []) (AfterRelease weak waiting) _ refl refl same (λ o m. absurd m) (λ e. cc))
    phase_full (AfterRelease weak waiting) turn begun step = to after _ step.1 (after_release_full weak waiting)
    phase_full Finalizing turn begun (inl step) = looks_at_full step.object (option_and_then (finalizer_to_run script) (object_at v.objects step.object)) step.condemned step.yields
    phase_full Finalizing turn begun (inr step) = to after _ step.1.1 (goes_to c Split _ refl refl (test_leaves kept (with_place Cand) (is_at Seen) v.objects
        (λ x m t k e. absurd (let no : true ≡ false = sym (or_right (is_at Cand x) (is_at Seen x) t) ∙ e in cc))) (λ o m. absurd m) (λ e. cc))
    phase_full (AfterFinalizing o) turn begun step = to after _ step.1 (gives (o ∷ []) Finalizing _ refl refl same (λ p m. absurd m) (λ e. cc))
    phase_full Split turn begun step = to after _ step.world (goes_to (record c { collected = c.collected + length (serials_at step.objects Cand) }) Turns _ refl refl
        (leaves_trans kept v.objects now step.objects (placed_leaves kept (Gen (older c.generation)) (λ x. includes step.alive x.serial) v.objects (λ x. refl))
        (all_lose_leaves kept (loses_at_split now) step.cleared now step.objects step.lose)) (λ o m. absurd m) (λ e. cc))
      where
        now : List Object
        now = get_older c.generation step.alive v.objects
    phase_full Turns turn begun (inl step) = to after _ step.yields.1 (turn_taken step.object step.member)
    phase_full Turns turn begun (inr step) = to after _ step.1.1 (goes_to c Ending _ refl refl same (λ o m. absurd m) (λ e. cc))
    phase_full (Turn o) turn begun step = to after _ step.1 (option_either (λ lines. IsFull) (empties c o below (standing (Turn o))) (last_entry (entries_of v.objects o))
        (λ is. gives (o ∷ []) (AfterTurn o) _ refl refl same (λ p m. either m (λ e. subst (λ n. ¬ kept n) e (turn o (inl refl))) (λ k. absurd k)) (λ e. cc))
        (λ entry is. gives (entry_references entry) (Turn o) _ refl refl (entries_leave kept (without_last (entries_of v.objects o)) o
        v.objects (turn o (inl refl))) (λ p m. either m (λ e. subst (λ n. ¬ kept n) e (turn o (inl refl))) (λ k. absurd k)) (λ e. cc)))
    phase_full (AfterTurn o) turn begun step = to after _ step.1 (goes_to c Turns _ refl refl (aged o) (λ p m. absurd m) (λ e. cc))
    phase_full Ending turn begun step = absurd (stops (lines_if (has_flag c.flags uncollectable) (map GcUncollectable step.told) ++ map GcSaved step.keeps)
        c.generation c.collected (length step.told) (lines_if c.asked (Collected (c.collected + length step.told) ∷ [])) events step.lines on)

  pub step_full : (events : List Event) (after : World) → count_by is_enter events ≡ 0 → count_by is_stop events ≡ 0 → after.outcome ≡ Running
      → (tops : List Activity) (c : Collection) → ((a : Activity) → Includes tops a → IsBare kept a) → ((o : ℕ) → Includes (turns_of c.phase) o → ¬ kept o)
      → c.phase ≢ Start
      → StepOf script (with_stack (tops ++ Collecting c ∷ below) v) (tops ++ Collecting c ∷ below) events after → IsFull after
  step_full events after quiet on running [] c bare turn begun step = phase_full c events after quiet on running c.phase turn begun step
  step_full events after quiet on running (Releasing references ∷ tops) c bare turn begun step = to after _ step.1 (released_full tops c (λ a m. bare a (inr m)) turn begun references)
  step_full events after quiet on running (Dying d ∷ tops) c bare turn begun step = dying_full tops c (λ a m. bare a (inr m)) turn begun d.object
      (bare (Dying d) (inl refl)) events after quiet running d.phase step
  step_full events after quiet on running (a ∷ tops) c bare turn begun step = absurd (bare a (inl refl))
