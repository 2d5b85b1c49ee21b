-- A full collection in which no frame begins, from its second reachability pass to its stop: uncollectable objects stay so, or
-- will run their legacy finalizer; all others are kept, untracked, or members of the final set.
use Rattle.std.proofs.Common.{◌≡◌, refl, sym, ◌∙◌, ap, subst, ℕ, ◌+◌, Bool, true, false, not, inl, inr, List, [], ◌∷◌, ◌++◌, map, length, Option, Some, None}
use Rattle.std.specs.Prelude.{◌==◌, count_by, if◌then◌else◌, is_some, option_and_then}
use Rattle.std.proofs.lemmas.Bool.{eqb-true}
use Rattle.cg_value.specs.declared.Val.TheVariants.{Ref}
use Rattle.cg_value.specs.declared.Entry.{Entry}
use Rattle.cg_value.specs.declared.Place.TheVariants.{Untracked, Gen, Cand}
use Rattle.cg_script.specs.declared.Script.{Script}
use Rattle.cg_graph.specs.Member.{Includes}
use Rattle.cg_graph.specs.Value.{entry_references, item, last_entry, without_last}
use Rattle.cg_graph.specs.Object.{Object, change, entries_of, is_at, object_at, objects_at, with_entries, with_place, with_referent}
use Rattle.cg_graph.proofs.Members.{either, cases_of, true_and, Includes-filter, Includes-filter_cases}
use Rattle.cg_machine.specs.declared.event.Event.{Event}
use Rattle.cg_machine.specs.declared.event.Event.TheVariants.{Collected, GcSaved, GcUncollectable}
use Rattle.cg_machine.specs.Program.{legacy_of}
use Rattle.cg_machine.specs.World.{World, Activity, Releasing, Dying, Death, Collecting, Collection, DyingPhase, Finalizer, AfterFinalizer, Clearing, Calling, AfterCall, LegacyFinalizer, AfterLegacy, Detaching, Emptying, CollectPhase, Turns, Turn, AfterTurn, Ending, Running, with_change, with_stack}
use Rattle.cg_machine.specs.Holdings.{in_degree, is_dying}
use Rattle.cg_machine.specs.Frame.{Yields, begin_death, released}
use Rattle.cg_machine.specs.Weak.{callback_of, has_weak_references, loses_referent, weak_references_if}
use Rattle.cg_machine.specs.Dying.{after_frame, call_one, clear_one, death_at, detach_one, dying, empty_one, finalizer_to_run, has_finalizers, run_finalizer, run_legacy}
use Rattle.cg_machine.specs.Collect.{collection_at, empties, has_flag, lines_if, older, saved, takes_turn, uncollectable, PhaseStep}
use Rattle.cg_machine.specs.Run.{Run, StepOf, StepTaken, events_of, last_world}
use Rattle.cg_laws.specs.Laws.{is_enter, is_stop}
use Rattle.cg_laws.proofs.Lookups.{at_member}
use Rattle.cg_laws.proofs.Releasing.{none_holds}
use Rattle.cg_represents.proofs.Serials.{Rises}
use Rattle.cg_laws.specs.Apart.{handles}
use Rattle.cg_laws.proofs.Starting.{turn_either, own_frame_either, release_either, option_either}
use Rattle.cg_represents.proofs.Places.{place_is}
use Rattle.cg_promises.proofs.FullUncollectable.{Abide, AllWait, Dies, IsAsideBy, IsCalm, IsLegacy, IsLight, abide_same, abide_trans, all_wait, dies_first, dies_under, dies_without, test_abide}
use Rattle.cg_promises.proofs.FullRuns.{enters_first, running_still}
use Rattle.cg_promises.proofs.FullPlaces.{RestsSo, rests_final, rests_loose, rests_same, test_all}
use Rattle.cg_promises.proofs.Kept.{appended}
use Rattle.cg_promises.proofs.KeptRuns.{starts_none}
use Rattle.cg_promises.proofs.FinalSet.{IsLate}
use Rattle.cg_promises.proofs.FinalSetRuns.{none_first, stops}
use Rattle.cg_promises.proofs.FinalizerOnceRuns.{Fit, step_fit}

module _ (script : Script) (kept aside : ℕ → Type 0) (members : List ℕ) (start : List Object) (below : List Activity) (by : (o : ℕ) → aside o
    → IsAsideBy script aside start o) (apart : (n : ℕ) → aside n → ¬ Includes members n) where
  abbrev RestAll : List Object → Type 0
  RestAll objects = (y : Object) → Includes objects y → RestsSo kept aside members y

  abbrev AllLight : List Activity → Type 0
  AllLight tops = (a : Activity) → Includes tops a → IsLight script aside start a

  abbrev TurnsAre : CollectPhase → Type 0
  TurnsAre phase = (o : ℕ) → Includes (handles phase) o → Includes members o

  pub record Late (w : World) : Type 0 where
    pub tops : List Activity
    pub collection : Collection
    pub is : w.stack ≡ tops ++ Collecting collection ∷ below
    pub late : IsLate collection.phase
    pub light : AllLight tops
    pub turn : TurnsAre collection.phase
    pub rests : RestAll w.objects
    pub wait : AllWait script aside start w.objects tops

  module _ (v : World) (rises : Rises 1 v.next_serial v.objects) (rests : RestAll v.objects) where
    to : (after next : World) → after ≡ next → Late next → Late after
    to after next e h = subst Late (sym e) h

    placed_same : (es : Object → List Entry) (test : Object → Bool) → RestAll (map (λ x. if test x then with_entries (es x) x else x) v.objects)
    placed_same es test = test_all (RestsSo kept aside members) (λ x. with_entries (es x) x) test v.objects (λ x m t p. rests_same kept aside members x (with_entries (es x) x) refl refl p) rests

    untracked_rest : (f : Object → Object) → ((x : Object) → (f x).place ≡ Untracked) → (o : ℕ) → RestAll (change f o v.objects)
    untracked_rest f u o = test_all (RestsSo kept aside members) f (λ x. x.serial == o) v.objects (λ x m t p. rests_loose kept aside members (f x) (u x)) rests

    lost_rest : (weak : ℕ) → RestAll (loses_referent weak v.objects)
    lost_rest weak = test_all (RestsSo kept aside members) (with_referent None) (λ x. x.serial == weak) v.objects (λ x m t p. rests_same kept aside members x (with_referent None x) refl refl p) rests

    lost_abide : (tops : List Activity) (weak : ℕ) → Abide script aside start tops v.objects (loses_referent weak v.objects)
    lost_abide tops weak = test_abide script aside start tops (with_referent None) (λ x. x.serial == weak) v.objects
        (λ x m t a. record { serial = refl; refers = λ o i. i; legacy = refl; place = λ e. inl e })

    -- other objects may change in any way
    other_abide : (tops : List Activity) (f : Object → Object) (o : ℕ) → ¬ aside o → Abide script aside start tops v.objects (change f o v.objects)
    other_abide tops f o none = test_abide script aside start tops f (λ x. x.serial == o) v.objects (λ x m t a. absurd (none (subst aside (eqb-true x.serial o t) a)))

    module _ (tops : List Activity) (c : Collection) (on : IsLate c.phase) (light : AllLight tops) (turn : TurnsAre c.phase) where
      abbrev under : List Activity
      under = tops ++ Collecting c ∷ below

      on_top : (more : List Activity) (w : World) → w.stack ≡ more ++ Collecting c ∷ below → AllLight more → RestAll w.objects → AllWait script aside start w.objects more → Late w
      on_top more w is l r a = record { tops = more; collection = c; is = is; late = on; light = l; turn = turn; rests = r; wait = a }

      with_top : (a : Activity) → IsLight script aside start a → (xs : List Activity) → AllLight xs → AllLight (a ∷ xs)
      with_top a k xs l b m = either m (λ e. subst (IsLight script aside start) e k) (l b)

      module _ (refs : List ℕ) (o : ℕ) (wait : AllWait script aside start v.objects (Releasing (o ∷ refs) ∷ tops)) where
        abbrev rest : World
        rest = with_stack (Releasing refs ∷ under) v

        abbrev begun : Death
        begun = record { object = o; phase = Finalizer }

        -- an uncollectable object without a legacy finalizer is held by another one
        legacy_one : in_degree rest o ≡ 0 → aside o → IsLegacy script aside start o
        legacy_one none a = either (by o a) (λ l. l) (λ x. let y = wait x.0 x.1 x.2 in absurd ((none_holds rest o none).entries y.0 y.1 (y.2.refers o x.3)))

        turned : (n : ℕ) → aside n → Dies (Releasing (o ∷ refs) ∷ tops) n → Dies (Releasing refs ∷ tops) n
        turned n a d = dies_under (Releasing refs) tops n (dies_without (Releasing (o ∷ refs)) tops n (λ e i. cc) d)

        given_late : Late (released (o ∷ refs) under v).1
        given_late = release_either (λ lines. Late) o refs under v (λ e. on_top (Dying begun ∷ Releasing refs ∷ tops) (begin_death o rest) refl
            (with_top (Dying begun) (λ a. (tt, legacy_one (eqb-true (in_degree rest o) 0 (true_and (not (is_dying rest o)) (in_degree rest o == 0) e).1) a))
            (Releasing refs ∷ tops) (with_top (Releasing refs) tt tops light))
            (untracked_rest (λ x. with_referent None (with_place Untracked x)) (λ x. refl) o)
            (all_wait script aside start v.objects (begin_death o rest).objects (Releasing (o ∷ refs) ∷ tops) (Dying begun ∷ Releasing refs ∷ tops)
            (test_abide script aside start (Dying begun ∷ Releasing refs ∷ tops) (λ x. with_referent None (with_place Untracked x)) (λ x. x.serial == o)
            v.objects (λ x m t a. record {
              serial = refl;
              refers = λ p i. i;
              legacy = refl;
              place = λ i. inr (begun, inl refl, sym (eqb-true x.serial o t));
            }))
            (λ n a d. dies_under (Dying begun) (Releasing refs ∷ tops) n (turned n a d)) wait))
            (λ e. on_top (Releasing refs ∷ tops) rest refl (with_top (Releasing refs) tt tops light) rests
            (all_wait script aside start v.objects v.objects (Releasing (o ∷ refs) ∷ tops) (Releasing refs ∷ tops) (abide_same script aside start (Releasing refs ∷ tops) v.objects) turned wait))

      released_late : (refs : List ℕ) → AllWait script aside start v.objects (Releasing refs ∷ tops) → Late (released refs under (with_stack (Releasing refs ∷ under) v)).1
      released_late [] wait = on_top tops (with_stack under v) refl light rests
          (all_wait script aside start v.objects v.objects (Releasing [] ∷ tops) tops (abide_same script aside start tops v.objects) (λ n a d. dies_without (Releasing []) tops n (λ e i. cc) d) wait)
      released_late (o ∷ refs) wait = given_late refs o wait

      module _ (o : ℕ) (phase : DyingPhase) (calm : aside o → IsCalm phase × IsLegacy script aside start o) (wait : AllWait script aside start v.objects
          (Dying (record { object = o; phase = phase }) ∷ tops)) where
        abbrev at : DyingPhase → World
        at p = death_at o p under v

        abbrev death : DyingPhase → Activity
        death p = Dying (record { object = o; phase = p })

        moved : (next : DyingPhase) (n : ℕ) → aside n → Dies (death phase ∷ tops) n → Dies (death next ∷ tops) n
        moved next n a d = either (dies_first (record { object = o; phase = phase }) tops n d) (λ e. (record { object = o; phase = next }, inl refl, e)) (λ k. dies_under (death next) tops n k)

        dying_to : (next : DyingPhase) (w : World) → w.stack ≡ death next ∷ under → (aside o → IsCalm next) → RestAll w.objects → Abide script aside start
            (death next ∷ tops) v.objects w.objects → Late w
        dying_to next w is k r a = on_top (death next ∷ tops) w is (with_top (death next) (λ s. (k s, (calm s).1)) tops light) r
            (all_wait script aside start v.objects w.objects (death phase ∷ tops) (death next ∷ tops) a (moved next) wait)

        same : (next : DyingPhase) → Abide script aside start (death next ∷ tops) v.objects v.objects
        same next = abide_same script aside start (death next ∷ tops) v.objects

        giving : (refs : List ℕ) (next : DyingPhase) (w : World) → w.stack ≡ Releasing refs ∷ death next ∷ under → ¬ aside o → RestAll w.objects
            → Abide script aside start (Releasing refs ∷ death next ∷ tops) v.objects w.objects → Late w
        giving refs next w is none r a = on_top (Releasing refs ∷ death next ∷ tops) w is (with_top (Releasing refs) tt (death next ∷ tops) (with_top (death next) (λ s. absurd (none s)) tops light)) r
            (all_wait script aside start v.objects w.objects (death phase ∷ tops) (Releasing refs ∷ death next ∷ tops) a (λ n s d. dies_under (Releasing refs)
            (death next ∷ tops) n (moved next n s d)) wait)

        ended : (w : World) → w.stack ≡ under → ¬ aside o → RestAll w.objects → Abide script aside start tops v.objects w.objects → Late w
        ended w is none r a = on_top tops w is light r
            (all_wait script aside start v.objects w.objects (death phase ∷ tops) tops a
            (λ n s d. either (dies_first (record { object = o; phase = phase }) tops n d) (λ e. absurd (none (subst aside (sym e) s))) (λ k. k)) wait)

        after_frame_late : (next : DyingPhase) → ¬ aside o → Late (after_frame o next under (at phase)).1
        after_frame_late next none = own_frame_either (λ lines. Late) o next under (at phase)
            (λ t. dying_to next (with_change (with_place Untracked) o (at next)) refl (λ s. absurd (none s)) (untracked_rest (with_place Untracked)
            (λ x. refl) o) (other_abide (death next ∷ tops) (with_place Untracked) o none))
            (λ t. ended (with_stack under (at phase)) refl none rests (abide_same script aside start tops v.objects))

        -- an uncollectable object has its legacy finalizer to run
        has_one : option_and_then (legacy_of script) (object_at v.objects o) ≡ None → ¬ aside o
        has_one e a =
            let x = (calm a).1 in
            let y = wait x.0 x.1 (subst aside (sym x.2) a) in
            let found : option_and_then (legacy_of script) (object_at v.objects o) ≡ legacy_of script y.0 = ap (option_and_then (legacy_of script))
            (subst (λ n. object_at v.objects n ≡ Some y.0) (y.2.serial ∙ x.2) (at_member 1 v.next_serial v.objects y.0 rises y.1)) in
            let no : false ≡ true = ap (λ (m : Option ℕ). is_some m) (sym e ∙ found ∙ y.2.legacy) ∙ x.3 in cc

        module _ (events : List Event) (after : World) (quiet : count_by is_enter events ≡ 0) (running : after.outcome ≡ Running) where
          finalizer_late : (m : Option ℕ) → Yields (run_finalizer script o under (at phase) m) events after → Late after
          finalizer_late None step = to after _ step.1 (dying_to (Clearing []) (at (Clearing [])) refl (λ s. tt) rests (same (Clearing [])))
          finalizer_late (Some p) step = absurd (starts_none script _ _ events after step quiet running)

          legacy_late : (m : Option ℕ) → option_and_then (legacy_of script) (object_at v.objects o) ≡ m → Yields (run_legacy script o under (at phase) m) events after → Late after
          legacy_late None e step = to after _ step.1 (dying_to Detaching (at Detaching) refl (λ s. absurd (has_one e s)) rests (same Detaching))
          legacy_late (Some p) e step = absurd (starts_none script _ _ events after step quiet running)

          clearing_late : (waiting weaks : List ℕ) → Yields (clear_one o waiting under (at phase) weaks) events after → Late after
          clearing_late waiting [] step = to after _ step.1 (dying_to (Calling waiting) (at (Calling waiting)) refl (λ s. tt) rests (same (Calling waiting)))
          clearing_late waiting (weak ∷ weaks) step =
              let next : DyingPhase = Clearing (waiting ++ (if is_some (callback_of v.objects weak) then weak ∷ [] else [])) in
              to after _ step.1 (dying_to next (record (death_at o next under v) { objects = loses_referent weak v.objects }) refl (λ s. tt) (lost_rest weak) (lost_abide (death next ∷ tops) weak))

          calling_late : (waiting : List ℕ) → Yields (call_one script o under (at phase) waiting) events after → Late after
          calling_late [] step = to after _ step.1 (dying_to LegacyFinalizer (at LegacyFinalizer) refl (λ s. tt) rests (same LegacyFinalizer))
          calling_late (weak ∷ waiting) step = absurd (starts_none script _ _ events after step quiet running)

          detaching_late : ¬ aside o → (weaks : List ℕ) → Yields (detach_one o under (at phase) weaks) events after → Late after
          detaching_late none [] step = to after _ step.1 (dying_to Emptying (at Emptying) refl (λ s. absurd (none s)) rests (same Emptying))
          detaching_late none (weak ∷ weaks) step = to after _ step.1 (dying_to Detaching _ refl (λ s. absurd (none s)) (lost_rest weak) (lost_abide (death Detaching ∷ tops) weak))

          emptying_late : ¬ aside o → (m : Option Entry) → Yields (empty_one o under (at phase) m) events after → Late after
          emptying_late none None step = to after _ step.1 (ended _ refl none (λ y m. rests y (Includes-filter_cases (λ x. not (x.serial == o)) v.objects y m).0)
              (λ x m a. (
                x,
                Includes-filter (λ (z : Object). not (z.serial == o)) v.objects x
                    (ap not (either (cases_of (x.serial == o)) (λ t. absurd (none (subst aside (eqb-true x.serial o t) a))) (λ f. f))) m,
                record { serial = refl; refers = λ r i. i; legacy = refl; place = λ e. inl e },
              )))
          emptying_late none (Some entry) step = to after _ step.1 (giving (entry_references entry) Emptying _ refl none
              (placed_same (λ x. without_last (entries_of v.objects o)) (λ x. x.serial == o)) (other_abide (Releasing (entry_references entry) ∷ death Emptying
              ∷ tops) (with_entries (without_last (entries_of v.objects o))) o none))

      dying_late : (o : ℕ) (phase : DyingPhase) → (aside o → IsCalm phase × IsLegacy script aside start o) → AllWait script aside start v.objects (Dying (record { object = o; phase = phase }) ∷ tops)
          → (events : List Event) (after : World) → count_by is_enter events ≡ 0 → after.outcome ≡ Running → Yields (dying script o phase under (death_at o phase under v)) events after → Late after
      dying_late o Finalizer calm wait events after quiet running step = finalizer_late o Finalizer calm wait events after quiet running
          (option_and_then (finalizer_to_run script) (object_at v.objects o)) step
      dying_late o AfterFinalizer calm wait events after quiet running step = to after _ step.1 (after_frame_late o AfterFinalizer calm wait (Clearing []) (λ a. (calm a).0))
      dying_late o (Clearing waiting) calm wait events after quiet running step = clearing_late o (Clearing waiting) calm wait events after quiet running
          waiting (weak_references_if has_weak_references v.objects o) step
      dying_late o (Calling waiting) calm wait events after quiet running step = calling_late o (Calling waiting) calm wait events after quiet running waiting step
      dying_late o (AfterCall weak callback waiting) calm wait events after quiet running step = to after _ step.1 (giving o (AfterCall weak callback waiting)
          calm wait (callback ∷ weak ∷ []) (Calling waiting) _ refl (λ a. (calm a).0) rests (abide_same script aside start (Releasing (callback ∷ weak ∷ [])
          ∷ Dying (record { object = o; phase = Calling waiting }) ∷ tops) v.objects))
      dying_late o LegacyFinalizer calm wait events after quiet running step = legacy_late o LegacyFinalizer calm wait events after quiet running
          (option_and_then (legacy_of script) (object_at v.objects o)) refl step
      dying_late o AfterLegacy calm wait events after quiet running step = to after _ step.1 (after_frame_late o AfterLegacy calm wait Detaching (λ a. (calm a).0))
      dying_late o Detaching calm wait events after quiet running step = detaching_late o Detaching calm wait events after quiet running (λ a. (calm a).0)
          (weak_references_if (has_finalizers script) v.objects o) step
      dying_late o Emptying calm wait events after quiet running step = emptying_late o Emptying calm wait events after quiet running (λ a. (calm a).0) (last_entry (entries_of v.objects o)) step

    module _ (c : Collection) (turn : TurnsAre c.phase) (wait : AllWait script aside start v.objects []) (events : List Event) (after : World)
        (quiet : count_by is_enter events ≡ 0) (on : count_by is_stop events ≡ 0) where
      abbrev standing : CollectPhase → World
      standing phase = collection_at c phase below v

      goes_to : (next : CollectPhase) (w : World) → w.stack ≡ Collecting (record c { phase = next }) ∷ below → IsLate next → TurnsAre next → RestAll w.objects
          → Abide script aside start [] v.objects w.objects → Late w
      goes_to next w is late t r a = record {
        tops = [];
        collection = record c { phase = next };
        is = is;
        late = late;
        light = λ b m. absurd m;
        turn = t;
        rests = r;
        wait = all_wait script aside start v.objects w.objects [] [] a (λ n s d. d) wait;
      }

      gives : (refs : List ℕ) (next : CollectPhase) (w : World) → w.stack ≡ Releasing refs ∷ Collecting (record c { phase = next }) ∷ below → IsLate next
          → TurnsAre next → RestAll w.objects → Abide script aside start (Releasing refs ∷ []) v.objects w.objects → Late w
      gives refs next w is late t r a = record {
        tops = Releasing refs ∷ [];
        collection = record c { phase = next };
        is = is;
        late = late;
        light = λ b m. either m (λ e. subst (IsLight script aside start) e tt) (λ k. absurd k);
        turn = t;
        rests = r;
        wait = all_wait script aside start v.objects w.objects [] (Releasing refs ∷ []) a (λ n s d. absurd d.1) wait;
      }

      aged_rest : (o : ℕ) (objects : List Object) → Includes members o → RestAll objects → RestAll (change (with_place (Gen (older c.generation))) o objects)
      aged_rest o objects k r = test_all (RestsSo kept aside members) (with_place (Gen (older c.generation))) (λ x. x.serial == o) objects
          (λ x m t p. rests_final kept aside members (with_place (Gen (older c.generation)) x) (subst (Includes members) (sym (eqb-true x.serial o t)) k)) r

      aged_abide : (o : ℕ) (objects : List Object) → Includes members o → Abide script aside start [] objects (change (with_place (Gen (older c.generation))) o objects)
      aged_abide o objects k = test_abide script aside start [] (with_place (Gen (older c.generation))) (λ x. x.serial == o) objects
          (λ x m t a. absurd (apart x.serial a (subst (Includes members) (sym (eqb-true x.serial o t)) k)))

      turn_taken : (x : Object) → Includes (objects_at v.objects Cand) x → Late (takes_turn c x below (standing Turns)).1
      turn_taken x m = turn_either (λ lines. Late) c x below (standing Turns)
          (λ t. goes_to Turns _ refl tt (λ o i. absurd i) (aged_rest x.serial (saved x.serial v.objects) member (placed_same (λ z. z.entries ++ item (Ref x.serial) ∷ []) (λ z. z.serial == 1)))
          (abide_trans script aside start [] v.objects (saved x.serial v.objects) _
          (test_abide script aside start [] (λ z. with_entries (z.entries ++ item (Ref x.serial) ∷ []) z) (λ z. z.serial == 1) v.objects
          (λ z i e a. record { serial = refl; refers = λ r k. appended z.entries (item (Ref x.serial) ∷ []) r k; legacy = refl; place = λ p. inl p }))
          (aged_abide x.serial (saved x.serial v.objects) member)))
          (λ t s. goes_to Turns _ refl tt (λ o i. absurd i) (aged_rest x.serial v.objects member rests) (aged_abide x.serial v.objects member))
          (λ t s. goes_to (Turn x.serial) _ refl tt (λ o i. either i (λ e. subst (Includes members) e member) (λ k. absurd k)) rests (abide_same script aside start [] v.objects))
        where
          member : Includes members x.serial
          member = let at = Includes-filter_cases (is_at Cand) v.objects x m in (rests x at.0).1 (place_is x.place Cand at.1)

      phase_late : (phase : CollectPhase) → IsLate phase → TurnsAre phase → PhaseStep script c phase below (standing phase) events after → Late after
      phase_late Turns late t (inl step) = to after _ step.yields.1 (turn_taken step.object step.member)
      phase_late Turns late t (inr step) = to after _ step.1.1 (goes_to Ending _ refl tt (λ o i. absurd i) rests (abide_same script aside start [] v.objects))
      phase_late (Turn o) late t step = to after _ step.1 (option_either (λ lines. Late) (empties c o below (standing (Turn o))) (last_entry (entries_of v.objects o))
          (λ is. gives (o ∷ []) (AfterTurn o) _ refl tt (λ p i. either i (λ e. subst (Includes members) e (t o (inl refl))) (λ n. absurd n)) rests
          (abide_same script aside start (Releasing (o ∷ []) ∷ []) v.objects))
          (λ entry is. gives (entry_references entry) (Turn o) _ refl tt (λ p i. either i (λ e. subst (Includes members) e (t o (inl refl))) (λ n. absurd n))
          (placed_same (λ x. without_last (entries_of v.objects o)) (λ x. x.serial == o))
          (other_abide (Releasing (entry_references entry) ∷ []) (with_entries (without_last (entries_of v.objects o))) o (λ a. apart o a (t o (inl refl))))))
      phase_late (AfterTurn o) late t step = to after _ step.1 (goes_to Turns _ refl tt (λ p i. absurd i) (aged_rest o v.objects (t o (inl refl)) rests) (aged_abide o v.objects (t o (inl refl))))
      phase_late Ending late t step = absurd (stops (lines_if (has_flag c.flags uncollectable) (map GcUncollectable step.told) ++ map GcSaved step.keeps)
          c.generation c.collected (length step.told) (lines_if c.asked (Collected (c.collected + length step.told) ∷ [])) events step.lines on)
      phase_late phase late t step = absurd late

    step_late : (events : List Event) (after : World) → count_by is_enter events ≡ 0 → count_by is_stop events ≡ 0 → after.outcome ≡ Running
        → (tops : List Activity) (c : Collection) → IsLate c.phase → AllLight tops → TurnsAre c.phase → AllWait script aside start v.objects tops
        → StepOf script (with_stack (tops ++ Collecting c ∷ below) v) (tops ++ Collecting c ∷ below) events after → Late after
    step_late events after quiet on running [] c late light turn wait step = phase_late c turn wait events after quiet on c.phase late turn step
    step_late events after quiet on running (Releasing refs ∷ tops) c late light turn wait step = to after _ step.1 (released_late tops c late (λ a m. light a (inr m)) turn refs wait)
    step_late events after quiet on running (Dying d ∷ tops) c late light turn wait step = dying_late tops c late (λ a m. light a (inr m)) turn d.object d.phase
        (light (Dying d) (inl refl)) wait events after quiet running step
    step_late events after quiet on running (a ∷ tops) c late light turn wait step = absurd (light a (inl refl))

  -- until the stop
  pub late_after : (w : World) (steps : List StepTaken) (stop : StepTaken) → Run script w (steps ++ stop ∷ []) → Fit script w
      → count_by is_enter (events_of steps) ≡ 0 → count_by is_stop (events_of steps) ≡ 0 → Late w → Late (last_world w steps)
  late_after w [] stop run fit quiet on h = h
  late_after w (step ∷ steps) stop run fit quiet on h =
      let q = enters_first step.events (events_of steps) quiet in
      let n = none_first step.events (events_of steps) on in
      late_after step.world steps stop run.1 (step_fit script w step.events step.world run.0 fit) q.1 n.1
      (step_late w fit.sound.rises h.rests step.events step.world q.0 n.0 (running_still script step.world steps stop run.1) h.tops h.collection h.late h.light
      h.turn h.wait (subst (λ st. StepOf script (with_stack st w) st step.events step.world) h.is run.0.step))
