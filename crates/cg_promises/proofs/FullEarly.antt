-- A full collection in which no frame begins, up to its second reachability pass: nothing is on top of it, and
-- entries stay.
use Rattle.std.proofs.Common.{◌≡◌, ◌≢◌, refl, sym, ◌∙◌, ap, subst, ℕ, ◌<◌, Bool, true, false, inl, inr, ◌⊎◌, List, [], ◌∷◌, ◌++◌, Option, Some, None, arith}
use Rattle.std.specs.Prelude.{◌==◌, count_by, if◌then◌else◌, option_and_then}
use Rattle.std.proofs.lemmas.Bool.{eqb-true}
use Rattle.cg_value.specs.declared.Val.{Val}
use Rattle.cg_value.specs.declared.Place.TheVariants.{Cand, Seen, Pend}
use Rattle.cg_script.specs.declared.Script.{Script}
use Rattle.cg_graph.specs.Member.{Includes}
use Rattle.cg_graph.specs.Object.{Object, change, is_at, object_at, serials_at, with_place, with_referent}
use Rattle.cg_graph.proofs.Members.{either}
use Rattle.cg_machine.specs.declared.event.Event.{Event}
use Rattle.cg_machine.specs.World.{World, Activity, Collecting, Collection, CollectPhase, WeakClearing, WeakCalling, Finalizing, Split, Running, with_objects, with_stack}
use Rattle.cg_machine.specs.Frame.{Yields}
use Rattle.cg_machine.specs.Weak.{loses_referent}
use Rattle.cg_machine.specs.Dying.{finalizer_to_run}
use Rattle.cg_machine.specs.Collect.{collection_at, looks_at, waits, PhaseStep}
use Rattle.cg_machine.specs.Run.{Run, Step, StepOf, StepTaken, events_of, last_world}
use Rattle.cg_laws.specs.Laws.{is_enter, is_stop}
use Rattle.cg_laws.proofs.Lookups.{same_object}
use Rattle.cg_represents.proofs.Serials.{Rises}
use Rattle.cg_laws.proofs.SetsApart.{stands_at}
use Rattle.cg_represents.proofs.Places.{place_is}
use Rattle.cg_promises.proofs.FullRuns.{enters_first, running_still}
use Rattle.cg_promises.proofs.FullPlaces.{AreAlike, StandsSo, Pending, alike_same, alike_trans, stands_same, stands_wanted, test_alike, test_all, wanted_cand, wanted_seen}
use Rattle.cg_promises.proofs.FullStop.{phase_quiet}
use Rattle.cg_promises.proofs.KeptRuns.{starts_none}
use Rattle.cg_promises.proofs.FinalSetRuns.{none_stops}
use Rattle.cg_promises.proofs.FinalizerOnceRuns.{Fit, step_fit}

-- the phases before the second pass without a frame of the collection
abbrev pub IsEarly : CollectPhase → Type 0
IsEarly (WeakClearing waiting) = Unit {0}
IsEarly (WeakCalling waiting) = Unit {0}
IsEarly Finalizing = Unit {0}
IsEarly Split = Unit {0}
IsEarly phase = ⊥

is_split : (phase : CollectPhase) → (phase ≡ Split) ⊎ (phase ≢ Split)
is_split Split = inl refl
is_split phase = inr (λ e. cc)

module _ (script : Script) (kept garbage aside : ℕ → Type 0) (start : List Object) (names : List (Option Val)) (below : List Activity) where
  abbrev StandAll : List Object → Type 0
  StandAll objects = (y : Object) → Includes objects y → StandsSo kept garbage aside y

  pub record Early (w : World) : Type 0 where
    pub collection : Collection
    pub is : w.stack ≡ Collecting collection ∷ below
    pub early : IsEarly collection.phase
    pub same : w.names ≡ names
    pub alike : AreAlike script start w.objects
    pub stands : StandAll w.objects

  module _ (c : Collection) (v : World) (rises : Rises 1 v.next_serial v.objects) (same : v.names ≡ names) (alike : AreAlike script start v.objects)
      (stands : StandAll v.objects) (events : List Event) (after : World) (quiet : count_by is_enter events ≡ 0) (running : after.outcome ≡ Running) where
    abbrev standing : CollectPhase → World
    standing phase = collection_at c phase below v

    to : (next : World) → after ≡ next → Early next → Early after
    to next e h = subst Early (sym e) h

    at : (next : CollectPhase) (w : World) → IsEarly next → w.names ≡ v.names → w.stack ≡ Collecting (record c { phase = next }) ∷ below
        → AreAlike script v.objects w.objects → StandAll w.objects → Early w
    at next w early n is a s = record { collection = record c { phase = next }; is = is; early = early; same = n ∙ same; alike = alike_trans script start v.objects w.objects alike a; stands = s }

    lost_alike : (weak : ℕ) → AreAlike script v.objects (loses_referent weak v.objects)
    lost_alike weak = test_alike script (with_referent None) (λ x. x.serial == weak) v.objects (λ x. record { serial = refl; entries = refl; legacy = refl })

    lost_stands : (weak : ℕ) → StandAll (loses_referent weak v.objects)
    lost_stands weak = test_all (StandsSo kept garbage aside) (with_referent None) (λ x. x.serial == weak) v.objects (λ x m t p. stands_same kept garbage aside
        x (with_referent None x) refl refl p) stands

    is_cand : (o : ℕ) → Includes (serials_at v.objects Cand) o → (x : Object) → Includes v.objects x → (x.serial == o) ≡ true → x.place ≡ Cand
    is_cand o m x k t =
        let z = stands_at v.objects Cand o m in
        let same : z.0 ≡ x = same_object 1 v.next_serial v.objects z.0 x rises z.1 k (z.3 ∙ sym (eqb-true x.serial o t)) in
        subst (λ (q : Object). q.place ≡ Cand) same (place_is z.0.place Cand z.2)

    looks_at_early : (o : ℕ) (m : Option ℕ) → Includes (serials_at v.objects Cand) o → Yields (looks_at script c o below (standing Finalizing) m) events after → Early after
    looks_at_early o None i step = to _ step.1 (at Finalizing _ tt refl refl (test_alike script (with_place Seen) (λ x. x.serial == o) v.objects
        (λ x. record { serial = refl; entries = refl; legacy = refl }))
        (test_all (StandsSo kept garbage aside) (with_place Seen) (λ x. x.serial == o) v.objects (λ x m t p. stands_wanted kept garbage aside x
        (with_place Seen x) refl (wanted_cand x.place (is_cand o i x m t)) tt p) stands))
    looks_at_early o (Some p) i step = absurd (starts_none script _ _ events after step quiet running)

    phase_early : (phase : CollectPhase) → IsEarly phase → phase ≢ Split → PhaseStep script c phase below (standing phase) events after → Early after
    phase_early (WeakClearing waiting) early on (inl step) = to _ step.yields.1 (go (waits v.objects step.weak))
      where
        lost : List Object
        lost = loses_referent step.weak v.objects

        go : (t : Bool) → Early (if t then collection_at c (WeakClearing (waiting ++ step.weak ∷ [])) below
            (with_objects (change (with_place Pend) step.weak lost) (standing (WeakClearing waiting))) else collection_at c (WeakClearing waiting) below
            (with_objects lost (standing (WeakClearing waiting))))
        go true = at (WeakClearing (waiting ++ step.weak ∷ [])) _ tt refl refl
            (alike_trans script v.objects lost (change (with_place Pend) step.weak lost) (lost_alike step.weak) (test_alike script (with_place Pend)
            (λ x. x.serial == step.weak) lost (λ x. record { serial = refl; entries = refl; legacy = refl })))
            (test_all (StandsSo kept garbage aside) (with_place Pend) (λ x. x.serial == step.weak) lost (λ x m t p. (Pending refl, λ a. inr refl)) (lost_stands step.weak))
        go false = at (WeakClearing waiting) _ tt refl refl (lost_alike step.weak) (lost_stands step.weak)
    phase_early (WeakClearing waiting) early on (inr step) = to _ step.1.1 (at (WeakCalling waiting) _ tt refl refl (alike_same script v.objects) stands)
    phase_early (WeakCalling []) early on step = to _ step.1 (at Finalizing _ tt refl refl (alike_same script v.objects) stands)
    phase_early (WeakCalling (weak ∷ waiting)) early on step = absurd (starts_none script _ _ events after step quiet running)
    phase_early Finalizing early on (inl step) = looks_at_early step.object (option_and_then (finalizer_to_run script) (object_at v.objects step.object)) step.condemned step.yields
    phase_early Finalizing early on (inr step) = to _ step.1.1 (at Split _ tt refl refl (test_alike script (with_place Cand) (is_at Seen) v.objects (λ x. record { serial = refl; entries = refl; legacy = refl }))
        (test_all (StandsSo kept garbage aside) (with_place Cand) (is_at Seen) v.objects (λ x m t p. stands_wanted kept garbage aside x (with_place Cand x) refl
        (wanted_seen x.place (place_is x.place Seen t)) tt p) stands))
    phase_early Split early on step = absurd (on refl)
    phase_early phase early on step = absurd early

  -- the second reachability pass of a run
  pub record FoundSplit (w : World) (steps : List StepTaken) : Type 0 where
    pub front : List StepTaken
    pub split : StepTaken
    pub rest : List StepTaken
    pub is : steps ≡ front ++ split ∷ rest
    pub at : Early (last_world w front)
    pub phase : at.collection.phase ≡ Split

  one_early : (w : World) (events : List Event) (after : World) → Step script w events after → Fit script w → count_by is_enter events ≡ 0 → after.outcome
      ≡ Running → (h : Early w) → h.collection.phase ≢ Split → Early after
  one_early w events after step fit quiet running h on =
      phase_early h.collection w fit.sound.rises h.same h.alike h.stands events after quiet running h.collection.phase h.early on
      (subst (λ st. StepOf script (with_stack st w) st events after) h.is step.step)

  no_stop_yet : (w : World) (events : List Event) (after : World) → Step script w events after → (h : Early w) → 0 < count_by is_stop events → ⊥
  no_stop_yet w events after step h more = either (phase_quiet script h.collection below w events after (subst (λ st. StepOf script (with_stack st w) st events after) h.is step.step))
      (λ e. subst IsEarly e h.early) (λ q. let none = none_stops events q in omega (arith, none, more))

  pub finds_split : (w : World) (steps : List StepTaken) (stop : StepTaken) → Run script w (steps ++ stop ∷ []) → Fit script w
      → count_by is_enter (events_of steps) ≡ 0 → 0 < count_by is_stop stop.events → Early w → FoundSplit w steps
  finds_split w [] stop run fit quiet more h = absurd (no_stop_yet w stop.events stop.world run.0 h more)
  finds_split w (step ∷ steps) stop run fit quiet more h = go (is_split h.collection.phase) (λ next. finds_split step.world steps stop run.1
      (step_fit script w step.events step.world run.0 fit) (enters_first step.events (events_of steps) quiet).1 more next)
    where
      go : (h.collection.phase ≡ Split) ⊎ (h.collection.phase ≢ Split) → (Early step.world → FoundSplit step.world steps) → FoundSplit w (step ∷ steps)
      go (inl e) later = record { front = []; split = step; rest = steps; is = refl; at = h; phase = e }
      go (inr on) later = record { front = step ∷ (later (one_early w step.events step.world run.0 fit (enters_first step.events (events_of steps) quiet).0 (running_still script step.world steps stop run.1) h on)).front; split = (later (one_early w step.events step.world run.0 fit (enters_first step.events (events_of steps) quiet).0 (running_still script step.world steps stop run.1) h on)).split; rest = (later (one_early w step.events step.world run.0 fit (enters_first step.events (events_of steps) quiet).0 (running_still script step.world steps stop run.1) h on)).rest; is = ap (λ l. step ∷ l) (later (one_early w step.events step.world run.0 fit (enters_first step.events (events_of steps) quiet).0 (running_still script step.world steps stop run.1) h on)).is; at = (later (one_early w step.events step.world run.0 fit (enters_first step.events (events_of steps) quiet).0 (running_still script step.world steps stop run.1) h on)).at; phase = (later (one_early w step.events step.world run.0 fit (enters_first step.events (events_of steps) quiet).0 (running_still script step.world steps stop run.1) h on)).phase }
