-- In every run a full collection in which no frame begins leaves no garbage.
use Rattle.std.proofs.Common.{◌≡◌, ◌≢◌, refl, sym, ◌∙◌, ap, subst, ℕ, ◌+◌, ◌<◌, true, false, inl, List, [], ◌∷◌, ◌++◌, length, arith}
use Rattle.std.specs.Prelude.{count_by}
use Rattle.std.proofs.lemmas.List.{append_assoc}
use Rattle.cg_value.specs.declared.Place.TheVariants.{Untracked, Cand}
use Rattle.cg_script.specs.declared.Script.{Script}
use Rattle.cg_script.specs.Texts.{TextsAreKnown}
use Rattle.cg_graph.specs.Member.{Includes}
use Rattle.cg_graph.specs.Value.{references}
use Rattle.cg_graph.specs.Object.{Object, serials_at}
use Rattle.cg_graph.proofs.Members.{either, cases_of, Includes-map}
use Rattle.cg_machine.specs.World.{World, Activity, Releasing, Dying, Collecting, Collection, Split, Turns, Ending, opening, with_stack}
use Rattle.cg_machine.specs.Collect.{has_flag, is_condemned, save_all, EndStep, PhaseStep, SplitStep}
use Rattle.cg_machine.specs.Run.{IsRun, Run, Step, StepOf, StepTaken, events_of, last_world, world_after}
use Rattle.cg_laws.specs.Laws.{FullCollectionLeavesNone, NoGarbageIsLeft, Splits, StartsFull, final_set, is_enter, is_stop}
use Rattle.cg_laws.proofs.Ending.{Run-append, last_world-append}
use Rattle.cg_laws.proofs.PrefixesOfRuns.{events_of-append}
use Rattle.cg_laws.proofs.Lookups.{same_object}
use Rattle.cg_laws.proofs.OriginsOfRuns.{opening_origin}
use Rattle.cg_laws.specs.Apart.{IsApart, IsInLatePhase, StandsRightly}
use Rattle.cg_laws.proofs.RunsApart.{runs_apart}
use Rattle.cg_laws.proofs.SetsApart.{stands_at}
use Rattle.cg_promises.specs.Reached.{IsReached}
use Rattle.cg_represents.proofs.Places.{place_is}
use Rattle.cg_promises.proofs.FinalSetFreed.{none_lives}
use Rattle.cg_promises.proofs.FullUncollectable.{AllWait, IsLight}
use Rattle.cg_promises.proofs.FullBegins.{aside_by, begins_early}
use Rattle.cg_promises.proofs.FullEarly.{Early, FoundSplit, finds_split}
use Rattle.cg_promises.proofs.FullEnds.{tracked_reached}
use Rattle.cg_promises.proofs.FullKept.{full_then, there}
use Rattle.cg_promises.proofs.FullLate.{Late, late_after}
use Rattle.cg_promises.proofs.FullLaws.{begins, faded_full, near_full, reached_is_kept, start_quiet}
use Rattle.cg_promises.proofs.FullLeft.{none_left}
use Rattle.cg_promises.proofs.FullRuns.{enters_first}
use Rattle.cg_promises.proofs.FullSaved.{IsNamed, Saves, saves_after}
use Rattle.cg_promises.proofs.FullSplit.{WasAside, WasGarbage, aside_apart, aside_there, rest_so}
use Rattle.cg_promises.proofs.FullPlaces.{RestsSo}
use Rattle.cg_promises.proofs.FullStop.{stop_ends}
use Rattle.cg_promises.proofs.Kept.{IsBare}
use Rattle.cg_promises.proofs.HoldersMove.{IsMinded}
use Rattle.cg_promises.proofs.HoldersMoveRuns.{minded_after, opening_minded}
use Rattle.cg_promises.proofs.FinalSet.{IsLate}
use Rattle.cg_promises.proofs.FinalSetRuns.{none_first, none_stops, sealed_after}
use Rattle.cg_promises.proofs.FinalSetKept.{starts_sealed_world}
use Rattle.cg_promises.proofs.UntrackedStay.{IsSlackWorld}
use Rattle.cg_promises.proofs.UntrackedStayRuns.{opening_slack, slack_after}
use Rattle.cg_promises.proofs.FinalizerOnceRuns.{Fit, opening_fit, run_back, run_front, run_fit, step_fit}

-- neither the first steps of a run nor the others begin a frame
enters_both : (front back : List StepTaken) → count_by is_enter (events_of (front ++ back)) ≡ 0 → (count_by is_enter (events_of front) ≡ 0) × (count_by is_enter (events_of back) ≡ 0)
enters_both front back e = enters_first (events_of front) (events_of back) (subst (λ es. count_by is_enter es ≡ 0) (events_of-append front back) e)

stops_both : (front back : List StepTaken) → count_by is_stop (events_of (front ++ back)) ≡ 0 → (count_by is_stop (events_of front) ≡ 0) × (count_by is_stop (events_of back) ≡ 0)
stops_both front back e = none_first (events_of front) (events_of back) (subst (λ es. count_by is_stop es ≡ 0) (events_of-append front back) e)

light_bare : (script : Script) (aside : ℕ → Type 0) (start : List Object) (a : Activity) → IsLight script aside start a → IsBare (λ n. ⊥) a
light_bare script aside start (Releasing refs) k = tt
light_bare script aside start (Dying d) k = λ n. n
light_bare script aside start a k = k

module _ (script : Script) (budget : ℕ) (before : List StepTaken) (known : TextsAreKnown script) (run : IsRun script budget before) (f : StartsFull (world_after script budget before)) where
  abbrev v : World
  v = world_after script budget before

  abbrev kept : ℕ → Type 0
  kept o = IsReached v o

  abbrev aside : ℕ → Type 0
  aside o = WasAside script v o

  fit : Fit script v
  fit = run_fit script (opening script budget) before run (opening_fit script budget)

  slack : IsSlackWorld v
  slack = slack_after script (opening script budget) before run (opening_fit script budget) (opening_slack script budget)

  apart_on : (more : List StepTaken) → Run script v more → IsApart (last_world v more)
  apart_on more goes = subst IsApart (last_world-append (opening script budget) before more) (runs_apart script budget (before ++ more)
      (Run-append script (opening script budget) before more run goes))

  minded_on : (more : List StepTaken) → Run script v more → IsMinded (length script.names) (last_world v more)
  minded_on more goes = subst (IsMinded (length script.names)) (last_world-append (opening script budget) before more)
      (minded_after script known (opening script budget) (before ++ more) (Run-append script (opening script budget) before more run goes)
      (opening_fit script budget) (opening_origin script budget) (opening_minded script known budget))

  -- the run up to the second reachability pass, and from there to the stop
  module _ (start : StepTaken) (front : List StepTaken) (split : StepTaken) (rest : List StepTaken) (stop : StepTaken) (goes : Run script v (start ∷ (front ++ split ∷ rest) ++ stop ∷ []))
      (quiet : count_by is_enter (events_of (front ++ split ∷ rest)) ≡ 0) (on : count_by is_stop (events_of (front ++ split ∷ rest)) ≡ 0) (more : 0 < count_by is_stop stop.events)
      (early : Early script (IsReached v) (WasGarbage v) (WasAside script v) v.objects v.names f.below (last_world start.world front))
      (phase : early.collection.phase ≡ Split) (kept_on : (o : ℕ) → IsReached v o → IsReached stop.world o) where
    abbrev s : World
    s = last_world start.world front

    abbrev u : World
    u = last_world split.world rest

    all : Run script start.world (front ++ split ∷ rest)
    all = run_front script start.world (front ++ split ∷ rest) (stop ∷ []) goes.1

    run_f : Run script start.world front
    run_f = run_front script start.world front (split ∷ rest) all

    back : Run script s (split ∷ rest)
    back = run_back script start.world front (split ∷ rest) all

    last : Run script u (stop ∷ [])
    last = subst (λ w. Run script w (stop ∷ [])) (last_world-append start.world front (split ∷ rest)) (run_back script start.world (front ++ split ∷ rest) (stop ∷ []) goes.1)

    fit_start : Fit script start.world
    fit_start = step_fit script v start.events start.world goes.0 fit

    fit_s : Fit script s
    fit_s = run_fit script start.world front run_f fit_start

    fit_split : Fit script split.world
    fit_split = step_fit script s split.events split.world back.0 fit_s

    quiet_rest : count_by is_enter (events_of rest) ≡ 0
    quiet_rest = (enters_first split.events (events_of rest) (enters_both front (split ∷ rest) quiet).1).1

    on_rest : count_by is_stop (events_of rest) ≡ 0
    on_rest = (none_first split.events (events_of rest) (stops_both front (split ∷ rest) on).1).1

    -- a kept object is not condemned
    clear : (x : Object) → Includes s.objects x → IsReached v x.serial → is_condemned x ≡ false
    clear x m k =
        let full = (full_then script f.collection f.below v start.events start.world f.top f.phase f.full fit.sound.rises (near_full script budget before run f)
        (faded_full script budget before run f) (begins script v f start.events start.world goes.0)
        front split (Run-append script start.world front (split ∷ []) run_f (back.0, tt)) fit_start (enters_both front (split ∷ rest) quiet).0 (stops_both front (split ∷ rest) on).0).full in
        let z = there script f.collection f.below v start.events start.world f.top f.phase f.full fit.sound.rises (near_full script budget before run f)
        (faded_full script budget before run f) (begins script v f start.events start.world goes.0) x.serial k in
        let y = full.lives z.0 z.1 (subst (IsReached v) (sym z.2) k) in
        let same : y.0 ≡ x = same_object 1 s.next_serial s.objects y.0 x fit_s.sound.rises y.1 m (y.2.serial ∙ z.2) in
        subst (λ (q : Object). is_condemned q ≡ false) same y.2.clear

    slack_s : IsSlackWorld s
    slack_s = slack_after script start.world front run_f fit_start (slack_after script v (start ∷ []) (goes.0, tt) fit slack)

    rightly : (x : Object) → Includes s.objects x → IsInLatePhase x
    rightly x m = subst (λ p. StandsRightly p x) phase ((apart_on (start ∷ front) (goes.0, run_f)).phases early.collection
        (subst (λ st. Includes st (Collecting early.collection)) (sym early.is) (inl refl)) x m)

    split_step : SplitStep early.collection f.below s split.events split.world
    split_step =
        let phase_step : PhaseStep script early.collection early.collection.phase f.below s split.events split.world = subst (λ st. StepOf script s st split.events split.world) early.is back.0.step in
        subst (λ p. PhaseStep script early.collection p f.below s split.events split.world) phase phase_step

    abbrev turning : Collection
    turning = record early.collection { collected = early.collection.collected + length (serials_at split_step.objects Cand); phase = Turns }

    stack_now : split.world.stack ≡ Collecting turning ∷ f.below
    stack_now = ap (λ (w : World). w.stack) split_step.world

    objects_now : split.world.objects ≡ split_step.objects
    objects_now = ap (λ (w : World). w.objects) split_step.world

    rightly_now : (x : Object) → Includes split_step.objects x → IsInLatePhase x
    rightly_now x m =
        let apart = subst IsApart (last_world-append start.world front (split ∷ [])) (apart_on (start ∷ (front ++ split ∷ [])) (
          goes.0,
          Run-append script start.world front (split ∷ []) run_f (back.0, tt),
        )) in
        apart.phases turning (subst (λ st. Includes st (Collecting turning)) (sym stack_now) (inl refl)) x (subst (λ os. Includes os x) (sym objects_now) m)

    abbrev members : List ℕ
    members = final_set split

    apart_now : (n : ℕ) → aside n → ¬ Includes members n
    apart_now = subst (λ os. (n : ℕ) → aside n → ¬ Includes (serials_at os Cand) n) (sym objects_now)
        (aside_apart script v f.collection f.below f.top fit.sound.rises s early phase slack_s rightly clear early.collection split.events split.world split_step rightly_now)

    late_now : Late script kept aside members v.objects f.below (aside_by script v fit.sound.rises) apart_now split.world
    late_now = record {
      tops = [];
      collection = turning;
      is = stack_now;
      late = tt;
      light = λ a m. absurd m;
      turn = λ o m. absurd m;
      rests = subst (λ os. (y : Object) → Includes os y → RestsSo kept aside (serials_at os Cand) y) (sym objects_now) (rest_so script v f.collection f.below
          f.top fit.sound.rises s early phase slack_s rightly clear early.collection split.events split.world split_step rightly_now);
      wait = subst (λ os. AllWait script aside v.objects os []) (sym objects_now) (λ x m a. let y = aside_there script v f.collection f.below f.top
          fit.sound.rises s early phase slack_s rightly clear early.collection split.events split.world split_step rightly_now x m a in
          (y.0, y.1, record { serial = y.2.serial; refers = λ o i. subst (λ es. Includes (references es) o) (sym y.2.entries) i; legacy = y.2.legacy; place = inl y.3 }));
    }

    late_u : Late script kept aside members v.objects f.below (aside_by script v fit.sound.rises) apart_now u
    late_u = late_after script kept aside members v.objects f.below (aside_by script v fit.sound.rises) apart_now split.world rest stop
        (Run-append script split.world rest (stop ∷ []) back.1 last) fit_split quiet_rest on_rest late_now

    -- the stop is in the step of the end
    stands : (late_u.tops ≡ []) × (late_u.collection.phase ≡ Ending)
    stands = stop_ends script (λ n. ⊥) u f.below stop.events stop.world late_u.tops late_u.collection (λ a m. light_bare script aside v.objects a
        (late_u.light a m)) (λ e. subst IsLate e late_u.late) more
        (subst (λ st. StepOf script (with_stack st u) st stop.events stop.world) late_u.is last.0.step)

    top_u : u.stack ≡ Collecting late_u.collection ∷ f.below
    top_u = late_u.is ∙ ap (λ ts. ts ++ Collecting late_u.collection ∷ f.below) stands.0

    end_step : EndStep script late_u.collection f.below u stop.events stop.world
    end_step =
        let phase_step : PhaseStep script late_u.collection late_u.collection.phase f.below u stop.events stop.world = subst (λ st. StepOf script u st stop.events stop.world) top_u last.0.step in
        subst (λ p. PhaseStep script late_u.collection p f.below u stop.events stop.world) stands.1 phase_step

    fit_u : Fit script u
    fit_u = run_fit script split.world rest back.1 fit_split

    -- none is condemned at the end
    none_cand : (x : Object) → Includes u.objects x → x.place ≢ Cand
    none_cand x m =
        let apart = subst IsApart (last_world-append start.world front (split ∷ rest)) (apart_on (start ∷ (front ++ split ∷ rest)) (goes.0, all)) in
        (subst (λ p. StandsRightly p x) stands.1 (apart.phases late_u.collection (subst (λ st. Includes st (Collecting late_u.collection)) (sym top_u) (inl refl)) x m)).1

    -- the garbage list names each member that lives at the end
    saved_named : has_flag early.collection.flags save_all ≡ true → (y : Object) → Includes u.objects y → Includes members y.serial → IsNamed u.objects y.serial
    saved_named flag y m k = either ((saves_after script members f.below split.world rest back.1 fit_split on_rest begun).all y.serial k)
        (λ cand. absurd (none_cand y m (cand y m refl))) (λ named. named)
      where
        begun : Saves script members f.below split.world
        begun = record {
          collection = turning;
          is = stack_now;
          phase = tt;
          saves = flag;
          all = λ n i. inl (λ x j e. let z = stands_at split.world.objects Cand n i in
              let same : z.0 ≡ x = same_object 1 split.world.next_serial split.world.objects z.0 x fit_split.sound.rises z.1 j (z.3 ∙ sym e) in
              subst (λ (q : Object). q.place ≡ Cand) same (place_is z.0.place Cand z.2));
        }

    freed : has_flag early.collection.flags save_all ≡ false → (y : Object) → Includes u.objects y → ¬ Includes members y.serial
    freed flag y m k =
        let same : world_after script budget (before ++ start ∷ front) ≡ s = last_world-append (opening script budget) before (start ∷ front) in
        let splits : Splits s = record { collection = early.collection; below = f.below; top = early.is; phase = phase; clears = flag } in
        let sealed = (sealed_after script members split.world rest back.1 fit_split on_rest
        (starts_sealed_world script budget (before ++ start ∷ front) split (Run-append script (opening script budget) before (start ∷ front) run (
          goes.0,
          run_f,
        )) (subst (λ w. Step script w split.events split.world) (sym same) back.0) (subst Splits (sym same) splits))).0 in
        none_lives script members (length script.names) late_u.collection f.below u stands.1 top_u fit_u.sound.rises sealed
        (subst (IsMinded (length script.names)) (last_world-append start.world front (split ∷ rest)) (minded_on (start ∷ (front ++ split ∷ rest)) (
          goes.0,
          all,
        ))) none_cand y.serial k (Includes-map (λ (z : Object). z.serial) u.objects y m)

    pub all_tracked : (x : Object) → Includes stop.world.objects x → x.place ≢ Untracked → IsReached stop.world x.serial
    all_tracked = tracked_reached script v fit.sound.rises members late_u.collection f.below u stop.events stop.world end_step kept_on fit_u.order.root_lives
        (subst (λ ts. AllWait script aside v.objects u.objects ts) stands.0 late_u.wait) late_u.rests
        (λ y m k. either (cases_of (has_flag early.collection.flags save_all)) (λ t. saved_named t y m k) (λ e. absurd (freed e y m k)))

  tracked_on : (during : List StepTaken) (stop : StepTaken) → Run script v (during ++ stop ∷ []) → count_by is_enter (events_of during ++ stop.events) ≡ 0
      → count_by is_stop (events_of during) ≡ 0 → 0 < count_by is_stop stop.events → ((o : ℕ) → IsReached v o → IsReached stop.world o)
      → (x : Object) → Includes stop.world.objects x → x.place ≢ Untracked → IsReached stop.world x.serial
  tracked_on [] stop goes quiet on more kept_on = absurd (let none = none_stops stop.events (start_quiet script v f.collection f.below stop.events stop.world
      (begins script v f stop.events stop.world goes.0)) in omega (arith, none, more))
  tracked_on (start ∷ steps) stop goes quiet on more kept_on =
      all_tracked start found.front found.split found.rest stop (subst (λ ss. Run script v (start ∷ ss ++ stop ∷ [])) found.is goes)
      (subst (λ ss. count_by is_enter (events_of ss) ≡ 0) found.is quiet_steps) (subst (λ ss. count_by is_stop (events_of ss) ≡ 0) found.is
      (none_first start.events (events_of steps) on).1) more found.at found.phase kept_on
    where
      quiet_steps : count_by is_enter (events_of steps) ≡ 0
      quiet_steps = (enters_first start.events (events_of steps) (enters_first (start.events ++ events_of steps) stop.events quiet).0).1

      found : FoundSplit script (IsReached v) (WasGarbage v) (WasAside script v) v.objects v.names f.below start.world steps
      found = finds_split script (IsReached v) (WasGarbage v) (WasAside script v) v.objects v.names f.below start.world steps stop goes.1
          (step_fit script v start.events start.world goes.0 fit) quiet_steps more
          (begins_early script f.collection f.below v start.events start.world f.top f.phase f.full fit.sound.rises (near_full script budget before run f)
          (faded_full script budget before run f) (begins script v f start.events start.world goes.0) slack fit.order.root_lives)

pub full_leaves_none : FullCollectionLeavesNone
full_leaves_none script budget before during stop known run f quiet on more =
    let all = subst (IsRun script budget) (append_assoc before during (stop ∷ [])) run in
    let front = run_front script (opening script budget) before (during ++ stop ∷ []) all in
    let back = run_back script (opening script budget) before (during ++ stop ∷ []) all in
    let same : world_after script budget (before ++ during ++ stop ∷ []) ≡ stop.world = last_world-append (opening script budget) (before ++ during) (stop ∷ []) in
    let tracked = tracked_on script budget before known front f during stop back quiet on more (λ o path. reached_is_kept script budget before during stop run f quiet on more o path) in
    subst NoGarbageIsLeft same (none_left script budget (before ++ during ++ stop ∷ []) known run (subst (λ (w : World). (x : Object) → Includes w.objects x
    → x.place ≢ Untracked → IsReached w x.serial) (sym same) tracked))
