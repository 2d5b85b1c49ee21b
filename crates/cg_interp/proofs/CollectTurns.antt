-- The turns of a collection on top: the answer of its step is the answer of a turn.
use Rattle.std.proofs.Common.{◌≡◌, ◌≢◌, refl, sym, ◌∙◌, ap, subst, ℕ, ◌+◌, ◌-◌, ◌<◌, ◌≤◌, ◌⊎◌, Bool, true, false, inl, inr, List, [], ◌∷◌, ◌++◌, length, length-append, Option, None, Some, IsSome, arith, append-nil}
use Rattle.std.specs.Prelude.{◌==◌, ◌*◌, if◌then◌else◌, is_some, flat_map, IfSome}
use Rattle.std.proofs.lemmas.Bool.{ne_eqb}
use Rattle.cg_value.specs.declared.Place.TheVariants.{Pend}
use Rattle.cg_script.specs.declared.Script.{Script}
use Rattle.cg_graph.specs.Member.{Includes}
use Rattle.cg_graph.specs.Object.{Object, serials}
use Rattle.cg_graph.specs.Store.{Store, IsLive, objects_of, list_at}
use Rattle.cg_graph.proofs.Members.{Includes-append_left, Includes-map}
use Rattle.cg_heap.specs.Keeps.{outside_total}
use Rattle.cg_heap.specs.Calls.{IsSound, HasFewHolds}
use Rattle.cg_machine.specs.declared.event.Event.{Event}
use Rattle.cg_machine.specs.declared.event.Event.TheVariants.{Enter, BudgetSpent}
use Rattle.cg_machine.specs.declared.event.FrameSpec.{FrameSpec}
use Rattle.cg_machine.specs.Program.{body_of}
use Rattle.cg_machine.specs.World as machine
use Rattle.cg_machine.specs.World.{World, Numbers, Activity, Framed, Collecting, BudgetIsSpent}
use Rattle.cg_machine.specs.Frame.{Transition, begin_death, start_frame}
use Rattle.cg_machine.specs.Holdings.{holds}
use Rattle.cg_machine.specs.Run.{StepTaken, events_of, last_world}
use Rattle.cg_represents.specs.Represents.{Represents, Goes}
use Rattle.cg_laws.specs.Kept.{IsKept, StaysKept}
use Rattle.cg_death.specs.declared.release.Release.{Release}
use Rattle.cg_collect.specs.declared.collection.Collection.{Collection}
use Rattle.cg_collect.specs.declared.phase.Phase.{Phase}
use Rattle.cg_collect.specs.declared.phase.Phase.TheVariants as phase_of
use Rattle.cg_collect.specs.Phases.{machine_phase, collecting, collection_of, released_over, on_stack, store_after, lines_left, answer_lines}
use Rattle.cg_collect.specs.Ready.{MayRun}
use Rattle.cg_collect.specs.Collections.{IsReadyForCollection, HandsOut, CollectFalls}
use Rattle.cg_collect.specs.Answers.{CollectionShows, CollectionStands, WentOn, HasFinished, numbers_at}
use Rattle.cg_interp.specs.declared.activity.Activity.{Activity as Own}
use Rattle.cg_interp.specs.declared.activity.Activity.TheVariants as activity
use Rattle.cg_interp.specs.declared.turned.Turned.{Turned}
use Rattle.cg_interp.specs.declared.turned.Turned.TheVariants as turned
use Rattle.cg_interp.specs.Engines.{State, StandsFor, ShowsAll, ShowsTop, under, any_collecting, is_collecting}
use Rattle.cg_interp.specs.Collecting.{StandsWith, Collects}
use Rattle.cg_interp.specs.Telling.{TurnsWith, GoesOnTo, Advances, IsNearer}
use Rattle.cg_interp.specs.Turns.{Makes, DyingIsSound}
use Rattle.cg_interp.proofs.LawsOfEngines.{dying_sound, total_fits, is_live}
use Rattle.cg_interp.proofs.AnswersOfTurns.{turns_told, reaches}
use Rattle.cg_interp.proofs.DeathLemmas.{starts_moves}
use Rattle.cg_interp.proofs.CollectReady.{resumes, phase_there, shown_there}
use Rattle.cg_interp.proofs.CollectHolds.{count_same, count_own, none_counted, none_found}

-- In a phase in which frames and deaths run, no line is left, and heap and numbers are those of the world.
pub store_in_run : (p : Phase) (store : Store) → MayRun p → store_after p store ≡ store
store_in_run (phase_of.Living next) store runs = absurd runs
store_in_run (phase_of.Detaching next) store runs = absurd runs
store_in_run (phase_of.Unlinking member weak) store runs = absurd runs
store_in_run p store runs = refl

numbers_in_run : (p : Phase) (g : ℕ) (n : Numbers) → MayRun p → numbers_at p g n ≡ n
numbers_in_run phase_of.Start g n runs = absurd runs
numbers_in_run p g n runs = refl

pub lines_in_run : (script : Script) (asked : Bool) (c : Collection) (p : Phase) (store : Store) → MayRun p → lines_left script asked c p store ≡ []
lines_in_run script asked c (phase_of.AfterCallback weak) store runs = refl
lines_in_run script asked c (phase_of.AfterFinalizing o) store runs = refl
lines_in_run script asked c (phase_of.AfterRelease weak) store runs = refl
lines_in_run script asked c phase_of.Finalizing store runs = refl
lines_in_run script asked c (phase_of.Turn o) store runs = refl
lines_in_run script asked c (phase_of.AfterTurn o) store runs = refl
lines_in_run script asked c _ store runs = absurd runs

runs_in_machine : (p : Phase) → MayRun p → is_some (machine_phase p []) ≡ true
runs_in_machine p runs = ap is_some (phase_there p [] runs).1

module _ (script : Script) (asked : Bool) (c : Collection) (e : State) (left : List Event) (w : World) where
  -- A collection that is back on top goes on.
  came_back : IsSound e.store → IsKept script e.first_budget w → StandsFor script (under (activity.Collecting asked c) e) w → left ≡ [] → Collects script asked c e left w
  came_back sound kept stands none =
      let s : ShowsTop script (activity.Collecting asked c) (ShowsAll script e.activities) w.stack = stands.shows in
      let again = resumes script asked c e.store w s.tops s.below sound stands.represents kept.apart kept.lawful.orderly s.shows s.is in
      let runs = s.shows.handing.runs in
      record {
        below = s.below;
        shows = record {
          represents = subst (λ st. Represents st w) (sym (store_in_run c.phase e.store runs)) stands.represents;
          numbers = stands.numbers ∙ sym (numbers_in_run c.phase c.generation w.numbers runs);
          running = stands.collecting ∙ sym (runs_in_machine c.phase runs);
          top = s.is ∙ ap (λ l. l ++ s.below) again.shown;
        };
        over = s.over;
        budget = stands.budget;
        running = stands.running;
        alone = none_found e.activities (omega (
          arith,
          kept.lawful.bounded.collections,
          count_same script (activity.Collecting asked c ∷ e.activities) w.stack
              stands.shows,
          count_own (activity.Collecting asked c) e.activities,
        ));
        ready = again.ready;
        lines = none ∙ sym (lines_in_run script asked c c.phase e.store runs);
      }

  -- so does one that is on top
  pub collects : IsSound e.store → IsKept script e.first_budget w → StandsWith script (under (activity.Collecting asked c) e) left w → Collects script asked c e left w
  collects sound kept (inl (stands, none)) = came_back sound kept stands none
  collects sound kept (inr on) =
      let also : on.asked ≡ asked = cc in
      let same : on.collection ≡ c = cc in
      let rest : on.rest ≡ e.activities = cc in
      subst (λ a. Collects script a c e left w) also
      (subst (λ d. Collects script on.asked d e left w) same (subst (λ l. Collects script on.asked on.collection (record e { activities = l }) left w) rest on.collects))

  module _ (k : Collects script asked c e left w) where
    -- heap and policy represent the world, as a step requires
    pub stands_for_step : IsKept script e.first_budget w → CollectionStands asked c e.store e.policy w k.below
    stands_for_step kept = record {
      shows = k.shows;
      running = k.running;
      orderly = kept.lawful.orderly;
      unheld = kept.lawful.unheld;
      once = (dying_sound script e.first_budget w kept.lawful).once;
      alone = count_same script e.activities k.below k.over ∙ none_counted is_collecting e.activities k.alone;
    }

    -- it goes on, in an engine with the same activities
    pub still_collects : (d : Collection) (new : State) → new.activities ≡ e.activities → new.budget ≡ e.budget → IsReadyForCollection script d new.store
        → (told : List Event) (went : WentOn script asked w k.below left told d new.store new.policy) → Collects script asked d new (lines_left script asked d d.phase new.store) went.after
    still_collects d new same budget ready told went = record {
      below = k.below;
      shows = went.shows;
      over = subst (λ l. ShowsAll script l k.below) (sym same) k.over;
      budget = went.keeps.budget ∙ k.budget ∙ sym budget;
      running = went.keeps.outcome ∙ k.running;
      alone = ap any_collecting same ∙ k.alone;
      ready = ready;
      lines = refl;
    }

    -- the collection stays on top
    module _ (d : Collection) (new : State) (top : new.activities ≡ activity.Collecting asked d ∷ e.activities) (budget : new.budget ≡ e.budget) where
      module _ (ready : IsReadyForCollection script d new.store) where
        on_top : (told : List Event) (went : WentOn script asked w k.below left told d new.store new.policy) → StandsWith script new (lines_left script asked d d.phase new.store) went.after
        on_top told went = inr (record {
          asked = asked;
          collection = d;
          rest = e.activities;
          top = top;
          collects = still_collects d
              (record new { activities = e.activities }) refl budget ready told went;
        })

        -- Without a step of the machine it printed one of the remaining lines, or is nearer to its end.
        goes_on : (told : List Event) → (went : WentOn script asked w k.below left told d new.store new.policy)
            → (left ≡ told ++ lines_left script asked d d.phase new.store → Advances (under (activity.Collecting asked c) e) left new (lines_left script asked d d.phase new.store))
            → GoesOnTo script (Advances (under (activity.Collecting asked c) e) left new) w left told new
        goes_on told went rests = record {
          events = went.events;
          after = went.after;
          still = lines_left script asked d d.phase new.store;
          goes = went.goes;
          lines = went.lines;
          moves = by went.goes.steps refl;
          stands = on_top told went;
        }
          where
            by : (steps : List StepTaken) → went.goes.steps ≡ steps → (went.goes.steps ≢ []) ⊎ Advances (under (activity.Collecting asked c) e) left new (lines_left script asked d d.phase new.store)
            by [] none =
                let nothing : went.events ≡ [] = sym went.goes.prints ∙ ap events_of none in
                inr (rests (sym (append-nil left) ∙ ap (λ l. left ++ l) (sym nothing) ∙ went.lines))
            by (step ∷ steps) some = inl (λ none. let clash : [] ≡ step ∷ steps = sym none ∙ some in cc)

        pub goes_on_quietly : CollectFalls c e.store d new.store → WentOn script asked w k.below left [] d new.store new.policy
            → GoesOnTo script (Advances (under (activity.Collecting asked c) e) left new) w left [] new
        goes_on_quietly falls went = goes_on [] went (λ same. inr (ap length (sym same), subst (λ l. IsNearer (activity.Collecting asked c ∷ e.activities) e.store l new.store) (sym top) falls))

        pub goes_on_telling : (event : Event) → WentOn script asked w k.below left (event ∷ []) d new.store new.policy
            → GoesOnTo script (Advances (under (activity.Collecting asked c) e) left new) w left (event ∷ []) new
        goes_on_telling event went = goes_on (event ∷ []) went (λ same. let longer : length left
            ≡ length (event ∷ lines_left script asked d d.phase new.store) = ap length same in inl (omega (arith, longer)))

      -- It answers a frame or a death: the engine represents the world before that.
      pub stands_before : (before : World) → HandsOut d new.store → CollectionShows asked d new.store new.policy before k.below → before.budget ≡ w.budget
          → before.outcome ≡ w.outcome → StandsFor script new before
      stands_before before h shows spent outcome =
          let r : Represents new.store before = subst (λ st. Represents st before) (store_in_run d.phase new.store h.runs) shows.represents in
          let (q, is) = phase_there d.phase (list_at new.store Pend) h.runs in
          let here : Includes (on_stack asked d new.store) (Collecting (collection_of asked d q)) = shown_there asked d (list_at new.store Pend) q is in
          record {
            represents = r;
            shows = subst (λ l. ShowsAll script l before.stack) (sym top) (record {
              tops = on_stack asked d new.store;
              below = k.below;
              shows = record {
                then = new.store;
                shown = refl;
                handing = h;
                waited = λ p at. r.collection (collection_of asked d p) (subst (λ st. Includes st (Collecting (collection_of asked d p))) (sym shows.top)
                    (Includes-append_left (on_stack asked d new.store) k.below (Collecting (collection_of asked d p)) (shown_there asked d (list_at new.store Pend) p at)));
              };
              some = λ none. absurd (subst (λ l. Includes l (Collecting (collection_of asked d q))) none here);
              over = k.over;
              is = shows.top;
            });
            budget = spent ∙ k.budget ∙ sym budget;
            running = outcome ∙ k.running;
            numbers = shows.numbers ∙ numbers_in_run d.phase d.generation before.numbers h.runs;
            collecting = shows.running ∙ runs_in_machine d.phase h.runs ∙ sym (ap any_collecting top);
          }

    module _ (new : State) (activities : new.activities ≡ e.activities) (budget : new.budget ≡ e.budget) (collected set_aside : ℕ)
        (f : HasFinished asked w k.below left collected set_aside new.store new.policy) where
      stands_after : StandsFor script new w
      stands_after = record {
        represents = f.represents;
        shows = subst (λ l. ShowsAll script l w.stack) (sym activities) (subst (ShowsAll script e.activities) (sym f.stack) k.over);
        budget = k.budget ∙ sym budget;
        running = k.running;
        numbers = f.numbers;
        collecting = f.idle ∙ sym (ap any_collecting activities ∙ k.alone);
      }

      -- none is on top
      none_on_top : (own : List Own) → any_collecting own ≡ false → IsNearer (activity.Collecting asked c ∷ e.activities) e.store own new.store
      none_on_top (activity.Collecting also d ∷ own) none = absurd (let clash : true ≡ false = none in cc)
      none_on_top _ none = tt

      ends_telling : (told : List Event) → left ≡ told → Advances (under (activity.Collecting asked c) e) left new []
          → GoesOnTo script (Advances (under (activity.Collecting asked c) e) left new) w left told new
      ends_telling told is advances = record {
        events = [];
        after = w;
        still = [];
        goes = record { steps = []; run = tt; prints = refl; ends = refl; alone = tt };
        lines = ap (λ l. l ++ []) is;
        moves = inr advances;
        stands = inl (stands_after, refl);
      }

      pub ends : (answer : Turned) (line : Event) → answer_lines true (collected + set_aside) ≡ line ∷ [] → (asked ≡ true → answer ≡ turned.Line line) → (asked ≡ false → answer ≡ turned.Quiet)
          → TurnsWith script (Advances (under (activity.Collecting asked c) e) left new) w left new answer
      ends answer line is telling quiet = by asked refl
        where
          by : (b : Bool) → asked ≡ b → TurnsWith script (Advances (under (activity.Collecting asked c) e) left new) w left new answer
          by true same =
              let told : left ≡ line ∷ [] = f.lines ∙ ap (λ b. answer_lines b (collected + set_aside)) same ∙ is in
              let one : length left ≡ length (line ∷ []) = ap length told in
              subst (TurnsWith script (Advances (under (activity.Collecting asked c) e) left new) w left new) (sym (telling same)) (ends_telling (line ∷ []) told (inl (omega (arith, one))))
          by false same =
              let told : left ≡ [] = f.lines ∙ ap (λ b. answer_lines b (collected + set_aside)) same in
              subst (TurnsWith script (Advances (under (activity.Collecting asked c) e) left new) w left new) (sym (quiet same))
              (ends_telling [] told (inr (ap length (sym told), none_on_top new.activities (ap any_collecting activities ∙ k.alone))))

-- A frame that starts, or a spent budget.
abbrev entered : Script → FrameSpec → World → World
entered script spec w = record w {
  budget = w.budget - 1;
  stack = Framed (record { sort = spec.sort; subject = spec.subject; function = spec.func; commands = body_of script spec.proc }) ∷ w.stack;
}

abbrev started : Script → FrameSpec → World → Bool → Transition
started script spec w b = if b then (BudgetSpent ∷ [], record w { outcome = BudgetIsSpent }) else (Enter spec.sort spec.subject ∷ [], entered script spec w)

-- It answers a turn, when no line was left.
pub starts_with : (script : Script) (may_rest : List Event → Type 0) (w : World) (left : List Event) (spec : FrameSpec) (before : World) (e : State)
    (answer : Turned) → left ≡ [] → Goes script w (start_frame script spec before).0 (start_frame script spec before).1
    → Makes script (start_frame script spec before) e answer
    → TurnsWith script may_rest w left e answer
starts_with script may_rest w left spec before e answer none goes makes =
    subst (λ l. TurnsWith script may_rest w l e answer) (sym none)
    (turns_told script may_rest w e answer (reaches script w e (start_frame script spec before) goes (starts_moves script spec before goes.steps goes.prints) answer makes))

-- how many activities a collection represents
at_most_two : (asked : Bool) (c : Collection) (store : Store) → length (on_stack asked c store) ≤ 2
at_most_two asked c store = by c.release (machine_phase c.phase (list_at store Pend))
  where
    by : (release : Option Release) (q : Option machine.CollectPhase) → length (released_over release (collecting asked c q)) ≤ 2
    by None None = omega arith
    by None (Some q) = omega arith
    by (Some r) None = omega arith
    by (Some r) (Some q) = omega arith

two_there : (asked : Bool) (c : Collection) (store : Store) → MayRun c.phase → IsSome c.release → length (on_stack asked c store) ≡ 2
two_there asked c store runs gives = let (q, is) = phase_there c.phase (list_at store Pend) runs in ap (λ x. length (released_over c.release (collecting asked c x))) is ∙ by c.release gives q
  where
    by : (release : Option Release) → IsSome release → (q : machine.CollectPhase) → length (released_over release (Collecting (collection_of asked c q) ∷ [])) ≡ 2
    by None gives q = absurd (cc)
    by (Some r) gives q = refl

-- A death that it answers was begun by a step.
pub death_moves : (script : Script) (asked : Bool) (c d : Collection) (old new : Store) (w before : World) (below : List Activity) (o : ℕ) → w.stack
    ≡ on_stack asked c old ++ below → before.stack ≡ on_stack asked d new ++ below → MayRun d.phase → IsSome d.release
    → (goes : Goes script w [] (begin_death o before)) → goes.steps ≢ []
death_moves script asked c d old new w before below o top now runs gives goes none =
    let same : w ≡ begin_death o before = ap (last_world w) (sym none) ∙ goes.ends in
    let longer : length w.stack ≡ length (begin_death o before).stack = ap (λ (v : World). length v.stack) same in
    omega (
      arith,
      longer,
      ap length top,
      ap length now,
      length-append (on_stack asked c old) below,
      length-append (on_stack asked d new) below,
      at_most_two asked c old,
      two_there asked d new runs gives,
    )

pub dies_with : (script : Script) (may_rest : List Event → Type 0) (w before : World) (left : List Event) (o : ℕ) (e : State) → left ≡ []
    → (goes : Goes script w [] (begin_death o before)) → goes.steps ≢ [] → StandsFor script e (begin_death o before) → GoesOnTo script may_rest w left [] e
dies_with script may_rest w before left o e none goes moves stands =
    subst (λ l. GoesOnTo script may_rest w l [] e) (sym none)
    (turns_told script may_rest w e turned.Quiet (record { after = begin_death o before; goes = goes; moves = moves; stands = stands }))

-- what the laws say of the world after a frame or a death gives what is required before it
pub sound_at_death : (script : Script) (budget : ℕ) (w before : World) (o : ℕ) → StaysKept script budget w → Goes script w [] (begin_death o before) → DyingIsSound (begin_death o before)
sound_at_death script budget w before o stays goes = dying_sound script budget (begin_death o before) (subst (IsKept script budget) goes.ends (stays goes.steps goes.run)).lawful

module _ (script : Script) (budget : ℕ) (spec : FrameSpec) (store : Store) (w before : World) (r : Represents store before)
    (goes : Goes script w (start_frame script spec before).0 (start_frame script spec before).1) (stays : StaysKept script budget w) where
  abbrev frame : machine.Frame
  frame = record { sort = spec.sort; subject = spec.subject; function = spec.func; commands = body_of script spec.proc }

  kept_after : IsKept script budget (start_frame script spec before).1
  kept_after = subst (IsKept script budget) goes.ends (stays goes.steps goes.run)

  -- the function of the frame lives
  pub function_lives : 0 < before.budget → IfSome spec.func (λ f. IsLive store f)
  function_lives some = by spec.func refl
    where
      kept : IsKept script budget (entered script spec before)
      kept = subst (IsKept script budget) (ap (λ b. (started script spec before b).1) (ne_eqb before.budget 0 (λ none. omega (arith, some, none)))) kept_after

      by : (function : Option ℕ) → spec.func ≡ function → IfSome function (λ f. IsLive store f)
      by None is = tt
      by (Some f) is =
          let found = kept.lawful.locals.functions frame (inl refl) f is in
          is_live store before f r (subst (Includes (serials before.objects)) found.2 (Includes-map (λ (x : Object). x.serial) before.objects found.0 found.1))

  -- there are few holds
  pub few_holds_before : budget ≤ 100000 → length (objects_of store) ≤ 1000001 → HasFewHolds store
  few_holds_before low few =
      let held : outside_total store ≤ length (flat_map holds before.stack) = total_fits (flat_map holds before.stack) store r.outside in
      let same : length (objects_of store) ≡ length before.objects = ap length r.objects in
      omega (arith, held, same, by (before.budget == 0) kept_after.lawful.bounded.holds, low, few)
    where
      by : (b : Bool) → length (flat_map holds (started script spec before b).1.stack) ≤ budget + 5 * length (started script spec before b).1.objects + 3
          → length (flat_map holds before.stack) ≤ budget + 5 * length before.objects + 3
      by true bound = bound
      by false bound = omega (arith, bound, length-append (holds (Framed frame)) (flat_map holds before.stack))
