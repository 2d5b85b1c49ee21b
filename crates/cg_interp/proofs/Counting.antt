-- The number that each step of the machine lowers, for an engine that represents its world: it does not depend on which
-- weak references wait.
use Rattle.std.proofs.Common.{◌≡◌, refl, sym, ◌∙◌, ap, ℕ, ◌+◌, ◌*◌, suc, Bool, true, false, inl, inr, List, [], ◌∷◌, ◌++◌, Option, None, Some, arith}
use Rattle.std.specs.Prelude.{flat_map, nat_lt, ◌||◌}
use Rattle.std.specs.List.{list_any}
use Rattle.std.proofs.lemmas.Bool.{lt-ltb}
use Rattle.cg_script.specs.declared.Script.{Script}
use Rattle.cg_graph.specs.Object.{Object}
use Rattle.cg_graph.specs.Store.{Store, objects_of, list_at}
use Rattle.cg_value.specs.declared.Place.TheVariants.{Pend}
use Rattle.cg_machine.specs.declared.event.Event.{Event}
use Rattle.cg_machine.specs.Program.{commands_of}
use Rattle.cg_machine.specs.World as machine
use Rattle.cg_machine.specs.World.{World, Numbers, TopLevel, Framed, Releasing, Running, ShuttingDown}
use Rattle.cg_machine.specs.Due.{is_due}
use Rattle.cg_laws.proofs.Sums.{tally, tally-append, bit}
use Rattle.cg_laws.proofs.Measure.{alive, commands_in, all_bodies, bound_names, is_starting, due_rank, rank_in, left_in, entries_in, referents_in, weight_in, size_of, number, summary}
use Rattle.cg_laws.proofs.MeasureNumber.{number_of}
use Rattle.cg_death.specs.Activities.{references_left, death_activities}
use Rattle.cg_death.specs.declared.release.Release.{Release}
use Rattle.cg_death.specs.declared.phase.Phase as dying
use Rattle.cg_death.specs.declared.phase.Phase.TheVariants as dying_phase
use Rattle.cg_collect.specs.declared.collection.Collection.{Collection}
use Rattle.cg_collect.specs.declared.phase.Phase.{Phase}
use Rattle.cg_collect.specs.declared.phase.Phase.TheVariants as phase_of
use Rattle.cg_collect.specs.Phases.{machine_phase, collecting, released_over, shown_with, lines_left, store_after}
use Rattle.cg_collect.specs.Answers.{numbers_at}
use Rattle.cg_interp.specs.declared.activity.Activity.{Activity}
use Rattle.cg_interp.specs.declared.activity.Activity.TheVariants as activity
use Rattle.cg_interp.specs.Engines.{State, ActivityShows, ShowsAll, commands_from, frame_of, released_first, death_shown}
use Rattle.cg_interp.specs.Collecting.{StandsWith}
use Rattle.cg_interp.proofs.CollectTurns.{store_in_run, lines_in_run}

-- the machine's activities, as if no weak reference waited
abbrev pub shown : Script → Activity → List machine.Activity
shown script (activity.Script next) = TopLevel (commands_from next (commands_of script.items)) ∷ []
shown script (activity.Frame locals procedure next) = Framed (frame_of script locals procedure next) ∷ []
shown script (activity.Releasing release) = Releasing (references_left release) ∷ []
shown script (activity.Shutdown started) = ShuttingDown started ∷ []
shown script (activity.Dying death) = death_shown death []
shown script (activity.Collecting asked c) = shown_with asked c []

-- the heap after a collection on top has printed its remaining lines
abbrev pub store_told : List Activity → Store → Store
store_told (activity.Collecting asked c ∷ below) store = store_after c.phase store
store_told _ store = store

-- these lines
abbrev pub lines_of : Script → List Activity → Store → List Event
lines_of script (activity.Collecting asked c ∷ below) store = lines_left script asked c c.phase store
lines_of script _ store = []

-- a world that an engine represents, as far as the number depends on it
abbrev pub world_from : Script → State → World
world_from script e = record {
  objects = objects_of (store_told e.activities e.store);
  next_serial = 0;
  names = e.store.names;
  numbers = e.policy.numbers;
  budget = e.budget;
  stack = flat_map (shown script) e.activities;
  outcome = Running;
}

-- An engine that represents a world has no line left, and its heap is that of the world.
no_lines : (script : Script) (activities : List Activity) (stack : List machine.Activity) (store : Store) → ShowsAll script activities stack → lines_of script activities store ≡ []
no_lines script (activity.Collecting asked c ∷ below) stack store s = lines_in_run script asked c c.phase store s.shows.handing.runs
no_lines script _ stack store s = refl

same_store : (script : Script) (activities : List Activity) (stack : List machine.Activity) (store : Store) → ShowsAll script activities stack → store_told activities store ≡ store
same_store script (activity.Collecting asked c ∷ below) stack store s = store_in_run c.phase store s.shows.handing.runs
same_store script _ stack store s = refl

-- The engine determines its remaining lines.
pub lines_are : (script : Script) (e : State) (left : List Event) (w : World) → StandsWith script e left w → left ≡ lines_of script e.activities e.store
lines_are script e left w (inl (stands, none)) = none ∙ sym (no_lines script e.activities w.stack e.store stands.shows)
lines_are script e left w (inr top) = top.collects.lines ∙ ap (λ list. lines_of script list e.store) (sym top.top)

-- A sum over the activities that does not depend on which weak references wait.
abbrev Deaths : (machine.Activity → ℕ) → Type 0
Deaths f = (o : ℕ) (phase : dying.Phase) (waiting : List ℕ) → tally f (death_activities o phase waiting) ≡ tally f (death_activities o phase [])

abbrev Collections : (machine.Activity → ℕ) → Type 0
Collections f = (asked : Bool) (c : Collection) (phase : Phase) (pending : List ℕ)
    → tally f (collecting asked c (machine_phase phase pending)) ≡ tally f (collecting asked c (machine_phase phase []))

record IsBlind (f : machine.Activity → ℕ) : Type 0 where
  deaths : Deaths f
  collections : Collections f

abbrev starting : machine.Activity → ℕ
starting a = bit (is_starting a)

commands_of_deaths : Deaths commands_in
commands_of_deaths o dying_phase.Finalizer waiting = refl
commands_of_deaths o _ waiting = refl

commands_of_collections : Collections commands_in
commands_of_collections asked c phase_of.Start pending = refl
commands_of_collections asked c _ pending = refl

ranks_of_deaths : Deaths rank_in
ranks_of_deaths o dying_phase.Finalizer waiting = refl
ranks_of_deaths o _ waiting = refl

ranks_of_collections : Collections rank_in
ranks_of_collections asked c phase_of.Start pending = refl
ranks_of_collections asked c _ pending = refl

weights_of_deaths : Deaths weight_in
weights_of_deaths o dying_phase.Finalizer waiting = refl
weights_of_deaths o _ waiting = refl

weights_of_collections : Collections weight_in
weights_of_collections asked c phase_of.Start pending = refl
weights_of_collections asked c _ pending = refl

starts_of_deaths : Deaths starting
starts_of_deaths o dying_phase.Finalizer waiting = refl
starts_of_deaths o _ waiting = refl

starts_of_collections : Collections starting
starts_of_collections asked c phase_of.Start pending = refl
starts_of_collections asked c _ pending = refl

left_of_deaths : (objects : List Object) → Deaths (left_in objects)
left_of_deaths objects o dying_phase.Finalizer waiting = refl
left_of_deaths objects o _ waiting = refl

left_of_collections : (objects : List Object) → Collections (left_in objects)
left_of_collections objects asked c phase_of.Start pending = refl
left_of_collections objects asked c _ pending = refl

module _ (f : machine.Activity → ℕ) (blind : IsBlind f) (script : Script) where
  under_release : (release : Option Release) (xs ys : List machine.Activity) → tally f xs ≡ tally f ys → tally f (released_first release xs) ≡ tally f (released_first release ys)
  under_release None xs ys e = e
  under_release (Some release) xs ys e = omega (arith, e)

  over_release : (release : Option Release) (xs ys : List machine.Activity) → tally f xs ≡ tally f ys → tally f (released_over release xs) ≡ tally f (released_over release ys)
  over_release None xs ys e = e
  over_release (Some release) xs ys e = omega (arith, e)

  collection_alike : (asked : Bool) (c : Collection) (pending : List ℕ) → tally f (shown_with asked c pending) ≡ tally f (shown_with asked c [])
  collection_alike asked c pending = over_release c.release (collecting asked c (machine_phase c.phase pending)) (collecting asked c (machine_phase c.phase []))
      (blind.collections asked c c.phase pending)

  one : (a : Activity) (tops : List machine.Activity) → ActivityShows script a tops → tally f tops ≡ tally f (shown script a)
  one (activity.Dying death) tops (waiting, e, settled) = ap (tally f) e ∙ under_release death.release (death_activities death.object death.phase waiting)
      (death_activities death.object death.phase []) (blind.deaths death.object death.phase waiting)
  one (activity.Collecting asked c) tops s = ap (tally f) s.shown ∙ collection_alike asked c (list_at s.then Pend)
  one _ tops e = ap (tally f) e

  same_tally : (activities : List Activity) (stack : List machine.Activity) → ShowsAll script activities stack → tally f stack ≡ tally f (flat_map (shown script) activities)
  same_tally [] stack e = ap (tally f) e
  same_tally (a ∷ activities) stack s =
      let here : tally f stack ≡ tally f (s.tops ++ s.below) = ap (tally f) s.is in
      omega (
        arith,
        here,
        tally-append f s.tops s.below,
        one a s.tops s.shows,
        same_tally activities s.below s.over,
        tally-append f (shown script a) (flat_map (shown script) activities),
      )

  -- the same with a collection on top
  same_on_top : (asked : Bool) (c : Collection) (pending : List ℕ) (rest : List Activity) (stack below : List machine.Activity) → stack
      ≡ shown_with asked c pending ++ below → ShowsAll script rest below
      → tally f stack ≡ tally f (flat_map (shown script) (activity.Collecting asked c ∷ rest))
  same_on_top asked c pending rest stack below is over =
      let here : tally f stack ≡ tally f (shown_with asked c pending ++ below) = ap (tally f) is in
      omega (
        arith,
        here,
        tally-append f (shown_with asked c pending) below,
        collection_alike asked c pending,
        same_tally rest below over,
        tally-append f (shown_with asked c []) (flat_map (shown script) rest),
      )

-- whether one starts, by how many do
any_starting : (xs : List machine.Activity) → list_any is_starting xs ≡ nat_lt 0 (tally starting xs)
any_starting [] = refl
any_starting (x ∷ xs) = go (is_starting x) (any_starting xs)
  where
    go : (b : Bool) → list_any is_starting xs ≡ nat_lt 0 (tally starting xs) → (b || list_any is_starting xs) ≡ nat_lt 0 (bit b + tally starting xs)
    go true e = sym (lt-ltb 0 (1 + tally starting xs) (omega arith))
    go false e = let same : tally starting xs ≡ 0 + tally starting xs = omega arith in e ∙ ap (nat_lt 0) same

-- A collection that is about to start counts the same, whatever the numbers are.
due_alike : (s t : Bool) → s ≡ t → (m n : Numbers) → (s ≡ false → m ≡ n) → due_rank (is_due m) s ≡ due_rank (is_due n) t
due_alike true true same m n numbers = refl
due_alike true false same m n numbers = absurd (cc)
due_alike false true same m n numbers = absurd (cc)
due_alike false false same m n numbers = ap (λ (k : Numbers). due_rank (is_due k) false) (numbers refl)

-- A world with the engine's parts and a stack with the same sums has its number. If a collection is about to start, the
-- policy's numbers do not count.
module _ (script : Script) (e : State) (w : World) (objects : w.objects ≡ objects_of (store_told e.activities e.store)) (names : w.names ≡ e.store.names)
    (numbers : list_any is_starting w.stack ≡ false → w.numbers ≡ e.policy.numbers) (budget : w.budget ≡ e.budget) (running : w.outcome ≡ Running)
    (alike : (f : machine.Activity → ℕ) → IsBlind f → tally f w.stack ≡ tally f (flat_map (shown script) e.activities)) where
  same_summary : summary script w ≡ summary script (world_from script e)
  same_summary =
      let now : List Object = objects_of (store_told e.activities e.store) in
      let commands = alike commands_in (record { deaths = commands_of_deaths; collections = commands_of_collections }) in
      let rank = alike rank_in (record { deaths = ranks_of_deaths; collections = ranks_of_collections }) in
      let left : tally (left_in w.objects) w.stack ≡ tally (left_in now) (flat_map (shown script) e.activities) =
      ap (λ os. tally (left_in os) w.stack) objects ∙ alike (left_in now) (record { deaths = left_of_deaths now; collections = left_of_collections now }) in
      let weight = alike weight_in (record { deaths = weights_of_deaths; collections = weights_of_collections }) in
      let starts : list_any is_starting w.stack ≡ list_any is_starting (flat_map (shown script) e.activities) =
      any_starting w.stack ∙ ap (nat_lt 0) (alike starting (record { deaths = starts_of_deaths; collections = starts_of_collections })) ∙ sym (any_starting (flat_map (shown script) e.activities)) in
      let due = due_alike (list_any is_starting w.stack) (list_any is_starting (flat_map (shown script) e.activities)) starts w.numbers e.policy.numbers numbers in
      λ i. record {
        commands = alive (running i) + 2 * (budget i * suc (all_bodies script)) + commands i + bound_names (names i);
        due = due i;
        rank = rank i;
        left = left i;
        entries = entries_in (objects i);
        referents = referents_in (objects i);
        weight = weight i;
        size = size_of (objects i);
      }

  same : number_of script w ≡ number_of script (world_from script e)
  same = ap number same_summary

-- the policy's numbers are those of the world, unless a collection is about to start
begun_numbers : (asked : Bool) (c : Collection) (phase : Phase) (release : Option Release) (pending : List ℕ) (below : List machine.Activity) (generation : ℕ) (numbers : Numbers)
    → list_any is_starting (released_over release (collecting asked c (machine_phase phase pending)) ++ below) ≡ false → numbers_at phase generation numbers ≡ numbers
begun_numbers asked c phase_of.Start None pending below generation numbers none = absurd (let no : true ≡ false = none in cc)
begun_numbers asked c phase_of.Start (Some release) pending below generation numbers none = absurd (let no : true ≡ false = none in cc)
begun_numbers asked c _ release pending below generation numbers none = refl

-- the heap after the remaining lines are printed has the same names
names_after : (phase : Phase) (store : Store) → (store_after phase store).names ≡ store.names
names_after (phase_of.Living next) store = refl
names_after _ store = refl

-- the number of a world that an engine represents after its lines are printed
pub same_number : (script : Script) (e : State) (left : List Event) (w : World) → StandsWith script e left w → number_of script w ≡ number_of script (world_from script e)
same_number script e left w (inl (stands, none)) =
    same script e w (sym stands.represents.objects ∙ ap objects_of (sym (same_store script e.activities w.stack e.store stands.shows)))
    (sym stands.represents.names) (λ none. sym stands.numbers) stands.budget stands.running
    (λ f blind. same_tally f blind script e.activities w.stack stands.shows)
same_number script e left w (inr top) =
    let c : Collection = top.collection in
    let h = top.collects in
    let here : State = record e { activities = activity.Collecting top.asked c ∷ top.rest } in
    same script here w (sym h.shows.represents.objects) (sym h.shows.represents.names ∙ names_after c.phase e.store)
    (λ none. sym (h.shows.numbers ∙ begun_numbers top.asked c c.phase c.release (list_at e.store Pend) h.below c.generation w.numbers
    (ap (list_any is_starting) (sym h.shows.top) ∙ none))) h.budget h.running
    (λ f blind. same_on_top f blind script top.asked c (list_at e.store Pend) top.rest w.stack h.below h.shows.top h.over)
    ∙ ap (λ list. number_of script (world_from script (record e { activities = list }))) (sym top.top)
