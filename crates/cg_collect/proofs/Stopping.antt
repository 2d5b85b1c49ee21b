-- The end: the heap does the machine's step, and the following calls print its lines.
use Rattle.std.proofs.Common.{◌≡◌, refl, sym, ◌∙◌, ap, subst, ℕ, ◌+◌, Bool, true, false, cond, ◌&&◌, ◌||◌, inr, List, [], ◌∷◌, ◌++◌, length, map, Option, Some, None, is_some, arith}
use Rattle.std.specs.Prelude.{◌==◌, if◌then◌else◌, filter, flat_map, count_by, option_map, option_and_then, slice_get}
use Rattle.std.proofs.lemmas.Bool.{ne_eqb}
use Rattle.cg_value.specs.declared.Place.{Place}
use Rattle.cg_value.specs.declared.Place.TheVariants.{Gen, Legacy}
use Rattle.cg_value.specs.declared.Val.TheVariants.{Ref}
use Rattle.cg_script.specs.declared.Script.{Script}
use Rattle.cg_graph.specs.Value.{item}
use Rattle.cg_graph.specs.Member.{Includes}
use Rattle.cg_graph.specs.Holdings.{occurrences}
use Rattle.cg_graph.specs.Object.{Object, with_place as object_placed, is_at, same_place, serials, serials_at}
use Rattle.cg_graph.specs.Places.{place_number}
use Rattle.cg_graph.specs.Store.{Store, Node, IsLive, list_at, objects_of, object_from, outside_of, entries_of, place_of, place_in}
use Rattle.cg_graph.specs.Changes.{with_place}
use Rattle.cg_graph.proofs.Members.{either, true_and, Includes-append_right, Includes-map, Includes-map_cases, Includes-filter, Includes-filter_cases}
use Rattle.cg_graph.proofs.Objects.{object-at, objects-mapped, occurrences-append}
use Rattle.cg_arena.specs.Nodes.{IsPlace, following}
use Rattle.cg_heap.specs.Calls.{IsListed, merged, place_merged}
use Rattle.cg_heap.proofs.HoldLemmas.{outside-rewritten}
use Rattle.cg_machine.specs.declared.event.Event.{Event}
use Rattle.cg_machine.specs.declared.event.Event.TheVariants.{GcUncollectable, GcSaved, GcStop, Collected}
use Rattle.cg_machine.specs.World as machine
use Rattle.cg_machine.specs.World.{World, Activity, Collecting, with_stack, with_objects}
use Rattle.cg_machine.specs.Holdings.{holds, collect_holds, is_collection}
use Rattle.cg_machine.specs.Program.{legacy_of}
use Rattle.cg_represents.specs.Represents.{Represents}
use Rattle.cg_machine.specs.Collect.{older, has_flag, save_all, uncollectable, lines_if, all_saved, is_saved, SameMembers}
use Rattle.cg_represents.proofs.Representing.{in_one, represents}
use Rattle.cg_policy.specs.Policy.{Policy}
use Rattle.cg_policy.specs.Flagset.{bits_of}
use Rattle.cg_trial.specs.View.{view_of, Merged}
use Rattle.cg_trial.specs.Split.{IsSameButPlaces}
use Rattle.cg_trial.proofs.Lists.{ahead_is}
use Rattle.cg_trial.proofs.PlacesOfObjects.{once_at, where_is, is_there}
use Rattle.cg_trial.proofs.Ends.{same_but_places}
use Rattle.cg_trial.proofs.EffectsOfCalls.{merged_view}
use Rattle.cg_collect.specs.declared.answer.CollectStep.TheVariants as answer_of
use Rattle.cg_collect.specs.declared.collection.Facts.{Facts}
use Rattle.cg_collect.specs.declared.phase.Phase.{Phase}
use Rattle.cg_collect.specs.declared.phase.Phase.TheVariants as phase_of
use Rattle.cg_collect.specs.Phases.{collection_of, from_on, lines_left, saved_lines, is_saved_at, stop_lines}
use Rattle.cg_collect.specs.Ready.{IsAt}
use Rattle.cg_collect.specs.Saving.{with_saved, kept_aside}
use Rattle.cg_collect.specs.Answers.{CollectionShows, CollectSteps}
use Rattle.cg_collect.specs.Turns.{collection_at, list_around}
use Rattle.cg_represents.proofs.Places.{place_at_is, place_is}
use Rattle.cg_collect.proofs.PlacesOfObjects.{node_of_live, node_there, place_there, live_there, object_there, once_among, same_times, list_has, outside_on}
use Rattle.cg_collect.proofs.StartLines.{from_ahead, at_first, next_from, next_at}
use Rattle.cg_collect.proofs.SavedObjects.{occurrences-filter, objects-all_saved, saved-alike, saved-rewritten}
use Rattle.cg_collect.proofs.Worlds.{steps_at, only_tells, none_below, LeavesRest, with_same_rows}

-- One less is left of a walk over the list of a place.
module _ (store : Store) (listed : IsListed store) (p : Place) (o : ℕ) (here : Includes (list_at store p) o) (after : Option ℕ) (comes : after ≡ following o (list_at store (place_of store o))) where
  abbrev xs : List ℕ
  xs = list_at store p

  pub around_shorter : length (from_on after (list_around store after)) + 1 ≡ length (from_on (Some o) (list_around store (Some o)))
  around_shorter =
      let at : place_of store o ≡ p = (where_is store listed p o here).1 in
      let before : length (from_on (Some o) (list_around store (Some o))) ≡ length (o ∷ from_on after xs) = ap (λ q. length (from_on (Some o) (list_at store q))) at ∙ ap length (next_from store listed p o here after comes) in
      let later : length (from_on after (list_around store after)) ≡ length (from_on after xs) = ap length (known after (next_at store listed p o here after comes)) in
      omega (arith, before, later)
    where
      known : (cursor : Option ℕ) → IsAt cursor xs → from_on cursor (list_around store cursor) ≡ from_on cursor xs
      known None h = refl
      known (Some q) h = ap (λ r. from_on (Some q) (list_at store r)) (where_is store listed p q h).1

pub at_right : (cursor : Option ℕ) (front back : List ℕ) → IsAt cursor back → IsAt cursor (front ++ back)
at_right None front back h = tt
at_right (Some o) front back h = Includes-append_right front back o h

-- Calls that print at most one line of the machine's last step.
module _ (script : Script) (facts : Facts) (a b : Phase) (store : Store) (policy : Policy) (shows : (asked : Bool) (w : World) (below : List Activity)
    → CollectionShows asked (collection_at facts a None) store policy w below → CollectionShows asked (collection_at facts b None) store policy w below) where
  pub tells_line : (event : Event) → ((asked : Bool) → lines_left script asked (collection_at facts a None) a store ≡ event ∷ lines_left script asked (collection_at facts b None) b store)
      → CollectSteps script (collection_at facts a None) store policy (collection_at facts b None) store policy (answer_of.Emit event)
  tells_line event lines asked w below s =
      only_tells script asked w below (lines_left script asked (collection_at facts a None) a store) (event ∷ []) (collection_at facts b None) store policy (lines asked) (shows asked w below s.shows)

  pub tells_none : ((asked : Bool) → lines_left script asked (collection_at facts a None) a store ≡ lines_left script asked (collection_at facts b None) b store)
      → CollectSteps script (collection_at facts a None) store policy (collection_at facts b None) store policy answer_of.Continue
  tells_none lines asked w below s =
      only_tells script asked w below (lines_left script asked (collection_at facts a None) a store) [] (collection_at facts b None) store policy (lines asked) (shows asked w below s.shows)

-- uncollectable and saved objects are printed
module _ (script : Script) (facts : Facts) (store : Store) (policy : Policy) where
  abbrev old_ones : List ℕ
  old_ones = list_at store (Gen (older facts.generation))

  pub turn-uncollectable : (first : Option ℕ) (o : ℕ) (after : Option ℕ) (number : ℕ) → from_on (Some o) old_ones ≡ o ∷ from_on after old_ones
      → CollectSteps script (collection_at facts (phase_of.Uncollectable first (Some o) number) None) store policy
      (collection_at facts (phase_of.Uncollectable first after number) None) store policy (answer_of.Emit (GcUncollectable o))
  turn-uncollectable first o after number left =
      tells_line script facts (phase_of.Uncollectable first (Some o) number) (phase_of.Uncollectable first after number) store policy
      (λ asked w below s. record { represents = s.represents; numbers = s.numbers; running = s.running; top = s.top })
      (GcUncollectable o)
      (λ asked. ap (λ l. map GcUncollectable l ++ saved_lines script (bits_of facts.flags) store (from_on first old_ones)
      ++ stop_lines asked (collection_at facts (phase_of.Uncollectable first (Some o) number) None) number) left)

  pub turn-all_told : (first : Option ℕ) (number : ℕ)
      → CollectSteps script (collection_at facts (phase_of.Uncollectable first None number) None) store policy (collection_at facts (phase_of.Saved first number) None) store policy answer_of.Continue
  turn-all_told first number =
      tells_none script facts (phase_of.Uncollectable first None number) (phase_of.Saved first number) store policy
      (λ asked w below s. record { represents = s.represents; numbers = s.numbers; running = s.running; top = s.top })
      (λ asked. refl)

  lines_after : (asked : Bool) (o : ℕ) (after : Option ℕ) (number : ℕ) (b : Bool) → from_on (Some o) old_ones ≡ o ∷ from_on after old_ones → is_saved_at script (bits_of facts.flags) store o ≡ b
      → lines_left script asked (collection_at facts (phase_of.Saved (Some o) number) None) (phase_of.Saved (Some o) number) store
      ≡ map GcSaved (cond b (o ∷ filter (is_saved_at script (bits_of facts.flags) store) (from_on after old_ones))
      (filter (is_saved_at script (bits_of facts.flags) store) (from_on after old_ones))) ++ stop_lines asked (collection_at facts
      (phase_of.Saved after number) None) number
  lines_after asked o after number b left test =
      ap (λ l. saved_lines script (bits_of facts.flags) store l ++ stop_lines asked (collection_at facts (phase_of.Saved after number) None) number) left
      ∙ ap (λ c. map GcSaved (cond c (o ∷ filter (is_saved_at script (bits_of facts.flags) store) (from_on after old_ones))
      (filter (is_saved_at script (bits_of facts.flags) store) (from_on after old_ones))) ++ stop_lines asked (collection_at facts
      (phase_of.Saved after number) None) number) test

  pub turn-saved_told : (o : ℕ) (after : Option ℕ) (number : ℕ) → from_on (Some o) old_ones ≡ o ∷ from_on after old_ones → is_saved_at script (bits_of facts.flags) store o ≡ true
      → CollectSteps script (collection_at facts (phase_of.Saved (Some o) number) None) store policy (collection_at facts (phase_of.Saved after number) None) store policy (answer_of.Emit (GcSaved o))
  turn-saved_told o after number left test =
      tells_line script facts (phase_of.Saved (Some o) number) (phase_of.Saved after number) store policy
      (λ asked w below s. record { represents = s.represents; numbers = s.numbers; running = s.running; top = s.top })
      (GcSaved o)
      (λ asked. lines_after asked o after number true left test)

  pub turn-not_saved : (o : ℕ) (after : Option ℕ) (number : ℕ) → from_on (Some o) old_ones ≡ o ∷ from_on after old_ones → is_saved_at script (bits_of facts.flags) store o ≡ false
      → CollectSteps script (collection_at facts (phase_of.Saved (Some o) number) None) store policy (collection_at facts (phase_of.Saved after number) None) store policy answer_of.Continue
  turn-not_saved o after number left test =
      tells_none script facts (phase_of.Saved (Some o) number) (phase_of.Saved after number) store policy
      (λ asked w below s. record { represents = s.represents; numbers = s.numbers; running = s.running; top = s.top })
      (λ asked. lines_after asked o after number false left test)

  pub turn-stopping : (number : ℕ)
      → CollectSteps script (collection_at facts (phase_of.Saved None number) None) store policy (collection_at facts (phase_of.Stopping number) None) store policy answer_of.Continue
  turn-stopping number =
      tells_none script facts (phase_of.Saved None number) (phase_of.Stopping number) store policy
      (λ asked w below s. record { represents = s.represents; numbers = s.numbers; running = s.running; top = s.top })
      (λ asked. refl)

  pub turn-stopped : (number : ℕ)
      → CollectSteps script (collection_at facts (phase_of.Stopping number) None) store policy (collection_at facts (phase_of.Over number) None) store policy
      (answer_of.Emit (GcStop facts.generation facts.collected number))
  turn-stopped number =
      tells_line script facts (phase_of.Stopping number) (phase_of.Over number) store policy
      (λ asked w below s. record { represents = s.represents; numbers = s.numbers; running = s.running; top = s.top })
      (GcStop facts.generation facts.collected number)
      (λ asked. refl)

-- The collection leaves the stack.
pub represents_over : (old new : Store) (v : World) (below : List Activity) (a : machine.Collection) → Represents old (with_stack (Collecting a ∷ below) v)
    → count_by is_collection below ≡ 0 → (objects : List Object) → objects_of new ≡ objects → LeavesRest old new
    → ((s : ℕ) → outside_of new s + occurrences s (collect_holds a.phase) ≡ outside_of old s) → Represents new (with_stack below (with_objects objects v))
represents_over old new v below a r alone objects are rest held =
    represents new (with_stack below (with_objects objects v))
    (record {
      objects = are;
      next_serial = r.next_serial ∙ ap (λ n. n + 1) (sym rest.last);
      names = rest.names ∙ r.names;
      deaths = λ d m. r.deaths d (inr m) ∙ sym (rest.waiting d.object);
      no_others = λ row m waits. let found = r.no_others row (rest.no_more row m waits) waits in (found.0, either found.1 (λ e. absurd (cc)) (λ k. k), found.2);
      collection = λ c m. absurd (none_below below alone c m);
    })
    (λ s. omega (arith, held s, r.outside s, occurrences-append s (collect_holds a.phase) (flat_map holds below)))

-- the place of uncollectable objects, by its number
legacy_number : (p : Place) → (place_number p == 5) ≡ same_place p Legacy
legacy_number (Gen i) = ne_eqb (7 + i) 5 (λ e. absurd (omega (arith, e)))
legacy_number p = refl

filter_alike : (f g : ℕ → Bool) (xs : List ℕ) → ((o : ℕ) → f o ≡ g o) → filter f xs ≡ filter g xs
filter_alike f g xs same = λ i. filter (λ o. same o i) xs

-- the saved objects, in the world
module _ (script : Script) (store : Store) (listed : IsListed store) (c : machine.Collection) where
  abbrev keeps : List ℕ
  keeps = kept_aside script c.flags store

  keeps_into : (o : ℕ) → Includes keeps o → Includes (serials (filter (is_saved script c) (objects_of store))) o
  keeps_into o h =
      let (stands, test) = Includes-filter_cases (is_saved_at script c.flags store) (list_at store Legacy) o h in
      let (live, at) = where_is store listed Legacy o stands in
      let (n, got) = node_of_live store o live in
      let x : Object = object_from store.rows o n in
      let place : is_at Legacy x ≡ true = place_at_is n.place Legacy (sym (ap place_in got) ∙ at) in
      let its : (has_flag c.flags save_all || is_some (legacy_of script x)) ≡ true =
      sym (ap (λ y. has_flag c.flags save_all || is_some (option_and_then (legacy_of script) y)) (object-at store o
      ∙ ap (option_map (object_from store.rows o)) got)) ∙ test in
      Includes-map (λ (y : Object). y.serial) (filter (is_saved script c) (objects_of store)) x
      (Includes-filter (is_saved script c) (objects_of store) x (λ i. place i && its i) (object_there store o n got))

  keeps_back : (o : ℕ) → Includes (serials (filter (is_saved script c) (objects_of store))) o → Includes keeps o
  keeps_back o h =
      let (x, member, serial) = Includes-map_cases (λ (y : Object). y.serial) (filter (is_saved script c) (objects_of store)) o h in
      let (there, test) = Includes-filter_cases (is_saved script c) (objects_of store) x member in
      let (place, saved) = true_and (is_at Legacy x) (has_flag c.flags save_all || is_some (legacy_of script x)) test in
      let (n, got, made) = node_there store x there in
      let stands : Includes (list_at store Legacy) x.serial = is_there store listed Legacy x.serial (live_there store x there) (place_there store x there ∙ place_is x.place Legacy place) in
      let its : is_saved_at script c.flags store x.serial ≡ true =
      ap (λ y. has_flag c.flags save_all || is_some (option_and_then (legacy_of script) y)) (object-at store x.serial ∙ ap (option_map (object_from store.rows x.serial)) got ∙ ap Some made) ∙ saved in
      subst (Includes keeps) serial (Includes-filter (is_saved_at script c.flags store) (list_at store Legacy) x.serial its stands)

  pub keeps_order : SameMembers keeps (serials (filter (is_saved script c) (objects_of store)))
  keeps_order =
      same_times keeps (serials (filter (is_saved script c) (objects_of store)))
      (λ o. omega (arith, occurrences-filter o (is_saved_at script c.flags store) (list_at store Legacy), once_at store listed Legacy o))
      (once_among store (is_saved script c))
      (λ o. (keeps_into o, keeps_back o))

-- The uncollectable objects are saved if they are to be, and move to the older generation.
module _ (script : Script) (facts : Facts) (store : Store) (root : IsLive store 1) (listed : IsListed store) where
  abbrev flags : ℕ
  flags = bits_of facts.flags

  abbrev kept : Store
  kept = with_saved (kept_aside script flags store) store

  abbrev p : Place
  p = Gen (older facts.generation)

  abbrev pub ended : Store
  ended = merged Legacy p kept

  objects-ended : objects_of ended ≡ map (λ x. if is_at Legacy x then object_placed p x else x) (all_saved (kept_aside script flags store) (objects_of store))
  objects-ended =
      objects-mapped kept (λ s n. place_merged Legacy p n) (λ x. if is_at Legacy x then object_placed p x else x)
      (λ s n. ap (λ b. object_from kept.rows s (if b then with_place p n else n)) (legacy_number n.place) ∙ one (same_place n.place Legacy) s n)
      ∙ ap (map (λ x. if is_at Legacy x then object_placed p x else x)) (objects-all_saved (kept_aside script flags store) store root)
    where
      one : (b : Bool) (s : ℕ) (n : Node) → object_from kept.rows s (if b then with_place p n else n) ≡ (if b then object_placed p (object_from kept.rows s n) else object_from kept.rows s n)
      one true s n = refl
      one false s n = refl

  saved-ended : (o : ℕ) → is_saved_at script flags ended o ≡ is_saved_at script flags store o
  saved-ended o =
      saved-alike script flags kept ended (λ s n. place_merged Legacy p n) (λ s n. code (place_number n.place == 5) n) (λ s n. class (place_number n.place == 5) n) refl o
      ∙ saved-rewritten script flags store (entries_of store 1 ++ map (λ k. item (Ref k)) (kept_aside script flags store)) o
    where
      code : (b : Bool) (n : Node) → (if b then with_place p n else n).code ≡ n.code
      code true n = refl
      code false n = refl

      class : (b : Bool) (n : Node) → (if b then with_place p n else n).class ≡ n.class
      class true n = refl
      class false n = refl

  module _ (kept_listed : IsListed kept) (ended_listed : IsListed ended) where
    older_place : IsPlace p
    older_place = omega arith

    legacy_place : IsPlace Legacy
    legacy_place = omega arith

    view : Merged Legacy p (view_of kept) (view_of ended)
    view = merged_view kept kept_listed Legacy p (λ e. cc) legacy_place older_place ended refl

    same : IsSameButPlaces kept ended
    same = same_but_places kept ended view.same

    abbrev aside : List ℕ
    aside = list_at store Legacy

    pub joined : list_at ended p ≡ list_at kept p ++ aside
    joined = view.joined

    -- the walk over them in the list of the older generation
    pub from_aside : (first : Option ℕ) → first ≡ slice_get aside 0 → from_on first (list_at ended p) ≡ aside
    from_aside first is =
        from_ahead first (list_at ended p)
        ∙ ahead_is (list_at ended p) first (list_at kept p) aside (once_at ended ended_listed p) (record { parts = joined; at = is })

    pub first_at : (first : Option ℕ) → first ≡ slice_get aside 0 → IsAt first (list_at ended p)
    first_at first is = subst (IsAt first) (sym joined) (at_right first (list_at kept p) aside (subst (λ c. IsAt c aside) (sym is) (at_first aside)))

    module _ (policy : Policy) (first : Option ℕ) (is : first ≡ slice_get aside 0) (number : ℕ) (size : number ≡ length aside) where
      abbrev idle : Policy
      idle = record policy { running = false }

      -- the lines, in the order in which they are printed
      abbrev all_lines : Bool → Bool → List Event
      all_lines asked told =
          lines_if told (map GcUncollectable aside) ++ map GcSaved (kept_aside script flags store) ++ GcStop facts.generation facts.collected (length aside)
          ∷ lines_if asked (Collected (facts.collected + length aside) ∷ [])

      saved_part : (asked : Bool) → saved_lines script flags ended (from_on first (list_at ended p))
          ++ stop_lines asked (collection_at facts (phase_of.Saved first number) None) number ≡ all_lines asked false
      saved_part asked =
          (λ i. map GcSaved (filter_alike (is_saved_at script flags ended) (is_saved_at script flags store) (from_aside first is i) saved-ended i)
          ++ GcStop facts.generation facts.collected (size i) ∷ lines_if asked (Collected (facts.collected + size i) ∷ []))

      told_part : (asked : Bool) → map GcUncollectable (from_on first (list_at ended p)) ++ saved_lines script flags ended (from_on first (list_at ended p))
          ++ stop_lines asked (collection_at facts (phase_of.Uncollectable first first number) None) number ≡ all_lines asked true
      told_part asked =
          (λ i. map GcUncollectable (from_aside first is i) ++ map GcSaved (filter_alike (is_saved_at script flags ended) (is_saved_at script flags store) (from_aside first is i) saved-ended i)
          ++ GcStop facts.generation facts.collected (size i) ∷ lines_if asked (Collected (facts.collected + size i) ∷ []))

      ends : (phase : Phase) (told : Bool) → has_flag flags uncollectable ≡ told
          → ((asked : Bool) → all_lines asked told ≡ lines_left script asked (collection_at facts phase None) phase ended)
          → ((asked : Bool) (w : World) (below : List Activity) → Represents ended w → policy.numbers ≡ w.numbers → w.stack ≡ below
          → CollectionShows asked (collection_at facts phase None) ended idle w below)
          → CollectSteps script (collection_at facts phase_of.Ending None) store policy (collection_at facts phase None) ended idle answer_of.Continue
      ends phase told flag lines shows =
          steps_at script (collection_at facts phase_of.Ending None) store policy (collection_at facts phase None) ended idle answer_of.Continue
          (λ asked v below s.
          let c : machine.Collection = collection_of asked (collection_at facts phase_of.Ending None) machine.Ending in
          let w : World = with_stack (Collecting c ∷ below) v in
          let here : objects_of store ≡ v.objects = s.shows.represents.objects in
          let objects : List Object = map (λ x. if is_at Legacy x then object_placed p x else x) (all_saved (kept_aside script flags store) v.objects) in
          let after : World = with_stack below (with_objects objects v) in
          record {
            events = all_lines asked (has_flag flags uncollectable);
            after = after;
            goes = in_one script w (all_lines asked (has_flag flags uncollectable)) after s.running (record {
              told = aside;
              told_order = subst (λ (os : List Object). SameMembers aside (serials_at os Legacy)) here (list_has store listed Legacy);
              keeps = kept_aside script flags store;
              keeps_order = subst (λ (os : List Object). SameMembers (kept_aside script flags store) (serials (filter (is_saved script c) os))) here (keeps_order script store listed c);
              lines = refl;
              world = refl;
            });
            lines = ap (all_lines asked) flag ∙ lines asked;
            shows = shows asked after below
                (represents_over store ended v below c s.shows.represents s.alone objects
                (objects-ended ∙ ap (λ os. map (λ x. if is_at Legacy x then object_placed p x else x) (all_saved (kept_aside script flags store) os)) here)
                (with_same_rows store ended refl refl refl)
                (λ q. omega (arith, outside_on kept ended same q, outside-rewritten 1 (entries_of store 1 ++ map (λ k. item (Ref k)) (kept_aside script flags store)) store q)))
                s.shows.numbers refl;
            keeps = record { budget = refl; outcome = refl };
          })

      pub turn-ended_told : has_flag flags uncollectable ≡ true
          → CollectSteps script (collection_at facts phase_of.Ending None) store policy (collection_at facts (phase_of.Uncollectable first first number) None) ended idle answer_of.Continue
      turn-ended_told flag =
          ends (phase_of.Uncollectable first first number) true flag
          (λ asked. sym (told_part asked))
          (λ asked w below r numbers top. record { represents = r; numbers = numbers; running = refl; top = top })

      pub turn-ended : has_flag flags uncollectable ≡ false
          → CollectSteps script (collection_at facts phase_of.Ending None) store policy (collection_at facts (phase_of.Saved first number) None) ended idle answer_of.Continue
      turn-ended flag =
          ends (phase_of.Saved first number) false flag
          (λ asked. sym (saved_part asked))
          (λ asked w below r numbers top. record { represents = r; numbers = numbers; running = refl; top = top })
