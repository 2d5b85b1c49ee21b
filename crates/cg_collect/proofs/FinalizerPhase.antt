-- The finalizer phase: the heap does the machine's step.
use Rattle.std.proofs.Common.{◌≡◌, ◌≢◌, refl, sym, ◌∙◌, ap, subst, ℕ, ◌+◌, ◌*◌, ◌<◌, Bool, true, false, List, [], ◌∷◌, ◌++◌, length, map, set, Option, Some, None, inl, inr, arith}
use Rattle.std.specs.Prelude.{◌==◌, if◌then◌else◌, option_map, option_and_then, slice_get}
use Rattle.std.specs.FinMap as fin
use Rattle.std.proofs.lemmas.Bool.{ne_eqb}
use Rattle.std.proofs.lemmas.List.{get_or-set_same, get_or-set_other, length-set}
use Rattle.cg_value.specs.declared.Entry.{Entry}
use Rattle.cg_value.specs.declared.Place.{Place}
use Rattle.cg_value.specs.declared.Place.TheVariants.{Gen, Cand, Seen, Back, Legacy, Pend}
use Rattle.cg_script.specs.declared.Script.{Script}
use Rattle.cg_graph.specs.Member.{Includes}
use Rattle.cg_graph.specs.Value.{references}
use Rattle.cg_graph.specs.Holdings.{occurrences}
use Rattle.cg_graph.specs.Object.{Object, object_at, change, with_place as object_placed, marked as object_marked, is_at, same_place, serials_at}
use Rattle.cg_graph.specs.Places.{place_number, list_of, without_serial}
use Rattle.cg_graph.specs.Store.{Store, Node, IsLive, list_at, objects_of, object_from, outside_of, outside_in, entries_of, entries_in, place_of}
use Rattle.cg_graph.specs.Changes.{held, more, moved, with_place}
use Rattle.cg_graph.proofs.Maps.{get-mapped}
use Rattle.cg_graph.proofs.Members.{either, Includes-append_cases}
use Rattle.cg_graph.proofs.Objects.{objects-mapped, objects-same, objects-changed}
use Rattle.cg_arena.specs.Nodes.{IsPlace}
use Rattle.cg_heap.specs.Calls.{IsListed, with_node, marked, merged, place_merged}
use Rattle.cg_heap.proofs.CallerLemmas.{lives_on, kinds-moved, kinds-with_node}
use Rattle.cg_heap.proofs.HoldLemmas.{outside-moved, outside-with_node, outside-held}
use Rattle.cg_machine.specs.declared.event.FrameSort.TheVariants.{Del}
use Rattle.cg_machine.specs.declared.event.FrameSpec.{FrameSpec}
use Rattle.cg_machine.specs.World as machine
use Rattle.cg_machine.specs.World.{World, Releasing, Collecting, with_stack, with_objects}
use Rattle.cg_machine.specs.Frame.{start_frame}
use Rattle.cg_machine.specs.Dying.{finalizer_to_run}
use Rattle.cg_machine.specs.Collect.{IsMemberOf, looks_at}
use Rattle.cg_represents.proofs.Representing.{in_one}
use Rattle.cg_policy.specs.Policy.{Policy}
use Rattle.cg_trial.proofs.Lists.{occurs, Includes-without}
use Rattle.cg_trial.proofs.PlacesOfObjects.{once_at, where_is}
use Rattle.cg_death.specs.declared.release.Release.{Release}
use Rattle.cg_death.specs.Activities.{references_left}
use Rattle.cg_death.proofs.RowSplits.{head_in}
use Rattle.cg_death.proofs.Clearing.{none_first}
use Rattle.cg_death.proofs.Places.{moved-cases, change-change, only-one}
use Rattle.cg_collect.specs.declared.answer.CollectStep.TheVariants as answer_of
use Rattle.cg_collect.specs.declared.collection.Facts.{Facts}
use Rattle.cg_collect.specs.declared.phase.Phase.TheVariants as phase_of
use Rattle.cg_collect.specs.Phases.{collection_of}
use Rattle.cg_collect.specs.Ready.{IsHeapApart, IsApartUnseen, IsUnsaved}
use Rattle.cg_collect.specs.Answers.{CollectSteps}
use Rattle.cg_collect.specs.Turns.{collection_at}
use Rattle.cg_collect.proofs.PlacesOfObjects.{stands_at, list_length, entries_on}
use Rattle.cg_collect.proofs.Moving.{one-shorter, moved_same, moved_last, moved_from}
use Rattle.cg_collect.proofs.Garbage.{garbage-moved, garbage-merged}
use Rattle.cg_collect.proofs.Worlds.{steps_at, with_same_rows, pending_is, represents_on, represents_giving_up, went}

-- the garbage list names none of a place, if its names stay
pub still_unsaved : (old new : Store) (p : Place) → entries_of new 1 ≡ entries_of old 1 → ((q : ℕ) → Includes (list_at new p) q → ¬ Includes (references (entries_of old 1)) q) → IsUnsaved new p
still_unsaved old new p same unsaved q m saved = unsaved q m (subst (λ (es : List Entry). Includes (references es) q) same saved)

-- the place of visited objects, by its number
seen_number : (p : Place) → (place_number p == 3) ≡ same_place p Seen
seen_number (Gen i) = ne_eqb (7 + i) 3 (λ e. absurd (omega (arith, e)))
seen_number p = refl

-- a place with an empty list has no object
pub nobody_stands : (store : Store) → IsListed store → (p : Place) → list_at store p ≡ [] → serials_at (objects_of store) p ≡ []
nobody_stands store listed p empty = known (serials_at (objects_of store) p) (sym (list_length store listed p) ∙ ap length empty)
  where
    known : (xs : List ℕ) → length xs ≡ 0 → xs ≡ []
    known [] e = refl
    known (x ∷ xs) e = absurd (omega (arith, e))

module _ (script : Script) (facts : Facts) (store : Store) (policy : Policy) where
  -- the object is given up after its frame
  pub turn-given_up : (o : ℕ) (release : Release) → references_left release ≡ o ∷ []
      → CollectSteps script (collection_at facts (phase_of.AfterFinalizing o) None) store policy (collection_at facts phase_of.Finalizing (Some release)) store policy answer_of.Continue
  turn-given_up o release left =
      steps_at script (collection_at facts (phase_of.AfterFinalizing o) None) store policy (collection_at facts phase_of.Finalizing (Some release)) store policy answer_of.Continue
      (λ asked v below s.
      let c : machine.CollectPhase → machine.Collection = collection_of asked (collection_at facts phase_of.Finalizing None) in
      let w : World = with_stack (Collecting (c (machine.AfterFinalizing o)) ∷ below) v in
      let after : World = with_stack (Releasing (o ∷ []) ∷ Collecting (c machine.Finalizing) ∷ below) v in
      went script w [] after s.running (refl, refl) refl
      (represents_giving_up store store v below (c (machine.AfterFinalizing o)) (c machine.Finalizing) s.shows.represents s.alone (o ∷ []) v.objects s.shows.represents.objects
      (with_same_rows store store refl refl refl) (s.shows.represents.collection (c (machine.AfterFinalizing o)) (inl refl)) (λ q. omega arith))
      s.shows.numbers s.shows.running (λ i. Releasing (sym left i) ∷ Collecting (c machine.Finalizing) ∷ below) refl refl)

-- A condemned object moves to the visited ones.
module _ (store : Store) (listed : IsListed store) (o : ℕ) (first : slice_get (list_at store Cand) 0 ≡ Some o) where
  abbrev looked : Store
  looked = moved o Seen store

  pub condemned : IsLive store o × (place_of store o ≡ Cand)
  condemned = where_is store listed Cand o (head_in (list_at store Cand) o first)

  is_member : (w : World) → objects_of store ≡ w.objects → IsMemberOf w Cand o
  is_member w same = subst (λ (os : List Object). Includes (serials_at os Cand) o) same (stands_at store Cand o condemned.0 condemned.1)

  none_pending : list_at store Pend ≡ [] → list_at looked Pend ≡ []
  none_pending none = either (moved-cases store o Seen (λ e. absurd (omega (arith, e)))) (λ e. e ∙ none) (λ e. e ∙ ap (without_serial o) none)

  objects-looked : objects_of looked ≡ change (object_placed Seen) o (objects_of store)
  objects-looked = objects-changed store o (with_place Seen) (object_placed Seen) (λ s n. refl)

  -- its finalizer has run, or it has none
  pub turn-looked : (script : Script) (facts : Facts) (policy : Policy) → option_and_then (finalizer_to_run script) (object_at (objects_of store) o) ≡ None
      → CollectSteps script (collection_at facts phase_of.Finalizing None) store policy (collection_at facts phase_of.Finalizing None) looked policy answer_of.Continue
  turn-looked script facts policy due =
      steps_at script (collection_at facts phase_of.Finalizing None) store policy (collection_at facts phase_of.Finalizing None) looked policy answer_of.Continue
      (λ asked v below s.
      let c : machine.Collection = collection_of asked (collection_at facts phase_of.Finalizing None) machine.Finalizing in
      let w : World = with_stack (Collecting c ∷ below) v in
      let objects : List Object = change (object_placed Seen) o v.objects in
      let after : World = with_stack (Collecting c ∷ below) (with_objects objects v) in
      let same : objects_of store ≡ v.objects = s.shows.represents.objects in
      let none : option_and_then (finalizer_to_run script) (object_at v.objects o) ≡ None = ap (λ (os : List Object). option_and_then (finalizer_to_run script) (object_at os o)) (sym same) ∙ due in
      went script w [] after s.running (inl (record {
        object = o;
        condemned = is_member w same;
        yields = (λ i. (looks_at script c o below w (sym none i)).0, λ i. (looks_at script c o below w (sym none i)).1);
      })) refl
      (represents_on store looked v below c c s.shows.represents s.alone objects (objects-looked ∙ ap (change (object_placed Seen) o) same)
      (with_same_rows store looked refl refl refl) (none_pending (pending_is store store v below c c s.shows.represents s.alone)) (λ q. omega (arith, outside-moved o Seen store q)))
      s.shows.numbers s.shows.running refl refl refl)

  abbrev ready : Store
  ready = with_node marked o looked

  ready_live : IsLive ready o
  ready_live = lives_on looked ready (kinds-with_node marked (λ n. refl) o looked) o (lives_on store looked (kinds-moved o Seen store) o condemned.0)

  pub turn-runs : (script : Script) (facts : Facts) (policy : Policy) (p : ℕ) → option_and_then (finalizer_to_run script) (object_at (objects_of store) o) ≡ Some p
      → CollectSteps script (collection_at facts phase_of.Finalizing None) store policy (collection_at facts (phase_of.AfterFinalizing o) None)
      (held (o ∷ []) ready) policy (answer_of.Frame (record { sort = Del; proc = p; subject = o; func = None }))
  turn-runs script facts policy p due =
      steps_at script (collection_at facts phase_of.Finalizing None) store policy (collection_at facts (phase_of.AfterFinalizing o) None) (held (o ∷ []) ready)
      policy (answer_of.Frame (record { sort = Del; proc = p; subject = o; func = None }))
      (λ asked v below s.
      let c : machine.Collection = collection_of asked (collection_at facts phase_of.Finalizing None) machine.Finalizing in
      let d : machine.Collection = collection_of asked (collection_at facts phase_of.Finalizing None) (machine.AfterFinalizing o) in
      let w : World = with_stack (Collecting c ∷ below) v in
      let objects : List Object = change (λ x. object_marked (object_placed Seen x)) o v.objects in
      let before : World = with_stack (Collecting d ∷ below) (with_objects objects v) in
      let spec : FrameSpec = record { sort = Del; proc = p; subject = o; func = None } in
      let same : objects_of store ≡ v.objects = s.shows.represents.objects in
      let some : option_and_then (finalizer_to_run script) (object_at v.objects o) ≡ Some p = ap (λ (os : List Object). option_and_then (finalizer_to_run script) (object_at os o)) (sym same) ∙ due in
      let marked_objects : objects_of ready ≡ change object_marked o (objects_of looked) = objects-changed looked o marked object_marked (λ s n. refl) in
      let held_objects : objects_of (held (o ∷ []) ready) ≡ objects_of ready = objects-same ready (λ s n. more (occurrences s (o ∷ [])) n) (λ s n. refl) in (
        refl,
        refl,
        record {
          before = before;
          goes = in_one script w (start_frame script spec before).0 (start_frame script spec before).1 s.running (inl (record {
            object = o;
            condemned = is_member w same;
            yields = (λ i. (looks_at script c o below w (sym some i)).0, λ i. (looks_at script c o below w (sym some i)).1);
          }));
          shows = record {
            represents = represents_on store (held (o ∷ []) ready) v below c d s.shows.represents s.alone objects
                (held_objects ∙ marked_objects ∙ ap (change object_marked o) objects-looked ∙ change-change object_marked (object_placed Seen) (λ x. refl) o
                (objects_of store) ∙ ap (change (λ x. object_marked (object_placed Seen x)) o) same)
                (with_same_rows store (held (o ∷ []) ready) refl refl refl) (none_pending (pending_is store store v below c c s.shows.represents s.alone))
                (λ q. omega (
                  arith,
                  outside-moved o Seen store q,
                  outside-with_node marked (λ n. refl) o looked q,
                  outside-held (o ∷ []) ready q
                      (λ h. subst (IsLive ready) (sym (only-one o q h)) ready_live),
                ));
            numbers = s.shows.numbers;
            running = s.shows.running;
            top = refl;
          };
          keeps = record { budget = refl; outcome = refl };
        },
      ))

  seen_place : IsPlace Seen
  seen_place = omega arith

  same_entries : (q : ℕ) → entries_of looked q ≡ entries_of store q
  same_entries = entries_on store looked (moved_same store listed o condemned.0 Seen seen_place)

  left : (p : Place) → p ≢ Seen → list_at looked p ≡ without_serial o (list_at store p)
  left = moved_from store listed o condemned.0 Seen seen_place

  -- then no partitioned object is saved
  pub apart_looked : IsHeapApart store → IsHeapApart looked
  apart_looked apart = record {
    garbage = garbage-moved store o Cand Seen apart.garbage condemned.1 (λ e. cc);
    back = left Back (λ e. cc) ∙ ap (without_serial o) apart.back;
    candidates = still_unsaved store looked Cand (same_entries 1) (λ q m. apart.candidates q (Includes-without o (list_at store Cand) q (subst (λ l. Includes l q) (left Cand (λ e. cc)) m)).0);
    seen = still_unsaved store looked Seen (same_entries 1) (λ q m. either (Includes-append_cases (without_serial o (list_at store Seen)) (o ∷ []) q
        (subst (λ l. Includes l q) (moved_last store listed o condemned.0 Seen seen_place) m))
        (λ k. apart.seen q (Includes-without o (list_at store Seen) q k).0)
        (λ k. apart.candidates q (either k (λ e. subst (Includes (list_at store Cand)) e (head_in (list_at store Cand) o first)) (λ n. absurd n))));
    legacy = still_unsaved store looked Legacy (same_entries 1) (λ q m. apart.legacy q (Includes-without o (list_at store Legacy) q (subst (λ l. Includes l q) (left Legacy (λ e. cc)) m)).0);
  }

  -- one less is left
  pub fewer_left : 8 * length (list_at looked Cand) + 0 < 8 * length (list_at store Cand) + 0
  fewer_left =
      let shorter : length (list_at looked Cand) + 1 ≡ length (list_at store Cand) =
      ap (λ l. length l + 1) (left Cand (λ e. cc)) ∙ one-shorter o (list_at store Cand) (omega (
        arith,
        once_at store listed Cand o,
        occurs (list_at store Cand)
            o (head_in (list_at store Cand) o first),
      )) in
      omega (arith, shorter)

-- After all were visited, they are condemned again.
module _ (store : Store) (listed : IsListed store) (none : slice_get (list_at store Cand) 0 ≡ None) where
  abbrev condemned_again : Store
  condemned_again = merged Seen Cand store

  objects-again : objects_of condemned_again ≡ map (λ x. if is_at Seen x then object_placed Cand x else x) (objects_of store)
  objects-again = objects-mapped store (λ s n. place_merged Seen Cand n) (λ x. if is_at Seen x then object_placed Cand x else x)
      (λ s n. ap (λ b. object_from store.rows s (if b then with_place Cand n else n)) (seen_number n.place) ∙ one (same_place n.place Seen) s n)
    where
      one : (b : Bool) (s : ℕ) (n : Node) → object_from store.rows s (if b then with_place Cand n else n) ≡ (if b then object_placed Cand (object_from store.rows s n) else object_from store.rows s n)
      one true s n = refl
      one false s n = refl

  kept : (p : ℕ) → p ≢ 2 → p ≢ 3 → list_of condemned_again.lists p ≡ list_of store.lists p
  kept p not_cand not_seen =
      get_or-set_other (set store.lists 2 (list_of store.lists 2 ++ list_of store.lists 3)) 3 p [] [] not_seen
      ∙ get_or-set_other store.lists 2 p (list_of store.lists 2 ++ list_of store.lists 3) [] not_cand

  all_again : list_at condemned_again Cand ≡ list_at store Cand ++ list_at store Seen
  all_again =
      get_or-set_other (set store.lists 2 (list_of store.lists 2 ++ list_of store.lists 3)) 3 2 [] [] (λ e. absurd (omega (arith, e)))
      ∙ get_or-set_same store.lists 2 (list_of store.lists 2 ++ list_of store.lists 3) [] (omega (arith, listed.ten))

  none_seen : list_at condemned_again Seen ≡ []
  none_seen = get_or-set_same (set store.lists 2 (list_of store.lists 2 ++ list_of store.lists 3)) 3 [] []
      (omega (arith, listed.ten, length-set store.lists 2 (list_of store.lists 2 ++ list_of store.lists 3)))

  pub turn-all_looked : (script : Script) (facts : Facts) (policy : Policy) → CollectSteps script (collection_at facts phase_of.Finalizing None) store policy
      (collection_at facts phase_of.Split None) condemned_again policy answer_of.Continue
  turn-all_looked script facts policy =
      steps_at script (collection_at facts phase_of.Finalizing None) store policy (collection_at facts phase_of.Split None) condemned_again policy answer_of.Continue
      (λ asked v below s.
      let c : machine.CollectPhase → machine.Collection = collection_of asked (collection_at facts phase_of.Finalizing None) in
      let w : World = with_stack (Collecting (c machine.Finalizing) ∷ below) v in
      let objects : List Object = map (λ x. if is_at Seen x then object_placed Cand x else x) v.objects in
      let after : World = with_stack (Collecting (c machine.Split) ∷ below) (with_objects objects v) in
      let same : objects_of store ≡ v.objects = s.shows.represents.objects in
      went script w [] after s.running (inr (
        ap (λ (os : List Object). serials_at os Cand) (sym same) ∙ nobody_stands store listed Cand
            (none_first (list_at store Cand) none),
        (refl, refl),
      )) refl
      (represents_on store condemned_again v below (c machine.Finalizing) (c machine.Split) s.shows.represents s.alone objects
      (objects-again ∙ ap (map (λ x. if is_at Seen x then object_placed Cand x else x)) same)
      (with_same_rows store condemned_again refl refl refl)
      (kept 6 (λ e. absurd (omega (arith, e))) (λ e. absurd (omega (arith, e))) ∙ pending_is store store v below (c machine.Finalizing) (c machine.Finalizing) s.shows.represents s.alone)
      (λ q. omega (arith, outside-again q)))
      s.shows.numbers s.shows.running refl refl refl)
    where
      outside-again : (q : ℕ) → outside_of condemned_again q ≡ outside_of store q
      outside-again q = ap outside_in (get-mapped (λ s n. place_merged Seen Cand n) store.nodes q) ∙ known (fin.get store.nodes q)
        where
          known : (x : Option Node) → outside_in (option_map (place_merged Seen Cand) x) ≡ outside_in x
          known None = refl
          known (Some n) = go (place_number n.place == 3)
            where
              go : (b : Bool) → (if b then with_place Cand n else n).outside ≡ n.outside
              go true = refl
              go false = refl

  pub apart_again : IsHeapApart store → IsApartUnseen condemned_again
  apart_again apart = (
    record {
      garbage = garbage-merged store Seen Cand refl apart.garbage;
      back = kept 4 (λ e. absurd (omega (arith, e))) (λ e. absurd (omega (arith, e))) ∙ apart.back;
      candidates = still_unsaved store condemned_again Cand same_entries_again (λ q m. either (Includes-append_cases (list_at store Cand) (list_at store Seen) q
          (subst (λ l. Includes l q) all_again m)) (λ k. apart.candidates q k) (λ k. apart.seen q k));
      seen = λ q m. absurd (subst (λ l. Includes l q) none_seen m);
      legacy = still_unsaved store condemned_again Legacy same_entries_again
          (λ q m. apart.legacy q (subst (λ l. Includes l q) (kept 5 (λ e. absurd (omega (arith, e))) (λ e. absurd (omega (arith, e)))) m));
    },
    none_seen,
  )
    where
      same_entries_again : entries_of condemned_again 1 ≡ entries_of store 1
      same_entries_again = ap entries_in (get-mapped (λ s n. place_merged Seen Cand n) store.nodes 1) ∙ known (fin.get store.nodes 1)
        where
          known : (x : Option Node) → entries_in (option_map (place_merged Seen Cand) x) ≡ entries_in x
          known None = refl
          known (Some n) = go (place_number n.place == 3)
            where
              go : (b : Bool) → (if b then with_place Cand n else n).entries ≡ n.entries
              go true = refl
              go false = refl
