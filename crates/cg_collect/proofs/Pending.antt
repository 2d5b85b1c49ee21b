-- The waiting weak references: their callbacks are called in order, and then each weak reference is given up.
use Rattle.std.proofs.Common.{◌≡◌, ◌≢◌, refl, sym, ◌∙◌, ap, subst, ℕ, ◌+◌, ◌<◌, ◌≤◌, true, false, cond, not, List, [], ◌∷◌, ◌++◌, length, Option, Some, None, IsSome, inr, arith}
use Rattle.std.specs.Prelude.{◌==◌, if◌then◌else◌, filter, drop, option_map, option_and_then, slice_get, unwrap_or, is_some}
use Rattle.std.specs.FinMap as fin
use Rattle.std.proofs.lemmas.Bool.{eq-eqb}
use Rattle.cg_value.specs.declared.Entry.{Entry}
use Rattle.cg_value.specs.declared.Val.{Val}
use Rattle.cg_value.specs.declared.Val.TheVariants.{Ref}
use Rattle.cg_value.specs.declared.KindCode.TheVariants.{Weak}
use Rattle.cg_value.specs.declared.Place.{Place}
use Rattle.cg_value.specs.declared.Place.TheVariants.{Gen, Cand, Seen, Back, Legacy, Pend}
use Rattle.cg_script.specs.declared.Script.{Script}
use Rattle.cg_graph.specs.Member.{Includes}
use Rattle.cg_graph.specs.Value.{reference_in}
use Rattle.cg_graph.specs.Holdings.{occurrences}
use Rattle.cg_graph.specs.Object.{Object, object_at, is_in_map, change, with_place as object_placed}
use Rattle.cg_graph.specs.Places.{without_serial}
use Rattle.cg_graph.specs.Store.{Store, Node, IsLive, list_at, objects_of, object_from, inner, entries_of}
use Rattle.cg_graph.specs.Changes.{moved, with_place}
use Rattle.cg_graph.proofs.Members.{either, cases_of}
use Rattle.cg_graph.proofs.Objects.{object-at, objects-changed, occurrences-append}
use Rattle.cg_arena.specs.Nodes.{IsPlace}
use Rattle.cg_heap.specs.Calls.{IsListed}
use Rattle.cg_heap.proofs.CallerLemmas.{kinds-moved}
use Rattle.cg_heap.proofs.HoldLemmas.{outside-moved}
use Rattle.cg_machine.specs.declared.event.FrameSort.TheVariants.{Callback}
use Rattle.cg_machine.specs.declared.event.FrameSpec.{FrameSpec}
use Rattle.cg_machine.specs.World as machine
use Rattle.cg_machine.specs.World.{World, Releasing, Collecting, with_stack, with_objects, with_change}
use Rattle.cg_machine.specs.Frame.{Transition, start_frame}
use Rattle.cg_machine.specs.Weak.{callback_of, callback_in}
use Rattle.cg_machine.specs.Collect.{older, calls_back, after_release}
use Rattle.cg_represents.specs.Orderly.{all_waits}
use Rattle.cg_represents.proofs.Lists.{occurrences-cons}
use Rattle.cg_represents.proofs.Representing.{in_one}
use Rattle.cg_policy.specs.Policy.{Policy}
use Rattle.cg_trial.proofs.Lists.{Includes-without, absent, length-without, without-absent, without-cons_yes, without-cons_no}
use Rattle.cg_trial.proofs.PlacesOfObjects.{where_is}
use Rattle.cg_death.specs.declared.release.Release.{Release}
use Rattle.cg_death.specs.Activities.{references_left}
use Rattle.cg_death.proofs.Clearing.{none_first}
use Rattle.cg_death.proofs.Callbacks.{callback-at}
use Rattle.cg_collect.specs.declared.answer.CollectStep.TheVariants as answer_of
use Rattle.cg_collect.specs.declared.collection.Facts.{Facts}
use Rattle.cg_collect.specs.declared.phase.Phase.TheVariants as phase_of
use Rattle.cg_collect.specs.Phases.{collection_of}
use Rattle.cg_collect.specs.Ready.{IsApartUnseen, HaveCallbacks, OthersHaveCallbacks}
use Rattle.cg_collect.specs.Answers.{CollectSteps}
use Rattle.cg_collect.specs.Turns.{collection_at}
use Rattle.cg_collect.proofs.PlacesOfObjects.{entries_on}
use Rattle.cg_collect.proofs.Moving.{moved_same, moved_not, moved_from, value_lives}
use Rattle.cg_collect.proofs.Worlds.{steps_at, with_same_rows, represents_on, represents_same, represents_giving_up, went}
use Rattle.cg_collect.proofs.FinalizerPhase.{still_unsaved}

-- a list without a serial, by the machine's test
pub without_serial-is : (o : ℕ) (xs : List ℕ) → without_serial o xs ≡ filter (λ q. not (q == o)) xs
without_serial-is o [] = refl
without_serial-is o (x ∷ xs) =
    either (cases_of (x == o))
    (λ same. without-cons_yes o x xs same ∙ without_serial-is o xs ∙ sym (ap (λ b. cond (not b) (x ∷ filter (λ q. not (q == o)) xs) (filter (λ q. not (q == o)) xs)) same))
    (λ differs. without-cons_no o x xs differs ∙ ap (λ l. x ∷ l) (without_serial-is o xs) ∙ sym (ap (λ b. cond (not b) (x ∷ filter (λ q. not (q == o)) xs) (filter (λ q. not (q == o)) xs)) differs))

-- the first of a list, and the others
pub first_and_rest : (xs : List ℕ) (x : ℕ) → slice_get xs 0 ≡ Some x → xs ≡ x ∷ drop 1 xs
first_and_rest [] x e = absurd (cc)
first_and_rest (y ∷ xs) x e = let same : y ≡ x = cc in ap (λ z. z ∷ xs) same

-- the others are the list without the first
pub rest_is : (xs : List ℕ) (x : ℕ) → slice_get xs 0 ≡ Some x → occurrences x (drop 1 xs) ≡ 0 → filter (λ q. not (q == x)) xs ≡ drop 1 xs
rest_is [] x e none = refl
rest_is (y ∷ xs) x e none =
    let same : y ≡ x = cc in
    ap (λ b. cond (not b) (y ∷ filter (λ q. not (q == x)) xs) (filter (λ q. not (q == x)) xs)) (eq-eqb y x same) ∙ sym (without_serial-is x xs) ∙ without-absent x xs none

pub first_left : (xs : List ℕ) (x : ℕ) → slice_get xs 0 ≡ Some x → length (filter (λ q. not (q == x)) xs) + 1 ≤ length xs
first_left [] x e = absurd (cc)
first_left (y ∷ xs) x e =
    let same : y ≡ x = cc in
    let gone : length (filter (λ q. not (q == x)) (y ∷ xs)) ≡ length (without_serial x xs) =
    ap (λ b. length (cond (not b) (y ∷ filter (λ q. not (q == x)) xs) (filter (λ q. not (q == x)) xs))) (eq-eqb y x same) ∙ ap (λ (l : List ℕ). length l) (sym (without_serial-is x xs)) in
    omega (arith, gone, length-without x xs)

-- One that has died does not wait: the others are all.
module _ (store : Store) (listed : IsListed store) (weak : ℕ) (dead : ¬ IsLive store weak) where
  pub others_are_all : filter (λ q. not (q == weak)) (list_at store Pend) ≡ list_at store Pend
  others_are_all = sym (without_serial-is weak (list_at store Pend)) ∙ without-absent weak (list_at store Pend) (absent (list_at store Pend) weak (λ m. dead (where_is store listed Pend weak m).0))

  pub all_have_callbacks : OthersHaveCallbacks store weak → HaveCallbacks store
  all_have_callbacks have w m = have w m (λ e. dead (subst (IsLive store) e (where_is store listed Pend w m).0))

-- An object leaves or joins the waiting weak references: the partition stays.
module _ (store : Store) (listed : IsListed store) (o : ℕ) (live : IsLive store o) (q : Place) (place : IsPlace q) where
  abbrev away : Store
  away = moved o q store

  same_entries : (s : ℕ) → entries_of away s ≡ entries_of store s
  same_entries = entries_on store away (moved_same store listed o live q place)

  left : (p : Place) → p ≢ q → (s : ℕ) → Includes (list_at away p) s → Includes (list_at store p) s
  left p differs s m = (Includes-without o (list_at store p) s (subst (λ l. Includes l s) (moved_from store listed o live q place p differs) m)).0

  pub apart_away : 1 ≢ o → Cand ≢ q → Seen ≢ q → Back ≢ q → Legacy ≢ q → IsApartUnseen store → IsApartUnseen away
  apart_away other not_cand not_seen not_back not_legacy apart = (
    record {
      garbage = moved_not store listed o live q place 1 other ∙ apart.0.garbage;
      back = moved_from store listed o live q place Back not_back ∙ ap (without_serial o) apart.0.back;
      candidates = still_unsaved store away Cand (same_entries 1) (λ s m. apart.0.candidates s (left Cand not_cand s m));
      seen = still_unsaved store away Seen (same_entries 1) (λ s m. apart.0.seen s (left Seen not_seen s m));
      legacy = still_unsaved store away Legacy (same_entries 1) (λ s m. apart.0.legacy s (left Legacy not_legacy s m));
    },
    moved_from store listed o live q place Seen not_seen ∙ ap (without_serial o) apart.1,
  )

  -- the callback of each stays
  pub callback_away : (s : ℕ) → callback_of (objects_of away) s ≡ callback_of (objects_of store) s
  callback_away s = callback-at away s ∙ ap callback_in (same_entries s) ∙ sym (callback-at store s)

  pub callbacks_away : Pend ≢ q → OthersHaveCallbacks store o → HaveCallbacks away
  callbacks_away not_pend have s m =
      let there = Includes-without o (list_at store Pend) s (subst (λ l. Includes l s) (moved_from store listed o live q place Pend not_pend) m) in
      let has = have s there.0 there.1 in
      (kinds-moved o q store s Weak has.0, subst IsSome (sym (callback_away s)) has.1)

-- a callback lives
refers_to_it : (v : Val) (f : ℕ) → reference_in v ≡ Some f → v ≡ Ref f
refers_to_it (Ref o) f e = let same : o ≡ f = cc in ap Ref same
refers_to_it v f e = absurd (cc)

pub callback_lives : (store : Store) → ((s : ℕ) → 0 < inner store s → IsLive store s) → (weak f : ℕ) → callback_of (objects_of store) weak ≡ Some f → IsLive store f
callback_lives store sound weak f has = known (entries_of store weak) refl (sym (callback-at store weak) ∙ has)
  where
    known : (es : List Entry) → entries_of store weak ≡ es → callback_in es ≡ Some f → IsLive store f
    known [] is e = absurd (cc)
    known (x ∷ es) is e = value_lives store sound weak 0 x (ap (λ l. slice_get l 0) is) f (refers_to_it x.val f e)

-- an object of the heap is one of the world
pub in_map : (store : Store) (o : ℕ) → is_in_map (objects_of store) o ≡ is_some (fin.get store.nodes o)
in_map store o = ap is_some (object-at store o) ∙ known (fin.get store.nodes o)
  where
    known : (x : Option Node) → is_some (option_map (object_from store.rows o) x) ≡ is_some x
    known None = refl
    known (Some n) = refl

live_some : (x : Option Node) → IsSome x → is_some x ≡ true
live_some None h = absurd (cc)
live_some (Some n) h = refl

dead_none : (x : Option Node) → ¬ IsSome x → is_some x ≡ false
dead_none None h = refl
dead_none (Some n) h = absurd (h refl)

-- the older generation has a list
pub older_place : (g : ℕ) → g ≤ 2 → IsPlace (Gen (older g))
older_place g small = omega arith

-- After one moved to the older generation, the others wait.
module _ (store : Store) (weak : ℕ) (listed : IsListed store) (live : IsLive store weak) (g : ℕ) (small : g ≤ 2) where
  left_there : list_at (moved weak (Gen (older g)) store) Pend ≡ without_serial weak (list_at store Pend)
  left_there = moved_from store listed weak live (Gen (older g)) (older_place g small) Pend (λ e. cc)

  pub others_wait : list_at (moved weak (Gen (older g)) store) Pend ≡ filter (λ q. not (q == weak)) (list_at store Pend)
  others_wait = left_there ∙ without_serial-is weak (list_at store Pend)

  pub no_more_wait : length (list_at (moved weak (Gen (older g)) store) Pend) ≤ length (list_at store Pend)
  no_more_wait =
      let fewer : length (list_at (moved weak (Gen (older g)) store) Pend) ≡ length (without_serial weak (list_at store Pend)) = ap (λ (l : List ℕ). length l) left_there in
      omega (arith, fewer, length-without weak (list_at store Pend))

module _ (script : Script) (facts : Facts) (store : Store) (policy : Policy) where
  -- the first waiting one is called back
  pub turn-called : (weak : ℕ) → slice_get (list_at store Pend) 0 ≡ Some weak → (spec : FrameSpec)
      → spec ≡ (let f = unwrap_or (callback_of (objects_of store) weak) 0
      in record { sort = Callback; proc = unwrap_or (option_and_then (λ x. x.class) (object_at (objects_of store) f)) 0; subject = weak; func = Some f })
      → CollectSteps script (collection_at facts phase_of.WeakCalling None) store policy (collection_at facts (phase_of.AfterCallback weak) None) store policy (answer_of.Frame spec)
  turn-called weak first spec is =
      steps_at script (collection_at facts phase_of.WeakCalling None) store policy (collection_at facts (phase_of.AfterCallback weak) None) store policy (answer_of.Frame spec)
      (λ asked v below s.
      let pending : List ℕ = list_at store Pend in
      let c : machine.CollectPhase → machine.Collection = collection_of asked (collection_at facts phase_of.WeakCalling None) in
      let w : World = with_stack (Collecting (c (machine.WeakCalling pending)) ∷ below) v in
      let before : World = with_stack (Collecting (c (machine.AfterCallback weak (drop 1 pending))) ∷ below) v in
      let same : objects_of store ≡ v.objects = s.shows.represents.objects in
      let parts : pending ≡ weak ∷ drop 1 pending = first_and_rest pending weak first in
      let spec_is : spec ≡ (let f = unwrap_or (callback_of v.objects weak) 0
      in record { sort = Callback; proc = unwrap_or (option_and_then (λ x. x.class) (object_at v.objects f)) 0; subject = weak; func = Some f }) =
      is ∙ ap (λ (os : List Object). let f = unwrap_or (callback_of os weak) 0
      in record { sort = Callback; proc = unwrap_or (option_and_then (λ x. x.class) (object_at os f)) 0; subject = weak; func = Some f }) same in
      let goes : start_frame script spec before ≡ calls_back script (c (machine.WeakCalling pending)) pending below w =
      ap (λ (x : FrameSpec). start_frame script x before) spec_is ∙ ap (λ p. calls_back script (c (machine.WeakCalling pending)) p below w) (sym parts) in (
        refl,
        refl,
        record {
          before = before;
          goes = in_one script w (start_frame script spec before).0 (start_frame script spec before).1 s.running (ap (λ (t : Transition). t.0) goes, ap (λ (t : Transition). t.1) goes);
          shows = record {
            represents = represents_same store v below (c (machine.WeakCalling pending)) (c (machine.AfterCallback weak (drop 1 pending))) s.shows.represents
                s.alone parts (λ q. ap (occurrences q) parts);
            numbers = s.shows.numbers;
            running = s.shows.running;
            top = refl;
          };
          keeps = record { budget = refl; outcome = refl };
        },
      ))

  pub turn-all_called : slice_get (list_at store Pend) 0 ≡ None → CollectSteps script (collection_at facts phase_of.WeakCalling None) store policy
      (collection_at facts phase_of.Finalizing None) store policy answer_of.Continue
  turn-all_called none =
      steps_at script (collection_at facts phase_of.WeakCalling None) store policy (collection_at facts phase_of.Finalizing None) store policy answer_of.Continue
      (λ asked v below s.
      let pending : List ℕ = list_at store Pend in
      let c : machine.CollectPhase → machine.Collection = collection_of asked (collection_at facts phase_of.WeakCalling None) in
      let w : World = with_stack (Collecting (c (machine.WeakCalling pending)) ∷ below) v in
      let after : World = with_stack (Collecting (c machine.Finalizing) ∷ below) v in
      let empty : pending ≡ [] = none_first pending none in
      let goes : ([], after) ≡ calls_back script (c (machine.WeakCalling pending)) pending below w = ap (λ p. calls_back script (c (machine.WeakCalling pending)) p below w) (sym empty) in
      went script w [] after s.running (ap (λ (t : Transition). t.0) goes, ap (λ (t : Transition). t.1) goes) refl
      (represents_same store v below (c (machine.WeakCalling pending)) (c machine.Finalizing) s.shows.represents s.alone empty (λ q. ap (occurrences q) empty))
      s.shows.numbers s.shows.running refl refl refl)

  -- after its callback a weak reference is given up
  pub turn-released : (weak : ℕ) → slice_get (list_at store Pend) 0 ≡ Some weak → (release : Release) → references_left release ≡ weak ∷ []
      → CollectSteps script (collection_at facts (phase_of.AfterCallback weak) None) store policy (collection_at facts (phase_of.AfterRelease weak) (Some release)) store policy answer_of.Continue
  turn-released weak first release refs =
      steps_at script (collection_at facts (phase_of.AfterCallback weak) None) store policy (collection_at facts (phase_of.AfterRelease weak) (Some release)) store policy answer_of.Continue
      (λ asked v below s.
      let pending : List ℕ = list_at store Pend in
      let rest : List ℕ = drop 1 pending in
      let c : machine.CollectPhase → machine.Collection = collection_of asked (collection_at facts phase_of.WeakCalling None) in
      let w : World = with_stack (Collecting (c (machine.AfterCallback weak rest)) ∷ below) v in
      let after : World = with_stack (Releasing (weak ∷ []) ∷ Collecting (c (machine.AfterRelease weak rest)) ∷ below) v in
      let parts : pending ≡ weak ∷ rest = first_and_rest pending weak first in
      let once : occurrences weak (weak ∷ (rest ++ all_waits below)) ≤ 1 = s.orderly.once weak in
      let one : cond {A = ℕ} (weak == weak) 1 0 ≡ 1 = ap (λ b. cond {A = ℕ} b 1 0) (eq-eqb weak weak refl) in
      let others : occurrences weak rest ≡ 0 = omega (arith, once, one, occurrences-cons weak weak (rest ++ all_waits below), occurrences-append weak rest (all_waits below)) in
      went script w [] after s.running (refl, refl) refl
      (represents_giving_up store store v below (c (machine.AfterCallback weak rest)) (c (machine.AfterRelease weak rest)) s.shows.represents
      s.alone (weak ∷ []) v.objects s.shows.represents.objects
      (with_same_rows store store refl refl refl) (inr parts) (λ q. omega (arith, occurrences-cons q weak rest, occurrences-cons q weak [])))
      s.shows.numbers s.shows.running (λ i. Releasing (sym refs i) ∷ Collecting (c (machine.AfterRelease weak (sym (rest_is pending weak first others) i))) ∷ below) refl refl)

  -- one freed by giving it up is counted
  pub turn-died : (weak : ℕ) → IsListed store → ¬ IsLive store weak
      → CollectSteps script (collection_at facts (phase_of.AfterRelease weak) None) store policy (record (collection_at facts phase_of.WeakCalling None)
      { collected = facts.collected + 1 }) store policy answer_of.Continue
  turn-died weak listed dead =
      steps_at script (collection_at facts (phase_of.AfterRelease weak) None) store policy (record (collection_at facts phase_of.WeakCalling None)
      { collected = facts.collected + 1 }) store policy answer_of.Continue
      (λ asked v below s.
      let pending : List ℕ = list_at store Pend in
      let others : List ℕ = filter (λ q. not (q == weak)) pending in
      let c : machine.Collection = collection_of asked (collection_at facts phase_of.WeakCalling None) (machine.AfterRelease weak others) in
      let d : machine.CollectPhase → machine.Collection = collection_of asked (record (collection_at facts phase_of.WeakCalling None) { collected = facts.collected + 1 }) in
      let w : World = with_stack (Collecting c ∷ below) v in
      let after : World = with_stack (Collecting (d (machine.WeakCalling others)) ∷ below) v in
      let gone : is_in_map v.objects weak ≡ false = ap (λ (os : List Object). is_in_map os weak) (sym s.shows.represents.objects) ∙ in_map store weak ∙ dead_none (fin.get store.nodes weak) dead in
      let all : others ≡ pending = others_are_all store listed weak dead in
      let goes : ([], after) ≡ after_release c weak others below w =
      ap (λ b. if b then (
        [],
        Rattle.cg_machine.specs.Collect.collection_at c (machine.WeakCalling others) below
            (with_change (object_placed (Gen (older c.generation))) weak w),
      ) else ([], after)) (sym gone) in
      went script w [] after s.running (ap (λ (t : Transition). t.0) goes, ap (λ (t : Transition). t.1) goes) refl
      (represents_same store v below c (d (machine.WeakCalling others)) s.shows.represents s.alone (sym all) (λ q. refl))
      s.shows.numbers s.shows.running (λ i. Collecting (d (machine.WeakCalling (all i))) ∷ below) refl refl)

  -- another moves to the older generation
  module _ (weak : ℕ) (listed : IsListed store) (live : IsLive store weak) (g : ℕ) (small : g ≤ 2) where
    abbrev aged : Store
    aged = moved weak (Gen (older g)) store

    pub turn-aged : facts.generation ≡ g → CollectSteps script (collection_at facts (phase_of.AfterRelease weak) None) store policy
        (collection_at facts phase_of.WeakCalling None) aged policy answer_of.Continue
    turn-aged generation =
        steps_at script (collection_at facts (phase_of.AfterRelease weak) None) store policy (collection_at facts phase_of.WeakCalling None) aged policy answer_of.Continue
        (λ asked v below s.
        let pending : List ℕ = list_at store Pend in
        let others : List ℕ = filter (λ q. not (q == weak)) pending in
        let c : machine.CollectPhase → machine.Collection = collection_of asked (collection_at facts phase_of.WeakCalling None) in
        let w : World = with_stack (Collecting (c (machine.AfterRelease weak others)) ∷ below) v in
        let objects : List Object = change (object_placed (Gen (older facts.generation))) weak v.objects in
        let after : World = with_stack (Collecting (c (machine.WeakCalling others)) ∷ below) (with_objects objects v) in
        let same : objects_of store ≡ v.objects = s.shows.represents.objects in
        let there : is_in_map v.objects weak ≡ true = ap (λ (os : List Object). is_in_map os weak) (sym same) ∙ in_map store weak ∙ live_some (fin.get store.nodes weak) live in
        let all : list_at aged Pend ≡ others = others_wait store weak listed live g small in
        let goes : ([], after) ≡ after_release (c (machine.AfterRelease weak others)) weak others below w =
        ap (λ b. if b then ([], after) else (
          [],
          Rattle.cg_machine.specs.Collect.collection_at (record (c (machine.AfterRelease weak others))
              { collected = facts.collected + 1 }) (machine.WeakCalling others) below w,
        )) (sym there) in
        went script w [] after s.running (ap (λ (t : Transition). t.0) goes, ap (λ (t : Transition). t.1) goes) refl
        (represents_on store aged v below (c (machine.AfterRelease weak others)) (c (machine.WeakCalling others)) s.shows.represents s.alone objects
        (objects-changed store weak (with_place (Gen (older g))) (object_placed (Gen (older g))) (λ k n. refl)
        ∙ ap (change (object_placed (Gen (older g))) weak) same ∙ ap (λ k. change (object_placed (Gen (older k))) weak v.objects) (sym generation))
        (with_same_rows store aged refl refl refl) all (λ q. omega (arith, outside-moved weak (Gen (older g)) store q)))
        s.shows.numbers s.shows.running (λ i. Collecting (c (machine.WeakCalling (sym all i))) ∷ below) refl refl)

-- the callback of one that has one
pub callback_there : (x : Option ℕ) → IsSome x → x ≡ Some (unwrap_or x 0)
callback_there None h = absurd (cc)
callback_there (Some f) h = refl
