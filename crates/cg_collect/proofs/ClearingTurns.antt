-- The clearing: in the turn of a member of the final set, the heap does the machine's step.
use Rattle.std.proofs.Common.{◌≡◌, ◌≢◌, refl, sym, ◌∙◌, ap, subst, ℕ, ◌+◌, ◌*◌, ◌<◌, Bool, true, false, inl, inr, List, [], ◌∷◌, ◌++◌, length, length-append, Option, Some, None, IsSome, arith}
use Rattle.std.specs.Prelude.{if◌then◌else◌, slice_get, sum_by, IfSome}
use Rattle.std.specs.FinMap as fin
use Rattle.cg_value.specs.declared.Val.TheVariants.{Ref}
use Rattle.cg_value.specs.declared.Entry.{Entry}
use Rattle.cg_value.specs.declared.KindCode.{KindCode}
use Rattle.cg_value.specs.declared.KindCode.TheVariants.{Tuple}
use Rattle.cg_value.specs.declared.Place.{Place}
use Rattle.cg_value.specs.declared.Place.TheVariants.{Gen, Cand, Seen, Back, Legacy, Pend}
use Rattle.cg_script.specs.declared.Script.{Script}
use Rattle.cg_graph.specs.Member.{Includes}
use Rattle.cg_graph.specs.Value.{references, entry_references, last_entry, without_last, item}
use Rattle.cg_graph.specs.Holdings.{occurrences}
use Rattle.cg_graph.specs.Object.{Object, change, with_place as object_placed, with_entries as object_entries, entries_of as object_entries_of, is_at, is_tuple, objects_at, serials_at}
use Rattle.cg_graph.specs.Places.{place_number, without_serial}
use Rattle.cg_graph.specs.Store.{Store, Node, IsLive, list_at, objects_of, object_from, entries_of, inner, place_of, place_in}
use Rattle.cg_graph.specs.Changes.{held, more, moved, rewritten, with_place, with_entries}
use Rattle.cg_graph.proofs.Members.{either, Includes-filter}
use Rattle.cg_graph.proofs.Objects.{objects-same, objects-changed, occurrences-append}
use Rattle.cg_arena.specs.Nodes.{IsPlace}
use Rattle.cg_heap.specs.Calls.{IsListed}
use Rattle.cg_heap.proofs.CallerLemmas.{lives_on, kinds-rewritten}
use Rattle.cg_heap.proofs.HoldLemmas.{outside-moved, outside-held, outside-rewritten, entries_hold}
use Rattle.cg_heap.proofs.ReferenceLemmas.{references-append, entry-le}
use Rattle.cg_machine.specs.declared.event.Event.TheVariants.{GcSaved}
use Rattle.cg_machine.specs.World as machine
use Rattle.cg_machine.specs.World.{World, Activity, Releasing, Collecting, with_stack, with_objects, with_change}
use Rattle.cg_machine.specs.Frame.{Transition}
use Rattle.cg_machine.specs.Collect.{older, has_flag, save_all, saved, empties, collection_at as machine_at}
use Rattle.cg_policy.specs.Policy.{Policy}
use Rattle.cg_policy.specs.Flagset.{bits_of}
use Rattle.cg_trial.proofs.Lists.{occurs, absent, without-absent, Includes-without}
use Rattle.cg_trial.proofs.PlacesOfObjects.{once_at, is_there, where_is}
use Rattle.cg_death.specs.declared.release.Release.{Release}
use Rattle.cg_death.specs.Activities.{references_left}
use Rattle.cg_death.proofs.Clearing.{none_first}
use Rattle.cg_death.proofs.Emptying.{entries-agree}
use Rattle.cg_death.proofs.WorkLeft.{entries-held, entries-rewritten}
use Rattle.cg_death.proofs.Places.{moved-cases, only-one}
use Rattle.cg_collect.specs.declared.answer.CollectStep.TheVariants as answer_of
use Rattle.cg_collect.specs.declared.collection.Facts.{Facts}
use Rattle.cg_collect.specs.declared.phase.Phase.TheVariants as phase_of
use Rattle.cg_collect.specs.Phases.{collection_of}
use Rattle.cg_collect.specs.Ready.{IsApartUnseen, IsUnsaved}
use Rattle.cg_collect.specs.Answers.{CollectSteps}
use Rattle.cg_collect.specs.Turns.{collection_at, to_clear, still_cleared, others_cleared, still_released}
use Rattle.cg_represents.proofs.Places.{place_at_is}
use Rattle.cg_collect.proofs.PlacesOfObjects.{node_of_live, object_there, entries_on}
use Rattle.cg_collect.proofs.Moving.{moved_same, moved_from}
use Rattle.cg_collect.proofs.Garbage.{garbage-moved}
use Rattle.cg_collect.proofs.Pending.{apart_away}
use Rattle.cg_collect.proofs.WorkLeft.{sum_alike, sum-one_less, saved_names, place-rewritten, place-held, entries-rewritten_other, objects-saved, change-absent, last_entry-append}
use Rattle.cg_collect.proofs.FinalizerPhase.{still_unsaved, nobody_stands}
use Rattle.cg_collect.proofs.Worlds.{steps_at, with_same_rows, pending_is, represents_on, represents_giving_up, represents_same, went}

-- the machine's turn of a member, by its cases
abbrev chosen : machine.Collection → Object → List Activity → World → Bool → Bool → Transition
chosen c x below w all tuple =
    if all
    then (GcSaved x.serial ∷ [], machine_at c machine.Turns below (with_objects (change (object_placed (Gen (older c.generation))) x.serial (saved x.serial w.objects)) w))
    else if tuple
    then ([], machine_at c machine.Turns below (with_change (object_placed (Gen (older c.generation))) x.serial w))
    else ([], machine_at c (machine.Turn x.serial) below w)

-- no candidate is left
module _ (store : Store) (listed : IsListed store) (none : slice_get (list_at store Cand) 0 ≡ None) where
  pub turn-ending : (script : Script) (facts : Facts) (policy : Policy) → CollectSteps script (collection_at facts phase_of.Turns None) store policy
      (collection_at facts phase_of.Ending None) store policy answer_of.Continue
  turn-ending script facts policy =
      steps_at script (collection_at facts phase_of.Turns None) store policy (collection_at facts phase_of.Ending None) store policy answer_of.Continue
      (λ asked v below s.
      let c : machine.CollectPhase → machine.Collection = collection_of asked (collection_at facts phase_of.Turns None) in
      let w : World = with_stack (Collecting (c machine.Turns) ∷ below) v in
      let after : World = with_stack (Collecting (c machine.Ending) ∷ below) v in
      went script w [] after s.running (inr (
        ap (λ (os : List Object). serials_at os Cand) (sym s.shows.represents.objects)
            ∙ nobody_stands store listed Cand (none_first (list_at store Cand) none),
        (refl, refl),
      )) refl
      (represents_same store v below (c machine.Turns) (c machine.Ending) s.shows.represents s.alone (s.shows.represents.collection (c machine.Turns) (inl refl)) (λ q. refl))
      s.shows.numbers s.shows.running refl refl refl)

-- An object moves to the older generation.
module _ (store : Store) (o : ℕ) where
  none_waits : (q : Place) → 6 ≢ place_number q → list_at store Pend ≡ [] → list_at (moved o q store) Pend ≡ []
  none_waits q other none = either (moved-cases store o q other) (λ e. e ∙ none) (λ e. e ∙ ap (without_serial o) none)

  older_apart : (g : ℕ) → 6 ≢ 7 + older g
  older_apart g e = absurd (omega (arith, e))

  -- it does so after its turn
  pub turn-older : (script : Script) (facts : Facts) (policy : Policy)
      → CollectSteps script (collection_at facts (phase_of.AfterTurn o) None) store policy (collection_at facts phase_of.Turns None)
      (moved o (Gen (older facts.generation)) store) policy answer_of.Continue
  turn-older script facts policy =
      steps_at script (collection_at facts (phase_of.AfterTurn o) None) store policy (collection_at facts phase_of.Turns None) (moved o (Gen (older facts.generation)) store) policy answer_of.Continue
      (λ asked v below s.
      let c : machine.CollectPhase → machine.Collection = collection_of asked (collection_at facts phase_of.Turns None) in
      let w : World = with_stack (Collecting (c (machine.AfterTurn o)) ∷ below) v in
      let p : Place = Gen (older facts.generation) in
      let objects : List Object = change (object_placed p) o v.objects in
      let after : World = with_stack (Collecting (c machine.Turns) ∷ below) (with_objects objects v) in
      went script w [] after s.running (refl, refl) refl
      (represents_on store (moved o p store) v below (c (machine.AfterTurn o)) (c machine.Turns) s.shows.represents s.alone objects
      (objects-changed store o (with_place p) (object_placed p) (λ s n. refl) ∙ ap (change (object_placed p) o) s.shows.represents.objects)
      (with_same_rows store (moved o p store) refl refl refl)
      (none_waits p (older_apart facts.generation) (pending_is store store v below (c (machine.AfterTurn o)) (c machine.Turns) s.shows.represents s.alone))
      (λ q. omega (arith, outside-moved o p store q)))
      s.shows.numbers s.shows.running refl refl refl)

-- A member of the final set.
module _ (store : Store) (o : ℕ) (at : place_of store o ≡ Cand) where
  module _ (n : Node) (got : fin.get store.nodes o ≡ Some n) where
    abbrev x : Object
    x = object_from store.rows o n

    is_member : (objects : List Object) → objects_of store ≡ objects → Includes (objects_at objects Cand) x
    is_member objects same =
        subst (λ (os : List Object). Includes (objects_at os Cand) x) same
        (Includes-filter (is_at Cand) (objects_of store) x (place_at_is n.place Cand (sym (ap place_in got) ∙ at)) (object_there store o n got))

    -- a tuple cannot be cleared
    pub turn-tuple : (script : Script) (facts : Facts) (policy : Policy) → has_flag (bits_of facts.flags) save_all ≡ false → is_tuple x ≡ true
        → CollectSteps script (collection_at facts phase_of.Turns None) store policy (collection_at facts phase_of.Turns None) (moved o (Gen (older facts.generation)) store) policy answer_of.Continue
    turn-tuple script facts policy flag tuple =
        steps_at script (collection_at facts phase_of.Turns None) store policy (collection_at facts phase_of.Turns None) (moved o (Gen (older facts.generation)) store) policy answer_of.Continue
        (λ asked v below s.
        let c : machine.Collection = collection_of asked (collection_at facts phase_of.Turns None) machine.Turns in
        let w : World = with_stack (Collecting c ∷ below) v in
        let p : Place = Gen (older facts.generation) in
        let objects : List Object = change (object_placed p) o v.objects in
        let after : World = with_stack (Collecting c ∷ below) (with_objects objects v) in
        went script w [] after s.running (inl (record {
          object = x;
          member = is_member v.objects s.shows.represents.objects;
          yields = (λ i. (chosen c x below w (sym flag i) (sym tuple i)).0, λ i. (chosen c x below w (sym flag i) (sym tuple i)).1);
        })) refl
        (represents_on store (moved o p store) v below c c s.shows.represents s.alone objects
        (objects-changed store o (with_place p) (object_placed p) (λ s n. refl) ∙ ap (change (object_placed p) o) s.shows.represents.objects)
        (with_same_rows store (moved o p store) refl refl refl)
        (none_waits store o p (older_apart store o facts.generation) (pending_is store store v below c c s.shows.represents s.alone))
        (λ q. omega (arith, outside-moved o p store q)))
        s.shows.numbers s.shows.running refl refl refl)

    -- any other is held, to be emptied
    pub turn-held : (script : Script) (facts : Facts) (policy : Policy) → has_flag (bits_of facts.flags) save_all ≡ false → is_tuple x ≡ false
        → CollectSteps script (collection_at facts phase_of.Turns None) store policy (collection_at facts (phase_of.Turn o) None) (held (o ∷ []) store) policy answer_of.Continue
    turn-held script facts policy flag tuple =
        steps_at script (collection_at facts phase_of.Turns None) store policy (collection_at facts (phase_of.Turn o) None) (held (o ∷ []) store) policy answer_of.Continue
        (λ asked v below s.
        let c : machine.Collection = collection_of asked (collection_at facts phase_of.Turns None) machine.Turns in
        let d : machine.Collection = collection_of asked (collection_at facts phase_of.Turns None) (machine.Turn o) in
        let w : World = with_stack (Collecting c ∷ below) v in
        let after : World = with_stack (Collecting d ∷ below) v in
        let live : IsLive store o = subst IsSome (sym got) refl in
        went script w [] after s.running (inl (record {
          object = x;
          member = is_member v.objects s.shows.represents.objects;
          yields = (λ i. (chosen c x below w (sym flag i) (sym tuple i)).0, λ i. (chosen c x below w (sym flag i) (sym tuple i)).1);
        })) refl
        (represents_on store (held (o ∷ []) store) v below c d s.shows.represents s.alone v.objects
        (objects-same store (λ s n. more (occurrences s (o ∷ [])) n) (λ s n. refl) ∙ s.shows.represents.objects)
        (with_same_rows store (held (o ∷ []) store) refl refl refl)
        (pending_is store store v below c d s.shows.represents s.alone)
        (λ q. omega (arith, outside-held (o ∷ []) store q (λ h. subst (IsLive store) (sym (only-one o q h)) live))))
        s.shows.numbers s.shows.running refl refl refl)

    -- with SAVEALL it is saved
    abbrev kept : Store
    kept = rewritten 1 (entries_of store 1 ++ item (Ref o) ∷ []) store

    pub turn-saved : (script : Script) (facts : Facts) (policy : Policy) → has_flag (bits_of facts.flags) save_all ≡ true
        → CollectSteps script (collection_at facts phase_of.Turns None) store policy (collection_at facts phase_of.Turns None)
        (moved o (Gen (older facts.generation)) kept) policy (answer_of.Emit (GcSaved o))
    turn-saved script facts policy flag =
        steps_at script (collection_at facts phase_of.Turns None) store policy (collection_at facts phase_of.Turns None) (moved o (Gen (older facts.generation))
        kept) policy (answer_of.Emit (GcSaved o))
        (λ asked v below s.
        let c : machine.Collection = collection_of asked (collection_at facts phase_of.Turns None) machine.Turns in
        let w : World = with_stack (Collecting c ∷ below) v in
        let p : Place = Gen (older facts.generation) in
        let objects : List Object = change (object_placed p) o (saved o v.objects) in
        let after : World = with_stack (Collecting c ∷ below) (with_objects objects v) in
        went script w (GcSaved o ∷ []) after s.running (inl (record {
          object = x;
          member = is_member v.objects s.shows.represents.objects;
          yields = (λ i. (chosen c x below w (sym flag i) (is_tuple x)).0, λ i. (chosen c x below w (sym flag i) (is_tuple x)).1);
        })) refl
        (represents_on store (moved o p kept) v below c c s.shows.represents s.alone objects
        (objects-changed kept o (with_place p) (object_placed p) (λ s n. refl) ∙ ap (change (object_placed p) o) (objects-saved store o ∙ ap (saved o) s.shows.represents.objects))
        (with_same_rows store (moved o p kept) refl refl refl)
        (either (moved-cases kept o p (older_apart store o facts.generation)) (λ e. e ∙ pending_is store store v below c c s.shows.represents s.alone)
        (λ e. e ∙ ap (without_serial o) (pending_is store store v below c c s.shows.represents s.alone)))
        (λ q. omega (arith, outside-moved o p kept q, outside-rewritten 1 (entries_of store 1 ++ item (Ref o) ∷ []) store q)))
        s.shows.numbers s.shows.running refl refl refl)

-- its entries are removed
module _ (store : Store) (o : ℕ) where
  -- one that died in its turn
  pub turn-died : ¬ IsLive store o → (script : Script) (facts : Facts) (policy : Policy)
      → CollectSteps script (collection_at facts (phase_of.AfterTurn o) None) store policy (collection_at facts phase_of.Turns None) store policy answer_of.Continue
  turn-died gone script facts policy =
      steps_at script (collection_at facts (phase_of.AfterTurn o) None) store policy (collection_at facts phase_of.Turns None) store policy answer_of.Continue
      (λ asked v below s.
      let c : machine.CollectPhase → machine.Collection = collection_of asked (collection_at facts phase_of.Turns None) in
      let w : World = with_stack (Collecting (c (machine.AfterTurn o)) ∷ below) v in
      let p : Place = Gen (older facts.generation) in
      let objects : List Object = change (object_placed p) o v.objects in
      let after : World = with_stack (Collecting (c machine.Turns) ∷ below) (with_objects objects v) in
      went script w [] after s.running (refl, refl) refl
      (represents_on store store v below (c (machine.AfterTurn o)) (c machine.Turns) s.shows.represents s.alone objects
      (sym (change-absent store (object_placed p) o gone) ∙ ap (change (object_placed p) o) s.shows.represents.objects)
      (with_same_rows store store refl refl refl)
      (pending_is store store v below (c (machine.AfterTurn o)) (c machine.Turns) s.shows.represents s.alone)
      (λ q. omega arith))
      s.shows.numbers s.shows.running refl refl refl)

  pub turn-emptied : (release : Release) → references_left release ≡ o ∷ [] → entries_of store o ≡ [] → (script : Script) (facts : Facts) (policy : Policy)
      → CollectSteps script (collection_at facts (phase_of.Turn o) None) store policy (collection_at facts (phase_of.AfterTurn o) (Some release)) store policy answer_of.Continue
  turn-emptied release left empty script facts policy =
      steps_at script (collection_at facts (phase_of.Turn o) None) store policy (collection_at facts (phase_of.AfterTurn o) (Some release)) store policy answer_of.Continue
      (λ asked v below s.
      let c : machine.CollectPhase → machine.Collection = collection_of asked (collection_at facts phase_of.Turns None) in
      let w : World = with_stack (Collecting (c (machine.Turn o)) ∷ below) v in
      let after : World = with_stack (Releasing (o ∷ []) ∷ Collecting (c (machine.AfterTurn o)) ∷ below) v in
      let last : last_entry (object_entries_of v.objects o) ≡ None = ap last_entry (ap (λ os. object_entries_of os o) (sym s.shows.represents.objects) ∙ entries-agree store o ∙ empty) in
      went script w [] after s.running (λ i. (empties (c (machine.Turn o)) o below w (sym last i)).0, λ i. (empties (c (machine.Turn o)) o below w (sym last i)).1) refl
      (represents_giving_up store store v below (c (machine.Turn o)) (c (machine.AfterTurn o)) s.shows.represents s.alone (o ∷ []) v.objects s.shows.represents.objects
      (with_same_rows store store refl refl refl) (pending_is store store v below (c (machine.Turn o)) (c (machine.AfterTurn o)) s.shows.represents s.alone) (λ q. omega arith))
      s.shows.numbers s.shows.running (λ i. Releasing (sym left i) ∷ Collecting (c (machine.AfterTurn o)) ∷ below) refl refl)

  -- the last is removed
  module _ (sound : (q : ℕ) → 0 < inner store q → IsLive store q) (e : Entry) (last : entries_of store o ≡ without_last (entries_of store o) ++ e ∷ []) where
    abbrev rest : List Entry
    rest = without_last (entries_of store o)

    abbrev pub taken : Store
    taken = held (entry_references e) (rewritten o rest store)

    refs_live : (q : ℕ) → 0 < occurrences q (entry_references e) → IsLive (rewritten o rest store) q
    refs_live q there =
        let split : occurrences q (references (entries_of store o)) ≡ occurrences q (references (rest ++ e ∷ [])) = ap (λ es. occurrences q (references es)) last in
        lives_on store (rewritten o rest store) (kinds-rewritten o rest store) q
        (sound q (omega (arith, entries_hold store o q, split, references-append q rest (e ∷ []), occurrences-append q (entry_references e) [], there)))

    pub turn-taken : (release : Release) → references_left release ≡ entry_references e → (script : Script) (facts : Facts) (policy : Policy)
        → CollectSteps script (collection_at facts (phase_of.Turn o) None) store policy (collection_at facts (phase_of.Turn o) (Some release)) taken policy answer_of.Continue
    turn-taken release left script facts policy =
        steps_at script (collection_at facts (phase_of.Turn o) None) store policy (collection_at facts (phase_of.Turn o) (Some release)) taken policy answer_of.Continue
        (λ asked v below s.
        let c : machine.Collection = collection_of asked (collection_at facts phase_of.Turns None) (machine.Turn o) in
        let w : World = with_stack (Collecting c ∷ below) v in
        let same : objects_of store ≡ v.objects = s.shows.represents.objects in
        let entries : object_entries_of v.objects o ≡ entries_of store o = ap (λ os. object_entries_of os o) (sym same) ∙ entries-agree store o in
        let objects : List Object = change (object_entries (without_last (object_entries_of v.objects o))) o v.objects in
        let after : World = with_stack (Releasing (entry_references e) ∷ Collecting c ∷ below) (with_objects objects v) in
        let found : last_entry (object_entries_of v.objects o) ≡ Some e = ap last_entry (entries ∙ last) ∙ last_entry-append rest e in
        went script w [] after s.running (λ i. (empties c o below w (sym found i)).0, λ i. (empties c o below w (sym found i)).1) refl
        (represents_giving_up store taken v below c c s.shows.represents s.alone (entry_references e) objects
        (objects-same (rewritten o rest store) (λ s n. more (occurrences s (entry_references e)) n) (λ s n. refl)
        ∙ objects-changed store o (with_entries rest) (object_entries rest) (λ s n. refl)
        ∙ ap (change (object_entries rest) o) same
        ∙ ap (λ es. change (object_entries (without_last es)) o v.objects) (sym entries))
        (with_same_rows store taken refl refl refl) (pending_is store store v below c c s.shows.represents s.alone)
        (λ q. omega (arith, outside-held (entry_references e) (rewritten o rest store) q (refs_live q), outside-rewritten o rest store q)))
        s.shows.numbers s.shows.running (λ i. Releasing (sym left i) ∷ Collecting c ∷ below) refl refl)

-- What each of them leaves. The one that has its turn may be anywhere.
module _ (store : Store) (listed : IsListed store) (o : ℕ) (live : IsLive store o) (g : ℕ) where
  abbrev p : Place
  p = Gen (older g)

  older_place : IsPlace p
  older_place = omega arith

  pub apart_older : 1 ≢ o → IsApartUnseen store → IsApartUnseen (moved o p store)
  apart_older other = apart_away store listed o live p older_place other (λ e. cc) (λ e. cc) (λ e. cc) (λ e. cc)

  pub others_left : still_cleared (moved o p store) ≡ others_cleared store o
  others_left =
      ap (sum_by (to_clear (moved o p store))) (moved_from store listed o live p older_place Cand (λ e. cc))
      ∙ sum_alike (to_clear (moved o p store)) (to_clear store) (without_serial o (list_at store Cand)) (λ q m. ap (λ (es : List Entry). 16 + 4 * length es)
      (entries_on store (moved o p store) (moved_same store listed o live p older_place) q))

-- one that has died is none of them
pub none_but_others : (store : Store) → IsListed store → (o : ℕ) → ¬ IsLive store o → others_cleared store o ≡ still_cleared store
none_but_others store listed o dead = ap (sum_by (to_clear store)) (without-absent o (list_at store Cand) (absent (list_at store Cand) o (λ m. dead (where_is store listed Cand o m).0)))

module _ (store : Store) (listed : IsListed store) (o : ℕ) (live : IsLive store o) where
  pub one_and_others : place_of store o ≡ Cand → others_cleared store o + to_clear store o ≡ still_cleared store
  one_and_others at = sum-one_less (to_clear store) o (list_at store Cand) (omega (arith, once_at store listed Cand o, occurs (list_at store Cand) o (is_there store listed Cand o live at)))

  pub apart_held : IsApartUnseen store → IsApartUnseen (held (o ∷ []) store)
  apart_held (apart, unseen) = (
    record {
      garbage = place-held (o ∷ []) store 1 ∙ apart.garbage;
      back = apart.back;
      candidates = still_unsaved store (held (o ∷ []) store) Cand (entries-held (o ∷ []) store 1) apart.candidates;
      seen = still_unsaved store (held (o ∷ []) store) Seen (entries-held (o ∷ []) store 1) apart.seen;
      legacy = still_unsaved store (held (o ∷ []) store) Legacy (entries-held (o ∷ []) store 1) apart.legacy;
    },
    unseen,
  )

  pub as_much_for_it : to_clear (held (o ∷ []) store) o ≡ to_clear store o
  as_much_for_it = ap (λ (es : List Entry). 16 + 4 * length es) (entries-held (o ∷ []) store o)

  pub as_much_for_others : others_cleared (held (o ∷ []) store) o ≡ others_cleared store o
  as_much_for_others = sum_alike (to_clear (held (o ∷ []) store)) (to_clear store) (without_serial o (list_at store Cand))
      (λ q m. ap (λ (es : List Entry). 16 + 4 * length es) (entries-held (o ∷ []) store q))

  -- an entry was removed
  module _ (e : Entry) (last : entries_of store o ≡ without_last (entries_of store o) ++ e ∷ []) where
    abbrev now : Store
    now = held (entry_references e) (rewritten o (without_last (entries_of store o)) store)

    others_now : (q : ℕ) → q ≢ o → entries_of now q ≡ entries_of store q
    others_now q differs = entries-held (entry_references e) (rewritten o (without_last (entries_of store o)) store) q ∙ entries-rewritten_other store o (without_last (entries_of store o)) q differs

    place_now : (q : ℕ) → place_of now q ≡ place_of store q
    place_now q = place-held (entry_references e) (rewritten o (without_last (entries_of store o)) store) q ∙ place-rewritten store o (without_last (entries_of store o)) q

    pub apart_taken : 1 ≢ o → IsApartUnseen store → IsApartUnseen now
    apart_taken other (apart, unseen) = (
      record {
        garbage = place_now 1 ∙ apart.garbage;
        back = apart.back;
        candidates = still_unsaved store now Cand same apart.candidates;
        seen = still_unsaved store now Seen same apart.seen;
        legacy = still_unsaved store now Legacy same apart.legacy;
      },
      unseen,
    )
      where
        same : entries_of now 1 ≡ entries_of store 1
        same = others_now 1 other

    pub taken_falls : (release : Release) → references_left release ≡ entry_references e → others_cleared now o + to_clear now o + 8 + still_released
        (Some release) < others_cleared store o + to_clear store o + 8 + 0
    taken_falls release left =
        let here : entries_of now o ≡ without_last (entries_of store o) = entries-held (entry_references e) (rewritten o (without_last (entries_of store o))
        store) o ∙ entries-rewritten store o (without_last (entries_of store o)) live in
        let few : length (references_left release) ≡ length (entry_references e) = ap length left in
        let fewer : length (entries_of now o) ≡ length (without_last (entries_of store o)) = ap length here in
        let one_more : length (entries_of store o) ≡ length (without_last (entries_of store o) ++ e ∷ []) = ap length last in
        let others : others_cleared now o ≡ others_cleared store o =
        sum_alike (to_clear now) (to_clear store) (without_serial o (list_at store Cand)) (λ q m. ap (λ (es : List Entry). 16 + 4 * length es)
        (others_now q (Includes-without o (list_at store Cand) q m).1)) in
        omega (arith, few, fewer, one_more, others, entry-le e, length-append (without_last (entries_of store o)) (e ∷ []))

-- what is left after one was saved and moved
module _ (store : Store) (o : ℕ) (root : IsLive store 1) (at : place_of store o ≡ Cand) (g : ℕ) where
  abbrev then_kept : Store
  then_kept = rewritten 1 (entries_of store 1 ++ item (Ref o) ∷ []) store

  pub kept_at : place_of then_kept o ≡ Cand
  kept_at = place-rewritten store 1 (entries_of store 1 ++ item (Ref o) ∷ []) o ∙ at

  pub apart_saved : IsListed then_kept → IsLive then_kept o → IsApartUnseen store → IsApartUnseen (moved o (Gen (older g)) then_kept)
  apart_saved listed live (apart, unseen) = (
    record {
      garbage = garbage-moved then_kept o Cand (Gen (older g)) (place-rewritten store 1 (entries_of store 1 ++ item (Ref o) ∷ []) 1 ∙ apart.garbage) kept_at (λ e. cc);
      back = from Back (λ e. cc) ∙ ap (without_serial o) apart.back;
      candidates = unsaved Cand (λ e. cc) apart.candidates;
      seen = unsaved Seen (λ e. cc) apart.seen;
      legacy = unsaved Legacy (λ e. cc) apart.legacy;
    },
    from Seen (λ e. cc) ∙ ap (without_serial o) unseen,
  )
    where
      there : IsPlace (Gen (older g))
      there = omega arith

      from : (q : Place) → q ≢ Gen (older g) → list_at (moved o (Gen (older g)) then_kept) q ≡ without_serial o (list_at store q)
      from = moved_from then_kept listed o live (Gen (older g)) there

      names : entries_of (moved o (Gen (older g)) then_kept) 1 ≡ entries_of store 1 ++ item (Ref o) ∷ []
      names = entries_on then_kept (moved o (Gen (older g)) then_kept) (moved_same then_kept listed o live (Gen (older g)) there) 1 ∙ entries-rewritten store 1
          (entries_of store 1 ++ item (Ref o) ∷ []) root

      unsaved : (q : Place) → q ≢ Gen (older g) → IsUnsaved store q → IsUnsaved (moved o (Gen (older g)) then_kept) q
      unsaved q other was r m named =
          let (stood, differs) = Includes-without o (list_at store q) r (subst (λ l. Includes l r) (from q other) m) in
          either (saved_names (entries_of store 1) o r (subst (λ (es : List Entry). Includes (references es) r) names named)) (λ k. was r stood k) differs

-- By the kind that the heap reports.
code_is : (x : Option Node) (n : Node) (k : KindCode) → x ≡ Some n → IfSome x (λ m. k ≡ m.code) → k ≡ n.code
code_is x n k e h = subst (λ y. IfSome y (λ (m : Node). k ≡ m.code)) e h

not_tuple : (x : Object) (k : KindCode) → k ≢ Tuple → is_tuple (record x { code = k }) ≡ false
not_tuple x Tuple other = absurd (other refl)
not_tuple x k other = refl

module _ (store : Store) (o : ℕ) (live : IsLive store o) (at : place_of store o ≡ Cand) (script : Script) (facts : Facts) (policy : Policy) where
  pub tuple-turn : IfSome (fin.get store.nodes o) (λ n. Tuple ≡ n.code) → has_flag (bits_of facts.flags) save_all ≡ false
      → CollectSteps script (collection_at facts phase_of.Turns None) store policy (collection_at facts phase_of.Turns None) (moved o (Gen (older facts.generation)) store) policy answer_of.Continue
  tuple-turn kind flag =
      let (n, got) = node_of_live store o live in
      turn-tuple store o at n got script facts policy flag (ap (λ (k : KindCode). is_tuple (record (object_from store.rows o n) { code = k })) (sym (code_is (fin.get store.nodes o) n Tuple got kind)))

  pub held-turn : (k : KindCode) → IfSome (fin.get store.nodes o) (λ n. k ≡ n.code) → k ≢ Tuple → has_flag (bits_of facts.flags) save_all ≡ false
      → CollectSteps script (collection_at facts phase_of.Turns None) store policy (collection_at facts (phase_of.Turn o) None) (held (o ∷ []) store) policy answer_of.Continue
  held-turn k kind other flag =
      let (n, got) = node_of_live store o live in
      turn-held store o at n got script facts policy flag
      (ap (λ (j : KindCode). is_tuple (record (object_from store.rows o n) { code = j })) (sym (code_is (fin.get store.nodes o) n k got kind)) ∙ not_tuple (object_from store.rows o n) k other)

  pub saved-turn : has_flag (bits_of facts.flags) save_all ≡ true
      → CollectSteps script (collection_at facts phase_of.Turns None) store policy (collection_at facts phase_of.Turns None)
      (moved o (Gen (older facts.generation)) (rewritten 1 (entries_of store 1 ++ item (Ref o) ∷ []) store)) policy (answer_of.Emit (GcSaved o))
  saved-turn flag = let (n, got) = node_of_live store o live in turn-saved store o at n got script facts policy flag
