-- When the weak phase clears a weak reference, the heap does the machine's step.
use Rattle.std.proofs.Common.{◌≡◌, ◌≢◌, refl, sym, ◌∙◌, ap, subst, ℕ, ◌<◌, Bool, true, false, not, List, [], ◌∷◌, ◌++◌, length, Option, Some, None, IsSome, inl, inr, arith}
use Rattle.std.specs.Prelude.{◌==◌, ◌||◌, if◌then◌else◌, option_map, is_some}
use Rattle.std.specs.FinMap as fin
use Rattle.std.proofs.lemmas.Bool.{not-true, cases_eq, eq-eqb}
use Rattle.cg_value.specs.declared.KindCode.TheVariants.{List as ListKind, Weak}
use Rattle.cg_value.specs.declared.Place.{Place}
use Rattle.cg_value.specs.declared.Place.TheVariants.{Cand, Seen, Back, Legacy, Pend}
use Rattle.cg_script.specs.declared.Script.{Script}
use Rattle.cg_graph.specs.Member.{Includes}
use Rattle.cg_graph.specs.Holdings.{occurrences}
use Rattle.cg_graph.specs.Object.{Object, change, with_place as object_placed, with_referent, same_place}
use Rattle.cg_graph.specs.Places.{place_number, list_of, move_between}
use Rattle.cg_graph.specs.Rows.{Row, IsRising, next_older_in, without_row}
use Rattle.cg_graph.specs.Store.{Store, Node, IsLive, HasCode, list_at, objects_of, entries_of, entries_in, place_of, place_in}
use Rattle.cg_graph.specs.Changes.{held, more, moved, with_place}
use Rattle.cg_graph.proofs.Maps.{get-mapped, get-changed_other}
use Rattle.cg_graph.proofs.Members.{either, cases_of, true_and, Includes-append_cases}
use Rattle.cg_graph.proofs.Objects.{objects-same, objects-changed, occurrences-append}
use Rattle.cg_arena.specs.Nodes.{IsPlace}
use Rattle.cg_heap.specs.Calls.{IsSound}
use Rattle.cg_heap.specs.Weak.{AreRows, cleared_weak}
use Rattle.cg_heap.proofs.CallerLemmas.{live_of_kind, lives_on, kinds-held, kinds-moved}
use Rattle.cg_heap.proofs.HoldLemmas.{outside-moved, outside-held}
use Rattle.cg_heap.proofs.RowLemmas.{refers_live}
use Rattle.cg_machine.specs.declared.event.Event.TheVariants.{Cleared}
use Rattle.cg_machine.specs.World as machine
use Rattle.cg_machine.specs.World.{World, Collecting, with_stack, with_objects}
use Rattle.cg_machine.specs.Weak.{loses_referent, callback_of, callback_in, MayLoseNext}
use Rattle.cg_machine.specs.Program.{profile_of}
use Rattle.cg_machine.specs.Collect.{waits, is_condemned_in, loses_in_weak_phase}
use Rattle.cg_machine.specs.Collect as collect
use Rattle.cg_policy.specs.Policy.{Policy}
use Rattle.cg_trial.proofs.Lists.{absent, without-absent}
use Rattle.cg_trial.proofs.PlacesOfObjects.{where_is}
use Rattle.cg_death.proofs.RowSplits.{split_at, referent-without, waiting-without, left-in}
use Rattle.cg_death.proofs.WeakObjects.{objects-cleared, row_there}
use Rattle.cg_death.proofs.Places.{change-change, only-one}
use Rattle.cg_death.proofs.Callbacks.{callback-at}
use Rattle.cg_collect.specs.declared.answer.CollectStep.TheVariants as answer_of
use Rattle.cg_collect.specs.declared.collection.Facts.{Facts}
use Rattle.cg_collect.specs.declared.phase.Phase.TheVariants as phase_of
use Rattle.cg_collect.specs.Phases.{collection_of}
use Rattle.cg_collect.specs.Ready.{IsApartUnseen, HaveCallbacks, IsWalk, loses_at, to_look_at}
use Rattle.cg_collect.specs.Answers.{CollectSteps}
use Rattle.cg_collect.specs.Turns.{collection_at}
use Rattle.cg_collect.proofs.Moving.{moved_not, moved_last, moved_from}
use Rattle.cg_collect.proofs.Worlds.{LeavesRest, steps_at, represents_on, went}
use Rattle.cg_collect.proofs.FinalizerPhase.{still_unsaved}
use Rattle.cg_collect.proofs.Pending.{apart_away}
use Rattle.cg_collect.proofs.RowWalks.{refers, older_ones, looks_here, looks_on}
use Rattle.cg_collect.proofs.Walking.{condemned-at, may_lose, IsLost, changed_objects, walk_loses, walk_passes}

-- the place of an object that is held, and its entries
pub place_of-held : (refs : List ℕ) (store : Store) (s : ℕ) → place_of (held refs store) s ≡ place_of store s
place_of-held refs store s = ap place_in (get-mapped (λ k n. more (occurrences k refs) n) store.nodes s) ∙ known (fin.get store.nodes s)
  where
    known : (x : Option Node) → place_in (option_map (more (occurrences s refs)) x) ≡ place_in x
    known None = refl
    known (Some n) = refl

pub entries_of-held : (refs : List ℕ) (store : Store) (s : ℕ) → entries_of (held refs store) s ≡ entries_of store s
entries_of-held refs store s = ap entries_in (get-mapped (λ k n. more (occurrences k refs) n) store.nodes s) ∙ known (fin.get store.nodes s)
  where
    known : (x : Option Node) → entries_in (option_map (more (occurrences s refs)) x) ≡ entries_in x
    known None = refl
    known (Some n) = refl

entries_of-moved : (o : ℕ) (q : Place) (store : Store) (s : ℕ) → entries_of (moved o q store) s ≡ entries_of store s
entries_of-moved o q store s = ap entries_in (get-mapped (λ k n. if k == o then with_place q n else n) store.nodes s) ∙ known (fin.get store.nodes s)
  where
    one : (b : Bool) (n : Node) → (if b then with_place q n else n).entries ≡ n.entries
    one true n = refl
    one false n = refl

    known : (x : Option Node) → entries_in (option_map (λ n. if s == o then with_place q n else n) x) ≡ entries_in x
    known None = refl
    known (Some n) = one (s == o) n

-- what is partitioned, if lists and entries are the same
pub apart_alike : (old new : Store) → place_of new 1 ≡ place_of old 1 → entries_of new 1 ≡ entries_of old 1 → ((p : Place) → list_at new p ≡ list_at old p) → IsApartUnseen old → IsApartUnseen new
apart_alike old new place entries same apart = (
  record {
    garbage = place ∙ apart.0.garbage;
    back = same Back ∙ apart.0.back;
    candidates = still_unsaved old new Cand entries (λ q m. apart.0.candidates q (subst (λ l. Includes l q) (same Cand) m));
    seen = still_unsaved old new Seen entries (λ q m. apart.0.seen q (subst (λ l. Includes l q) (same Seen) m));
    legacy = still_unsaved old new Legacy entries (λ q m. apart.0.legacy q (subst (λ l. Includes l q) (same Legacy) m));
  },
  same Seen ∙ apart.1,
)

is_there_some : (x : Option ℕ) → is_some x ≡ true → IsSome x
is_there_some None e = absurd (let f : false ≡ true = e in cc)
is_there_some (Some f) e = refl

module _ (profile : ℕ) (store : Store) (sound : IsSound store) (r : Row) (inside : Includes store.rows r) (stays : r.waits ≡ false) (member : Option ℕ)
    (walk : IsWalk profile store member (Some r.weak)) (loses : loses_at profile store r.weak ≡ true) where
  weak_lives : HasCode store r.weak Weak × IsLive store r.referent
  weak_lives = refers_live store sound.rows r.weak r.referent (refers store sound.rows r inside stays)

  live : IsLive store r.weak
  live = live_of_kind store r.weak Weak weak_lives.0

  -- it has lost its row
  abbrev lost : Store
  lost = record store { rows = without_row r.weak store.rows }

  abbrev held_now : Store
  held_now = held (r.weak ∷ []) lost

  abbrev put_by : Store
  put_by = moved r.weak Pend held_now

  objects-lost : objects_of lost ≡ loses_referent r.weak (objects_of store)
  objects-lost = objects-cleared store (without_row r.weak store.rows) r.weak (referent-without store.rows r (split_at store.rows r sound.rows.rise inside))

  objects-put : objects_of put_by ≡ change (object_placed Pend) r.weak (loses_referent r.weak (objects_of store))
  objects-put =
      objects-changed held_now r.weak (with_place Pend) (object_placed Pend) (λ s n. refl)
      ∙ ap (change (object_placed Pend) r.weak) (objects-same lost (λ s n. more (occurrences s (r.weak ∷ [])) n) (λ s n. refl) ∙ objects-lost)

  rest_lost : LeavesRest store lost
  rest_lost = record {
    last = refl;
    names = refl;
    waiting = λ o. waiting-without store.rows r (split_at store.rows r sound.rows.rise inside) stays o;
    no_more = λ x m waits. left-in r.weak store.rows x m;
  }

  rest_put : LeavesRest store put_by
  rest_put = record { last = refl; names = refl; waiting = rest_lost.waiting; no_more = rest_lost.no_more }

  -- the lists are those of a heap in which the weak reference has moved
  pend_place : IsPlace Pend
  pend_place = omega arith

  lists-put : (p : Place) → list_at put_by p ≡ list_at (moved r.weak Pend store) p
  lists-put p = ap (λ q. list_of (move_between store.lists r.weak (place_number q) 6) (place_number p)) (place_of-held (r.weak ∷ []) lost r.weak)

  -- one with a referent does not wait
  not_pending : ¬ Includes (list_at store Pend) r.weak
  not_pending m = let e : None ≡ Some r.referent = sym (walk.waiting r.weak m) ∙ refers store sound.rows r inside stays in cc

  pending-put : list_at put_by Pend ≡ list_at store Pend ++ r.weak ∷ []
  pending-put =
      lists-put Pend
      ∙ moved_last store sound.listed r.weak live Pend pend_place
      ∙ ap (λ l. l ++ r.weak ∷ []) (without-absent r.weak (list_at store Pend) (absent (list_at store Pend) r.weak not_pending))

  next : Option ℕ
  next = next_older_in store.rows r.weak

  newest_in : (w : World) → objects_of store ≡ w.objects → MayLoseNext (loses_in_weak_phase profile w.objects) w.objects r.weak
  newest_in w same = subst (λ (os : List Object). MayLoseNext (loses_in_weak_phase profile os) os r.weak) same (may_lose profile store r.weak member walk live loses)

  module _ (script : Script) (in_profile : profile_of script.items ≡ profile) (facts : Facts) (policy : Policy) where
    newest_there : (w : World) → objects_of store ≡ w.objects → MayLoseNext (loses_in_weak_phase (profile_of script.items) w.objects) w.objects r.weak
    newest_there w same = subst (λ p. MayLoseNext (loses_in_weak_phase p w.objects) w.objects r.weak) (sym in_profile) (newest_in w same)

    -- it does not wait
    pub turn-lost : waits (objects_of store) r.weak ≡ false
        → CollectSteps script (collection_at facts (phase_of.WeakClearing member (Some r.weak)) None) store policy
        (collection_at facts (phase_of.WeakClearing member (next_older_in store.rows r.weak)) None) lost policy (answer_of.Emit (Cleared r.weak))
    turn-lost never =
        steps_at script (collection_at facts (phase_of.WeakClearing member (Some r.weak)) None) store policy
        (collection_at facts (phase_of.WeakClearing member (next_older_in store.rows r.weak)) None) lost policy (answer_of.Emit (Cleared r.weak))
        (λ asked v below s.
        let pending : List ℕ = list_at store Pend in
        let c : machine.Collection = collection_of asked (collection_at facts phase_of.WeakCalling None) (machine.WeakClearing pending) in
        let w : World = with_stack (Collecting c ∷ below) v in
        let objects : List Object = loses_referent r.weak v.objects in
        let after : World = with_stack (Collecting c ∷ below) (with_objects objects v) in
        let same : objects_of store ≡ v.objects = s.shows.represents.objects in
        let keeps : waits v.objects r.weak ≡ false = ap (λ (os : List Object). waits os r.weak) (sym same) ∙ never in
        went script w (Cleared r.weak ∷ []) after s.running (inl (record {
          weak = r.weak;
          newest = newest_there w same;
          yields = (
            refl,
            ap (λ b. if b then collect.collection_at c (machine.WeakClearing (pending ++ r.weak ∷ [])) below
                (with_objects (change (object_placed Pend) r.weak objects) w) else after) (sym keeps),
          );
        })) refl
        (represents_on store lost v below c c s.shows.represents s.alone objects (objects-lost ∙ ap (loses_referent r.weak) same) rest_lost refl (λ q. refl))
        s.shows.numbers s.shows.running refl refl refl)

    -- it then waits
    pub turn-waits : waits (objects_of store) r.weak ≡ true
        → CollectSteps script (collection_at facts (phase_of.WeakClearing member (Some r.weak)) None) store policy
        (collection_at facts (phase_of.WeakClearing member (next_older_in store.rows r.weak)) None) put_by policy (answer_of.Emit (Cleared r.weak))
    turn-waits always =
        steps_at script (collection_at facts (phase_of.WeakClearing member (Some r.weak)) None) store policy
        (collection_at facts (phase_of.WeakClearing member (next_older_in store.rows r.weak)) None) put_by policy (answer_of.Emit (Cleared r.weak))
        (λ asked v below s.
        let pending : List ℕ = list_at store Pend in
        let c : machine.CollectPhase → machine.Collection = collection_of asked (collection_at facts phase_of.WeakCalling None) in
        let w : World = with_stack (Collecting (c (machine.WeakClearing pending)) ∷ below) v in
        let objects : List Object = change (object_placed Pend) r.weak (loses_referent r.weak v.objects) in
        let after : World = with_stack (Collecting (c (machine.WeakClearing (pending ++ r.weak ∷ []))) ∷ below) (with_objects objects v) in
        let same : objects_of store ≡ v.objects = s.shows.represents.objects in
        let begins : waits v.objects r.weak ≡ true = ap (λ (os : List Object). waits os r.weak) (sym same) ∙ always in
        went script w (Cleared r.weak ∷ []) after s.running (inl (record {
          weak = r.weak;
          newest = newest_there w same;
          yields = (
            refl,
            ap (λ b. if b then after else collect.collection_at (c (machine.WeakClearing pending)) (machine.WeakClearing pending) below
                (with_objects (loses_referent r.weak v.objects) w)) (sym begins),
          );
        })) refl
        (represents_on store put_by v below (c (machine.WeakClearing pending)) (c (machine.WeakClearing (pending ++ r.weak ∷ []))) s.shows.represents s.alone objects
        (objects-put ∙ ap (λ (os : List Object). change (object_placed Pend) r.weak (loses_referent r.weak os)) same) rest_put pending-put
        (λ q. omega (
          arith,
          outside-moved r.weak Pend held_now q,
          outside-held (r.weak ∷ []) lost q (λ h. subst (IsLive lost) (sym (only-one r.weak q h)) live),
          occurrences-append q pending (r.weak ∷ []),
        )))
        s.shows.numbers s.shows.running (λ i. Collecting (c (machine.WeakClearing (sym pending-put i))) ∷ below) refl refl)

  -- the invariant of the walk afterwards
  pub is_lost : IsLost store lost r.weak
  is_lost = record {
    rows = refl;
    candidates = refl;
    objects = λ x m. changed_objects (with_referent None) (λ y. refl) r.weak (objects_of store) x (subst (λ os. Includes os x) objects-lost m);
    condemned = λ o. condemned-at lost o ∙ sym (condemned-at store o);
    codes = λ o has. has;
    pending = λ u m. inl m;
  }

  module _ (always : waits (objects_of store) r.weak ≡ true) where
    parts : (not (is_condemned_in (objects_of store) r.weak) ≡ true) × (is_some (callback_of (objects_of store) r.weak) ≡ true)
    parts = true_and (not (is_condemned_in (objects_of store) r.weak)) (is_some (callback_of (objects_of store) r.weak)) always

    not_condemned : is_condemned_in (objects_of store) r.weak ≡ false
    not_condemned = not-true (is_condemned_in (objects_of store) r.weak) parts.0

    elsewhere : (p : Place) → (same_place p Cand || same_place p Seen) ≡ true → place_of store r.weak ≢ p
    elsewhere p is at =
        let f : true ≡ false = sym is ∙ ap (λ q. same_place q Cand || same_place q Seen) (sym at) ∙ sym (condemned-at store r.weak) ∙ not_condemned in
        cc

    place-put : (o : ℕ) → (same_place (place_of put_by o) Cand || same_place (place_of put_by o) Seen) ≡ (same_place (place_of store o) Cand || same_place (place_of store o) Seen)
    place-put o = elim (cases_eq o r.weak) [
      | inl same ↦
          ap (λ k. same_place (place_of put_by k) Cand || same_place (place_of put_by k) Seen) same
          ∙ ap (λ p. same_place p Cand || same_place p Seen) put_there
          ∙ sym (ap (λ k. same_place (place_of store k) Cand || same_place (place_of store k) Seen) same ∙ sym (condemned-at store r.weak) ∙ not_condemned)
      | inr differs ↦ ap (λ p. same_place p Cand || same_place p Seen) (put_not o differs)
    ]
      where
        put_there : place_of put_by r.weak ≡ Pend
        put_there = ap place_in (get-mapped (λ k n. if k == r.weak then with_place Pend n else n) held_now.nodes r.weak) ∙ known (fin.get held_now.nodes r.weak)
            (lives_on lost held_now (kinds-held (r.weak ∷ []) lost) r.weak live)
          where
            one : (b : Bool) (n : Node) → b ≡ true → (if b then with_place Pend n else n).place ≡ Pend
            one true n e = refl
            one false n e = absurd (cc)

            known : (x : Option Node) → IsSome x → place_in (option_map (λ n. if r.weak == r.weak then with_place Pend n else n) x) ≡ Pend
            known None h = absurd (cc)
            known (Some n) h = one (r.weak == r.weak) n (eq-eqb r.weak r.weak refl)

        put_not : (q : ℕ) → q ≢ r.weak → place_of put_by q ≡ place_of store q
        put_not q differs = ap place_in (get-changed_other (with_place Pend) r.weak held_now.nodes q differs) ∙ place_of-held (r.weak ∷ []) lost q

    candidates-put : list_at put_by Cand ≡ list_at store Cand
    candidates-put =
        lists-put Cand
        ∙ moved_from store sound.listed r.weak live Pend pend_place Cand (λ e. cc)
        ∙ without-absent r.weak (list_at store Cand) (absent (list_at store Cand) r.weak (λ m. elsewhere Cand refl (where_is store sound.listed Cand r.weak m).1))

    pub is_put_by : IsLost store put_by r.weak
    is_put_by = record {
      rows = refl;
      candidates = candidates-put;
      objects = λ x m. changed_objects (λ y. object_placed Pend (with_referent None y)) (λ y. refl) r.weak (objects_of store) x
          (subst (λ os. Includes os x) (objects-put ∙ change-change (object_placed Pend) (with_referent None) (λ y. refl) r.weak (objects_of store)) m);
      condemned = λ o. condemned-at put_by o ∙ place-put o ∙ sym (condemned-at store o);
      codes = λ o has. kinds-moved r.weak Pend held_now o Weak (kinds-held (r.weak ∷ []) lost o Weak has);
      pending = λ u m. either (Includes-append_cases (list_at store Pend) (r.weak ∷ []) u (subst (λ l. Includes l u) pending-put m)) (λ k. inl k) (λ k. either k (λ e. inr e) (λ n. absurd n));
    }

    not_first : 1 ≢ r.weak
    not_first e = let (n, got, list_kind) = sound.root in let (m, there, weak_kind) = weak_lives.0 in
        let both : Some n ≡ Some m = sym got ∙ ap (fin.get store.nodes) e ∙ there in
        let same : n ≡ m = cc in
        let kinds : ListKind ≡ Weak = sym list_kind ∙ ap (λ (x : Node). x.code) same ∙ weak_kind in
        cc

    entries-put : (s : ℕ) → entries_of put_by s ≡ entries_of store s
    entries-put s = entries_of-moved r.weak Pend held_now s ∙ entries_of-held (r.weak ∷ []) lost s

    pub apart_put : IsApartUnseen store → IsApartUnseen put_by
    apart_put apart =
        apart_alike (moved r.weak Pend store) put_by
        (ap place_in (get-changed_other (with_place Pend) r.weak held_now.nodes 1 not_first) ∙ place_of-held (r.weak ∷ []) lost 1
        ∙ sym (moved_not store sound.listed r.weak live Pend pend_place 1 not_first))
        (entries-put 1 ∙ sym (entries_of-moved r.weak Pend store 1)) lists-put
        (apart_away store sound.listed r.weak live Pend pend_place not_first (λ e. cc) (λ e. cc) (λ e. cc) (λ e. cc) apart)

    callback-put : (s : ℕ) → callback_of (objects_of put_by) s ≡ callback_of (objects_of store) s
    callback-put s = callback-at put_by s ∙ ap callback_in (entries-put s) ∙ sym (callback-at store s)

    pub callbacks_put : HaveCallbacks store → HaveCallbacks put_by
    callbacks_put have u m =
        let has : HasCode store u Weak × IsSome (callback_of (objects_of store) u) =
        either (Includes-append_cases (list_at store Pend) (r.weak ∷ []) u (subst (λ l. Includes l u) pending-put m))
        (λ k. have u k)
        (λ k. subst (λ w. HasCode store w Weak × IsSome (callback_of (objects_of store) w)) (either k (λ e. e) (λ n. absurd n)) (
          weak_lives.0,
          is_there_some (callback_of (objects_of store) r.weak) parts.1,
        )) in
        (is_put_by.codes u has.0, subst IsSome (sym (callback-put u)) has.1)

  pub apart_lost : IsApartUnseen store → IsApartUnseen lost
  apart_lost apart = apart_alike store lost refl refl (λ p. refl) apart

  pub callbacks_lost : HaveCallbacks store → HaveCallbacks lost
  callbacks_lost have u m = let has = have u m in (has.0, subst IsSome (sym (callback-at lost u ∙ sym (callback-at store u))) has.1)

-- What follows when a weak reference is cleared.
pub record LosesThen (profile : ℕ) (store new : Store) (weak : ℕ) (member : Option ℕ) : Type 0 where
  pub steps : (script : Script) → profile_of script.items ≡ profile → (facts : Facts) (policy : Policy)
      → CollectSteps script (collection_at facts (phase_of.WeakClearing member (Some weak)) None) store policy
      (collection_at facts (phase_of.WeakClearing member (next_older_in store.rows weak)) None) new policy (answer_of.Emit (Cleared weak))
  pub apart : IsApartUnseen store → IsApartUnseen new
  pub callbacks : HaveCallbacks store → HaveCallbacks new
  pub goes_on : IsRising new.rows → IsWalk profile new member (next_older_in store.rows weak)
  pub rows : new.rows ≡ without_row weak store.rows
  pub candidates : list_at new Cand ≡ list_at store Cand

-- the heap once it has
abbrev pub lost_by : Bool → ℕ → Store → Store
lost_by b weak store = if b then moved weak Pend (held (weak ∷ []) (cleared_weak weak false store)) else cleared_weak weak false store

at_row : (profile : ℕ) (store : Store) (sound : IsSound store) (r : Row) (inside : Includes store.rows r) (stays : r.waits ≡ false) (member : Option ℕ)
    (walk : IsWalk profile store member (Some r.weak)) (loses : loses_at profile store r.weak ≡ true)
    → (new : Store) → new ≡ lost_by (waits (objects_of store) r.weak) r.weak store → LosesThen profile store new r.weak member
at_row profile store sound r inside stays member walk loses new is = elim (cases_of (waits (objects_of store) r.weak)) [
  | inl always ↦ subst (λ (n : Store). LosesThen profile store n r.weak member) (sym (is ∙ ap (λ b. lost_by b r.weak store) always)) (record {
    steps = λ script in_profile facts policy. turn-waits profile store sound r inside stays member walk loses script in_profile facts policy always;
    apart = apart_put profile store sound r inside stays member walk loses always;
    callbacks = callbacks_put profile store sound r inside stays member walk loses always;
    goes_on = walk_loses profile store sound.rows r inside stays member walk (put_by profile store sound r inside stays member walk loses)
        (is_put_by profile store sound r inside stays member walk loses always);
    rows = refl;
    candidates = (is_put_by profile store sound r inside stays member walk loses always).candidates;
  })
  | inr never ↦ subst (λ (n : Store). LosesThen profile store n r.weak member) (sym (is ∙ ap (λ b. lost_by b r.weak store) never)) (record {
    steps = λ script in_profile facts policy. turn-lost profile store sound r inside stays member walk loses script in_profile facts policy never;
    apart = apart_lost profile store sound r inside stays member walk loses;
    callbacks = callbacks_lost profile store sound r inside stays member walk loses;
    goes_on = walk_loses profile store sound.rows r inside stays member walk (lost profile store sound r inside stays member walk loses) (is_lost profile store sound r inside stays member walk loses);
    rows = refl;
    candidates = refl;
  })
]

-- the same by its serial
pub loses_then : (profile : ℕ) (store new : Store) (sound : IsSound store) (weak : ℕ) (member : Option ℕ) → IsWalk profile store member (Some weak)
    → loses_at profile store weak ≡ true → new ≡ lost_by (waits (objects_of store) weak) weak store → LosesThen profile store new weak member
loses_then profile store new sound weak member walk loses is =
    let (o, refers) = walk.weak_live weak refl in
    let (r, inside, passes, same) = row_there store.rows weak o refers in
    let stays : r.waits ≡ false = not-true r.waits (true_and (r.referent == o) (not r.waits) passes).1 in
    let P : ℕ → Type 0 = λ w. IsWalk profile store member (Some w) → loses_at profile store w ≡ true → new ≡ lost_by (waits (objects_of store) w) w store → LosesThen profile store new w member in
    subst P same (λ walk_at loses_now is_now. at_row profile store sound r inside stays member walk_at loses_now new is_now) walk loses is

-- One that is not cleared is passed: less is left to visit.
pub passes_then : (profile : ℕ) (store : Store) → AreRows store → (weak : ℕ) (member : Option ℕ) → IsWalk profile store member (Some weak) → loses_at profile store weak ≡ false
    → IsWalk profile store member (next_older_in store.rows weak) × (length (to_look_at store (next_older_in store.rows weak)) < length (to_look_at store (Some weak)))
passes_then profile store ok weak member walk keeps =
    let (o, refers) = walk.weak_live weak refl in
    let (r, inside, passes, same) = row_there store.rows weak o refers in
    let stays : r.waits ≡ false = not-true r.waits (true_and (r.referent == o) (not r.waits) passes).1 in
    let P : ℕ → Type 0 = λ w. IsWalk profile store member (Some w) → loses_at profile store w ≡ false → IsWalk profile store member (next_older_in store.rows w)
    × (length (to_look_at store (next_older_in store.rows w)) < length (to_look_at store (Some w))) in
    subst P same (λ walk_at keeps_now. (walk_passes profile store ok r inside stays member walk_at keeps_now, shorter r inside stays)) walk keeps
  where
    shorter : (r : Row) (inside : Includes store.rows r) (stays : r.waits ≡ false) → length (to_look_at store (next_older_in store.rows r.weak)) < length (to_look_at store (Some r.weak))
    shorter r inside stays =
        let less : length (to_look_at store (next_older_in store.rows r.weak)) ≡ length (older_ones store ok r inside stays) = ap length (looks_on store ok r inside stays) in
        let here : length (to_look_at store (Some r.weak)) ≡ length (r.weak ∷ older_ones store ok r inside stays) = ap length (looks_here store ok r inside stays) in
        omega (arith, less, here)
