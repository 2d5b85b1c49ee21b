-- What a collection requires of the heap follows from the laws on where objects are: when it begins, and when it goes on
-- after a frame or a death.
use Rattle.std.proofs.Common.{◌≡◌, ◌≢◌, refl, sym, ◌∙◌, ap, subst, ℕ, ◌+◌, ◌≤◌, ◌⊎◌, Bool, true, false, not, cond, inl, inr, List, [], ◌∷◌, ◌++◌, length, Option, None, Some, IsSome}
use Rattle.std.specs.Prelude.{◌==◌, filter, drop, slice_get}
use Rattle.std.specs.FinMap as fin
use Rattle.std.proofs.lemmas.Bool.{eq-eqb}
use Rattle.cg_value.specs.declared.KindCode.TheVariants.{Weak}
use Rattle.cg_value.specs.declared.Place.{Place}
use Rattle.cg_value.specs.declared.Place.TheVariants.{Untracked, Cand, Seen, Back, Legacy, Pend}
use Rattle.cg_graph.specs.Member.{Includes}
use Rattle.cg_graph.specs.Value.{references}
use Rattle.cg_graph.specs.Object.{Object, entries_of as object_entries_of}
use Rattle.cg_graph.specs.Store.{Store, Node, HasCode, objects_of, object_from, list_at, place_of, place_in, entries_in}
use Rattle.cg_graph.proofs.Members.{either, Includes-append_left, Includes-append_right}
use Rattle.cg_heap.specs.Calls.{IsSound}
use Rattle.cg_machine.specs.World as machine
use Rattle.cg_machine.specs.World.{World, Activity, Collecting}
use Rattle.cg_represents.specs.Orderly.{IsOrderly, all_waits, waits_of, collection_waits}
use Rattle.cg_laws.specs.Laws.{IsOfCollection}
use Rattle.cg_represents.specs.Represents.{Represents, CollectionWaits}
use Rattle.cg_machine.specs.Weak.{callback_of, callback_in}
use Rattle.cg_laws.specs.Apart.{IsApart, IsFound, IsInWeakPhase, IsInLatePhase, StandsRightly}
use Rattle.cg_trial.proofs.PlacesOfObjects.{where_is}
use Rattle.cg_death.specs.declared.release.Release.{Release}
use Rattle.cg_death.proofs.Callbacks.{callback-at}
use Rattle.cg_death.proofs.Emptying.{entries-agree}
use Rattle.cg_collect.specs.declared.collection.Collection.{Collection}
use Rattle.cg_collect.specs.declared.phase.Phase.{Phase}
use Rattle.cg_collect.specs.declared.phase.Phase.TheVariants as phase_of
use Rattle.cg_collect.specs.Phases.{machine_phase, collection_of, collecting, released_over, shown_with, on_stack}
use Rattle.cg_collect.specs.Ready.{IsClear, IsHeapApart as IsSetApart, IsApartUnseen, IsEmptyAt, IsUnsaved, IsReadyForCollectionAt, HasFewCollected, SparesGarbageList, MayRun, HasItsWalk}
use Rattle.cg_collect.specs.Collections.{IsReadyForCollection}
use Rattle.cg_collect.proofs.PlacesOfObjects.{object_there, node_of_live, empty_at}
use Rattle.cg_interp.specs.Engines.{HasHandedOut}
use Rattle.cg_inspect.specs.Inspection.{IsIdle}
use Rattle.cg_machine.specs.Holdings.{is_collecting}
use Rattle.cg_script.specs.declared.Script.{Script}
use Rattle.cg_machine.specs.Program.{profile_of}

-- what a collection on the stack waits with is among all that waits
waits_among : (stack : List Activity) (c : machine.Collection) (q : ℕ) → Includes stack (Collecting c) → Includes (collection_waits c.phase) q → Includes (all_waits stack) q
waits_among [] c q on m = absurd on
waits_among (a ∷ stack) c q (inl same) m = Includes-append_left (waits_of a) (all_waits stack) q (subst (λ b. Includes (waits_of b) q) (sym same) m)
waits_among (a ∷ stack) c q (inr on) m = Includes-append_right (waits_of a) (all_waits stack) q (waits_among stack c q on m)

not_none : (x : Option ℕ) → x ≢ None → IsSome x
not_none None some = absurd (some refl)
not_none (Some f) some = refl

module _ (store : Store) (w : World) (sound : IsSound store) (same : objects_of store ≡ w.objects) (apart : IsApart w) where
  -- a live object is one of the world
  there : (o : ℕ) (n : Node) → fin.get store.nodes o ≡ Some n → Includes w.objects (object_from store.rows o n)
  there o n got = subst (λ os. Includes os (object_from store.rows o n)) same (object_there store o n got)

  garbage_untracked : place_of store 1 ≡ Untracked
  garbage_untracked = let (n, got, code) = sound.root in ap place_in got ∙ (apart.garbage (object_from store.rows 1 n) (there 1 n got) refl).untracked

  -- a place without an object of the world
  empty_where : (p : Place) → ((x : Object) → Includes w.objects x → x.place ≢ p) → IsEmptyAt store p
  empty_where p nobody = empty_at store sound.listed p (λ o live at.
      let (n, got) = node_of_live store o live in
      nobody (object_from store.rows o n) (there o n got) (sym (ap place_in got) ∙ at))

  -- the garbage list names no condemned or uncollectable object
  unsaved : (p : Place) → IsFound p → IsUnsaved store p
  unsaved p found o m refers =
      let at = where_is store sound.listed p o m in
      let (n, got) = node_of_live store o at.0 in
      let place : n.place ≡ p = sym (ap place_in got) ∙ at.1 in
      apart.unsaved (object_from store.rows o n) (there o n got) (subst IsFound (sym place) found)
      (subst (λ es. Includes (references es) o) (sym (entries-agree store 1) ∙ ap (λ os. object_entries_of os 1) same) refers)

  set_apart : ((x : Object) → Includes w.objects x → x.place ≢ Back) → IsSetApart store
  set_apart back = record { garbage = garbage_untracked; back = empty_where Back back; candidates = unsaved Cand tt; seen = unsaved Seen tt; legacy = unsaved Legacy tt }

  in_weak_phase : (waiting : List ℕ) → ((x : Object) → Includes w.objects x → IsInWeakPhase waiting x) → IsApartUnseen store
  in_weak_phase waiting each = (set_apart (λ x m. (each x m).back), empty_where Seen (λ x m. (each x m).seen))

  in_late_phase : ((x : Object) → Includes w.objects x → IsInLatePhase x) → IsApartUnseen store
  in_late_phase each = (set_apart (λ x m. (each x m).back), empty_where Seen (λ x m. (each x m).seen))

  -- Before a collection starts, nothing is partitioned.
  pub clear_at_start : (c : machine.Collection) → Includes w.stack (Collecting c) → c.phase ≡ machine.Start → IsClear store
  clear_at_start c on start = record { candidates = none Cand tt; seen = none Seen tt; back = none Back tt; legacy = none Legacy tt; pending = none Pend tt; garbage = garbage_untracked }
    where
      none : (p : Place) → IsOfCollection p → IsEmptyAt store p
      none p own = empty_where p (λ x m at. (subst (λ q. StandsRightly q x) start (apart.phases c on x m)) (subst IsOfCollection (sym at) own))

  -- If none is on the stack, the places of collections are empty.
  pub idle_without : is_collecting w ≡ false → IsIdle store
  idle_without none = record { candidates = nobody Cand tt; seen = nobody Seen tt; back = nobody Back tt; legacy = nobody Legacy tt; pending = nobody Pend tt }
    where
      nobody : (p : Place) → IsOfCollection p → IsEmptyAt store p
      nobody p own = empty_where p (λ x m at. apart.clear none x m (subst IsOfCollection (sym at) own))

  module _ (orderly : IsOrderly w) where
    -- what waits for its callback has one
    has_callback : (q : ℕ) → Includes (list_at store Pend) q → Includes (all_waits w.stack) q → HasCode store q Weak × IsSome (callback_of (objects_of store) q)
    has_callback q m waits =
        let at = where_is store sound.listed Pend q m in
        let (n, got) = node_of_live store q at.0 in
        let is = orderly.waiting q waits (object_from store.rows q n) (there q n got) refl in
        ((n, got, is.code), subst IsSome (sym (callback-at store q ∙ ap (λ x. callback_in (entries_in x)) got)) (not_none (callback_in n.entries) is.callback))

    -- A collection that answered a frame or a death is ready again, by what its phase says of the stack.
    module _ (c : machine.Collection) (on : Includes w.stack (Collecting c)) (waits : CollectionWaits c.phase (list_at store Pend)) where
      rightly : (phase : machine.CollectPhase) → c.phase ≡ phase → (x : Object) → Includes w.objects x → StandsRightly phase x
      rightly phase is x m = subst (λ q. StandsRightly q x) is (apart.phases c on x m)

      ready_again : (g : ℕ) (p : Phase) (then : List ℕ) → MayRun p → SparesGarbageList p → machine_phase p then ≡ Some c.phase → IsReadyForCollectionAt store g p
      ready_again g (phase_of.AfterCallback weak) then runs spares is =
          let phase : c.phase ≡ machine.AfterCallback weak (drop 1 then) = cc in
          let pending : list_at store Pend ≡ weak ∷ drop 1 then = subst (λ q. CollectionWaits q (list_at store Pend)) phase waits in (
            in_weak_phase (weak ∷ drop 1 then) (rightly (machine.AfterCallback weak (drop 1 then)) phase),
            λ q m. has_callback q m (waits_among w.stack c q on (subst (λ r. Includes (collection_waits r) q) (sym phase) (subst (λ l. Includes l q) pending m))),
            ap (λ l. slice_get l 0) pending,
            spares,
          )
      ready_again g (phase_of.AfterRelease weak) then runs spares is =
          let waiting : List ℕ = filter (λ q. not (q == weak)) then in
          let phase : c.phase ≡ machine.AfterRelease weak waiting = cc in
          let pending : (list_at store Pend ≡ waiting) ⊎ (list_at store Pend ≡ weak ∷ waiting) = subst (λ q. CollectionWaits q (list_at store Pend)) phase waits in (
            in_weak_phase (weak ∷ waiting) (rightly (machine.AfterRelease weak waiting) phase),
            λ q m differs. has_callback q m (waits_among w.stack c q on (subst (λ r. Includes (collection_waits r) q) (sym phase)
                (either pending (λ e. subst (λ l. Includes l q) e m) (λ e. either (subst (λ l. Includes l q) e m) (λ own. absurd (differs (sym own))) (λ k. k))))),
            spares,
          )
      ready_again g phase_of.Finalizing then runs spares is = let phase : c.phase ≡ machine.Finalizing = cc in set_apart (λ x m. (rightly machine.Finalizing phase x m).0)
      ready_again g (phase_of.AfterFinalizing o) then runs spares is = let phase : c.phase ≡ machine.AfterFinalizing o = cc in set_apart (λ x m. (rightly (machine.AfterFinalizing o) phase x m).0)
      ready_again g (phase_of.Turn o) then runs spares is = let phase : c.phase ≡ machine.Turn o = cc in (in_late_phase (rightly (machine.Turn o) phase), spares)
      ready_again g (phase_of.AfterTurn o) then runs spares is = let phase : c.phase ≡ machine.AfterTurn o = cc in (in_late_phase (rightly (machine.AfterTurn o) phase), spares)
      ready_again g p then runs spares is = absurd runs

-- a list without a serial, and without it again
abbrev others : ℕ → List ℕ → List ℕ
others weak xs = filter (λ q. not (q == weak)) xs

others_again : (weak : ℕ) (xs : List ℕ) → others weak (others weak xs) ≡ others weak xs
others_again weak [] = refl
others_again weak (x ∷ xs) = go (x == weak) refl (others_again weak xs)
  where
    go : (b : Bool) → (x == weak) ≡ b → others weak (others weak xs) ≡ others weak xs → others weak (cond (not b) (x ∷ others weak xs) (others weak xs))
        ≡ cond (not b) (x ∷ others weak xs) (others weak xs)
    go true e again = again
    go false e again = ap (λ b. cond (not b) (x ∷ others weak (others weak xs)) (others weak (others weak xs))) e ∙ ap (λ l. x ∷ l) again

-- what waits besides the one that was given up, whether or not that still comes first
others_same : (weak : ℕ) (then now : List ℕ) → (now ≡ filter (λ q. not (q == weak)) then) ⊎ (now ≡ weak ∷ filter (λ q. not (q == weak)) then)
    → filter (λ q. not (q == weak)) then ≡ filter (λ q. not (q == weak)) now
others_same weak then now (inl e) = sym (ap (filter (λ q. not (q == weak))) e ∙ others_again weak then)
others_same weak then now (inr e) =
    let rest : List ℕ = filter (λ q. not (q == weak)) then in
    sym (
    ap (filter (λ q. not (q == weak))) e
    ∙ ap (λ b. cond (not b) (weak ∷ filter (λ q. not (q == weak)) rest) (filter (λ q. not (q == weak)) rest)) (eq-eqb weak weak refl)
    ∙ others_again weak then
    )

-- The machine's phase is the same, given what waits now.
same_phase : (p : Phase) (then now : List ℕ) (q : machine.CollectPhase) → MayRun p → machine_phase p then ≡ Some q → CollectionWaits q now → machine_phase p then ≡ machine_phase p now
same_phase (phase_of.AfterCallback weak) then now q runs is waits =
    let phase : q ≡ machine.AfterCallback weak (drop 1 then) = cc in
    let pending : now ≡ weak ∷ drop 1 then = subst (λ r. CollectionWaits r now) phase waits in
    ap (λ l. Some (machine.AfterCallback weak l)) (sym (ap (drop 1) pending))
same_phase (phase_of.AfterRelease weak) then now q runs is waits =
    let phase : q ≡ machine.AfterRelease weak (filter (λ r. not (r == weak)) then) = cc in
    ap (λ l. Some (machine.AfterRelease weak l)) (others_same weak then now (subst (λ r. CollectionWaits r now) phase waits))
same_phase phase_of.Finalizing then now q runs is waits = refl
same_phase (phase_of.AfterFinalizing o) then now q runs is waits = refl
same_phase (phase_of.Turn o) then now q runs is waits = refl
same_phase (phase_of.AfterTurn o) then now q runs is waits = refl
same_phase p then now q runs is waits = absurd runs

-- As many wait, so the number of collected objects stays small.
few_again : (n : ℕ) (p : Phase) (then now : Store) (q : machine.CollectPhase) → MayRun p → machine_phase p (list_at then Pend) ≡ Some q
    → CollectionWaits q (list_at then Pend) → CollectionWaits q (list_at now Pend) → HasFewCollected n p then → HasFewCollected n p now
few_again n (phase_of.AfterCallback weak) then now q runs is waited waits few =
    let phase : q ≡ machine.AfterCallback weak (drop 1 (list_at then Pend)) = cc in
    let same : list_at now Pend ≡ list_at then Pend = subst (λ r. CollectionWaits r (list_at now Pend)) phase waits ∙ sym (subst (λ r. CollectionWaits r (list_at then Pend)) phase waited) in
    subst (λ l. n + length l ≤ 1000001) (sym same) few
few_again n (phase_of.AfterRelease weak) then now q runs is waited waits few =
    let phase : q ≡ machine.AfterRelease weak (filter (λ r. not (r == weak)) (list_at then Pend)) = cc in
    subst (λ l. n + length l + 1 ≤ 1000001) (others_same weak (list_at then Pend) (list_at now Pend) (subst (λ r. CollectionWaits r (list_at now Pend)) phase waits)) few
few_again n phase_of.Finalizing then now q runs is waited waits few = few
few_again n (phase_of.AfterFinalizing o) then now q runs is waited waits few = few
few_again n (phase_of.Turn o) then now q runs is waited waits few = few
few_again n (phase_of.AfterTurn o) then now q runs is waited waits few = few
few_again n p then now q runs is waited waits few = absurd runs

-- a phase in which frames and deaths run is one of the machine
pub phase_there : (p : Phase) (pending : List ℕ) → MayRun p → (q : machine.CollectPhase) × (machine_phase p pending ≡ Some q)
phase_there (phase_of.AfterCallback weak) pending runs = (machine.AfterCallback weak (drop 1 pending), refl)
phase_there (phase_of.AfterRelease weak) pending runs = (machine.AfterRelease weak (filter (λ r. not (r == weak)) pending), refl)
phase_there phase_of.Finalizing pending runs = (machine.Finalizing, refl)
phase_there (phase_of.AfterFinalizing o) pending runs = (machine.AfterFinalizing o, refl)
phase_there (phase_of.Turn o) pending runs = (machine.Turn o, refl)
phase_there (phase_of.AfterTurn o) pending runs = (machine.AfterTurn o, refl)
phase_there p pending runs = absurd runs

-- such a phase is no walk
no_walk : (profile : ℕ) (p : Phase) (store : Store) → MayRun p → HasItsWalk profile store p
no_walk profile (phase_of.WeakClearing member weak) store runs = absurd runs
no_walk profile p store runs = tt

-- the collection is among the activities represented, with what it gives up above it
pub shown_there : (asked : Bool) (c : Collection) (pending : List ℕ) (q : machine.CollectPhase) → machine_phase c.phase pending ≡ Some q
    → Includes (shown_with asked c pending) (Collecting (collection_of asked c q))
shown_there asked c pending q is = subst (λ x. Includes (released_over c.release (collecting asked c x)) (Collecting (collection_of asked c q))) (sym is) (by c.release)
  where
    by : (release : Option Release) → Includes (released_over release (Collecting (collection_of asked c q) ∷ [])) (Collecting (collection_of asked c q))
    by None = inl refl
    by (Some r) = inr (inl refl)

-- After a frame or a death, a collection represents what it did before, with the current heap, and may make its next
-- step.
pub record Resumes (script : Script) (asked : Bool) (c : Collection) (store : Store) (tops : List Activity) : Type 0 where
  pub shown : tops ≡ on_stack asked c store
  pub ready : IsReadyForCollection script c store

pub resumes : (script : Script) (asked : Bool) (c : Collection) (store : Store) (w : World) (tops below : List Activity) → IsSound store → Represents store w
    → IsApart w → IsOrderly w → HasHandedOut asked c tops → w.stack ≡ tops ++ below → Resumes script asked c store tops
resumes script asked c store w tops below sound r apart orderly out top =
    let then : Store = out.then in
    let h = out.handing in
    let (q, is) = phase_there c.phase (list_at then Pend) h.runs in
    let on : Includes w.stack (Collecting (collection_of asked c q)) =
    subst (λ st. Includes st (Collecting (collection_of asked c q))) (sym (top ∙ ap (λ l. l ++ below) out.shown)) (Includes-append_left (on_stack asked c then)
    below (Collecting (collection_of asked c q)) (shown_there asked c (list_at then Pend) q is)) in
    let waits : CollectionWaits q (list_at store Pend) = r.collection (collection_of asked c q) on in
    record {
      shown = out.shown ∙ ap (λ x. released_over c.release (collecting asked c x)) (same_phase c.phase (list_at then Pend) (list_at store Pend) q h.runs is waits);
      ready = record {
        generation = h.generation;
        phase = ready_again store w sound r.objects apart orderly (collection_of asked c q) on waits c.generation c.phase (list_at then Pend) h.runs h.spares is;
        walk = no_walk (profile_of script.items) c.phase store h.runs;
        collected = few_again c.collected c.phase then store q h.runs is (out.waited q is) waits h.collected;
        gives_up = h.gives_up;
      };
    }
