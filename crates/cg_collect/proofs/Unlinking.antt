-- Members of the final set that are weak references are cleared, after no weak reference refers to a member.
use Rattle.std.proofs.Common.{◌≡◌, refl, sym, ◌∙◌, ap, subst, ℕ, ◌+◌, ◌*◌, ◌<◌, Bool, true, false, cond, not, inl, inr, List, [], ◌∷◌, ◌++◌, length, map, Option, Some, None, arith}
use Rattle.std.specs.Prelude.{◌⊎◌, ◌==◌, ◌&&◌, ◌||◌, if◌then◌else◌, filter, option_and_then, slice_get}
use Rattle.std.proofs.lemmas.Bool.{ne_eqb, not-true}
use Rattle.cg_value.specs.declared.KindCode.TheVariants.{Weak}
use Rattle.cg_value.specs.declared.Place.TheVariants.{Cand}
use Rattle.cg_script.specs.declared.Script.{Script}
use Rattle.cg_graph.specs.Member.{Includes, includes}
use Rattle.cg_graph.specs.Object.{same_place}
use Rattle.cg_graph.specs.Rows.{Row, IsRising, referent_in, weak_references_in, next_older_in, without_row}
use Rattle.cg_graph.specs.Store.{Store, IsLive, list_at, place_of}
use Rattle.cg_graph.proofs.Members.{either, cases_of, true_and, includes-of, Includes-of}
use Rattle.cg_arena.specs.Nodes.{following}
use Rattle.cg_heap.specs.Calls.{IsListed}
use Rattle.cg_heap.specs.Weak.{AreRows}
use Rattle.cg_heap.proofs.CallerLemmas.{live_of_kind}
use Rattle.cg_heap.proofs.RowLemmas.{refers_live}
use Rattle.cg_machine.specs.declared.event.Event.TheVariants.{Cleared}
use Rattle.cg_represents.specs.Represents.{Represents}
use Rattle.cg_represents.proofs.Places.{place_is, place_at_is}
use Rattle.cg_policy.specs.Policy.{Policy}
use Rattle.cg_trial.proofs.PlacesOfObjects.{where_is, is_there}
use Rattle.cg_death.proofs.RowSplits.{head_in, split_at, referent-without}
use Rattle.cg_death.proofs.WeakObjects.{row_there}
use Rattle.cg_collect.specs.declared.answer.CollectStep.TheVariants as answer_of
use Rattle.cg_collect.specs.declared.collection.Facts.{Facts}
use Rattle.cg_collect.specs.declared.phase.Phase.TheVariants as phase_of
use Rattle.cg_collect.specs.Phases.{from_on, references_in, to_look_at, without_rows, members_losing, is_lost_with, without_rows_of}
use Rattle.cg_collect.specs.Ready.{IsAt, IsApartUnseen, IsMemberWalk}
use Rattle.cg_collect.specs.Answers.{CollectSteps}
use Rattle.cg_collect.specs.Turns.{collection_at, left_to_walk}
use Rattle.cg_collect.proofs.RowWalks.{older_ones, older_below, looks_here, looks_on, looks_on_without, next_older, older_refers, referent-listed, listed-referent, references-le}
use Rattle.cg_collect.proofs.WalkTurns.{looks_all, less}
use Rattle.cg_collect.proofs.StartLines.{from_first, at_first}
use Rattle.cg_collect.proofs.StartLines.{next_from, next_at}
use Rattle.cg_collect.proofs.Stopping.{tells_none}
use Rattle.cg_collect.proofs.Worlds.{only_tells}
use Rattle.cg_collect.proofs.RowFilters.{without_rows-cons, without_rows-nil, referent_left, referent_gone, unreferred_left}
use Rattle.cg_collect.proofs.FinalRows.{none_lost, none_referring, same_without}

-- the partition stays, whatever the rows
pub apart_rows : (store : Store) (rows : List Row) → IsApartUnseen store → IsApartUnseen (record store { rows = rows })
apart_rows store rows (apart, unseen) = (record { garbage = apart.garbage; back = apart.back; candidates = apart.candidates; seen = apart.seen; legacy = apart.legacy }, unseen)

-- The walk begins at the first member.
pub unlink_begins : (store : Store) → ((o : ℕ) → Includes (list_at store Cand) o → weak_references_in store.rows o ≡ []) → (first : Option ℕ) → first
    ≡ slice_get (list_at store Cand) 0 → IsMemberWalk store first None
unlink_begins store none first is = record {
  member_at = subst (λ n. IsAt n (list_at store Cand)) (sym is) (at_first (list_at store Cand));
  weak_live = λ v e. absurd (cc);
  none_missed = λ o m. inr (inl (subst (λ l. Includes l o) (sym (ap (λ n. from_on n (list_at store Cand)) is ∙ from_first (list_at store Cand))) m));
  unreferred = none;
}

-- whether an object is a member
pub is_final : (store : Store) → IsListed store → (o : ℕ) → IsLive store o → same_place (place_of store o) Cand ≡ includes (list_at store Cand) o
is_final store listed o live = elim (cases_of (same_place (place_of store o) Cand)) [
  | inl at ↦ at ∙ sym (includes-of (list_at store Cand) o (is_there store listed Cand o live (place_is (place_of store o) Cand at)))
  | inr other ↦ elim (cases_of (includes (list_at store Cand) o)) [
    | inl there ↦ (let f : true ≡ false = sym (place_at_is (place_of store o) Cand (where_is store listed Cand o (Includes-of (list_at store Cand) o there)).1) ∙ other in absurd (cc))
    | inr none ↦ other ∙ sym none
  ]
]

-- the walk is at a weak reference that lives
pub looked_lives : (store : Store) → AreRows store → (member : Option ℕ) (weak : ℕ) → IsMemberWalk store member (Some weak) → IsLive store weak
looked_lives store ok member weak walk = let there = walk.weak_live weak refl in live_of_kind store weak Weak (refers_live store ok weak there.0 there.1).0

-- The walk at the weak reference of a row.
module _ (store : Store) (ok : AreRows store) (r : Row) (inside : Includes store.rows r) (stays : r.waits ≡ false) (member : Option ℕ) (walk : IsMemberWalk store member (Some r.weak)) where
  abbrev final : List ℕ
  final = list_at store Cand

  -- the members among the older ones, and what is printed from some on
  abbrev rest : List ℕ
  rest = filter (includes final) (older_ones store ok r inside stays)

  abbrev lines_of : List ℕ → List Row → List ℕ
  lines_of ws rows = ws ++ members_losing final (from_on member final) (without_rows ws rows)

  -- what else is still to be visited
  still_looked : (o : ℕ) → Includes (to_look_at store (Some r.weak)) o → (r.weak ≡ o) ⊎ Includes (older_ones store ok r inside stays) o
  still_looked o m = subst (λ l. Includes l o) (looks_here store ok r inside stays) m

  pub unlink_shorter : length (to_look_at store (next_older_in store.rows r.weak)) < length (to_look_at store (Some r.weak))
  unlink_shorter =
      let less_ones : length (to_look_at store (next_older_in store.rows r.weak)) ≡ length (older_ones store ok r inside stays) = ap length (looks_on store ok r inside stays) in
      let here : length (to_look_at store (Some r.weak)) ≡ length (r.weak ∷ older_ones store ok r inside stays) = ap length (looks_here store ok r inside stays) in
      omega (arith, less_ones, here)

  pub unlink_falls : (left_to_walk member (next_older_in store.rows r.weak) store) + 0 < (left_to_walk member (Some r.weak) store) + 0
  unlink_falls =
      fewer (length (from_on member (list_at store Cand)) * (length store.rows + 1)) (length (to_look_at store (next_older_in store.rows r.weak)))
      (length (to_look_at store (Some r.weak))) unlink_shorter
    where
      fewer : (a b c : ℕ) → b < c → (a + b) + 0 < (a + c) + 0
      fewer a b c h = omega (arith, h)

  -- one that is no member is passed
  module _ (other : includes (list_at store Cand) r.weak ≡ false) where
    pub unlink_passes : IsMemberWalk store member (next_older_in store.rows r.weak)
    unlink_passes = record {
      member_at = walk.member_at;
      weak_live = λ w e. (r.referent, older_refers store ok r inside stays w (next_older store ok r inside stays w e));
      none_missed = λ o m. either (walk.none_missed o m)
          (λ k. either (still_looked o k)
          (λ e. let f : true ≡ false = sym (includes-of final o m) ∙ ap (includes final) (sym e) ∙ other in absurd (cc))
          (λ l. inl (subst (λ l'. Includes l' o) (sym (looks_on store ok r inside stays)) l)))
          (λ k. inr k);
      unreferred = walk.unreferred;
    }

    pub turn-skipped : (script : Script) (facts : Facts) (policy : Policy)
        → CollectSteps script (collection_at facts (phase_of.Unlinking member (Some r.weak)) None) store policy
        (collection_at facts (phase_of.Unlinking member (next_older_in store.rows r.weak)) None) store policy answer_of.Continue
    turn-skipped script facts policy =
        tells_none script facts (phase_of.Unlinking member (Some r.weak)) (phase_of.Unlinking member (next_older_in store.rows r.weak)) store policy
        (λ asked w below s. record { represents = s.represents; numbers = s.numbers; running = s.running; top = s.top })
        (λ asked. ap (λ ws. map Cleared (lines_of ws store.rows)) among)
      where
        among : filter (includes final) (to_look_at store (Some r.weak)) ≡ filter (includes final) (to_look_at store (next_older_in store.rows r.weak))
        among =
            ap (filter (includes final)) (looks_here store ok r inside stays)
            ∙ ap (λ b. cond b (r.weak ∷ rest) rest) other
            ∙ ap (filter (includes final)) (sym (looks_on store ok r inside stays))

  -- a member is cleared
  module _ (is_member : includes (list_at store Cand) r.weak ≡ true) where
    abbrev lost : Store
    lost = record store { rows = without_row r.weak store.rows }

    module _ (rise : IsRising (without_row r.weak store.rows)) where
      pub unlink_loses : IsMemberWalk lost member (next_older_in store.rows r.weak)
      unlink_loses = record {
        member_at = walk.member_at;
        weak_live = λ w e.
            let in_older = next_older store ok r inside stays w e in
            let low = older_below store ok r inside stays w in_older in
            (r.referent, referent_kept w (λ same. absurd (omega (arith, low, same))) ∙ older_refers store ok r inside stays w in_older);
        none_missed = λ o m. either (walk.none_missed o m)
            (λ k. either (still_looked o k)
            (λ e. inr (inr (ap (referent_in lost.rows) (sym e) ∙ referent_gone store.rows ok.rise r inside)))
            (λ l. inl (subst (λ l'. Includes l' o) (sym (looks_on_without store ok r inside stays lost refl rise)) l)))
            (λ k. either k (λ l. inr (inl l)) (λ none. inr (inr (referent_left store.rows ok.rise r inside o none))));
        unreferred = λ o m. unreferred_left store.rows ok.rise r inside o (walk.unreferred o m);
      }
        where
          referent_kept : (q : ℕ) → (q ≡ r.weak → ⊥) → referent_in lost.rows q ≡ referent_in store.rows q
          referent_kept q differs =
              referent-without store.rows r (split_at store.rows r ok.rise inside) q
              ∙ ap (λ b. if b then None else referent_in store.rows q) (ne_eqb q r.weak differs)

      pub turn-unlinked : (script : Script) (facts : Facts) (policy : Policy)
          → CollectSteps script (collection_at facts (phase_of.Unlinking member (Some r.weak)) None) store policy
          (collection_at facts (phase_of.Unlinking member (next_older_in store.rows r.weak)) None) lost policy (answer_of.Emit (Cleared r.weak))
      turn-unlinked script facts policy asked w below s =
          only_tells script asked w below (map Cleared (lines_of (filter (includes final) (to_look_at store (Some r.weak))) store.rows)) (Cleared r.weak ∷ [])
          (collection_at facts (phase_of.Unlinking member (next_older_in store.rows r.weak)) None) lost policy
          (ap (λ ws. map Cleared (lines_of ws store.rows)) among
          ∙ ap (λ rows. map Cleared (r.weak ∷ (rest ++ members_losing final (from_on member final) rows))) (sym (without_rows-cons r.weak rest store.rows))
          ∙ ap (λ ws. Cleared r.weak ∷ map Cleared (lines_of ws lost.rows)) (ap (filter (includes final)) (sym (looks_on_without store ok r inside stays lost refl rise))))
          (record {
            represents = subst (λ (st : Store). Represents st w) (sym (same_without final store ok.rise r inside lost_too)) s.shows.represents;
            numbers = s.shows.numbers;
            running = s.shows.running;
            top = s.shows.top;
          })
        where
          among : filter (includes final) (to_look_at store (Some r.weak)) ≡ r.weak ∷ rest
          among = ap (filter (includes final)) (looks_here store ok r inside stays) ∙ ap (λ b. cond b (r.weak ∷ rest) rest) is_member

          lost_too : is_lost_with final r ≡ true
          lost_too = (λ i. (includes final r.referent || is_member i) && not (stays i)) ∙ or_true (includes final r.referent)
            where
              or_true : (b : Bool) → ((b || true) && true) ≡ true
              or_true true = refl
              or_true false = refl

-- What follows when a weak reference is passed, and when it is cleared.
pub record Skips (store : Store) (member : Option ℕ) (weak : ℕ) : Type 0 where
  pub steps : (script : Script) (facts : Facts) (policy : Policy)
      → CollectSteps script (collection_at facts (phase_of.Unlinking member (Some weak)) None) store policy
      (collection_at facts (phase_of.Unlinking member (next_older_in store.rows weak)) None) store policy answer_of.Continue
  pub goes_on : IsMemberWalk store member (next_older_in store.rows weak)
  pub falls : (left_to_walk member (next_older_in store.rows weak) store) + 0 < (left_to_walk member (Some weak) store) + 0
  pub shorter : length (to_look_at store (next_older_in store.rows weak)) < length (to_look_at store (Some weak))

pub record Unlinks (store : Store) (member : Option ℕ) (weak : ℕ) : Type 0 where
  pub steps : IsRising (without_row weak store.rows) → (script : Script) (facts : Facts) (policy : Policy)
      → CollectSteps script (collection_at facts (phase_of.Unlinking member (Some weak)) None) store policy
      (collection_at facts (phase_of.Unlinking member (next_older_in store.rows weak)) None) (record store { rows = without_row weak store.rows }) policy
      (answer_of.Emit (Cleared weak))
  pub goes_on : IsRising (without_row weak store.rows) → IsMemberWalk (record store { rows = without_row weak store.rows }) member (next_older_in store.rows weak)

by_row : (store : Store) (member : Option ℕ) (weak : ℕ) (P : ℕ → Type 0) → IsMemberWalk store member (Some weak) → ((r : Row) → Includes store.rows r → r.waits
    ≡ false → r.weak ≡ weak → P r.weak) → P weak
by_row store member weak P walk each =
    let (o, refers_o) = walk.weak_live weak refl in
    let (r, inside, passes, same) = row_there store.rows weak o refers_o in
    subst P same (each r inside (not-true r.waits (true_and (r.referent == o) (not r.waits) passes).1) same)

pub skips : (store : Store) → AreRows store → (member : Option ℕ) (weak : ℕ) → IsMemberWalk store member (Some weak) → includes (list_at store Cand) weak ≡ false → Skips store member weak
skips store ok member weak walk other =
    by_row store member weak (Skips store member) walk
    (λ r inside stays same.
    let walk_at : IsMemberWalk store member (Some r.weak) = subst (λ v. IsMemberWalk store member (Some v)) (sym same) walk in
    let other_at : includes (list_at store Cand) r.weak ≡ false = ap (includes (list_at store Cand)) same ∙ other in
    record {
      steps = turn-skipped store ok r inside stays member walk_at other_at;
      goes_on = unlink_passes store ok r inside stays member walk_at other_at;
      falls = unlink_falls store ok r inside stays member walk_at;
      shorter = unlink_shorter store ok r inside stays member walk_at;
    })

pub unlinks : (store : Store) → AreRows store → (member : Option ℕ) (weak : ℕ) → IsMemberWalk store member (Some weak) → includes (list_at store Cand) weak ≡ true → Unlinks store member weak
unlinks store ok member weak walk is_one =
    by_row store member weak (Unlinks store member) walk
    (λ r inside stays same.
    let walk_at : IsMemberWalk store member (Some r.weak) = subst (λ v. IsMemberWalk store member (Some v)) (sym same) walk in
    let one_at : includes (list_at store Cand) r.weak ≡ true = ap (includes (list_at store Cand)) same ∙ is_one in
    record {
      steps = λ rise. turn-unlinked store ok r inside stays member walk_at one_at rise;
      goes_on = λ rise. unlink_loses store ok r inside stays member walk_at one_at rise;
    })

-- The next member is visited.
module _ (store : Store) (listed : IsListed store) (ok : AreRows store) (object : ℕ) (walk : IsMemberWalk store (Some object) None) (next weak : Option ℕ)
    (next_is : next ≡ following object (list_at store (place_of store object))) (weak_is : weak
    ≡ option_and_then (λ o. slice_get (weak_references_in store.rows o) 0) (referent_in store.rows object)) where
  abbrev members : List ℕ
  members = list_at store Cand

  pub ahead : from_on (Some object) members ≡ object ∷ from_on next members
  ahead = next_from store listed Cand object walk.member_at next next_is

  pub looks : to_look_at store weak ≡ references_in store.rows (referent_in store.rows object)
  looks = known (referent_in store.rows object) weak_is
    where
      known : (k : Option ℕ) → weak ≡ option_and_then (λ o. slice_get (weak_references_in store.rows o) 0) k → to_look_at store weak ≡ references_in store.rows k
      known None e = ap (to_look_at store) e
      known (Some t) e = looks_all store ok.rise t weak e

  pub unlink_next : IsMemberWalk store next weak
  unlink_next = record {
    member_at = next_at store listed Cand object walk.member_at next next_is;
    weak_live = λ v e. live_at (referent_in store.rows object) v (sym weak_is ∙ e);
    none_missed = λ o m. either (walk.none_missed o m)
        (λ k. absurd k)
        (λ k. either k
        (λ a. either (subst (λ l. Includes l o) ahead a) (λ e. its_own o e (referent_in store.rows object) refl) (λ l. inr (inl l)))
        (λ none. inr (inr none)));
    unreferred = walk.unreferred;
  }
    where
      live_at : (k : Option ℕ) (v : ℕ) → option_and_then (λ o. slice_get (weak_references_in store.rows o) 0) k ≡ Some v → (o : ℕ) × (referent_in store.rows v ≡ Some o)
      live_at None v e = absurd (cc)
      live_at (Some t) v e = (t, referent-listed store.rows ok.rise t v (head_in (weak_references_in store.rows t) v e))

      its_own : (o : ℕ) → object ≡ o → (k : Option ℕ) → referent_in store.rows object ≡ k → Includes (to_look_at store weak) o ⊎ Includes (from_on next members) o ⊎ (referent_in store.rows o ≡ None)
      its_own o e None has = inr (inr (ap (referent_in store.rows) (sym e) ∙ has))
      its_own o e (Some t) has =
          inl (subst (λ l. Includes l o) (sym (looks ∙ ap (references_in store.rows) has)) (listed-referent store.rows t o (ap (referent_in store.rows) (sym e) ∙ has)))

  pub unlink_nearer : (left_to_walk next weak store) + 0 < (left_to_walk (Some object) None store) + 0
  unlink_nearer =
      less (length (from_on next members)) (length (from_on (Some object) members)) (length store.rows) (length (to_look_at store weak))
      (let longer : length (from_on (Some object) members) ≡ length (object ∷ from_on next members) = ap length ahead in omega (arith, longer))
      (let same : length (to_look_at store weak) ≡ length (references_in store.rows (referent_in store.rows object)) = ap length looks in omega (arith, same, few (referent_in store.rows object)))
    where
      few : (k : Option ℕ) → length (references_in store.rows k) < length store.rows + 1
      few None = omega arith
      few (Some t) = omega (arith, references-le store.rows t)

  pub turn-next : (script : Script) (facts : Facts) (policy : Policy)
      → CollectSteps script (collection_at facts (phase_of.Unlinking (Some object) None) None) store policy (collection_at facts (phase_of.Unlinking next weak) None) store policy answer_of.Continue
  turn-next script facts policy =
      tells_none script facts (phase_of.Unlinking (Some object) None) (phase_of.Unlinking next weak) store policy
      (λ asked w below s. record { represents = s.represents; numbers = s.numbers; running = s.running; top = s.top })
      (λ asked.
      (λ i. map Cleared (members_losing members (ahead i) (without_rows-nil store.rows i)))
      ∙ ap (λ ws. map Cleared (ws ++ members_losing members (from_on next members) (without_rows ws store.rows))) (ap (filter (includes members)) (sym looks)))

-- After all were visited, none is left to clear.
pub turn-all_unlinked : (store : Store) → IsRising store.rows → IsMemberWalk store None None → (script : Script) (facts : Facts) (policy : Policy)
    → CollectSteps script (collection_at facts (phase_of.Unlinking None None) None) store policy (collection_at facts phase_of.Turns None) store policy answer_of.Continue
turn-all_unlinked store rise walk script facts policy =
    tells_none script facts (phase_of.Unlinking None None) phase_of.Turns store policy
    (λ asked w below s. record { represents = subst (λ (st : Store). Represents st w) all_lost s.represents; numbers = s.numbers; running = s.running; top = s.top })
    (λ asked. refl)
  where
    all_lost : without_rows_of (list_at store Cand) store ≡ store
    all_lost = λ i. record store {
      rows = none_lost (list_at store Cand) store.rows rise (none_referring (list_at store Cand) store.rows walk.unreferred)
          (λ o m. either (walk.none_missed o m) (λ k. absurd k) (λ k. either k (λ l. absurd l) (λ none. none))) i;
    }
