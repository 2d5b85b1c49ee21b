-- The second reachability pass: the heap does the machine's step. The following calls print its lines, as weak
-- references to the final set are cleared.
use Rattle.std.proofs.Common.{◌≡◌, ◌≢◌, refl, sym, ◌∙◌, ap, subst, ℕ, ◌+◌, ◌≤◌, Bool, true, false, cond, not, inl, inr, List, [], ◌∷◌, ◌++◌, length, map, Option, Some, None, IsSome, arith}
use Rattle.std.specs.Prelude.{◌⊎◌, ◌↔◌, ◌==◌, ◌&&◌, ◌||◌, if◌then◌else◌, filter, flat_map, sum_by, option_map, unwrap_or, slice_get}
use Rattle.std.specs.FinMap as fin
use Rattle.std.proofs.lemmas.Bool.{eqb-true}
use Rattle.std.proofs.lemmas.List.{map-append}
use Rattle.std.proofs.lemmas.List.Sums.{sum_by-cons}
use Rattle.cg_value.specs.declared.KindCode.TheVariants.{Weak}
use Rattle.cg_value.specs.declared.Place.{Place}
use Rattle.cg_value.specs.declared.Place.TheVariants.{Untracked, Gen, Cand, Seen, Back, Legacy, Pend}
use Rattle.cg_script.specs.declared.Script.{Script}
use Rattle.cg_graph.specs.Maps.{total}
use Rattle.cg_graph.specs.Member.{Includes, includes}
use Rattle.cg_graph.specs.Object.{Object, object_at, with_place as object_placed, is_at, same_place, serials, serials_at}
use Rattle.cg_graph.specs.Reachable.{IsReachable, IsUnreachable, StandsAt}
use Rattle.cg_graph.specs.Rows.{Row, IsRising, referent_in, refers_to, weak_references_in, waiting_in, without_row}
use Rattle.cg_graph.specs.Store.{Store, Node, IsLive, HasCode, list_at, objects_of, object_from, place_of, place_in}
use Rattle.cg_graph.proofs.Members.{either, cases_of, true_and, true_or, includes-of, Includes-of, Includes-append_left, Includes-append_right, Includes-filter_cases}
use Rattle.cg_graph.proofs.Objects.{object-at}
use Rattle.cg_graph.proofs.Reachable.{reachable_alike}
use Rattle.cg_arena.specs.Nodes.{IsPlace}
use Rattle.cg_heap.specs.Calls.{IsListed, IsSound, merged}
use Rattle.cg_heap.specs.Keeps.{one}
use Rattle.cg_heap.proofs.CallerLemmas.{live_of_kind}
use Rattle.cg_machine.specs.declared.event.Event.TheVariants.{Alive, Cleared}
use Rattle.cg_machine.specs.World as machine
use Rattle.cg_machine.specs.World.{World, Activity, Collecting, with_stack, with_objects}
use Rattle.cg_machine.specs.Holdings.{holdings}
use Rattle.cg_represents.specs.Represents.{Represents}
use Rattle.cg_machine.specs.Weak.{AllLose}
use Rattle.cg_machine.specs.Collect.{older, get_older, loses_at_split}
use Rattle.cg_represents.proofs.Representing.{in_one, count-in_degree}
use Rattle.cg_policy.specs.Policy.{Policy}
use Rattle.cg_trial.specs.View.{view_of, Merged}
use Rattle.cg_trial.specs.Split.{IsSameButPlaces}
use Rattle.cg_trial.proofs.Lists.{ahead_is, once_before, occurs}
use Rattle.cg_trial.proofs.PlacesOfObjects.{once_at, where_is, is_there}
use Rattle.cg_trial.proofs.Ends.{same_but_places}
use Rattle.cg_trial.proofs.EffectsOfCalls.{merged_view}
use Rattle.cg_death.proofs.RowSplits.{all_in, row_of_one, head_in}
use Rattle.cg_death.proofs.Clearing.{some_first}
use Rattle.cg_collect.specs.declared.answer.CollectStep.TheVariants as answer_of
use Rattle.cg_collect.specs.declared.collection.Facts.{Facts}
use Rattle.cg_collect.specs.declared.phase.Phase.TheVariants as phase_of
use Rattle.cg_collect.specs.Phases.{collection_of, from_on, cleared_lines, member_lines, members_losing, refers_to_any, without_referents, is_lost_with, without_rows_of}
use Rattle.cg_collect.specs.Ready.{IsAt, IsApartUnseen, HasNoneBehind}
use Rattle.cg_collect.specs.Answers.{CollectSteps}
use Rattle.cg_collect.specs.Turns.{collection_at}
use Rattle.cg_represents.proofs.Places.{place_at_is, place_is}
use Rattle.cg_collect.proofs.PlacesOfObjects.{stands_at, place_there, live_there, stood_at, same_more, entries_on, outside_on, objects_on, list_length, map_alike}
use Rattle.cg_collect.proofs.StartLines.{from_ahead, from_first, at_first, split_at}
use Rattle.cg_collect.proofs.Stopping.{at_right, tells_line, tells_none}
use Rattle.cg_collect.proofs.RowFilters.{rising-filter, filter_twice, newest_left, references_other, refers, flat_map_alike, filter-without, without_rows-nil}
use Rattle.cg_collect.proofs.FinalRows.{AreAlive, lose_first, lose_members, waiting-rest, none_to_lose, same_without}
use Rattle.cg_collect.proofs.FinalizerPhase.{still_unsaved}
use Rattle.cg_collect.proofs.Worlds.{steps_at, only_tells, LeavesRest, pending_is, represents_on}

module _ (script : Script) (facts : Facts) (store : Store) (policy : Policy) where
  abbrev old_ones : List ℕ
  old_ones = list_at store (Gen (older facts.generation))

  abbrev candidates : List ℕ
  candidates = list_at store Cand

  pub turn-living : (o : ℕ) (after : Option ℕ) → from_on (Some o) old_ones ≡ o ∷ from_on after old_ones
      → CollectSteps script (collection_at facts (phase_of.Living (Some o)) None) store policy (collection_at facts (phase_of.Living after) None) store policy (answer_of.Emit (Alive o))
  turn-living o after left =
      tells_line script facts (phase_of.Living (Some o)) (phase_of.Living after) store policy
      (λ asked w below s. record { represents = s.represents; numbers = s.numbers; running = s.running; top = s.top })
      (Alive o)
      (λ asked. ap (λ l. map Alive l ++ (cleared_lines store.rows candidates ++ member_lines store)) left)

  pub turn-all_living : (first : Option ℕ) → first ≡ slice_get candidates 0
      → CollectSteps script (collection_at facts (phase_of.Living None) None) store policy (collection_at facts (phase_of.Detaching first) None) store policy answer_of.Continue
  turn-all_living first is =
      tells_none script facts (phase_of.Living None) (phase_of.Detaching first) store policy
      (λ asked w below s. record { represents = s.represents; numbers = s.numbers; running = s.running; top = s.top })
      (λ asked. ap (λ l. cleared_lines store.rows l ++ member_lines store) (sym (ap (λ c. from_on c candidates) is ∙ from_first candidates)))

  -- a member without weak references is passed
  pub turn-passed : (o : ℕ) (after : Option ℕ) → from_on (Some o) candidates ≡ o ∷ from_on after candidates → weak_references_in store.rows o ≡ []
      → CollectSteps script (collection_at facts (phase_of.Detaching (Some o)) None) store policy (collection_at facts (phase_of.Detaching after) None) store policy answer_of.Continue
  turn-passed o after left none =
      tells_none script facts (phase_of.Detaching (Some o)) (phase_of.Detaching after) store policy
      (λ asked w below s. record { represents = s.represents; numbers = s.numbers; running = s.running; top = s.top })
      (λ asked. ap (λ l. cleared_lines store.rows l ++ member_lines store) left ∙ ap (λ ws. (map Cleared ws ++ cleared_lines store.rows (from_on after candidates)) ++ member_lines store) none)

  -- all are cleared, and members that are weak references follow
  pub turn-detached : ((o : ℕ) → Includes candidates o → weak_references_in store.rows o ≡ []) → (first : Option ℕ) → first ≡ slice_get candidates 0
      → CollectSteps script (collection_at facts (phase_of.Detaching None) None) store policy (collection_at facts (phase_of.Unlinking first None) None) store policy answer_of.Continue
  turn-detached none first is =
      tells_none script facts (phase_of.Detaching None) (phase_of.Unlinking first None) store policy
      (λ asked w below s. record { represents = s.represents; numbers = s.numbers; running = s.running; top = s.top })
      (λ asked. λ i. map Cleared (members_losing candidates (sym (ap (λ c. from_on c candidates) is ∙ from_first candidates) i)
      ((none_to_lose candidates store.rows none ∙ sym (without_rows-nil store.rows)) i)))

-- The newest weak reference to a member is cleared.
module _ (store : Store) (rise : IsRising store.rows) (o : ℕ) (ws : List ℕ) (r : Row) (inside : Includes store.rows r) (passes : refers_to o r ≡ true)
    (is : weak_references_in store.rows o ≡ r.weak ∷ ws) where
  abbrev lost : Store
  lost = record store { rows = without_row r.weak store.rows }

  pub turn-lost : (script : Script) (facts : Facts) (policy : Policy) (rest : List ℕ) → Includes (list_at store Cand) o → from_on (Some o) (list_at store Cand)
      ≡ o ∷ rest → ((q : ℕ) → Includes rest q → q ≢ o)
      → CollectSteps script (collection_at facts (phase_of.Detaching (Some o)) None) store policy (collection_at facts (phase_of.Detaching (Some o)) None) lost policy (answer_of.Emit (Cleared r.weak))
  turn-lost script facts policy rest member left others asked w below s =
      only_tells script asked w below (cleared_lines store.rows (from_on (Some o) (list_at store Cand)) ++ member_lines store) (Cleared r.weak ∷ [])
      (collection_at facts (phase_of.Detaching (Some o)) None) lost policy
      (ap (λ l. cleared_lines store.rows l ++ member_lines store) left
      ∙ ap (λ l. (map Cleared l ++ cleared_lines store.rows rest) ++ member_lines store) is
      ∙ (λ i. Cleared r.weak ∷ ((map Cleared (sym (newest_left (refers_to o) store.rows rise ws r inside passes is) i) ++ rest_same i) ++ members_same i))
      ∙ ap (λ l. Cleared r.weak ∷ (cleared_lines lost.rows l ++ member_lines lost)) (sym left))
      (record {
        represents = subst (λ (st : Store). Represents st w) (sym (same_without (list_at store Cand) store rise r inside lost_too)) s.shows.represents;
        numbers = s.shows.numbers;
        running = s.shows.running;
        top = s.shows.top;
      })
    where
      rest_same : cleared_lines store.rows rest ≡ cleared_lines lost.rows rest
      rest_same = flat_map_alike (λ q. map Cleared (weak_references_in store.rows q)) (λ q. map Cleared (weak_references_in lost.rows q)) rest
          (λ q m. ap (map Cleared) (sym (references_other store.rows rise o r inside passes q (others q m))))

      -- the row refers to a member
      there : includes (list_at store Cand) r.referent ≡ true
      there = ap (includes (list_at store Cand)) (eqb-true r.referent o (true_and (r.referent == o) (not r.waits) passes).0) ∙ includes-of (list_at store Cand) o member

      gone : refers_to_any (list_at store Cand) r ≡ true
      gone = λ i. there i && (true_and (r.referent == o) (not r.waits) passes).1 i

      lost_too : is_lost_with (list_at store Cand) r ≡ true
      lost_too = λ i. (there i || includes (list_at store Cand) r.weak) && (true_and (r.referent == o) (not r.waits) passes).1 i

      members_same : member_lines store ≡ member_lines lost
      members_same = ap (λ rows. map Cleared (members_losing (list_at store Cand) (list_at store Cand) rows))
          (sym (filter-without store.rows rise r inside (λ x. not (refers_to_any (list_at store Cand) x)) (ap not gone)))

  pub apart_lost : IsApartUnseen store → IsApartUnseen lost
  apart_lost (apart, unseen) = (record { garbage = apart.garbage; back = apart.back; candidates = apart.candidates; seen = apart.seen; legacy = apart.legacy }, unseen)

  pub behind_lost : HasNoneBehind store (Some o) → HasNoneBehind lost (Some o)
  behind_lost behind q m = either (behind q m) (λ k. inl k)
      (λ none. inr (references_other store.rows rise o r inside passes q (λ e. let nothing : r.weak ∷ ws ≡ [] = sym is ∙ ap (weak_references_in store.rows) (sym e) ∙ none in absurd (cc)) ∙ none))

  pub lost_refers : referent_in store.rows r.weak ≡ Some o
  lost_refers = refers store.rows rise o r inside passes

-- what is left of a walk at a member
pub from_here : (store : Store) → IsListed store → (p : Place) (o : ℕ) → Includes (list_at store p) o → (rest : List ℕ) × (from_on (Some o) (list_at store p)
    ≡ o ∷ rest) × ((q : ℕ) → Includes rest q → q ≢ o)
from_here store listed p o m =
    let (front, back, parts) = split_at (list_at store p) o m in (
      back,
      from_ahead (Some o) (list_at store p) ∙ ahead_is (list_at store p) (Some o) front (o ∷ back) (once_at store listed p) (record { parts = parts; at = refl }),
      λ q k e.
          let none = (once_before (list_at store p) front back o (once_at store listed p o) parts).1 in
          let some = occurs back o (subst (Includes back) e k) in
          absurd (omega (arith, some, none)),
    )

-- the row of the newest
pub record Newest (store : Store) (o : ℕ) (weak : ℕ) : Type 0 where
  pub row : Row
  pub older : List ℕ
  pub inside : Includes store.rows row
  pub passes : refers_to o row ≡ true
  pub is : row.weak ≡ weak
  pub first : weak_references_in store.rows o ≡ row.weak ∷ older

pub newest_row : (store : Store) (o weak : ℕ) → slice_get (weak_references_in store.rows o) 0 ≡ Some weak → Newest store o weak
newest_row store o weak e =
    let (older, first) = some_first (weak_references_in store.rows o) weak e in
    let (r, inside, passes, same) = row_of_one (refers_to o) store.rows weak (head_in (weak_references_in store.rows o) weak e) in
    record { row = r; older = older; inside = inside; passes = passes; is = same; first = first ∙ ap (λ v. v ∷ older) (sym same) }

-- no place has more objects than there are
pub list-le : (store : Store) → IsListed store → (p : Place) → length (list_at store p) ≤ total one store.nodes
list-le store listed p = omega (arith, list_length store listed p, few (fin.entries store.nodes))
  where
    few : (es : List (ℕ × Node)) → length (serials (filter (is_at p) (map (λ (e : ℕ × Node). object_from store.rows e.0 e.1) es))) ≤ sum_by (λ (e : ℕ × Node). one e.1) es
    few [] = omega arith
    few (e ∷ es) = go (is_at p (object_from store.rows e.0 e.1)) (few es)
      where
        go : (b : Bool) → length (serials (filter (is_at p) (map (λ (e : ℕ × Node). object_from store.rows e.0 e.1) es))) ≤ sum_by (λ (e : ℕ × Node). one e.1) es
            → length (serials (cond b (object_from store.rows e.0 e.1 ∷ filter (is_at p) (map (λ (e : ℕ × Node). object_from store.rows e.0 e.1) es))
            (filter (is_at p) (map (λ (e : ℕ × Node). object_from store.rows e.0 e.1) es)))) ≤ sum_by (λ (e : ℕ × Node). one e.1) (e ∷ es)
        go true h = omega (arith, h, sum_by-cons (λ (e : ℕ × Node). one e.1) e es)
        go false h = omega (arith, h, sum_by-cons (λ (e : ℕ × Node). one e.1) e es)

-- a candidate, by its object
module _ (store : Store) (listed : IsListed store) where
  abbrev test : Option Object → Bool
  test x = unwrap_or (option_map (is_at Cand) x) false

  pub tested : (o : ℕ) → Includes (list_at store Cand) o → test (object_at (objects_of store) o) ≡ true
  tested o m =
      let (live, at) = where_is store listed Cand o m in
      ap test (object-at store o) ∙ known o (fin.get store.nodes o) live at
    where
      known : (o : ℕ) (x : Option Node) → IsSome x → place_in x ≡ Cand → test (option_map (object_from store.rows o) x) ≡ true
      known o None live at = absurd (cc)
      known o (Some n) live at = place_at_is n.place Cand at

  pub passes_test : (o : ℕ) → test (object_at (objects_of store) o) ≡ true → Includes (list_at store Cand) o
  passes_test o h = known (fin.get store.nodes o) refl (sym (ap test (object-at store o)) ∙ h)
    where
      known : (x : Option Node) → fin.get store.nodes o ≡ x → test (option_map (object_from store.rows o) x) ≡ true → Includes (list_at store Cand) o
      known None e h = absurd (let f : false ≡ true = h in cc)
      known (Some n) e h = is_there store listed Cand o (subst IsSome (sym e) refl) (ap place_in e ∙ place_is n.place Cand h)

  -- a weak reference to a candidate, or one that is a candidate, is cleared
  pub loses_it : (rows : List Row) (weak : ℕ) (n : Node) (o : ℕ) → fin.get store.nodes weak ≡ Some n → referent_in rows weak ≡ Some o
      → Includes (list_at store Cand) o ⊎ Includes (list_at store Cand) weak
      → loses_at_split (objects_of store) (object_from rows weak n) ≡ true
  loses_it rows weak n o got refers which =
      ap (λ (r : Option ℕ). unwrap_or (option_map (λ p. test (object_at (objects_of store) p) || is_at Cand (object_from rows weak n)) r) false) refers
      ∙ either which
      (λ m. ap (λ b. b || is_at Cand (object_from rows weak n)) (tested o m))
      (λ m. ap (λ b. test (object_at (objects_of store) o) || b) (place_at_is n.place Cand (ap place_in (sym got) ∙ (where_is store listed Cand weak m).1))
      ∙ or_true (test (object_at (objects_of store) o)))
    where
      or_true : (b : Bool) → (b || true) ≡ true
      or_true true = refl
      or_true false = refl

  pub loses_one : (rows : List Row) (x : Object) → Includes (objects_of (record store { rows = rows })) x → loses_at_split (objects_of store) x ≡ true
      → (o : ℕ) × (x.referent ≡ Some o) × (Includes (list_at store Cand) o ⊎ Includes (list_at store Cand) x.serial)
  loses_one rows x m h = known x.referent refl h
    where
      candidate : is_at Cand x ≡ true → Includes (list_at store Cand) x.serial
      candidate at = is_there store listed Cand x.serial (live_there (record store { rows = rows }) x m) (place_there (record store { rows = rows }) x m ∙ place_is x.place Cand at)

      known : (r : Option ℕ) → x.referent ≡ r → unwrap_or (option_map (λ p. test (object_at (objects_of store) p) || is_at Cand x) r) false ≡ true
          → (o : ℕ) × (x.referent ≡ Some o) × (Includes (list_at store Cand) o ⊎ Includes (list_at store Cand) x.serial)
      known None e k = absurd (let f : false ≡ true = k in cc)
      known (Some o) e k = (o, e, either (true_or (test (object_at (objects_of store) o)) (is_at Cand x) k) (λ a. inl (passes_test o a)) (λ b. inr (candidate b)))

-- The candidates are split, and survivors move to the older generation.
module _ (g : ℕ) (store half : Store) (listed : IsListed store) (root : IsLive store 1) (apart : IsApartUnseen store) (half_listed : IsListed half) (same : IsSameButPlaces store half)
    (unreachable : (o : ℕ) → Includes (list_at half Cand) o ↔ IsUnreachable store Cand o) (reachable : (o : ℕ) → Includes (list_at half Back) o ↔ IsReachable store Cand o)
    (others : (p : Place) → p ≢ Cand → p ≢ Back → list_at half p ≡ list_at store p) where
  abbrev p : Place
  p = Gen (older g)

  abbrev pub parted : Store
  parted = merged Back p half

  abbrev alive : List ℕ
  alive = list_at half Back

  older_place : IsPlace p
  older_place = omega arith

  back_place : IsPlace Back
  back_place = omega arith

  view : Merged Back p (view_of half) (view_of parted)
  view = merged_view half half_listed Back p (λ e. cc) back_place older_place parted refl

  pub same_parted : IsSameButPlaces store parted
  same_parted = same_more store half parted same (same_but_places half parted view.same)

  pub joined : list_at parted p ≡ list_at half p ++ alive
  joined = view.joined

  -- the lists of other places
  elsewhere : (q : Place) → q ≢ Cand → q ≢ Back → q ≢ p → list_at parted q ≡ list_at store q
  elsewhere q cand back old = view.others q back old ∙ others q cand back

  candidates_left : list_at parted Cand ≡ list_at half Cand
  candidates_left = view.others Cand (λ e. cc) (λ e. cc)

  pub was_candidate : (o : ℕ) → Includes (list_at parted Cand) o → Includes (list_at store Cand) o
  was_candidate o m =
      let stands = stood_at store Cand o ((unreachable o).0 (subst (λ l. Includes l o) candidates_left m)).member in
      is_there store listed Cand o stands.0 stands.1

  module _ (parted_listed : IsListed parted) where
    -- where each object then is
    alive_at : (o : ℕ) → Includes alive o → place_of parted o ≡ p
    alive_at o m = (where_is parted parted_listed p o (subst (λ l. Includes l o) (sym joined) (Includes-append_right (list_at half p) alive o m))).1

    stays_at : (o : ℕ) → IsLive store o → ¬ Includes alive o → place_of parted o ≡ place_of store o
    stays_at o live dead = go (cases_of (same_place (place_of store o) Cand)) (cases_of (same_place (place_of store o) Back)) (cases_of (same_place (place_of store o) p))
      where
        there : Includes (list_at store (place_of store o)) o
        there = is_there store listed (place_of store o) o live refl

        differs : (q : Place) → same_place (place_of store o) q ≡ false → place_of store o ≢ q
        differs q other e = let yes' : true ≡ false = sym (place_at_is (place_of store o) q e) ∙ other in cc

        go : (same_place (place_of store o) Cand ≡ true) ⊎ (same_place (place_of store o) Cand ≡ false) → (same_place (place_of store o) Back ≡ true) ⊎ (same_place (place_of store o) Back ≡ false)
            → (same_place (place_of store o) p ≡ true) ⊎ (same_place (place_of store o) p ≡ false) → place_of parted o ≡ place_of store o
        go (inl cand) b c =
            let at : place_of store o ≡ Cand = place_is (place_of store o) Cand cand in
            let member : StandsAt store Cand o = stands_at store Cand o live at in
            (where_is parted parted_listed Cand o (subst (λ l. Includes l o) (sym candidates_left)
            ((unreachable o).1 (record { member = member; no_path = λ path. dead ((reachable o).1 path) })))).1 ∙ sym at
        go (inr a) (inl back) c = absurd (subst (λ l. Includes l o) (ap (list_at store) (place_is (place_of store o) Back back) ∙ apart.0.back) there)
        go (inr a) (inr b) (inl old) =
            let at : place_of store o ≡ p = place_is (place_of store o) p old in
            (where_is parted parted_listed p o (subst (λ l. Includes l o) (sym joined) (Includes-append_left (list_at half p) alive o
            (subst (λ l. Includes l o) (sym (others p (λ e. cc) (λ e. cc))) (subst (λ q. Includes (list_at store q) o) at there))))).1 ∙ sym at
        go (inr a) (inr b) (inr c) =
            (where_is parted parted_listed (place_of store o) o (subst (λ l. Includes l o) (sym (elsewhere (place_of store o) (differs Cand a) (differs Back b) (differs p c))) there)).1

    pub objects_parted : objects_of parted ≡ get_older g alive (objects_of store)
    objects_parted =
        objects_on store parted same_parted
        ∙ map_alike (λ x. object_placed (place_of parted x.serial) x) (λ x. if includes alive x.serial then object_placed p x else x) (objects_of store) each
      where
        each : (x : Object) → Includes (objects_of store) x → object_placed (place_of parted x.serial) x ≡ (if includes alive x.serial then object_placed p x else x)
        each x m = either (cases_of (includes alive x.serial))
            (λ yes'. ap (λ q. object_placed q x) (alive_at x.serial (Includes-of alive x.serial yes')) ∙ sym (ap (λ b. if b then object_placed p x else x) yes'))
            (λ dead. ap (λ q. object_placed q x) (stays_at x.serial (live_there store x m) (λ k. let yes' : true ≡ false = sym (includes-of alive x.serial k)
            ∙ dead in cc) ∙ place_there store x m) ∙ sym (ap (λ b. if b then object_placed p x else x) dead))

    -- what is partitioned
    pub apart_parted : IsApartUnseen parted
    apart_parted = (
      record {
        garbage = (where_is parted parted_listed Untracked 1 (subst (λ l. Includes l 1) (sym (elsewhere Untracked (λ e. cc) (λ e. cc) (λ e. cc)))
            (is_there store listed Untracked 1 root apart.0.garbage))).1;
        back = view.emptied;
        candidates = still_unsaved store parted Cand (entries_on store parted same_parted 1) (λ q m. apart.0.candidates q (was_candidate q m));
        seen = still_unsaved store parted Seen (entries_on store parted same_parted 1) (λ q m. apart.0.seen q (subst (λ l. Includes l q) (elsewhere Seen (λ e. cc) (λ e. cc) (λ e. cc)) m));
        legacy = still_unsaved store parted Legacy (entries_on store parted same_parted 1) (λ q m. apart.0.legacy q (subst (λ l. Includes l q) (elsewhere Legacy (λ e. cc) (λ e. cc) (λ e. cc)) m));
      },
      elsewhere Seen (λ e. cc) (λ e. cc) (λ e. cc) ∙ apart.1,
    )

    module _ (first : Option ℕ) (is : first ≡ slice_get alive 0) where
      pub living_at : IsAt first (list_at parted p)
      living_at = subst (IsAt first) (sym joined) (at_right first (list_at half p) alive (subst (λ c. IsAt c alive) (sym is) (at_first alive)))

      living_from : from_on first (list_at parted p) ≡ alive
      living_from = from_ahead first (list_at parted p) ∙ ahead_is (list_at parted p) first (list_at half p) alive (once_at parted parted_listed p) (record { parts = joined; at = is })

      module _ (sound : IsSound parted) (script : Script) (facts : Facts) (young : facts.generation ≡ g) (policy : Policy) (number : ℕ) (size : number ≡ length (list_at parted Cand)) where
        abbrev final : List ℕ
        final = list_at parted Cand

        -- the remaining rows, after no weak reference refers to a member
        abbrev unreferred : List Row
        unreferred = without_referents final parted.rows

        abbrev cleared : List ℕ
        cleared = flat_map (weak_references_in parted.rows) final ++ members_losing final final unreferred

        -- the heap after the lines are printed
        abbrev told : Store
        told = without_rows_of final parted

        told_listed : IsListed told
        told_listed = record { ten = parted_listed.ten; placed = parted_listed.placed; once = parted_listed.once }

        alive_rows : AreAlive parted parted.rows
        alive_rows = record { rise = sound.rows.rise; live = λ r m. live_of_kind parted r.weak Weak (all_in (λ (x : Row). HasCode parted x.weak Weak) parted.rows r sound.rows.weak m) }

        same_end : filter (λ r. not (is_lost_with final r)) unreferred ≡ told.rows
        same_end = filter_twice (λ r. not (is_lost_with final r)) (λ r. not (refers_to_any final r)) parted.rows (λ r h. fewer (includes final r.referent) (includes final r.weak) (not r.waits) h)
          where
            fewer : (a b c : Bool) → not ((a || b) && c) ≡ true → not (a && c) ≡ true
            fewer true b c h = h
            fewer false b c h = refl

        members_lose : AllLose (loses_at_split (objects_of parted)) (objects_of (record parted { rows = unreferred })) (members_losing final final unreferred) (objects_of told)
        members_lose =
            subst (λ (rows : List Row). AllLose (loses_at_split (objects_of parted)) (objects_of (record parted { rows = unreferred }))
            (members_losing final final unreferred) (objects_of (record parted { rows = rows }))) same_end
            (lose_members parted final (loses_at_split (objects_of parted)) (loses_it parted parted_listed) (loses_one parted parted_listed) final unreferred
            (record {
              rise = rising-filter (λ r. not (refers_to_any final r)) parted.rows sound.rows.rise;
              live = λ r m. alive_rows.live r
                  (Includes-filter_cases (λ x. not (refers_to_any final x)) parted.rows r m).0;
            })
            (λ r m stays there.
            let kept = (Includes-filter_cases (λ x. not (refers_to_any final x)) parted.rows r m).1 in
            let gone : refers_to_any final r ≡ true = λ i. includes-of final r.referent there i && not (stays i) in
            let f : false ≡ true = sym (ap not gone) ∙ kept in
            cc)
            (λ o m. inl m))

        lose : AllLose (loses_at_split (objects_of parted)) (objects_of parted) cleared (objects_of told)
        lose =
            lose_first parted final (loses_at_split (objects_of parted)) (loses_it parted parted_listed) (loses_one parted parted_listed) final (λ o m. m)
            (once_at parted parted_listed Cand) parted.rows alive_rows
            (members_losing final final unreferred) told.rows members_lose

        lines_are : (members : List ℕ) → cleared_lines parted.rows members ≡ map Cleared (flat_map (weak_references_in parted.rows) members)
        lines_are [] = refl
        lines_are (o ∷ members) = ap (λ l. map Cleared (weak_references_in parted.rows o) ++ l) (lines_are members)
            ∙ sym (map-append Cleared (weak_references_in parted.rows o) (flat_map (weak_references_in parted.rows) members))

        all_lines : cleared_lines parted.rows final ++ member_lines parted ≡ map Cleared cleared
        all_lines = ap (λ l. l ++ member_lines parted) (lines_are final) ∙ sym (map-append Cleared (flat_map (weak_references_in parted.rows) final) (members_losing final final unreferred))

        rest_told : LeavesRest store told
        rest_told = record {
          last = same_parted.last;
          names = same_parted.names;
          waiting = λ o. waiting-rest final parted.rows o ∙ ap (λ rows. waiting_in rows o) same_parted.rows;
          no_more = λ r m waits. subst (λ (rows : List Row). Includes rows r) same_parted.rows (Includes-filter_cases (λ x. not (is_lost_with final x)) parted.rows r m).0;
        }

        final_size : length (serials_at (objects_of told) Cand) ≡ number
        final_size = sym (size ∙ list_length told told_listed Cand)

        pub turn-split : CollectSteps script (collection_at facts phase_of.Split None) store policy (record (collection_at facts (phase_of.Living first) None)
            { collected = facts.collected + number }) parted policy answer_of.Continue
        turn-split =
            steps_at script (collection_at facts phase_of.Split None) store policy (record (collection_at facts (phase_of.Living first) None)
            { collected = facts.collected + number }) parted policy answer_of.Continue
            (λ asked v below s.
            let a : machine.Collection = collection_of asked (collection_at facts phase_of.Split None) machine.Split in
            let b : machine.Collection = collection_of asked (record (collection_at facts phase_of.Turns None) { collected = facts.collected + number }) machine.Turns in
            let w : World = with_stack (Collecting a ∷ below) v in
            let here : objects_of store ≡ v.objects = s.shows.represents.objects in
            let after : World = with_stack (Collecting b ∷ below) (with_objects (objects_of told) v) in
            let aged : objects_of parted ≡ get_older facts.generation alive v.objects = objects_parted ∙ (λ i. get_older (sym young i) alive (here i)) in
            record {
              events = map Alive alive ++ map Cleared cleared;
              after = after;
              goes = in_one script w (map Alive alive ++ map Cleared cleared) after s.running (record {
                alive = alive;
                survivors = λ o.
                    let law = reachable_alike store (holdings w) Cand (count-in_degree store w s.shows.represents) v.objects here o in
                    (λ m. law.0 ((reachable o).0 m), λ path. (reachable o).1 (law.1 path));
                once = λ o. let few = once_at half half_listed Back o in omega (arith, few);
                cleared = cleared;
                objects = objects_of told;
                lose = subst (λ (os : List Object). AllLose (loses_at_split os) os cleared (objects_of told)) aged lose;
                lines = refl;
                world = λ i. with_stack (Collecting (record b { collected = facts.collected + sym final_size i }) ∷ below) (with_objects (objects_of told) v);
              });
              lines = (λ i. map Alive (sym (ap (λ k. from_on first (list_at parted (Gen (older k)))) young ∙ living_from) i) ++ sym all_lines i);
              shows = record {
                represents = represents_on store told v below a b s.shows.represents s.alone (objects_of told) refl rest_told
                    (elsewhere Pend (λ e. cc) (λ e. cc) (λ e. cc) ∙ pending_is store store v below a b s.shows.represents s.alone)
                    (λ q. omega (arith, outside_on store parted same_parted q));
                numbers = s.shows.numbers;
                running = s.shows.running;
                top = refl;
              };
              keeps = record { budget = refl; outcome = refl };
            })
