-- A graph by the heap is one of the world that the heap represents.
use Rattle.std.proofs.Common.{◌≡◌, refl, sym, ◌∙◌, ap, subst, ℕ, zero, suc, ◌+◌, ◌<◌, ◌≤◌, ◌⊎◌, Bool, true, false, cond, inl, inr, List, [], ◌∷◌, ◌++◌, map, Option, None, Some, IsSome, arith}
use Rattle.std.specs.Prelude.{filter, ◌==◌, nat_le, if◌then◌else◌, is_some, option_and_then}
use Rattle.std.specs.FinMap as fin
use Rattle.std.proofs.lemmas.Bool.{eqb-true, eq-eqb}
use Rattle.std.proofs.lemmas.Bool.Decides.{nat_tests}
use Rattle.cg_value.specs.declared.Place.{Place}
use Rattle.cg_value.specs.declared.Place.TheVariants.{Untracked, Gen, Cand, Legacy}
use Rattle.cg_script.specs.declared.Script.{Script}
use Rattle.cg_graph.specs.Member.{Includes, includes}
use Rattle.cg_graph.specs.Value.{references}
use Rattle.cg_graph.specs.Object.{Object, serials, serials_at, is_at, same_place, with_place, object_at, entries_of as object_entries_of}
use Rattle.cg_graph.specs.Holdings.{occurrences}
use Rattle.cg_graph.specs.Store.{Store, Node, objects_of, entries_of, place_of, place_in, list_at, IsLive}
use Rattle.cg_graph.proofs.Members.{either, cases_of, Includes-of, includes-of, Includes-append_left, Includes-append_right, Includes-append_cases, Includes-map, Includes-map_cases, Includes-filter, Includes-filter_cases}
use Rattle.cg_graph.proofs.Objects.{occurrences-append}
use Rattle.cg_death.proofs.Emptying.{entries-agree}
use Rattle.cg_heap.specs.Calls.{IsListed}
use Rattle.cg_represents.proofs.Places.{place_is}
use Rattle.cg_machine.specs.World.{World}
use Rattle.cg_machine.specs.Program.{legacy_of}
use Rattle.cg_machine.specs.Collect.{SameMembers, merged_place, has_legacy}
use Rattle.cg_represents.specs.Represents.{Represents}
use Rattle.cg_represents.proofs.Representing.{count-in_degree}
use Rattle.cg_trial.proofs.Lists.{occurs_in, none_or_some}
use Rattle.cg_trial.proofs.PlacesOfObjects.{once_at, where_is, is_there}
use Rattle.cg_collect.proofs.PlacesOfObjects.{map_alike, same_times, node_of_live, place_there, live_there, object_there, once_among, list_has}
use Rattle.cg_collect.specs.Starting.{has_legacy_in}
use Rattle.cg_records.specs.Members.{member}
use Rattle.cg_interp.specs.declared.graphs.Detection.{Detection}
use Rattle.cg_interp.specs.declared.graphs.Detection.TheVariants.{First, Second}
use Rattle.cg_interp.specs.Graphs.{is_candidate_at, generations_below, candidates_in, member_in, lost_in, legacy_in, graph_in}
use Rattle.cg_interp.specs.Recorded.{candidates, lost_at, legacy_at, member_among, IsGraphOf}

-- the candidates are in the places that the pass examines
abbrev stands_so : Detection → Object → Bool
stands_so d x = is_candidate_at d x.place

merged_serials : (g : ℕ) (objects : List Object) → serials_at (map (λ x. with_place (merged_place g x.place) x) objects) (Gen g) ≡ serials (filter (stands_so (First g)) objects)
merged_serials g [] = refl
merged_serials g (x ∷ objects) = go (same_place (merged_place g x.place) (Gen g)) (merged_serials g objects)
  where
    go : (b : Bool) → serials_at (map (λ y. with_place (merged_place g y.place) y) objects) (Gen g) ≡ serials (filter (stands_so (First g)) objects)
        → serials (cond b (with_place (merged_place g x.place) x ∷ filter (is_at (Gen g)) (map (λ y. with_place (merged_place g y.place) y) objects))
        (filter (is_at (Gen g)) (map (λ y. with_place (merged_place g y.place) y) objects))) ≡ serials (cond b (x ∷ filter (stands_so (First g)) objects)
        (filter (stands_so (First g)) objects))
    go true same = ap (λ l. x.serial ∷ l) same
    go false same = same

pub candidates_are : (d : Detection) (w : World) → candidates d w ≡ serials (filter (stands_so d) w.objects)
candidates_are (First g) w = merged_serials g w.objects
candidates_are Second w = refl

-- no pass examines untracked objects
untracked_no : (d : Detection) → is_candidate_at d Untracked ≡ false
untracked_no (First g) = refl
untracked_no Second = refl

-- an object lives, or has no place
lives_or : (n : Option Node) → IsSome n ⊎ (place_in n ≡ Untracked)
lives_or None = inr refl
lives_or (Some n) = inl refl

-- a place that a first pass examines is a generation up to its own
same_gen : (g : ℕ) (p : Place) → same_place (merged_place g p) (Gen g) ≡ true → (i : ℕ) × (i ≤ g) × (p ≡ Gen i)
same_gen g (Gen i) e = go (nat_le i g) refl
  where
    go : (b : Bool) → nat_le i g ≡ b → (j : ℕ) × (j ≤ g) × (Gen i ≡ Gen j)
    go true le = (i, grind (arith, nat_tests, le), refl)
    go false above = (i, (let same : i == g ≡ true = ap (λ b. same_place (if b then Gen g else Gen i) (Gen g)) (sym above) ∙ e in omega (arith, eqb-true i g same)), refl)
same_gen g _ e = absurd (cc)

gen_same : (g i : ℕ) → i ≤ g → same_place (merged_place g (Gen i)) (Gen g) ≡ true
gen_same g i le = let yes : nat_le i g ≡ true = grind (arith, nat_tests, le) in ap (λ b. same_place (if b then Gen g else Gen i) (Gen g)) yes ∙ eq-eqb g g refl

module _ (store : Store) (listed : IsListed store) where
  -- the objects in the generations below one
  below_at : (n o : ℕ) → Includes (generations_below store n) o → (i : ℕ) × (i < n) × IsLive store o × (place_of store o ≡ Gen i)
  below_at zero o m = absurd m
  below_at (suc n) o m =
      either (Includes-append_cases (generations_below store n) (list_at store (Gen n)) o m)
      (λ k. let (i, less, live, at) = below_at n o k in (i, omega (arith, less), live, at))
      (λ k. let at = where_is store listed (Gen n) o k in (n, omega arith, at.0, at.1))

  at_below : (n o i : ℕ) → i < n → IsLive store o → place_of store o ≡ Gen i → Includes (generations_below store n) o
  at_below zero o i less live at = absurd (omega (arith, less))
  at_below (suc n) o i less live at = go (cases_of (i == n)) (λ lower. at_below n o i lower live at)
    where
      go : (i == n ≡ true) ⊎ (i == n ≡ false) → (i < n → Includes (generations_below store n) o) → Includes (generations_below store n ++ list_at store (Gen n)) o
      go (inl same) rec = Includes-append_right (generations_below store n) (list_at store (Gen n)) o (is_there store listed (Gen n) o live (at ∙ ap Gen (eqb-true i n same)))
      go (inr other) rec = Includes-append_left (generations_below store n) (list_at store (Gen n)) o (rec (grind (arith, nat_tests, less, other)))

  once_below : (n o : ℕ) → occurrences o (generations_below store n) ≤ 1
  once_below zero o = omega arith
  once_below (suc n) o = go (none_or_some (occurrences o (list_at store (Gen n)))) (once_below n o)
    where
      sum : occurrences o (generations_below store (suc n)) ≡ occurrences o (generations_below store n) + occurrences o (list_at store (Gen n))
      sum = occurrences-append o (generations_below store n) (list_at store (Gen n))

      go : (occurrences o (list_at store (Gen n)) ≡ 0) ⊎ (1 ≤ occurrences o (list_at store (Gen n))) → occurrences o (generations_below store n) ≤ 1
          → occurrences o (generations_below store (suc n)) ≤ 1
      go (inl none) once = omega (arith, sum, none, once)
      go (inr some) once =
          let at = where_is store listed (Gen n) o (occurs_in (list_at store (Gen n)) o some) in
          elim (none_or_some (occurrences o (generations_below store n))) [
            | inl none ↦ omega (arith, sum, none, once_at store listed (Gen n) o)
            | inr more ↦
                let (i, less, live, there) = below_at n o (occurs_in (generations_below store n) o more) in
                let same : Gen i ≡ Gen n = sym there ∙ at.1 in
                absurd (let e : i ≡ n = cc in omega (arith, less, e))
          ]

  -- who is a candidate, and where
  abbrev found : Detection → List ℕ
  found d = serials (filter (stands_so d) (objects_of store))

  found_at : (d : Detection) (o : ℕ) → Includes (found d) o → IsLive store o × (is_candidate_at d (place_of store o) ≡ true)
  found_at d o m =
      let (x, member, serial) = Includes-map_cases (λ (x : Object). x.serial) (filter (stands_so d) (objects_of store)) o m in
      let (there, so) = Includes-filter_cases (stands_so d) (objects_of store) x member in
      (subst (IsLive store) serial (live_there store x there), ap (is_candidate_at d) (ap (place_of store) (sym serial) ∙ place_there store x there) ∙ so)

  at_found : (d : Detection) (o : ℕ) → IsLive store o → is_candidate_at d (place_of store o) ≡ true → Includes (found d) o
  at_found d o live so =
      let (n, got) = node_of_live store o live in
      Includes-map (λ (x : Object). x.serial) (filter (stands_so d) (objects_of store)) _
      (Includes-filter (stands_so d) (objects_of store) _ (ap (is_candidate_at d) (sym (ap place_in got)) ∙ so) (object_there store o n got))

  looked_at : (d : Detection) (o : ℕ) → Includes (candidates_in store d) o → IsLive store o × (is_candidate_at d (place_of store o) ≡ true)
  looked_at (First g) o m =
      let (i, less, live, at) = below_at (g + 1) o m in
      (live, ap (is_candidate_at (First g)) at ∙ gen_same g i (omega (arith, less)))
  looked_at Second o m = let at = where_is store listed Cand o m in (at.0, ap (λ p. same_place p Cand) at.1)

  at_looked : (d : Detection) (o : ℕ) → IsLive store o → is_candidate_at d (place_of store o) ≡ true → Includes (candidates_in store d) o
  at_looked (First g) o live so = let (i, le, at) = same_gen g (place_of store o) so in at_below (g + 1) o i (omega (arith, le)) live at
  at_looked Second o live so = is_there store listed Cand o live (place_is (place_of store o) Cand so)

  once_looked : (d : Detection) (o : ℕ) → occurrences o (candidates_in store d) ≤ 1
  once_looked (First g) o = once_below (g + 1) o
  once_looked Second o = once_at store listed Cand o

  -- the candidates of the heap are among its objects
  candidates_found : (d : Detection) → SameMembers (candidates_in store d) (found d)
  candidates_found d =
      same_times (candidates_in store d) (found d) (once_looked d) (once_among store (stands_so d))
      (λ o. (λ m. let at = looked_at d o m in at_found d o at.0 at.1, λ m. let at = found_at d o m in at_looked d o at.0 at.1))

  -- whether an object is a candidate, by its place
  candidate_by_place : (d : Detection) (o : ℕ) → is_candidate_at d (place_of store o) ≡ includes (found d) o
  candidate_by_place d o = go (is_candidate_at d (place_of store o)) refl
    where
      lives : is_candidate_at d (place_of store o) ≡ true → IsLive store o
      lives e = known (lives_or (fin.get store.nodes o))
        where
          known : IsLive store o ⊎ (place_of store o ≡ Untracked) → IsLive store o
          known (inl live) = live
          known (inr at) = absurd (let f : true ≡ false = sym e ∙ ap (is_candidate_at d) at ∙ untracked_no d in cc)

      go : (b : Bool) → is_candidate_at d (place_of store o) ≡ b → b ≡ includes (found d) o
      go true e = sym (includes-of (found d) o (at_found d o (lives e) e))
      go false e = not_there (includes (found d) o) refl
        where
          not_there : (c : Bool) → includes (found d) o ≡ c → false ≡ c
          not_there false k = refl
          not_there true k = absurd (let at = found_at d o (Includes-of (found d) o k) in let f : true ≡ false = sym at.1 ∙ e in cc)

-- an object as a member, in the heap and in the world
filter_alike : {X : Type 0} (p q : X → Bool) (xs : List X) → ((x : X) → p x ≡ q x) → filter p xs ≡ filter q xs
filter_alike p q [] same = refl
filter_alike p q (x ∷ xs) same = λ i. cond (same x i) (x ∷ filter_alike p q xs same i) (filter_alike p q xs same i)

module _ (script : Script) (d : Detection) (store : Store) (w : World) (listed : IsListed store) (rep : Represents store w) where
  found_in_world : found store listed d ≡ candidates d w
  found_in_world = ap (λ (os : List Object). serials (filter (stands_so d) os)) rep.objects ∙ sym (candidates_are d w)

  pub all_candidates : SameMembers (candidates_in store d) (candidates d w)
  all_candidates = λ o. candidates_found store listed d o ∙ ap (occurrences o) found_in_world

  refs_alike : (o : ℕ) → filter (λ q. is_candidate_at d (place_of store q)) (references (entries_of store o)) ≡ filter (includes (candidates d w)) (references (object_entries_of w.objects o))
  refs_alike o =
      filter_alike (λ q. is_candidate_at d (place_of store q)) (includes (candidates d w)) (references (entries_of store o))
      (λ q. candidate_by_place store listed d q ∙ ap (λ l. includes l q) found_in_world)
      ∙ ap (λ es. filter (includes (candidates d w)) (references es)) (sym (entries-agree store o) ∙ ap (λ (os : List Object). object_entries_of os o) rep.objects)

  member_alike : (o : ℕ) → member_in script store d o ≡ member_among script w (candidates d w) o
  member_alike o = λ i. member o (count-in_degree store w rep o i) (has_legacy_same i) (refs_alike o i)
    where
      has_legacy_same : has_legacy_in script store o ≡ has_legacy script w o
      has_legacy_same = ap (λ (os : List Object). is_some (option_and_then (legacy_of script) (object_at os o))) rep.objects

  pub members_alike : map (member_in script store d) (candidates_in store d) ≡ map (member_among script w (candidates d w)) (candidates_in store d)
  members_alike = map_alike (member_in script store d) (member_among script w (candidates d w)) (candidates_in store d) (λ o m. member_alike o)

-- the objects in a place, in the heap and in the world
pub stands_alike : (store : Store) (w : World) → IsListed store → Represents store w → (p : Place) → SameMembers (list_at store p) (serials_at w.objects p)
stands_alike store w listed rep p = λ o. list_has store listed p o ∙ ap (λ (os : List Object). occurrences o (serials_at os p)) rep.objects

-- the graph of a pass
pub graph_is : (script : Script) (d : Detection) (store : Store) (w : World) (now : Store) (after : World) → IsListed store → Represents store w
    → ((p : Place) → SameMembers (list_at now p) (serials_at after.objects p))
    → IsGraphOf script d w after (graph_in script d store now)
graph_is script d store w now after listed rep alike = record {
  order = candidates_in store d;
  all = all_candidates script d store w listed rep;
  members = members_alike script d store w listed rep;
  lost = lost_alike d;
  legacy = legacy_alike d;
}
  where
    lost_alike : (k : Detection) → SameMembers (lost_in now k) (lost_at k after)
    lost_alike (First g) = λ o. occurrences-append o (list_at now Cand) (list_at now Legacy) ∙ (λ i. alike Cand o i + alike Legacy o i)
        ∙ sym (occurrences-append o (serials_at after.objects Cand) (serials_at after.objects Legacy))
    lost_alike Second = alike Cand

    legacy_alike : (k : Detection) → SameMembers (legacy_in now k) (legacy_at k after)
    legacy_alike (First g) = alike Legacy
    legacy_alike Second = λ o. refl
