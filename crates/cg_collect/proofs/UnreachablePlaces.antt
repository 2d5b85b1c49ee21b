-- What the start leaves of the heap: the unreachable objects are partitioned, and the garbage list names none of
-- them.
use Rattle.std.proofs.Common.{◌≡◌, ◌≢◌, refl, sym, ◌∙◌, ap, subst, ℕ, suc, ◌+◌, ◌<◌, ◌≤◌, ◌⊎◌, inl, inr, Bool, true, false, cond, List, [], ◌∷◌, ◌++◌, length, map, Option, Some, None, arith}
use Rattle.std.specs.Prelude.{if◌then◌else◌, nat_le, filter, sum_by}
use Rattle.std.specs.FinMap as fin
use Rattle.std.proofs.lemmas.Bool.{cases_eq}
use Rattle.std.proofs.lemmas.List.Sums.{sum_by-cons}
use Rattle.cg_value.specs.declared.KindCode.TheVariants.{Tuple}
use Rattle.cg_value.specs.declared.Place.{Place}
use Rattle.cg_value.specs.declared.Place.TheVariants.{Untracked, Gen, Cand, Seen, Back, Legacy, Pend}
use Rattle.cg_script.specs.declared.Script.{Script}
use Rattle.cg_graph.specs.Member.{Includes}
use Rattle.cg_graph.specs.Value.{references}
use Rattle.cg_graph.specs.Object.{Object, is_at, serials}
use Rattle.cg_graph.specs.Holdings.{occurrences, entry_holdings, graph_of, name_holdings}
use Rattle.cg_graph.specs.Reach.{first}
use Rattle.cg_graph.specs.Reachable.{IsUnreachable, IsHeldFromOutside}
use Rattle.cg_graph.specs.Store.{Store, Node, objects_of, object_from, list_at, place_of, place_in, entries_of, entries_in}
use Rattle.cg_graph.proofs.Members.{either}
use Rattle.cg_graph.proofs.Objects.{inner-holdings, occurrences-append}
use Rattle.cg_machine.specs.Collect.{older, merged_place}
use Rattle.cg_heap.specs.Keeps.{one}
use Rattle.cg_heap.specs.Calls.{IsListed, object_number}
use Rattle.cg_trial.proofs.Lists.{occurs}
use Rattle.cg_trial.proofs.PlacesOfObjects.{where_is}
use Rattle.cg_collect.specs.Ready.{IsClear, IsApartUnseen, IsUnsaved, IsEmptyAt}
use Rattle.cg_collect.specs.Starting.{StaysAt, MergesYounger, UntracksSurvivors, WasUntracked, GetOlder}
use Rattle.cg_represents.proofs.Places.{place_differs}
use Rattle.cg_collect.proofs.PlacesOfObjects.{object_there, list_length, empty_at, nobody_at, lives_at, entries_on}
use Rattle.cg_collect.proofs.PlacesInStart.{Trace, SplitsOff, at_or_not, same16, both_or, last_step, last_older, candidate_last, unmoved, unreachable_there}

-- what the objects of a place hold, and another object
module _ (p : Place) (o : ℕ) where
  abbrev held_among : List Object → ℕ
  held_among objects = occurrences o (entry_holdings (graph_of objects))

  held_cons : (x : Object) (objects : List Object) → held_among (x ∷ objects) ≡ occurrences o (references x.entries) + held_among objects
  held_cons x objects = occurrences-append o (references x.entries) (entry_holdings (graph_of objects))

  held_fewer : (objects : List Object) → held_among (filter (is_at p) objects) ≤ held_among objects
  held_fewer [] = omega arith
  held_fewer (x ∷ objects) = go (is_at p x) (held_fewer objects)
    where
      go : (b : Bool) → held_among (filter (is_at p) objects) ≤ held_among objects → held_among (cond b (x ∷ filter (is_at p) objects) (filter (is_at p) objects)) ≤ held_among (x ∷ objects)
      go true h = omega (arith, h, held_cons x (filter (is_at p) objects), held_cons x objects)
      go false h = omega (arith, h, held_cons x objects)

  held_beyond : (objects : List Object) (x : Object) → Includes objects x → is_at p x ≡ false → Includes (references x.entries) o → held_among (filter (is_at p) objects) < held_among objects
  held_beyond [] x m away refers = absurd m
  held_beyond (y ∷ objects) x (inl same) away refers =
      let drop : held_among (filter (is_at p) (y ∷ objects)) ≡ held_among (filter (is_at p) objects) =
      ap (λ b. held_among (cond b (y ∷ filter (is_at p) objects) (filter (is_at p) objects))) (ap (is_at p) same ∙ away) in
      let some : 1 ≤ occurrences o (references y.entries) = occurs (references y.entries) o (subst (λ (z : Object). Includes (references z.entries) o) (sym same) refers) in
      omega (arith, drop, some, held_fewer objects, held_cons y objects)
  held_beyond (y ∷ objects) x (inr m) away refers = go (is_at p y) (held_beyond objects x m away refers)
    where
      go : (b : Bool) → held_among (filter (is_at p) objects) < held_among objects → held_among (cond b (y ∷ filter (is_at p) objects) (filter (is_at p) objects)) < held_among (y ∷ objects)
      go true h = omega (arith, h, held_cons y (filter (is_at p) objects), held_cons y objects)
      go false h = omega (arith, h, held_cons y objects)

-- a reference of an object in another place comes from outside
pub held_from_outside : (store : Store) (p : Place) (q o : ℕ) → place_of store q ≢ p → Includes (references (entries_of store q)) o → IsHeldFromOutside store p o
held_from_outside store p q o away refers = known (fin.get store.nodes q) refl away refers
  where
    known : (x : Option Node) → fin.get store.nodes q ≡ x → place_in x ≢ p → Includes (references (entries_in x)) o → IsHeldFromOutside store p o
    known None at away refers = absurd refers
    known (Some n) at away refers =
        let beyond = held_beyond p o (objects_of store) (object_from store.rows q n) (object_there store q n at) (place_differs n.place p away) refers in
        let within = inner-holdings store o in
        omega (arith, beyond, within, occurrences-append o (name_holdings store.names ++ (1 ∷ [])) (entry_holdings (graph_of (objects_of store))))

-- no list is longer than the number of objects
length_one : (es : List (ℕ × Node)) → sum_by (λ (e : ℕ × Node). one e.1) es ≡ length es
length_one [] = refl
length_one (e ∷ es) = let rest = length_one es in omega (arith, rest, sum_by-cons {X = ℕ × Node} (λ e. one e.1) e es)

abbrev chosen_of : Place → Store → List (ℕ × Node) → List Object
chosen_of p store es = filter (is_at p) (map (λ (e : ℕ × Node). object_from store.rows e.0 e.1) es)

some_of : (p : Place) (store : Store) (es : List (ℕ × Node)) → length (serials (filter (is_at p) (map (λ (e : ℕ × Node). object_from store.rows e.0 e.1) es))) ≤ length es
some_of p store [] = omega arith
some_of p store (e ∷ es) = go (is_at p (object_from store.rows e.0 e.1)) (some_of p store es)
  where
    go : (b : Bool) → length (serials (chosen_of p store es)) ≤ length es → length (serials (cond b (object_from store.rows e.0 e.1 ∷ chosen_of p store es) (chosen_of p store es))) ≤ suc (length es)
    go true h = omega (arith, h)
    go false h = omega (arith, h)

pub list_few : (store : Store) → IsListed store → object_number store ≤ 1000000 → (p : Place) → length (list_at store p) ≤ 1000001
list_few store listed few p =
    let is = list_length store listed p in
    let all = some_of p store (fin.entries store.nodes) in
    let number = length_one (fin.entries store.nodes) in
    omega (arith, is, all, number, few)

-- the merge changes only generations
merged_other : (g : ℕ) (p q : Place) → ((i : ℕ) → q ≢ Gen i) → merged_place g p ≡ q → p ≡ q
merged_other g (Gen i) q other e = absurd (gens (nat_le i g) e)
  where
    gens : (b : Bool) → (if b then Gen g else Gen i) ≡ q → ⊥
    gens true h = other g (sym h)
    gens false h = other i (sym h)
merged_other g p q other e = e

pub nobody_merged : (g : ℕ) (old new : Store) → MergesYounger g old new → IsListed old → (q : Place) → Untracked ≢ q → ((i : ℕ) → q ≢ Gen i) → list_at old q ≡ [] → (o : ℕ) → place_of new o ≢ q
nobody_merged g old new merges listed q tracked other empty o at =
    let was = merged_other g (place_of old o) q other (sym (merges.places o) ∙ at) in
    nobody_at old listed q empty o (lives_at old o q was tracked) was

pub empty_merged : (g : ℕ) (old new : Store) → MergesYounger g old new → IsListed old → IsListed new → (q : Place) → Untracked ≢ q → ((i : ℕ) → q ≢ Gen i) → list_at old q ≡ [] → list_at new q ≡ []
empty_merged g old new merges listed listed_new q tracked other empty = empty_at new listed_new q (λ o live. nobody_merged g old new merges listed q tracked other empty o)

module _ (script : Script) (g : ℕ) (s0 s1 s2 s4 s5 s6 : Store) (t : Trace script g s0 s1 s2 s4 s5 s6) (listed0 : IsListed s0) (listed6 : IsListed s6) (clear : IsClear s0) where
  -- where the objects of the generation end up
  ends : (o : ℕ) (q : Place) → place_of s1 o ≡ Gen g → place_of s6 o ≡ q → Untracked ≢ q → Gen (older g) ≢ q → Cand ≢ q → Legacy ≢ q → ⊥
  ends o q at is not_u not_g not_c not_l = either (t.splits.either_way o at)
      (λ kept. either (both_or script g s0 s1 s2 s4 s5 s6 t o)
      (λ s. not_g (sym (last_older script g s0 s1 s2 s4 s5 s6 t o (s ∙ kept.0)) ∙ is))
      (λ went. not_u (sym (last_step script g s0 s1 s2 s4 s5 s6 t o Untracked went.1 (λ e. cc) (λ e. cc)) ∙ is)))
      (λ off. either (candidate_last script g s0 s1 s2 s4 s5 s6 t o off.0) (λ c. not_c (sym c ∙ is)) (λ l. not_l (sym l ∙ is)))

  still_empty : (q : Place) → Untracked ≢ q → ((i : ℕ) → q ≢ Gen i) → Cand ≢ q → Legacy ≢ q → list_at s0 q ≡ [] → IsEmptyAt s6 q
  still_empty q not_u not_g not_c not_l empty = empty_at s6 listed6 q (λ o live is. either (at_or_not (place_of s1 o) (Gen g))
      (λ e. ends o q e is not_u (λ h. not_g (older g) (sym h)) not_c not_l)
      (λ differ. nobody_merged g s0 s1 t.merges listed0 q not_u not_g empty o (sym (unmoved script g s0 s1 s2 s4 s5 s6 t o differ) ∙ is)))

  pub nobody_waits : IsEmptyAt s6 Pend
  nobody_waits = still_empty Pend (λ e. cc) (λ i e. cc) (λ e. cc) (λ e. cc) clear.pending

  garbage1 : place_of s1 1 ≡ Untracked
  garbage1 = t.merges.places 1 ∙ ap (merged_place g) clear.garbage

  not_there : place_of s1 1 ≢ Gen g
  not_there e = let k : Untracked ≡ Gen g = sym garbage1 ∙ e in cc

  unsaved : (q : Place) → ((o : ℕ) → place_of s6 o ≡ q → (place_of s6 o ≡ Cand) ⊎ (place_of s6 o ≡ Legacy)) → IsUnsaved s6 q
  unsaved q is o m saved =
      let at = (where_is s6 listed6 q o m).1 in
      let lost : IsUnreachable s1 (Gen g) o = unreachable_there script g s0 s1 s2 s4 s5 s6 t o (is o at) (nobody_merged g s0 s1 t.merges listed0 Legacy (λ e. cc) (λ i e. cc) clear.legacy) in
      let refers : Includes (references (entries_of s1 1)) o = subst (λ es. Includes (references es) o) (entries_on s1 s6 (same16 script g s0 s1 s2 s4 s5 s6 t) 1) saved in
      lost.no_path (first (held_from_outside s1 (Gen g) 1 o not_there refers) lost.member)

  empty_seen : IsEmptyAt s6 Seen
  empty_seen = still_empty Seen (λ e. cc) (λ i e. cc) (λ e. cc) (λ e. cc) clear.seen

  pub apart_unseen : IsApartUnseen s6
  apart_unseen = (
    record {
      garbage = unmoved script g s0 s1 s2 s4 s5 s6 t 1 not_there ∙ garbage1;
      back = still_empty Back (λ e. cc) (λ i e. cc) (λ e. cc) (λ e. cc) clear.back;
      candidates = unsaved Cand (λ o e. inl e);
      seen = λ o m. absurd (subst (λ l. Includes l o) empty_seen m);
      legacy = unsaved Legacy (λ o e. inr e);
    },
    empty_seen,
  )

-- no object is uncollectable before the search from legacy finalizers
untracked_or : (g : ℕ) (old new : Store) → UntracksSurvivors g old new → (o : ℕ) → (place_of new o ≡ place_of old o) ⊎ (place_of new o ≡ Untracked)
untracked_or g old new u o = go (u.tuples.at_most o) dictionaries
  where
    dictionaries : (place_of new o ≡ place_of u.between o) ⊎ (place_of new o ≡ Untracked)
    dictionaries = either (cases_eq g 2)
        (λ two. either ((u.dictionaries two).at_most o) (λ s. inl s) (λ went. inr went.stands))
        (λ differs. inl (ap (λ s. place_of s o) (u.younger differs)))

    go : StaysAt old u.between o ⊎ WasUntracked g Tuple old u.between o → (place_of new o ≡ place_of u.between o) ⊎ (place_of new o ≡ Untracked)
        → (place_of new o ≡ place_of old o) ⊎ (place_of new o ≡ Untracked)
    go a (inr e) = inr e
    go (inl s) (inl e) = inl (e ∙ s)
    go (inr went) (inl e) = inr (e ∙ went.stands)

pub none_aside_yet : (g : ℕ) (s0 s1 s2 s4 s5 : Store) → MergesYounger g s0 s1 → SplitsOff g s1 s2 → UntracksSurvivors g s2 s4 → GetOlder g s4 s5 → IsListed s0
    → IsListed s5 → list_at s0 Legacy ≡ [] → IsEmptyAt s5 Legacy
none_aside_yet g s0 s1 s2 s4 s5 merges splits untracks gets_older listed listed5 empty = empty_at s5 listed5 Legacy (λ o live at.
    let fourth : place_of s4 o ≡ Legacy = either (at_or_not (place_of s4 o) (Gen g))
    (λ e. absurd (let k : Gen (older g) ≡ Legacy = sym (gets_older.moved o e) ∙ at in cc))
    (λ differ. sym (gets_older.others o differ) ∙ at) in
    let second : place_of s2 o ≡ Legacy = either (untracked_or g s2 s4 untracks o) (λ s. sym s ∙ fourth) (λ u. absurd (let k : Untracked ≡ Legacy = sym u ∙ fourth in cc)) in
    either (at_or_not (place_of s1 o) (Gen g))
    (λ e. either (splits.either_way o e) (λ kept. let k : Gen g ≡ Legacy = sym kept.0 ∙ second in cc) (λ off. let k : Cand ≡ Legacy = sym off.0 ∙ second in cc))
    (λ differ. nobody_merged g s0 s1 merges listed Legacy (λ e. cc) (λ i e. cc) empty o (sym (splits.others o differ) ∙ second)))
