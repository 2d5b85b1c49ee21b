-- The objects of a place, by its list and by the store's objects in that place: the same serials, hence the same
-- holdings, edges, entries and paths.
use Rattle.std.proofs.Common.{◌≡◌, ◌≢◌, refl, sym, ◌∙◌, ap, subst, ℕ, ◌+◌, ◌≤◌, ◌⊎◌, inl, inr, Bool, true, false, cond, not, List, [], ◌∷◌, length, map, Option, Some, None, arith}
use Rattle.std.specs.Prelude.{◌↔◌, sum_by, filter, is_some}
use Rattle.std.specs.Ordering.{nat_cmp, eq_by_cmp}
use Rattle.std.specs.Cmp.{nat_cmp_total, unsigned_tied}
use Rattle.std.specs.FinMap as fin
use Rattle.std.specs.FinMap.Entries.{where_key, length_without}
use Rattle.std.proofs.lemmas.Bool.{eqb-true, eq-eqb, ne_eqb, cases_eq}
use Rattle.std.proofs.lemmas.List.Sums.{sum_by-cons}
use Rattle.cg_value.specs.declared.Entry.{Entry}
use Rattle.cg_value.specs.declared.Place.{Place}
use Rattle.cg_value.specs.declared.Place.TheVariants.{Gen, Cand}
use Rattle.cg_graph.specs.declared.Edge.{Edge}
use Rattle.cg_graph.specs.Member.{Includes}
use Rattle.cg_graph.specs.Value.{references}
use Rattle.cg_graph.specs.Object.{Object, same_place, is_at, objects_at, serials}
use Rattle.cg_graph.specs.Holdings.{occurrences, entry_holdings, graph_of}
use Rattle.cg_graph.specs.Reach.{edges}
use Rattle.cg_graph.specs.Reachable.{graph_at, StandsAt, IsReachable}
use Rattle.cg_graph.specs.Store.{Store, Node, list_at, objects_of, object_from, entries_of, entries_in, place_of, place_in, IsLive}
use Rattle.cg_graph.proofs.Counts.{occurrences-entry_holdings}
use Rattle.cg_graph.proofs.Members.{either, Includes-map, Includes-map_cases, Includes-filter, Includes-filter_cases, Includes-append_left, Includes-append_right, Includes-append_cases}
use Rattle.cg_graph.proofs.Search.{Reach-mono}
use Rattle.cg_heap.specs.Calls.{IsListed}
use Rattle.cg_trial.specs.View.{view_of}
use Rattle.cg_trial.specs.Paths.{Reached, graph_in, entries_in as entries_among}
use Rattle.cg_trial.specs.Split.{IsSplitPlace, entry_number_at}
use Rattle.cg_trial.proofs.Lists.{occurs, occurrences-cons, sum_by-some}
use Rattle.cg_trial.proofs.CountBounds.{occurrences-held_by}
use Rattle.cg_trial.proofs.PlacesOfObjects.{once_at, where_is, is_there}
use Rattle.cg_trial.proofs.Splits.{arrow, edges_in, edges_out, holdings_of}

-- the entries of a map have distinct keys
abbrev keys : {X : Type 0} → List (ℕ × X) → List ℕ
keys es = map (λ e. e.0) es

-- the entries with another key
abbrev others_than : {X : Type 0} → ℕ → List (ℕ × X) → List (ℕ × X)
others_than k es = where_key nat_cmp (λ x. not (eq_by_cmp nat_cmp k x)) es

keys_counted : {X : Type 0} (k : ℕ) (es : List (ℕ × X)) → occurrences k (keys es) + length (others_than k es) ≡ length es
keys_counted k [] = refl
keys_counted {X} k (e ∷ es) = go (cases_eq e.0 k) (keys_counted k es)
  where
    go : (e.0 ≡ k) ⊎ (e.0 ≢ k) → occurrences k (keys es) + length (others_than k es) ≡ length es
        → occurrences k (keys (e ∷ es)) + length (cond (not (eq_by_cmp nat_cmp k e.0)) (e ∷ others_than k es) (others_than k es)) ≡ length (e ∷ es)
    go (inl same) rec =
        let one : occurrences k (keys (e ∷ es)) ≡ 1 + occurrences k (keys es) = occurrences-cons k e.0 (keys es) ∙ ap (λ b. cond b 1 0 + occurrences k (keys es)) (eq-eqb e.0 k same) in
        let rest : length (cond (not (eq_by_cmp nat_cmp k e.0)) (e ∷ others_than k es) (others_than k es)) ≡ length (others_than k es) =
        ap (λ b. length (cond (not b) (e ∷ others_than k es) (others_than k es))) (unsigned_tied k e.0 ∙ eq-eqb k e.0 (sym same)) in
        omega (arith, one, rest, rec)
    go (inr differs) rec =
        let none : occurrences k (keys (e ∷ es)) ≡ 0 + occurrences k (keys es) = occurrences-cons k e.0 (keys es) ∙ ap (λ b. cond b 1 0 + occurrences k (keys es)) (ne_eqb e.0 k differs) in
        let rest : length (cond (not (eq_by_cmp nat_cmp k e.0)) (e ∷ others_than k es) (others_than k es)) ≡ length (e ∷ others_than k es) =
        ap (λ b. length (cond (not b) (e ∷ others_than k es) (others_than k es))) (unsigned_tied k e.0 ∙ ne_eqb k e.0 (λ h. differs (sym h))) in
        omega (arith, none, rest, rec)

pub once_key : {X : Type 0} (m : fin.FinMap nat_cmp X) (k : ℕ) → occurrences k (keys (fin.entries m)) ≤ 1
once_key m k = omega (arith, keys_counted k (fin.entries m), length_without nat_cmp nat_cmp_total k (fin.entries m) (fin.entries_sorted m), bit (is_some (fin.find nat_cmp k (fin.entries m))))
  where
    bit : (b : Bool) → cond b 1 0 ≤ 1
    bit true = omega arith
    bit false = omega arith

pub found : {X : Type 0} (es : List (ℕ × X)) (e : ℕ × X) → ((k : ℕ) → occurrences k (keys es) ≤ 1) → Includes es e → fin.find nat_cmp e.0 es ≡ Some e.1
found [] e once h = absurd h
found (x ∷ es) e once (inl same) =
    ap (λ b. cond b (Some x.1) (fin.find nat_cmp e.0 es)) (unsigned_tied e.0 x.0 ∙ eq-eqb e.0 x.0 (sym (ap (λ y. y.0) same))) ∙ ap (λ y. Some y.1) same
found (x ∷ es) e once (inr h) =
    let again = occurs (keys es) e.0 (Includes-map (λ y. y.0) es e h) in
    let differs : e.0 ≢ x.0 = λ same.
    let one : occurrences e.0 (keys (x ∷ es)) ≡ 1 + occurrences e.0 (keys es) = occurrences-cons e.0 x.0 (keys es) ∙ ap (λ b. cond b 1 0 + occurrences e.0 (keys es)) (eq-eqb x.0 e.0 (sym same)) in
    absurd (omega (arith, once e.0, one, again)) in
    ap (λ b. cond b (Some x.1) (fin.find nat_cmp e.0 es)) (unsigned_tied e.0 x.0 ∙ ne_eqb e.0 x.0 differs)
    ∙ found es e (λ k. omega (arith, once k, occurrences-cons k x.0 (keys es))) h

pub finds : {X : Type 0} (es : List (ℕ × X)) (k : ℕ) (v : X) → fin.find nat_cmp k es ≡ Some v → Includes es (k, v)
finds [] k v h = absurd (cc)
finds (x ∷ es) k v h = go (cases_eq k x.0) (finds es k v)
  where
    go : (k ≡ x.0) ⊎ (k ≢ x.0) → (fin.find nat_cmp k es ≡ Some v → Includes es (k, v)) → Includes (x ∷ es) (k, v)
    go (inl same) rec =
        let here : Some x.1 ≡ Some v = sym (ap (λ b. cond b (Some x.1) (fin.find nat_cmp k es)) (unsigned_tied k x.0 ∙ eq-eqb k x.0 same)) ∙ h in
        let value : x.1 ≡ v = cc in
        inl (λ i. (sym same i, value i))
    go (inr differs) rec = inr (rec (sym (ap (λ b. cond b (Some x.1) (fin.find nat_cmp k es)) (unsigned_tied k x.0 ∙ ne_eqb k x.0 differs)) ∙ h))

-- the two tests on places agree
same_is : (p q : Place) → IsSplitPlace p → same_place q p ≡ true → q ≡ p
same_is Cand Cand s h = refl
same_is Cand p s h = absurd (cc)
same_is (Gen j) (Gen i) s h = ap Gen (eqb-true i j h)
same_is (Gen j) p s h = absurd (cc)
same_is p q s h = absurd s

same_itself : (p : Place) → same_place p p ≡ true
same_itself (Gen i) = eq-eqb i i refl
same_itself p = refl

-- lists without duplicates and with the same members have the same sums
same_sums : (xs ys : List ℕ) → ((o : ℕ) → occurrences o xs ≤ 1) → ((o : ℕ) → occurrences o ys ≤ 1) → ((o : ℕ) → Includes xs o ↔ Includes ys o) → (f : ℕ → ℕ) → sum_by f xs ≡ sum_by f ys
same_sums xs ys once twice same f = omega (arith, sum_by-some f xs ys once (λ o h. (same o).0 h), sum_by-some f ys xs twice (λ o h. (same o).1 h))

sum_by-map : {X Y : Type 0} (f : Y → ℕ) (g : X → Y) (xs : List X) → sum_by f (map g xs) ≡ sum_by (λ x. f (g x)) xs
sum_by-map f g [] = refl
sum_by-map {X} {Y} f g (x ∷ xs) = sum_by-cons f (g x) (map g xs) ∙ ap (λ n. f (g x) + n) (sum_by-map f g xs) ∙ sym (sum_by-cons {X = X} (λ y. f (g y)) x xs)

-- the edges of some objects
pub edges_of_objects : (objects : List Object) (o q : ℕ) (x : Object) → Includes objects x → x.serial ≡ o → Includes (references x.entries) q → Includes (edges (graph_of objects)) (arrow o q)
edges_of_objects [] o q x h e k = absurd h
edges_of_objects (y ∷ objects) o q x (inl same) e k =
    Includes-append_left (map (arrow y.serial) (references y.entries)) (edges (graph_of objects)) (arrow o q)
    (subst (λ s. Includes (map (arrow y.serial) (references y.entries)) (arrow s q)) (ap (λ (z : Object). z.serial) same ∙ e)
    (Includes-map (arrow y.serial) (references y.entries) q (subst (λ (z : Object). Includes (references z.entries) q) (sym same) k)))
edges_of_objects (y ∷ objects) o q x (inr h) e k = Includes-append_right (map (arrow y.serial) (references y.entries)) (edges (graph_of objects)) (arrow o q) (edges_of_objects objects o q x h e k)

pub objects_of_edges : (objects : List Object) (o q : ℕ) → Includes (edges (graph_of objects)) (arrow o q) → (x : Object) × Includes objects x × (x.serial ≡ o) × Includes (references x.entries) q
objects_of_edges [] o q h = absurd h
objects_of_edges (y ∷ objects) o q h =
    either (Includes-append_cases (map (arrow y.serial) (references y.entries)) (edges (graph_of objects)) (arrow o q) h)
    (λ k.
    let there = Includes-map_cases (arrow y.serial) (references y.entries) (arrow o q) k in
    let from : y.serial ≡ o = ap (λ (e : Edge). e.from) there.2 in
    let to : there.0 ≡ q = ap (λ (e : Edge). e.to) there.2 in
    (y, inl refl, from, subst (λ r. Includes (references y.entries) r) to there.1))
    (λ k. let rest = objects_of_edges objects o q k in (rest.0, inr rest.1, rest.2, rest.3))

module _ (store : Store) (listed : IsListed store) (p : Place) (is : IsSplitPlace p) where
  abbrev there : List Object
  there = objects_at (objects_of store) p

  -- an object in the place comes from a node
  pub node_of : (x : Object) → Includes there x → IsLive store x.serial × (place_of store x.serial ≡ p) × (x.entries ≡ entries_of store x.serial)
  node_of x h =
      let (member, at) = Includes-filter_cases (is_at p) (objects_of store) x h in
      let (e, entry, made) = Includes-map_cases (λ (e : ℕ × Node). object_from store.rows e.0 e.1) (fin.entries store.nodes) x member in
      let got : fin.get store.nodes e.0 ≡ Some e.1 = fin.get-entries store.nodes e.0 ∙ found (fin.entries store.nodes) e (once_key store.nodes) entry in
      let serial : e.0 ≡ x.serial = ap (λ (y : Object). y.serial) made in
      let here : fin.get store.nodes x.serial ≡ Some e.1 = ap (fin.get store.nodes) (sym serial) ∙ got in
      let place : e.1.place ≡ x.place = ap (λ (y : Object). y.place) made in (
        subst (λ (y : Option Node). is_some y ≡ true) (sym here) refl,
        ap place_in here ∙ place ∙ same_is p x.place is at,
        sym (ap (λ (y : Object). y.entries) made) ∙ sym (ap entries_in here),
      )

  known : (x : Option Node) → is_some x ≡ true → (n : Node) × (x ≡ Some n)
  known None h = absurd (cc)
  known (Some n) h = (n, refl)

  -- and an element of the list is such an object
  pub object_of : (o : ℕ) → Includes (list_at store p) o → (x : Object) × Includes there x × (x.serial ≡ o)
  object_of o h =
      let (live, at) = where_is store listed p o h in
      let (n, got) = known (fin.get store.nodes o) live in
      let entry = finds (fin.entries store.nodes) o n (sym (fin.get-entries store.nodes o) ∙ got) in
      let place : n.place ≡ p = sym (ap place_in got) ∙ at in (
        object_from store.rows o n,
        Includes-filter (is_at p) (objects_of store) (object_from store.rows o n) (ap (λ q. same_place q p) place ∙ same_itself p)
            (Includes-map (λ (e : ℕ × Node). object_from store.rows e.0 e.1) (fin.entries store.nodes) (o, n) entry),
        refl,
      )

  pub members : (o : ℕ) → Includes (list_at store p) o ↔ StandsAt store p o
  members o = (
    λ h. let (x, member, serial) = object_of o h in subst (Includes (serials there)) serial (Includes-map (λ (y : Object). y.serial) there x member),
    λ h.
        let (x, member, serial) = Includes-map_cases (λ (y : Object). y.serial) there o h in
        let (live, at, same) = node_of x member in
        subst (Includes (list_at store p)) serial (is_there store listed p x.serial live at),
  )

  -- each is there once
  abbrev made_of : List (ℕ × Node) → List Object
  made_of es = filter (is_at p) (map (λ (e : ℕ × Node). object_from store.rows e.0 e.1) es)

  some_keys : (o : ℕ) (es : List (ℕ × Node)) → occurrences o (serials (made_of es)) ≤ occurrences o (keys es)
  some_keys o [] = omega arith
  some_keys o (e ∷ es) = go (is_at p (object_from store.rows e.0 e.1)) (some_keys o es)
    where
      go : (b : Bool) → occurrences o (serials (made_of es)) ≤ occurrences o (keys es)
          → occurrences o (serials (cond b (object_from store.rows e.0 e.1 ∷ made_of es) (made_of es))) ≤ occurrences o (keys (e ∷ es))
      go true h = omega (arith, h, occurrences-cons o e.0 (serials (made_of es)), occurrences-cons o e.0 (keys es))
      go false h = omega (arith, h, occurrences-cons o e.0 (keys es))

  once_there : (o : ℕ) → occurrences o (serials there) ≤ 1
  once_there o = omega (arith, some_keys o (fin.entries store.nodes), once_key store.nodes o)

  -- sums over all their entries
  sum_there : (f : List Entry → ℕ) (objects : List Object) → ((x : Object) → Includes objects x → x.entries ≡ entries_of store x.serial)
      → sum_by (λ (x : Object). f x.entries) objects ≡ sum_by (λ o. f (entries_of store o)) (serials objects)
  sum_there f [] same = refl
  sum_there f (x ∷ objects) same =
      let rest = sum_there f objects (λ y h. same y (inr h)) in
      let here : f x.entries ≡ f (entries_of store x.serial) = ap f (same x (inl refl)) in
      sum_by-cons {X = Object} (λ y. f y.entries) x objects ∙ (λ i. here i + rest i) ∙ sym (sum_by-cons (λ o. f (entries_of store o)) x.serial (serials objects))

  same_sum : (f : List Entry → ℕ) → sum_by (λ o. f (entries_of store o)) (list_at store p) ≡ sum_by (λ (x : Object). f x.entries) there
  same_sum f =
      same_sums (list_at store p) (serials there) (once_at store listed p) once_there members (λ o. f (entries_of store o))
      ∙ sym (sum_there f there (λ x h. (node_of x h).2))

  pub entries_there : entries_among (view_of store) (list_at store p) ≡ entry_number_at store p
  entries_there = same_sum length

  holdings_there : (s : ℕ) → occurrences s (entry_holdings (graph_in (view_of store) (list_at store p))) ≡ occurrences s (entry_holdings (graph_at store p))
  holdings_there s =
      ap (occurrences s) (holdings_of (view_of store) (list_at store p))
      ∙ occurrences-held_by s (view_of store) (list_at store p)
      ∙ same_sum (λ es. occurrences s (references es))
      ∙ sym (sum_by-map (λ (n : ℕ × List Entry). occurrences s (references n.1)) (λ (x : Object). (x.serial, x.entries)) there)
      ∙ sym (occurrences-entry_holdings s (graph_at store p))

  edge_there : (e : Edge) → Includes (edges (graph_in (view_of store) (list_at store p))) e → Includes (edges (graph_at store p)) e
  edge_there e h =
      let out = edges_out (view_of store) (list_at store p) e.from e.to h in
      let (x, member, serial) = object_of e.from out.0 in
      edges_of_objects there e.from e.to x member serial (subst (λ (es : List Entry). Includes (references es) e.to) (sym ((node_of x member).2 ∙ ap (entries_of store) serial)) out.1)

  edge_back : (e : Edge) → Includes (edges (graph_at store p)) e → Includes (edges (graph_in (view_of store) (list_at store p))) e
  edge_back e h =
      let (x, member, serial, refers) = objects_of_edges there e.from e.to h in
      let (live, at, same) = node_of x member in
      edges_in (view_of store) (list_at store p) e.from e.to (subst (Includes (list_at store p)) serial (is_there store listed p x.serial live at))
      (subst (λ (es : List Entry). Includes (references es) e.to) (same ∙ ap (entries_of store) serial) refers)

  pub paths : (o : ℕ) → Reached (view_of store) (list_at store p) o ↔ IsReachable store p o
  paths o = (
    λ r. Reach-mono (λ q h. omega (arith, h, holdings_there q)) (λ q h. (members q).0 h) edge_there r,
    λ r. Reach-mono (λ q h. omega (arith, h, holdings_there q)) (λ q h. (members q).1 h) edge_back r,
  )
