-- The weak references of an object in a heap's rows are those of the world, in the same order.
use Rattle.std.proofs.Common.{◌≡◌, refl, sym, ◌∙◌, ap, subst, ℕ, ◌<◌, Bool, true, false, cond, T, not, inl, inr, List, [], ◌∷◌, map, reverse, Option, Some, None, arith}
use Rattle.std.specs.Prelude.{◌==◌, ◌&&◌, filter, find, option_map, unwrap_or, if◌then◌else◌}
use Rattle.std.proofs.lemmas.Bool.{not-true, cases_eq, cases_lt, eq-eqb, ne_eqb, eqb-true}
use Rattle.std.specs.declared.cmp.Ordering.TheVariants.{Equal, Greater}
use Rattle.std.specs.Ordering.{nat_cmp, is_lt}
use Rattle.std.specs.Cmp.{nat_cmp_is, unsigned_tied}
use Rattle.std.specs.FinMap as fin
use Rattle.std.specs.FinMap.Entries.{is_sorted, below_all}
use Rattle.cg_value.specs.declared.KindCode.TheVariants.{Weak}
use Rattle.cg_graph.specs.Member.{Includes}
use Rattle.cg_graph.specs.Object.{Object, serials, change, with_referent}
use Rattle.cg_graph.specs.Rows.{Row, IsRising, referent_in, refers_to, weak_references_in}
use Rattle.cg_graph.specs.Store.{Store, Node, objects_of, object_from, HasCode}
use Rattle.cg_graph.proofs.Members.{either, true_and, Includes-map, Includes-map_cases, Includes-filter, Includes-filter_cases}
use Rattle.cg_machine.specs.Weak.{is_reference_to, weak_references}
use Rattle.cg_heap.specs.Weak.{AreRows}
use Rattle.cg_death.proofs.RowSplits.{all_in, split_at, referent-is}

-- numbers that rise
abbrev Ascends : List ℕ → Type 0
Ascends [] = Unit {0}
Ascends (x ∷ xs) = ((y : ℕ) → Includes xs y → x < y) × Ascends xs

-- two rising lists of the same numbers are equal
same_ascending : (xs ys : List ℕ) → Ascends xs → Ascends ys → ((n : ℕ) → Includes xs n → Includes ys n) → ((n : ℕ) → Includes ys n → Includes xs n) → xs ≡ ys
same_ascending [] [] a b into back = refl
same_ascending [] (y ∷ ys) a b into back = absurd (back y (inl refl))
same_ascending (x ∷ xs) [] a b into back = absurd (into x (inl refl))
same_ascending (x ∷ xs) (y ∷ ys) a b into back =
    let heads : x ≡ y = first (into x (inl refl)) (back y (inl refl)) in
    let tails : xs ≡ ys = same_ascending xs ys a.1 b.1
    (λ n m. either (into n (inr m)) (λ e. let low = a.0 n m in absurd (omega (arith, low, heads, e))) (λ k. k))
    (λ n m. either (back n (inr m)) (λ e. let low = b.0 n m in absurd (omega (arith, low, heads, e))) (λ k. k)) in
    λ i. heads i ∷ tails i
  where
    first : Includes (y ∷ ys) x → Includes (x ∷ xs) y → x ≡ y
    first (inl e) m = sym e
    first (inr k) (inl e) = e
    first (inr k) (inr m) = let low = b.0 x k in let high = a.0 y m in absurd (omega (arith, low, high))

ascends-rows : (test : Row → Bool) (rows : List Row) → IsRising rows → Ascends (map (λ (r : Row). r.weak) (filter test rows))
ascends-rows test [] rise = tt
ascends-rows test (r ∷ rows) rise = go (test r) (ascends-rows test rows rise.1)
  where
    above : (y : ℕ) → Includes (map (λ (r : Row). r.weak) (filter test rows)) y → r.weak < y
    above y m =
        let named = Includes-map_cases (λ (r : Row). r.weak) (filter test rows) y m in
        let kept = Includes-filter_cases test rows named.0 named.1 in
        subst (λ q. r.weak < q) named.2 (all_in (λ (x : Row). r.weak < x.weak) rows named.0 rise.0 kept.0)

    go : (b : Bool) → Ascends (map (λ (r : Row). r.weak) (filter test rows)) → Ascends (map (λ (r : Row). r.weak) (cond b (r ∷ filter test rows) (filter test rows)))
    go true rest = (above, rest)
    go false rest = rest

below_is : (a b : ℕ) → T (is_lt (nat_cmp a b)) → a < b
below_is a b h = either (cases_lt a b) (λ l. l) (λ le. either (cases_eq a b)
    (λ e. absurd (subst (λ o. T (is_lt o)) (sym (nat_cmp_is a b Equal e)) h))
    (λ n. absurd (subst (λ o. T (is_lt o)) (sym (nat_cmp_is a b Greater (omega (arith, le, n)))) h)))

both_parts : (a b : Bool) → T (a && b) → T a × T b
both_parts true b h = (tt, h)
both_parts false b h = absurd h

below_each : (low : ℕ) (es : List (ℕ × Node)) → T (below_all nat_cmp low es) → (e : ℕ × Node) → Includes es e → low < e.0
below_each low [] h e m = absurd m
below_each low (x ∷ es) h e m =
    let parts = both_parts (is_lt (nat_cmp low x.0)) (below_all nat_cmp low es) h in
    either m (λ i. subst (λ (y : ℕ × Node). low < y.0) i (below_is low x.0 parts.0)) (λ k. below_each low es parts.1 e k)

module _ (rows : List Row) (test : Object → Bool) where
  abbrev seen : List (ℕ × Node) → List Object
  seen es = map (λ e. object_from rows e.0 e.1) es

  ascends-objects : (es : List (ℕ × Node)) → T (is_sorted nat_cmp es) → Ascends (serials (filter test (seen es)))
  ascends-objects [] sorted = tt
  ascends-objects (e ∷ es) sorted =
      let parts = both_parts (below_all nat_cmp e.0 es) (is_sorted nat_cmp es) sorted in
      go (test (object_from rows e.0 e.1)) (above parts.0) (ascends-objects es parts.1)
    where
      above : T (below_all nat_cmp e.0 es) → (y : ℕ) → Includes (serials (filter test (seen es))) y → e.0 < y
      above low y m =
          let named = Includes-map_cases (λ (x : Object). x.serial) (filter test (seen es)) y m in
          let kept = Includes-filter_cases test (seen es) named.0 named.1 in
          let from = Includes-map_cases (λ (f : ℕ × Node). object_from rows f.0 f.1) es named.0 kept.0 in
          subst (λ q. e.0 < q) (ap (λ (x : Object). x.serial) from.2 ∙ named.2) (below_each e.0 es low from.0 from.1)

      go : (b : Bool) → ((y : ℕ) → Includes (serials (filter test (seen es))) y → e.0 < y) → Ascends (serials (filter test (seen es)))
          → Ascends (serials (cond b (object_from rows e.0 e.1 ∷ filter test (seen es)) (filter test (seen es))))
      go true low rest = (low, rest)
      go false low rest = rest

-- a found entry is a member
entry_there : (q : ℕ) (n : Node) (es : List (ℕ × Node)) → fin.find nat_cmp q es ≡ Some n → Includes es (q, n)
entry_there q n [] found = absurd (cc)
entry_there q n (e ∷ es) found = elim (cases_eq q e.0) [
  | inl same ↦
      let here : Some e.1 ≡ Some n = sym (ap (λ b. cond b (Some e.1) (fin.find nat_cmp q es)) (unsigned_tied q e.0 ∙ eq-eqb q e.0 same)) ∙ found in
      let is : e.1 ≡ n = cc in
      inl (λ i. (sym same i, is i))
  | inr differs ↦ inr (entry_there q n es (sym (ap (λ b. cond b (Some e.1) (fin.find nat_cmp q es)) (unsigned_tied q e.0 ∙ ne_eqb q e.0 differs)) ∙ found))
]

-- a found referent is that of a row
pub row_there : (rows : List Row) (q o : ℕ) → referent_in rows q ≡ Some o → (r : Row) × Includes rows r × (refers_to o r ≡ true) × (r.weak ≡ q)
row_there [] q o found = absurd (cc)
row_there (r ∷ rows) q o found = go ((r.weak == q) && not r.waits) refl (row_there rows q o)
  where
    go : (b : Bool) → ((r.weak == q) && not r.waits) ≡ b → (referent_in rows q ≡ Some o → (r : Row) × Includes rows r × (refers_to o r ≡ true) × (r.weak ≡ q))
        → (x : Row) × Includes (r ∷ rows) x × (refers_to o x ≡ true) × (x.weak ≡ q)
    go true passes rest =
        let parts = true_and (r.weak == q) (not r.waits) passes in
        let here : Some r.referent ≡ Some o = sym (ap (λ b. option_map (λ (x : Row). x.referent) (cond b (Some r) (find (λ x. (x.weak == q) && not x.waits) rows))) passes) ∙ found in
        let is : r.referent ≡ o = cc in
        (r, inl refl, (λ i. eq-eqb r.referent o is i && parts.1 i), eqb-true r.weak q parts.0)
    go false fails rest =
        let later = rest (sym (ap (λ b. option_map (λ (x : Row). x.referent) (cond b (Some r) (find (λ x. (x.weak == q) && not x.waits) rows))) fails) ∙ found) in
        (later.0, inr later.1, later.2, later.3)

-- the row of a weak reference with a referent, by both numbers
pub referring_row : (rows : List Row) (q o : ℕ) → referent_in rows q ≡ Some o → (r : Row) × Includes rows r × (r.waits ≡ false) × ◌≡◌ {A = ℕ × ℕ} (r.referent, r.weak) (o, q)
referring_row rows q o found =
    let row = row_there rows q o found in
    let parts = true_and (row.0.referent == o) (not row.0.waits) row.2 in
    (row.0, row.1, not-true row.0.waits parts.1, λ i. (eqb-true row.0.referent o parts.0 i, row.3 i))

refers_some : (o : ℕ) (r : Option ℕ) → unwrap_or (option_map (λ p. p == o) r) false ≡ true → r ≡ Some o
refers_some o None e = absurd (let x : false ≡ true = e in cc)
refers_some o (Some p) e = ap Some (eqb-true p o e)

module _ (store : Store) (rows : AreRows store) (o : ℕ) where
  abbrev in_world : List ℕ
  in_world = serials (filter (is_reference_to o) (objects_of store))

  abbrev in_rows : List ℕ
  in_rows = map (λ (r : Row). r.weak) (filter (refers_to o) store.rows)

  into : (q : ℕ) → Includes in_world q → Includes in_rows q
  into q m =
      let named = Includes-map_cases (λ (x : Object). x.serial) (filter (is_reference_to o) (objects_of store)) q m in
      let kept = Includes-filter_cases (is_reference_to o) (objects_of store) named.0 named.1 in
      let from = Includes-map_cases (λ (e : ℕ × Node). object_from store.rows e.0 e.1) (fin.entries store.nodes) named.0 kept.0 in
      let refers : referent_in store.rows from.0.0 ≡ Some o = ap (λ (x : Object). x.referent) from.2 ∙ refers_some o named.0.referent kept.1 in
      let row = row_there store.rows from.0.0 o refers in
      subst (Includes in_rows) (row.3 ∙ ap (λ (x : Object). x.serial) from.2 ∙ named.2) (Includes-map (λ (r : Row). r.weak) (filter (refers_to o) store.rows)
      row.0 (Includes-filter (refers_to o) store.rows row.0 row.2 row.1))

  back : (q : ℕ) → Includes in_rows q → Includes in_world q
  back q m =
      let named = Includes-map_cases (λ (r : Row). r.weak) (filter (refers_to o) store.rows) q m in
      let kept = Includes-filter_cases (refers_to o) store.rows named.0 named.1 in
      let row : Row = named.0 in
      let live : HasCode store row.weak Weak = all_in (λ (r : Row). HasCode store r.weak Weak) store.rows row rows.weak kept.0 in
      let parts = true_and (row.referent == o) (not row.waits) kept.1 in
      let refers : referent_in store.rows row.weak ≡ Some o = referent-is store.rows row (split_at store.rows row rows.rise kept.0) (not-true row.waits parts.1)
      ∙ ap Some (eqb-true row.referent o parts.0) in
      let there : Includes (fin.entries store.nodes) (row.weak, live.0) = entry_there row.weak live.0 (fin.entries store.nodes) (sym (fin.get-entries store.nodes row.weak) ∙ live.1) in
      let object = Includes-map (λ (e : ℕ × Node). object_from store.rows e.0 e.1) (fin.entries store.nodes) (row.weak, live.0) there in
      subst (Includes in_world) named.2 (Includes-map (λ (x : Object). x.serial) (filter (is_reference_to o) (objects_of store)) (object_from store.rows row.weak live.0)
      (Includes-filter (is_reference_to o) (objects_of store) (object_from store.rows row.weak live.0) (ap (λ r. unwrap_or (option_map (λ p. p == o) r) false) refers ∙ eq-eqb o o refl) object))

  pub weak_references-are : weak_references (objects_of store) o ≡ weak_references_in store.rows o
  weak_references-are = ap reverse (same_ascending in_world in_rows (ascends-objects store.rows (is_reference_to o) (fin.entries store.nodes)
      (fin.entries_sorted store.nodes)) (ascends-rows (refers_to o) store.rows rows.rise) into back)

-- other rows, in which one weak reference is cleared
pub objects-cleared : (store : Store) (rows : List Row) (weak : ℕ) → ((q : ℕ) → referent_in rows q ≡ (if q == weak then None else referent_in store.rows q))
    → objects_of (record store { rows = rows }) ≡ change (with_referent None) weak (objects_of store)
objects-cleared store rows weak same = each (fin.entries store.nodes)
  where
    one : (b : Bool) (q : ℕ) (n : Node) → referent_in rows q ≡ (if b then None else referent_in store.rows q) → object_from rows q n
        ≡ (if b then with_referent None (object_from store.rows q n) else object_from store.rows q n)
    one true q n e = λ i. record (object_from rows q n) { referent = e i }
    one false q n e = λ i. record (object_from rows q n) { referent = e i }

    each : (es : List (ℕ × Node)) → map (λ (e : ℕ × Node). object_from rows e.0 e.1) es ≡ map (λ x. if x.serial == weak then with_referent None x else x)
        (map (λ (e : ℕ × Node). object_from store.rows e.0 e.1) es)
    each [] = refl
    each (e ∷ es) = λ i. one (e.0 == weak) e.0 e.1 (same e.0) i ∷ each es i

-- other rows, in which each keeps its referent
pub objects-alike : (store : Store) (rows : List Row) → ((q : ℕ) → referent_in rows q ≡ referent_in store.rows q) → objects_of (record store { rows = rows }) ≡ objects_of store
objects-alike store rows same = each (fin.entries store.nodes)
  where
    each : (es : List (ℕ × Node)) → map (λ (e : ℕ × Node). object_from rows e.0 e.1) es ≡ map (λ (e : ℕ × Node). object_from store.rows e.0 e.1) es
    each [] = refl
    each (e ∷ es) = λ i. record (object_from rows e.0 e.1) { referent = same e.0 i } ∷ each es i
