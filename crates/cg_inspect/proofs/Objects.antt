-- The live objects, as the sorted lists of the places, are the objects of the store; and what a lookup by serial gives.
use Rattle.std.proofs.Common.{◌≡◌, ◌≢◌, refl, sym, ◌∙◌, ap, subst, ℕ, zero, suc, ◌+◌, ◌<◌, ◌≤◌, inl, inr, Bool, true, false, cond, T, List, [], ◌∷◌, ◌++◌, length, map, take, get_or, Option, Some, None, IsSome, arith, append_assoc, take_all}
use Rattle.std.specs.Prelude.{◌==◌, ◌&&◌, sum_by, filter, flat_map, option_map}
use Rattle.std.specs.FinMap as fin
use Rattle.std.specs.FinMap.Entries.{is_sorted, below_all}
use Rattle.std.specs.Ordering.{nat_cmp, is_lt}
use Rattle.std.specs.declared.cmp.Ordering.TheVariants.{Equal, Greater}
use Rattle.std.specs.Cmp.{nat_cmp_is}
use Rattle.std.specs.List.Sorted.{IsPermutation, IsNonDecreasing}
use Rattle.std.proofs.lemmas.List.Sorted.{sum_by-IsPermutation}
use Rattle.std.proofs.lemmas.Bool.{cases_eq, cases_lt, eq-eqb}
use Rattle.std.proofs.lemmas.List.{append-nil}
use Rattle.std.proofs.lemmas.List.Sums.{sum_by-cons}
use Rattle.std.proofs.lemmas.List.Elements.{filter_more}
use Rattle.std.proofs.lemmas.Bool.Decides.{nat_tests}
use Rattle.std.proofs.lemmas.Option.{get_or_from_slice_get, slice_get_within}
use Rattle.cg_value.specs.declared.Place.{Place}
use Rattle.cg_value.specs.declared.Place.TheVariants.{Untracked, Gen, Frozen, Cand, Seen, Back, Legacy, Pend}
use Rattle.cg_graph.specs.Member.{Includes, includes}
use Rattle.cg_graph.specs.Value.{references}
use Rattle.cg_graph.specs.Object.{Object, serials}
use Rattle.cg_graph.specs.Path.{refers_to}
use Rattle.cg_graph.specs.Places.{place_number}
use Rattle.cg_graph.specs.Holdings.{occurrences, entry_holdings, graph_of}
use Rattle.cg_graph.specs.Store.{Store, Node, list_at, objects_of, object_from, entries_of, entries_in, place_of, place_in, IsLive}
use Rattle.cg_graph.proofs.Members.{either, Includes-append_left, Includes-append_right, Includes-append_cases, Includes-map, Includes-map_cases}
use Rattle.cg_graph.proofs.Objects.{occurrences-append}
use Rattle.cg_arena.specs.Nodes.{count_in_list, following}
use Rattle.cg_heap.specs.Keeps.{one}
use Rattle.cg_heap.specs.Calls.{IsListed, object_number}
use Rattle.cg_trial.proofs.Lists.{occurs, occurs_in, occurrences-cons, IsAt, ahead}
use Rattle.cg_trial.proofs.WalksOverLists.{along_more, along_end}
use Rattle.cg_trial.proofs.PlacesOfObjects.{stands, where_is, is_there}
use Rattle.cg_trial.proofs.Objects.{once_key, found, finds}
use Rattle.cg_inspect.specs.Inspection.{IsIdle, idle_lists}
use Rattle.cg_search.proofs.Trails.{in_get, get_in, get_below}

abbrev pub Ascends : List ℕ → Type 0
Ascends [] = Unit {0}
Ascends (x ∷ xs) = ((y : ℕ) → Includes xs y → x < y) × Ascends xs

-- two rising lists of the same numbers are equal
same_ascending : (xs ys : List ℕ) → Ascends xs → Ascends ys → ((n : ℕ) → Includes xs n → Includes ys n) → ((n : ℕ) → Includes ys n → Includes xs n) → xs ≡ ys
same_ascending [] [] a b into back = refl
same_ascending [] (y ∷ ys) a b into back = absurd (back y (inl refl))
same_ascending (x ∷ xs) [] a b into back = absurd (into x (inl refl))
same_ascending (x ∷ xs) (y ∷ ys) a b into back =
    let heads : x ≡ y = first (into x (inl refl)) (back y (inl refl)) in
    let tails : xs ≡ ys = same_ascending xs ys a.1 b.1
    (λ n m. either (into n (inr m)) (λ e. let low = a.0 n m in absurd (omega (arith, low, heads, e))) (λ k. k))
    (λ n m. either (back n (inr m)) (λ e. let low = b.0 n m in absurd (omega (arith, low, heads, e))) (λ k. k)) in
    λ i. heads i ∷ tails i
  where
    first : Includes (y ∷ ys) x → Includes (x ∷ xs) y → x ≡ y
    first (inl e) m = sym e
    first (inr k) (inl e) = e
    first (inr k) (inr m) = let low = b.0 x k in let high = a.0 y m in absurd (omega (arith, low, high))

-- sorted numbers without repetition rise
rises : (xs : List ℕ) → IsNonDecreasing xs → ((o : ℕ) → occurrences o xs ≤ 1) → Ascends xs
rises [] order once = tt
rises (x ∷ xs) order once = (
  above,
  rises xs (λ i j d low high. order (suc i) (suc j) d (omega (arith, low)) (omega (arith, high))) (λ o. omega (arith, once o, occurrences-cons o x xs)),
)
  where
    above : (y : ℕ) → Includes xs y → x < y
    above y m =
        let k = in_get xs y m in
        let low = order 0 (suc k.0) 0 (omega arith) (let less = slice_get_within xs k.0 y k.1 in omega (arith, less)) in
        let value = get_or_from_slice_get xs k.0 y 0 k.1 in
        let there = occurs xs y m in
        elim (cases_eq x y) [
          | inl same ↦
              let one : occurrences y (x ∷ xs) ≡ 1 + occurrences y xs = occurrences-cons y x xs ∙ ap (λ b. cond b 1 0 + occurrences y xs) (eq-eqb x y same) in
              absurd (omega (arith, one, once y, there))
          | inr differs ↦ less x y (omega (arith, low, value)) differs
        ]
      where
        less : (a b : ℕ) → a ≤ b → a ≢ b → a < b
        less a b low differs = either (cases_lt a b) (λ l. l) (λ h. absurd (differs (omega (arith, h, low))))

-- the keys of a map rise
below_is : (a b : ℕ) → T (is_lt (nat_cmp a b)) → a < b
below_is a b h = either (cases_lt a b) (λ l. l) (λ le. either (cases_eq a b)
    (λ e. absurd (subst (λ o. T (is_lt o)) (sym (nat_cmp_is a b Equal e)) h))
    (λ n. absurd (subst (λ o. T (is_lt o)) (sym (nat_cmp_is a b Greater (omega (arith, le, n)))) h)))

both_parts : (a b : Bool) → T (a && b) → T a × T b
both_parts true b h = (tt, h)
both_parts false b h = absurd h

below_each : (low : ℕ) (es : List (ℕ × Node)) → T (below_all nat_cmp low es) → (e : ℕ × Node) → Includes es e → low < e.0
below_each low [] h e m = absurd m
below_each low (x ∷ es) h e m =
    let parts = both_parts (is_lt (nat_cmp low x.0)) (below_all nat_cmp low es) h in
    either m (λ i. subst (λ (y : ℕ × Node). low < y.0) i (below_is low x.0 parts.0)) (λ k. below_each low es parts.1 e k)

module _ (store : Store) where
  abbrev object : ℕ × Node → Object
  object e = object_from store.rows e.0 e.1

  ascends_entries : (es : List (ℕ × Node)) → T (is_sorted nat_cmp es) → Ascends (serials (map object es))
  ascends_entries [] sorted = tt
  ascends_entries (e ∷ es) sorted =
      let parts = both_parts (below_all nat_cmp e.0 es) (is_sorted nat_cmp es) sorted in (
        λ y m.
            let x = Includes-map_cases (λ (z : Object). z.serial) (map object es) y m in
            let f = Includes-map_cases object es x.0 x.1 in
            subst (λ q. e.0 < q) (ap (λ (z : Object). z.serial) f.2 ∙ x.2) (below_each e.0 es parts.0 f.0 f.1),
        ascends_entries es parts.1,
      )

  pub ascends_serials : Ascends (serials (objects_of store))
  ascends_serials = ascends_entries (fin.entries store.nodes) (fin.entries_sorted store.nodes)

  -- an object of the store has its entries there, and lives
  pub entry_of : (x : Object) → Includes (objects_of store) x → (n : Node) × (fin.get store.nodes x.serial ≡ Some n) × (n.entries ≡ x.entries)
  entry_of x m =
      let e = Includes-map_cases object (fin.entries store.nodes) x m in (
        e.0.1,
        ap (fin.get store.nodes) (sym (ap (λ (z : Object). z.serial) e.2)) ∙ fin.get-entries store.nodes e.0.0 ∙ found (fin.entries store.nodes) e.0 (once_key store.nodes) e.1,
        ap (λ (z : Object). z.entries) e.2,
      )

  pub entries_are : (x : Object) → Includes (objects_of store) x → entries_of store x.serial ≡ x.entries
  entries_are x m = let r = entry_of x m in ap entries_in r.1 ∙ r.2

  pub serial_lives : (o : ℕ) → Includes (serials (objects_of store)) o → IsLive store o
  serial_lives o m =
      let x = Includes-map_cases (λ (z : Object). z.serial) (objects_of store) o m in
      let r = entry_of x.0 x.1 in
      subst (IsLive store) x.2 (subst IsSome (sym r.1) refl)

  pub live_serial : (o : ℕ) → IsLive store o → Includes (serials (objects_of store)) o
  live_serial o live = go (fin.get store.nodes o) refl live
    where
      go : (x : Option Node) → fin.get store.nodes o ≡ x → IsSome x → Includes (serials (objects_of store)) o
      go None at h = absurd (cc)
      go (Some n) at h =
          Includes-map (λ (z : Object). z.serial) (objects_of store) (object (o, n))
          (Includes-map object (fin.entries store.nodes) (o, n) (finds (fin.entries store.nodes) o n (sym (fin.get-entries store.nodes o) ∙ at)))

  -- which of the objects refer to one, by their serials
  pub filter-serials : (target : ℕ) → filter (λ s. includes (references (entries_of store s)) target) (serials (objects_of store)) ≡ serials (filter (refers_to target) (objects_of store))
  filter-serials target = go (objects_of store) (λ x m. m)
    where
      go : (xs : List Object) → ((x : Object) → Includes xs x → Includes (objects_of store) x) → filter (λ s. includes (references (entries_of store s)) target)
          (serials xs) ≡ serials (filter (refers_to target) xs)
      go [] h = refl
      go (x ∷ xs) h =
          ap (λ es. cond (includes (references es) target) (x.serial ∷ filter (λ s. includes (references (entries_of store s)) target) (serials xs))
          (filter (λ s. includes (references (entries_of store s)) target) (serials xs))) (entries_are x (h x (inl refl)))
          ∙ step (includes (references x.entries) target) (go xs (λ y m. h y (inr m)))
        where
          step : (b : Bool) → filter (λ s. includes (references (entries_of store s)) target) (serials xs) ≡ serials (filter (refers_to target) xs)
              → cond b (x.serial ∷ filter (λ s. includes (references (entries_of store s)) target) (serials xs))
              (filter (λ s. includes (references (entries_of store s)) target) (serials xs))
              ≡ serials (cond b (x ∷ filter (refers_to target) xs) (filter (refers_to target) xs))
          step true e = ap (λ l. x.serial ∷ l) e
          step false e = e

  -- what the entries of all objects hold, by their serials
  pub holdings-serials : flat_map (λ o. references (entries_of store o)) (serials (objects_of store)) ≡ entry_holdings (graph_of (objects_of store))
  holdings-serials = go (objects_of store) (λ x m. m)
    where
      go : (xs : List Object) → ((x : Object) → Includes xs x → Includes (objects_of store) x) → flat_map (λ o. references (entries_of store o)) (serials xs) ≡ entry_holdings (graph_of xs)
      go [] h = refl
      go (x ∷ xs) h = λ i. references (entries_are x (h x (inl refl)) i) ++ go xs (λ y m. h y (inr m)) i

  module _ (listed : IsListed store) (idle : IsIdle store) where
    five : (x : Option Place) → count_in_list 0 x + count_in_list 7 x + count_in_list 8 x + count_in_list 9 x + count_in_list 1 x ≤ 1
    five (Some (Gen i)) = grind (arith, nat_tests)
    five m = omega arith

    abbrev low : List ℕ
    low = list_at store Untracked ++ list_at store (Gen 0)

    idle_once : (o : ℕ) → occurrences o (idle_lists store) ≤ 1
    idle_once o =
        omega (
          arith,
          occurrences-append o (low ++ list_at store (Gen 1) ++ list_at store (Gen 2)) (list_at store Frozen),
          occurrences-append o (low ++ list_at store (Gen 1)) (list_at store (Gen 2)),
          occurrences-append o low (list_at store (Gen 1)),
          occurrences-append o (list_at store Untracked) (list_at store (Gen 0)),
          stands store listed Untracked o,
          stands store listed (Gen 0) o,
          stands store listed (Gen 1) o,
          stands store listed (Gen 2) o,
          stands store listed Frozen o,
          five (option_map (λ (n : Node). n.place) (fin.get store.nodes o)),
        )

    idle_lives : (o : ℕ) → Includes (idle_lists store) o → IsLive store o
    idle_lives o m =
        either (Includes-append_cases (low ++ list_at store (Gen 1) ++ list_at store (Gen 2)) (list_at store Frozen) o m)
        (λ k. either (Includes-append_cases (low ++ list_at store (Gen 1)) (list_at store (Gen 2)) o k)
        (λ k. either (Includes-append_cases low (list_at store (Gen 1)) o k)
        (λ k. either (Includes-append_cases (list_at store Untracked) (list_at store (Gen 0)) o k) (λ h. lives Untracked h) (λ h. lives (Gen 0) h))
        (λ h. lives (Gen 1) h)) (λ h. lives (Gen 2) h)) (λ h. lives Frozen h)
      where
        lives : (p : Place) → Includes (list_at store p) o → IsLive store o
        lives p h = (where_is store listed p o h).0

    lives_idle : (o : ℕ) → IsLive store o → Includes (idle_lists store) o
    lives_idle o live = go (fin.get store.nodes o) refl live
      where
        there : (n : Node) → fin.get store.nodes o ≡ Some n → (p : Place) → n.place ≡ p → Includes (list_at store p) o
        there n at p e = is_there store listed p o (subst IsSome (sym at) refl) (ap place_in at ∙ e)

        none : (p : Place) → list_at store p ≡ [] → Includes (list_at store p) o → Includes (idle_lists store) o
        none p empty h = absurd (subst (λ (xs : List ℕ). Includes xs o) empty h)

        first_low : Includes low o → Includes (idle_lists store) o
        first_low h =
            Includes-append_left (low ++ list_at store (Gen 1) ++ list_at store (Gen 2)) (list_at store Frozen) o
            (Includes-append_left (low ++ list_at store (Gen 1)) (list_at store (Gen 2)) o (Includes-append_left low (list_at store (Gen 1)) o h))

        placed : (n : Node) → fin.get store.nodes o ≡ Some n → (p : Place) → n.place ≡ p → Includes (idle_lists store) o
        placed n at Untracked e = first_low (Includes-append_left (list_at store Untracked) (list_at store (Gen 0)) o (there n at Untracked e))
        placed n at Frozen e = Includes-append_right (low ++ list_at store (Gen 1) ++ list_at store (Gen 2)) (list_at store Frozen) o (there n at Frozen e)
        placed n at Cand e = none Cand idle.candidates (there n at Cand e)
        placed n at Seen e = none Seen idle.seen (there n at Seen e)
        placed n at Back e = none Back idle.back (there n at Back e)
        placed n at Legacy e = none Legacy idle.legacy (there n at Legacy e)
        placed n at Pend e = none Pend idle.pending (there n at Pend e)
        placed n at (Gen zero) e = first_low (Includes-append_right (list_at store Untracked) (list_at store (Gen 0)) o (there n at (Gen 0) e))
        placed n at (Gen (suc zero)) e =
            Includes-append_left (low ++ list_at store (Gen 1) ++ list_at store (Gen 2)) (list_at store Frozen) o
            (Includes-append_left (low ++ list_at store (Gen 1)) (list_at store (Gen 2)) o (Includes-append_right low (list_at store (Gen 1)) o (there n at (Gen 1) e)))
        placed n at (Gen (suc (suc zero))) e =
            Includes-append_left (low ++ list_at store (Gen 1) ++ list_at store (Gen 2)) (list_at store Frozen) o
            (Includes-append_right (low ++ list_at store (Gen 1)) (list_at store (Gen 2)) o (there n at (Gen 2) e))
        placed n at (Gen (suc (suc (suc i)))) e = let below = listed.placed o n at in let number = ap place_number e in absurd (omega (arith, below, number))

        go : (x : Option Node) → fin.get store.nodes o ≡ x → IsSome x → Includes (idle_lists store) o
        go None at h = absurd (cc)
        go (Some n) at h = placed n at n.place refl

    -- sorted, they are the objects of the store
    pub sorted_lists : (xs : List ℕ) → IsPermutation (idle_lists store) xs → IsNonDecreasing xs → xs ≡ serials (objects_of store)
    sorted_lists xs moved order =
        same_ascending xs (serials (objects_of store)) (rises xs order (λ o. omega (arith, same o, idle_once o))) ascends_serials
        (λ o m. live_serial o (idle_lives o (occurs_in (idle_lists store) o (let k = occurs xs o m in omega (arith, k, same o)))))
        (λ o m. occurs_in xs o (let k = occurs (idle_lists store) o (lives_idle o (serial_lives o m)) in omega (arith, k, same o)))
      where
        same : (o : ℕ) → occurrences o xs ≡ occurrences o (idle_lists store)
        same o = sum_by-IsPermutation (λ r. cond (r == o) 1 0) (idle_lists store) xs moved

-- the object at a position of the list lives
pub in_range : (xs : List ℕ) (i : ℕ) → i < length xs → Includes xs (get_or xs i 0)
in_range xs i low = let r = get_below xs i low in subst (Includes xs) (sym (get_or_from_slice_get xs i r.0 0 r.1)) (get_in xs i r.0 r.1)

pub live_at : (store : Store) (xs : List ℕ) (i : ℕ) → xs ≡ serials (objects_of store) → i < length xs → IsLive store (get_or xs i 0)
live_at store xs i all low = serial_lives store (get_or xs i 0) (subst (λ (ys : List ℕ). Includes ys (get_or xs i 0)) all (in_range xs i low))

-- there are as many as nodes, and at most the limit
pub few_objects : (store : Store) (xs : List ℕ) → object_number store ≤ 1000000 → xs ≡ serials (objects_of store) → length xs ≤ 1000001
few_objects store xs most all =
    let same = ap length all in
    omega (arith, same, most, count (fin.entries store.nodes))
  where
    count : (es : List (ℕ × Node)) → length (serials (map (λ (e : ℕ × Node). object_from store.rows e.0 e.1) es)) ≡ sum_by {X = ℕ × Node} (λ e. one e.1) es
    count [] = refl
    count (e ∷ es) = omega (arith, sum_by-cons {X = ℕ × Node} (λ f. one f.1) e es, count es)

-- what passes a test among the first, and with one more
module _ (test : ℕ → Bool) (xs listed new : List ℕ) (i : ℕ) (low : i < length xs) (so : listed ≡ filter test (take i xs)) where
  pub filter_yes : test (get_or xs i 0) ≡ true → new ≡ listed ++ get_or xs i 0 ∷ [] → new ≡ filter test (take (i + 1) xs)
  filter_yes passes is =
      is ∙ ap (λ (l : List ℕ). l ++ get_or xs i 0 ∷ []) so ∙ sym (filter_more test xs i 0 low ∙ ap (λ b. filter test (take i xs) ++ cond b (get_or xs i 0 ∷ []) []) passes)

  pub filter_no : test (get_or xs i 0) ≡ false → new ≡ listed → new ≡ filter test (take (i + 1) xs)
  filter_no fails is =
      is ∙ so ∙ sym (filter_more test xs i 0 low ∙ ap (λ b. filter test (take i xs) ++ cond b (get_or xs i 0 ∷ []) []) fails ∙ append-nil (filter test (take i xs)))

pub listed_all : (store : Store) (target : ℕ) (xs listed : List ℕ) (i : ℕ) → xs ≡ serials (objects_of store) → listed
    ≡ filter (λ s. includes (references (entries_of store s)) target) (take i xs) → length xs ≤ i
    → listed ≡ serials (filter (refers_to target) (objects_of store))
listed_all store target xs listed i all so end =
    so ∙ ap (filter (λ s. includes (references (entries_of store s)) target)) (take_all i xs end ∙ all) ∙ filter-serials store target

-- a walk over a place appends its list
pub along_all : (store : Store) (p : Place) (cursor : Option ℕ) (old now : List ℕ) → (front : List ℕ) × (now ≡ old ++ front)
    × ((back : List ℕ) × IsAt (list_at store p) cursor front back) → cursor ≡ None → now ≡ old ++ list_at store p
along_all store p cursor old now so none = so.1 ∙ ap (λ (l : List ℕ). old ++ l) (along_end store p cursor so.0 so.2 none)

pub along_next : (store : Store) (listed : IsListed store) (p : Place) (was cursor : Option ℕ) (old now more : List ℕ) (o : ℕ) (so : (front : List ℕ)
    × (now ≡ old ++ front) × ((back : List ℕ) × IsAt (list_at store p) was front back))
    → was ≡ Some o → cursor ≡ following o (list_at store (place_of store o)) → more ≡ now ++ o ∷ []
    → ((front : List ℕ) × (more ≡ old ++ front) × ((back : List ℕ) × IsAt (list_at store p) cursor front back)) × (length (ahead cursor (list_at store p)) < length (ahead was (list_at store p)))
along_next store listed p was cursor old now more o so is next items =
    let r = along_more store listed p was cursor so.0 (so.0 ++ o ∷ []) o so.2 is next refl in
    ((so.0 ++ o ∷ [], items ∙ ap (λ (l : List ℕ). l ++ o ∷ []) so.1 ∙ append_assoc old so.0 (o ∷ []), r.0), r.1)
