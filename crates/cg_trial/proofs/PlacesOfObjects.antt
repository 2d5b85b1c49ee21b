-- Where the objects of a heap are: each once in the list of its place, and in no other list.
use Rattle.std.proofs.Common.{◌≡◌, ◌≢◌, refl, sym, ◌∙◌, ap, subst, ℕ, ◌+◌, ◌-◌, ◌≤◌, ◌⊎◌, inl, inr, List, [], ◌∷◌, ◌++◌, Bool, true, false, cond, Option, Some, None, IsSome, arith}
use Rattle.std.specs.Prelude.{◌==◌, if◌then◌else◌, option_map, slice_get}
use Rattle.std.specs.FinMap as fin
use Rattle.std.proofs.lemmas.Bool.{eqb-true, eq-eqb, ne_eqb}
use Rattle.std.proofs.lemmas.List.{get_or_past}
use Rattle.cg_value.specs.declared.Place.{Place}
use Rattle.cg_value.specs.declared.Place.TheVariants.{Untracked, Gen, Frozen, Cand, Seen, Back, Legacy, Pend}
use Rattle.cg_graph.specs.Member.{Includes}
use Rattle.cg_graph.specs.Holdings.{occurrences}
use Rattle.cg_graph.specs.Places.{place_number}
use Rattle.cg_graph.specs.Store.{Store, Node, list_at, place_in, place_of, IsLive}
use Rattle.cg_graph.proofs.Members.{cases_of, Includes-append_right}
use Rattle.cg_arena.specs.Nodes.{following, count_in_list, TakesNumber}
use Rattle.cg_heap.specs.Calls.{IsListed}
use Rattle.cg_trial.specs.View.{view_of, IsNext}
use Rattle.cg_trial.specs.Split.{IsSplitPlace}
use Rattle.cg_trial.specs.Sift.{CanBeNumbered}
use Rattle.cg_trial.proofs.Lists.{occurs, occurs_in, occurrences-cons, once_before, none_or_some}

-- no two places have the same number
decode : ℕ → Place
decode n =
    if n == 0 then Untracked
    else (if n == 1 then Frozen
    else (if n == 2 then Cand
    else (if n == 3 then Seen else (if n == 4 then Back else (if n == 5 then Legacy else (if n == 6 then Pend else Gen (n - 7)))))))

decode-number : (p : Place) → decode (place_number p) ≡ p
unfolding decode
decode-number (Gen i) =
    rw (
      ne_eqb (7 + i) 0 (λ e. absurd (omega arith)),
      ne_eqb (7 + i) 1 (λ e. absurd (omega arith)),
      ne_eqb (7 + i) 2 (λ e. absurd (omega arith)),
      ne_eqb (7 + i) 3 (λ e. absurd (omega arith)),
      ne_eqb (7 + i) 4 (λ e. absurd (omega arith)),
      ne_eqb (7 + i) 5 (λ e. absurd (omega arith)),
      ne_eqb (7 + i) 6 (λ e. absurd (omega arith)),
    ) (ap Gen (omega arith))
decode-number p = refl

pub one_place : (p q : Place) → place_number p ≡ place_number q → p ≡ q
one_place p q e = sym (decode-number p) ∙ ap decode e ∙ decode-number q

-- how often an optional node is in the list of a place
abbrev place_at : Option Node → Option Place
place_at x = option_map (λ n. n.place) x

count_once : (k : ℕ) (x : Option Place) → count_in_list k x ≤ 1
count_once k None = omega arith
count_once k (Some q) = go (place_number q == k)
  where
    go : (b : Bool) → (if b then 1 else 0) ≤ 1
    go true = omega arith
    go false = omega arith

counted : (k : ℕ) (x : Option Node) → 1 ≤ count_in_list k (place_at x) → IsSome x × (place_number (place_in x) ≡ k)
counted k None h = absurd (omega (arith, h))
counted k (Some n) h = go (cases_of (place_number n.place == k))
  where
    go : (place_number n.place == k ≡ true) ⊎ (place_number n.place == k ≡ false) → IsSome (Some n) × (place_number n.place ≡ k)
    go (inl e) = (refl, eqb-true (place_number n.place) k e)
    go (inr e) = let none : count_in_list k (Some n.place) ≡ 0 = ap (λ b. if b then 1 else 0) e in absurd (omega (arith, h, none))

counts : (k : ℕ) (x : Option Node) → IsSome x → place_number (place_in x) ≡ k → count_in_list k (place_at x) ≡ 1
counts k None h e = absurd (cc)
counts k (Some n) h e = ap (λ b. if b then 1 else 0) (eq-eqb (place_number n.place) k e)

-- the successor of an object in a list
after_front : (o : ℕ) (front back : List ℕ) → occurrences o front ≡ 0 → following o (front ++ o ∷ back) ≡ slice_get back 0
after_front o [] back h = ap (λ b. if b then slice_get back 0 else following o back) (eq-eqb o o refl)
after_front o (x ∷ front) back h =
    let differs : x ≢ o = λ e. let one : occurrences o (x ∷ front) ≡ 1 + occurrences o front = occurrences-cons o x front
    ∙ ap (λ b. cond b 1 0 + occurrences o front) (eq-eqb x o e) in absurd (omega (arith, h, one)) in
    ap (λ b. if b then slice_get (front ++ o ∷ back) 0 else following o (front ++ o ∷ back)) (ne_eqb x o differs)
    ∙ after_front o front back (omega (arith, h, occurrences-cons o x front))

module _ (store : Store) (listed : IsListed store) where
  -- how often a serial is in the list of a place
  pub stands : (p : Place) (s : ℕ) → occurrences s (list_at store p) ≡ count_in_list (place_number p) (place_at (fin.get store.nodes s))
  stands p s = go (none_or_some (10 - place_number p))
    where
      none : (x : Option Node) → fin.get store.nodes s ≡ x → 10 ≤ place_number p → 0 ≡ count_in_list (place_number p) (place_at x)
      none None at above = refl
      none (Some n) at above = let below = listed.placed s n at in sym (ap (λ b. if b then 1 else 0) (ne_eqb (place_number n.place) (place_number p) (λ e. absurd (omega (arith, below, above, e)))))

      go : (10 - place_number p ≡ 0) ⊎ (1 ≤ 10 - place_number p) → occurrences s (list_at store p) ≡ count_in_list (place_number p) (place_at (fin.get store.nodes s))
      go (inr few) = listed.once (place_number p) s (omega (arith, few))
      go (inl none_left) = let above : 10 ≤ place_number p = omega (arith, none_left) in ap (occurrences s) (get_or_past store.lists (place_number p) []
          (omega (arith, listed.ten, above))) ∙ none (fin.get store.nodes s) refl above

  pub once_at : (p : Place) (s : ℕ) → occurrences s (list_at store p) ≤ 1
  once_at p s = omega (arith, stands p s, count_once (place_number p) (place_at (fin.get store.nodes s)))

  pub where_is : (p : Place) (s : ℕ) → Includes (list_at store p) s → IsLive store s × (place_of store s ≡ p)
  where_is p s h =
      let found = counted (place_number p) (fin.get store.nodes s) (omega (arith, occurs (list_at store p) s h, stands p s)) in
      (found.0, one_place (place_of store s) p found.1)

  pub is_there : (p : Place) (s : ℕ) → IsLive store s → place_of store s ≡ p → Includes (list_at store p) s
  is_there p s live e =
      occurs_in (list_at store p) s (omega (arith, stands p s, counts (place_number p) (fin.get store.nodes s) live (ap place_number e)))

  pub apart : (p q : Place) (s : ℕ) → p ≢ q → Includes (list_at store p) s → occurrences s (list_at store q) ≡ 0
  apart p q s differ h = go (none_or_some (occurrences s (list_at store q)))
    where
      go : (occurrences s (list_at store q) ≡ 0) ⊎ (1 ≤ occurrences s (list_at store q)) → occurrences s (list_at store q) ≡ 0
      go (inl e) = e
      go (inr e) = absurd (differ (sym (where_is p s h).1 ∙ (where_is q s (occurs_in (list_at store q) s e)).1))

  -- the successor of an object in its own list
  pub next_is : (o : ℕ) (result : Option ℕ) → result ≡ following o (list_at store (place_of store o)) → IsNext (view_of store) o result
  next_is o result is place front back parts =
      let here : Includes (list_at store place) o = subst (λ (xs : List ℕ). Includes xs o) (sym parts) (Includes-append_right front (o ∷ back) o (inl refl)) in
      let same : list_at store (place_of store o) ≡ front ++ o ∷ back = ap (list_at store) (where_is place o here).1 ∙ parts in
      is ∙ ap (following o) same ∙ after_front o front back (once_before (list_at store place) front back o (once_at place o) parts).0

  pub takes_number : (o : ℕ) → CanBeNumbered (view_of store) o → TakesNumber (place_of store o)
  takes_number o (p, is, h) = subst TakesNumber (sym (where_is p o h).1) (takes p is)
    where
      takes : (q : Place) → IsSplitPlace q → TakesNumber q
      takes (Gen i) is = tt
      takes Cand is = tt
      takes q is = absurd is
