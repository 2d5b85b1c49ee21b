-- The list of a place is as long as there are objects in it.
use Rattle.std.proofs.Common.{◌≡◌, ◌≢◌, refl, sym, ◌∙◌, ap, ℕ, ◌+◌, ◌<◌, ◌⊎◌, inl, inr, Bool, true, false, cond, T, List, [], ◌∷◌, length, map, Option, Some, None, arith}
use Rattle.std.specs.Prelude.{◌==◌, ◌&&◌, if◌then◌else◌, filter, option_map}
use Rattle.std.specs.Ordering.{nat_cmp, is_lt, MatchOrdering}
use Rattle.std.specs.declared.cmp.Ordering.{Ordering}
use Rattle.std.specs.declared.cmp.Ordering.TheVariants.{Less, Equal, Greater}
use Rattle.std.specs.Cmp.{unsigned_tied, ranks}
use Rattle.std.specs.FinMap as fin
use Rattle.std.specs.FinMap.Entries.{below_all}
use Rattle.std.proofs.lemmas.Bool.{eq-eqb, ne_eqb, cases_eq}
use Rattle.cg_value.specs.declared.Place.{Place}
use Rattle.cg_value.specs.declared.Place.TheVariants.{Untracked, Gen, Frozen, Cand, Seen, Back, Legacy, Pend}
use Rattle.cg_graph.specs.Object.{same_place, is_at, serials, serials_at}
use Rattle.cg_graph.specs.Holdings.{occurrences}
use Rattle.cg_graph.specs.Places.{place_number}
use Rattle.cg_graph.specs.Rows.{Row}
use Rattle.cg_graph.specs.Store.{Store, Node, objects_of, object_from, list_at}
use Rattle.cg_arena.specs.Nodes.{count_in_list}
use Rattle.cg_heap.specs.Calls.{IsListed}
use Rattle.cg_represents.proofs.Lists.{no_longer, occurrences-cons}

-- two places are equal if their numbers are
same-number : (p q : Place) → same_place p q ≡ (place_number p == place_number q)
same-number (Gen i) (Gen j) = go (cases_eq i j)
  where
    go : (i ≡ j) ⊎ (i ≢ j) → (i == j) ≡ ((7 + i) == (7 + j))
    go (inl e) = eq-eqb i j e ∙ sym (eq-eqb (7 + i) (7 + j) (ap (λ k. 7 + k) e))
    go (inr n) = ne_eqb i j n ∙ sym (ne_eqb (7 + i) (7 + j) (λ e. n (omega (arith, e))))
same-number (Gen i) Untracked = sym (ne_eqb (7 + i) 0 (λ e. absurd (omega (arith, e))))
same-number (Gen i) Frozen = sym (ne_eqb (7 + i) 1 (λ e. absurd (omega (arith, e))))
same-number (Gen i) Cand = sym (ne_eqb (7 + i) 2 (λ e. absurd (omega (arith, e))))
same-number (Gen i) Seen = sym (ne_eqb (7 + i) 3 (λ e. absurd (omega (arith, e))))
same-number (Gen i) Back = sym (ne_eqb (7 + i) 4 (λ e. absurd (omega (arith, e))))
same-number (Gen i) Legacy = sym (ne_eqb (7 + i) 5 (λ e. absurd (omega (arith, e))))
same-number (Gen i) Pend = sym (ne_eqb (7 + i) 6 (λ e. absurd (omega (arith, e))))
same-number Untracked (Gen i) = sym (ne_eqb 0 (7 + i) (λ e. absurd (omega (arith, e))))
same-number Frozen (Gen i) = sym (ne_eqb 1 (7 + i) (λ e. absurd (omega (arith, e))))
same-number Cand (Gen i) = sym (ne_eqb 2 (7 + i) (λ e. absurd (omega (arith, e))))
same-number Seen (Gen i) = sym (ne_eqb 3 (7 + i) (λ e. absurd (omega (arith, e))))
same-number Back (Gen i) = sym (ne_eqb 4 (7 + i) (λ e. absurd (omega (arith, e))))
same-number Legacy (Gen i) = sym (ne_eqb 5 (7 + i) (λ e. absurd (omega (arith, e))))
same-number Pend (Gen i) = sym (ne_eqb 6 (7 + i) (λ e. absurd (omega (arith, e))))
same-number p q = refl

first_of_both : (a b : Bool) → T (a && b) → T a
first_of_both true b h = tt
first_of_both false b h = absurd h

second_of_both : (a b : Bool) → T (a && b) → T b
second_of_both true b h = h
second_of_both false b h = absurd h

-- keys that are not below themselves
apart : (x y : ℕ) → T (is_lt (nat_cmp x y)) → x ≢ y
apart x y h e = go (nat_cmp x y) (ranks x y) h
  where
    go : (r : Ordering) → MatchOrdering r (x < y) (x ≡ y) (y < x) → T (is_lt r) → ⊥
    go Less below t = omega (arith, below, e)
    go Equal same t = t
    go Greater above t = t

module _ (rows : List Row) (p : Place) (o : ℕ) where
  -- the serials of those in the place
  abbrev standing : List (ℕ × Node) → List ℕ
  standing es = serials (filter (is_at p) (map (λ e. object_from rows e.0 e.1) es))

  abbrev place_at : List (ℕ × Node) → Option Place
  place_at es = option_map (λ n. n.place) (fin.find nat_cmp o es)

  -- one more entry, with another key
  skipped : (e : ℕ × Node) (es : List (ℕ × Node)) → o ≢ e.0 → (occurrences o (standing (e ∷ es)) ≡ occurrences o (standing es)) × (fin.find nat_cmp o (e ∷ es) ≡ fin.find nat_cmp o es)
  skipped e es differs = (go (is_at p (object_from rows e.0 e.1)), ap (λ b. cond b (Some e.1) (fin.find nat_cmp o es)) (unsigned_tied o e.0 ∙ ne_eqb o e.0 differs))
    where
      go : (b : Bool) → occurrences o (serials (cond b (object_from rows e.0 e.1 ∷ filter (is_at p) (map (λ e. object_from rows e.0 e.1) es))
          (filter (is_at p) (map (λ e. object_from rows e.0 e.1) es)))) ≡ occurrences o (standing es)
      go true =
          let none : cond {A = ℕ} (e.0 == o) 1 0 ≡ 0 = ap (λ b. cond {A = ℕ} b 1 0) (ne_eqb e.0 o (λ k. differs (sym k))) in
          omega (arith, none, occurrences-cons o e.0 (standing es))
      go false = refl

  absent : (x : ℕ) (es : List (ℕ × Node)) → o ≡ x → T (below_all nat_cmp x es) → (occurrences o (standing es) ≡ 0) × (fin.find nat_cmp o es ≡ None)
  absent x [] same h = (refl, refl)
  absent x (e ∷ es) same h =
      let (none, nothing) = absent x es same (second_of_both (is_lt (nat_cmp x e.0)) (below_all nat_cmp x es) h) in
      let (left, right) = skipped e es (λ k. apart x e.0 (first_of_both (is_lt (nat_cmp x e.0)) (below_all nat_cmp x es) h) (sym same ∙ k)) in
      (left ∙ none, right ∙ nothing)

  here_or_not : (e : ℕ × Node) (es : List (ℕ × Node)) → o ≡ e.0 → occurrences o (standing es) ≡ 0 → (b : Bool)
      → occurrences o (serials (cond b (object_from rows e.0 e.1 ∷ filter (is_at p) (map (λ e. object_from rows e.0 e.1) es))
      (filter (is_at p) (map (λ e. object_from rows e.0 e.1) es)))) ≡ (if b then 1 else 0)
  here_or_not e es same none true =
      let one : cond {A = ℕ} (e.0 == o) 1 0 ≡ 1 = ap (λ b. cond {A = ℕ} b 1 0) (eq-eqb e.0 o (sym same)) in
      omega (arith, one, none, occurrences-cons o e.0 (standing es))
  here_or_not e es same none false = none

  counted : (es : List (ℕ × Node)) → T (fin.is_sorted nat_cmp es) → occurrences o (standing es) ≡ count_in_list (place_number p) (place_at es)
  counted [] h = refl
  counted (e ∷ es) h = go (cases_eq o e.0) (counted es (second_of_both (below_all nat_cmp e.0 es) (fin.is_sorted nat_cmp es) h))
    where
      go : (o ≡ e.0) ⊎ (o ≢ e.0) → occurrences o (standing es) ≡ count_in_list (place_number p) (place_at es) → occurrences o (standing (e ∷ es)) ≡ count_in_list (place_number p) (place_at (e ∷ es))
      go (inl same) rest =
          let (none, nothing) = absent e.0 es same (first_of_both (below_all nat_cmp e.0 es) (fin.is_sorted nat_cmp es) h) in
          here_or_not e es same none (is_at p (object_from rows e.0 e.1))
          ∙ ap (λ b. if b then 1 else 0) (same-number e.1.place p)
          ∙ ap (count_in_list (place_number p)) (sym (ap (λ b. option_map (λ n. n.place) (cond b (Some e.1) (fin.find nat_cmp o es))) (unsigned_tied o e.0 ∙ eq-eqb o e.0 same)))
      go (inr differs) rest =
          let (left, right) = skipped e es differs in
          left
          ∙ rest
          ∙ ap (λ x. count_in_list (place_number p) (option_map (λ n. n.place) x)) (sym right)

pub size_is : (store : Store) → IsListed store → (p : Place) → place_number p < 10 → length (list_at store p) ≡ length (serials_at (objects_of store) p)
size_is store listed p below = omega (arith, no_longer xs ys same, no_longer ys xs (λ o. sym (same o)))
  where
    xs : List ℕ
    xs = list_at store p

    ys : List ℕ
    ys = serials_at (objects_of store) p

    same : (o : ℕ) → occurrences o xs ≡ occurrences o ys
    same o =
        listed.once (place_number p) o below
        ∙ ap (λ x. count_in_list (place_number p) (option_map (λ n. n.place) x)) (fin.get-entries store.nodes o)
        ∙ sym (counted store.rows p o (fin.entries store.nodes) (fin.entries_sorted store.nodes))
