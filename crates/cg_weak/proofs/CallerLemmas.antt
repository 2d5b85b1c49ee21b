-- What callers may conclude from a result of a table, and that a walk visits the weak references of an object.
use Rattle.std.proofs.Common.{◌≡◌, ℕ, ◌<◌, ◌≤◌, Bool, true, false, not, cond, List, [], ◌∷◌, ◌++◌, map, Option, Some, None, refl, sym, ap, ◌∙◌, subst, arith}
use Rattle.std.specs.Prelude.{◌==◌, nat_lt, filter, find, reverse, slice_get, option_and_then, if◌then◌else◌}
use Rattle.std.specs.List.{All}
use Rattle.std.proofs.lemmas.Bool.{eq-eqb, eqb-true, lt-ltb, le-ltb, and_parts}
use Rattle.std.proofs.lemmas.List.{reverse-append}
use Rattle.std.proofs.lemmas.List.Elements.{All-nil, All-head, All-tail, All-push}
use Rattle.cg_graph.specs.Rows.{Row, IsRising, referent_in, waited_in, refers_to, waits_with, newest_first, weak_references_in, waiting_in, next_older_in, waiting_row, with_row_waiting, without_row}
use Rattle.cg_weak.specs.Table.{row_at, below, IsLast}
use Rattle.cg_weak.proofs.RowLists.{AllAbove, passes, referent_if, referent_found, each-without, each-waiting}
use Rattle.cg_weak.proofs.Newest.{PassesBoth, last_found, find_first}

-- the result satisfies the test
last_passes : (P : ℕ → Type 0) (a : Option ℕ) (w : ℕ) → a ≡ Some w → IsLast below P a → P w
last_passes P None w is last = absurd (cc)
last_passes P (Some y) w is last = let same : y ≡ w = cc in subst P same last.0

module _ (rows : List Row) (rise : IsRising rows) where
  refers : (o w : ℕ) → passes (refers_to o) (row_at rows w) ≡ true → referent_in rows w ≡ Some o
  refers o w passed = referent_found (λ r. not r.waits) rows w rise ∙ go (row_at rows w) passed
    where
      go : (x : Option Row) → passes (refers_to o) x ≡ true → referent_if (λ r. not r.waits) x ≡ Some o
      go None is = absurd (let e : false ≡ true = is in cc)
      go (Some r) is =
          let parts = and_parts (r.referent == o) (not r.waits) is in
          ap (λ b. if b then Some r.referent else None) parts.1 ∙ ap Some (eqb-true r.referent o parts.0)

  waits : (o w : ℕ) → passes (waits_with o) (row_at rows w) ≡ true → waited_in rows w ≡ Some o
  waits o w passed = referent_found (λ r. r.waits) rows w rise ∙ go (row_at rows w) passed
    where
      go : (x : Option Row) → passes (waits_with o) x ≡ true → referent_if (λ r. r.waits) x ≡ Some o
      go None is = absurd (let e : false ≡ true = is in cc)
      go (Some r) is =
          let parts = and_parts (r.referent == o) r.waits is in
          ap (λ b. if b then Some r.referent else None) parts.1 ∙ ap Some (eqb-true r.referent o parts.0)

  -- the newest that waits with an object waits with it
  pub newest_waits : (o w : ℕ) → slice_get (waiting_in rows o) 0 ≡ Some w → waited_in rows w ≡ Some o
  newest_waits o w is =
      waits o w (last_passes (PassesBoth (waits_with o) (λ v. true) rows) (find (λ v. true) (waiting_in rows o)) w (find_first (waiting_in rows o) ∙ is)
      (last_found (waits_with o) (λ v. true) rows rise)).0

-- Weak references in descending order.
abbrev IsFalling : List ℕ → Type 0
IsFalling [] = Unit {0}
IsFalling (x ∷ xs) = All (λ y. y < x) xs × IsFalling xs

falling-push : (xs : List ℕ) (low : ℕ) → IsFalling xs → All (λ y. low < y) xs → IsFalling (xs ++ low ∷ [])
falling-push [] low falls above = (All-nil (λ y. y < low), tt)
falling-push (x ∷ xs) low falls above =
    (All-push (λ y. y < x) xs low falls.0 (All-head (λ y. low < y) x xs above), falling-push xs low falls.1 (All-tail (λ y. low < y) x xs above))

newest_first-cons : (test : Row → Bool) (r : Row) (rows : List Row) (b : Bool) → test r ≡ b → newest_first test (r ∷ rows) ≡ cond b (newest_first test rows ++ r.weak ∷ []) (newest_first test rows)
newest_first-cons test r rows true is =
    ap (λ t. reverse (map (λ x. x.weak) (cond t (r ∷ filter test rows) (filter test rows)))) is
    ∙ reverse-append (r.weak ∷ []) (map (λ x. x.weak) (filter test rows))
newest_first-cons test r rows false is = ap (λ t. reverse (map (λ x. x.weak) (cond t (r ∷ filter test rows) (filter test rows)))) is

above_all : (test : Row → Bool) (low : ℕ) (rows : List Row) → AllAbove low rows → All (λ v. low < v) (newest_first test rows)
above_all test low [] above = All-nil (λ v. low < v)
above_all test low (r ∷ rows) above = go (test r) refl (above_all test low rows (All-tail (λ x. low < x.weak) r rows above))
  where
    go : (b : Bool) → test r ≡ b → All (λ v. low < v) (newest_first test rows) → All (λ v. low < v) (newest_first test (r ∷ rows))
    go true is rest = subst (All (λ v. low < v)) (sym (newest_first-cons test r rows true is)) (All-push (λ v. low < v) (newest_first test rows) r.weak rest
        (All-head (λ x. low < x.weak) r rows above))
    go false is rest = subst (All (λ v. low < v)) (sym (newest_first-cons test r rows false is)) rest

falling-newest_first : (test : Row → Bool) (rows : List Row) → IsRising rows → IsFalling (newest_first test rows)
falling-newest_first test [] rise = tt
falling-newest_first test (r ∷ rows) rise = go (test r) refl (falling-newest_first test rows rise.1)
  where
    go : (b : Bool) → test r ≡ b → IsFalling (newest_first test rows) → IsFalling (newest_first test (r ∷ rows))
    go true is rest = subst IsFalling (sym (newest_first-cons test r rows true is)) (falling-push (newest_first test rows) r.weak rest (above_all test r.weak rows rise.0))
    go false is rest = subst IsFalling (sym (newest_first-cons test r rows false is)) rest

-- in a descending list, the first one below an element is the next element
find-below : (front : List ℕ) (w : ℕ) (back : List ℕ) → IsFalling (front ++ w ∷ back) → find (λ v. nat_lt v w) (front ++ w ∷ back) ≡ slice_get back 0
find-below [] w back falls = ap (λ b. cond b (Some w) (find (λ v. nat_lt v w) back)) (le-ltb w w (omega arith)) ∙ go back falls.0
  where
    go : (xs : List ℕ) → All (λ y. y < w) xs → find (λ v. nat_lt v w) xs ≡ slice_get xs 0
    go [] below_w = refl
    go (x ∷ xs) below_w = ap (λ b. cond b (Some x) (find (λ v. nat_lt v w) xs)) (lt-ltb x w (All-head (λ y. y < w) x xs below_w))
find-below (x ∷ front) w back falls =
    ap (λ b. cond b (Some x) (find (λ v. nat_lt v w) (front ++ w ∷ back))) (le-ltb x w (at_w front falls.0))
    ∙ find-below front w back falls.1
  where
    at_w : (ys : List ℕ) → All (λ y. y < x) (ys ++ w ∷ back) → w ≤ x
    at_w [] all = let lower : w < x = All-head (λ y. y < x) w back all in omega (arith, lower)
    at_w (y ∷ ys) all = at_w ys (All-tail (λ z. z < x) y (ys ++ w ∷ back) all)

-- an element of a list is found in it
find-there : (front : List ℕ) (w : ℕ) (back : List ℕ) → find (λ v. v == w) (front ++ w ∷ back) ≡ Some w
find-there [] w back = ap (λ b. cond b (Some w) (find (λ v. v == w) back)) (eq-eqb w w refl)
find-there (x ∷ front) w back = go (x == w) refl (find-there front w back)
  where
    go : (b : Bool) → (x == w) ≡ b → find (λ v. v == w) (front ++ w ∷ back) ≡ Some w → cond (x == w) (Some x) (find (λ v. v == w) (front ++ w ∷ back)) ≡ Some w
    go true is rest = ap (λ b. cond b (Some x) (find (λ v. v == w) (front ++ w ∷ back))) is ∙ ap Some (eqb-true x w is)
    go false is rest = ap (λ b. cond b (Some x) (find (λ v. v == w) (front ++ w ∷ back))) is ∙ rest

-- each weak reference of the list refers to the object
pub each_refers : (rows : List Row) (o w : ℕ) (front back : List ℕ) → IsRising rows → weak_references_in rows o ≡ front ++ w ∷ back → referent_in rows w ≡ Some o
each_refers rows o w front back rise is =
    refers rows rise o w (last_passes (PassesBoth (refers_to o) (λ v. v == w) rows) (find (λ v. v == w) (weak_references_in rows o)) w
    (ap (find (λ v. v == w)) is ∙ find-there front w back) (last_found (refers_to o) (λ v. v == w) rows rise)).0

-- a walk steps from each element to the next
pub walk_goes_on : (rows : List Row) (o w : ℕ) (front back : List ℕ) → IsRising rows → weak_references_in rows o ≡ front ++ w ∷ back → next_older_in rows w ≡ slice_get back 0
walk_goes_on rows o w front back rise is =
    ap (option_and_then (λ p. find (λ v. nat_lt v w) (weak_references_in rows p))) (each_refers rows o w front back rise is)
    ∙ ap (find (λ v. nat_lt v w)) is
    ∙ find-below front w back (subst IsFalling is (falling-newest_first (refers_to o) rows rise))

-- a property of each row that does not depend on waiting survives `clear`
pub each-cleared : (P : Row → Type 0) → ((r : Row) → P r → P (waiting_row r)) → (weak : ℕ) (wait : Bool) (rows : List Row) → All P rows
    → All P (if wait then with_row_waiting weak rows else without_row weak rows)
each-cleared P kept weak true rows each = each-waiting P kept weak rows each
each-cleared P kept weak false rows each = each-without P weak rows each
