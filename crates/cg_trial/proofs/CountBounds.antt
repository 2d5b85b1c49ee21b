-- The entries of some objects hold at most what all entries hold, so a count bounds it.
use Rattle.std.proofs.Common.{◌≡◌, ◌≢◌, refl, sym, ◌∙◌, ap, ℕ, ◌+◌, ◌≤◌, inl, inr, Bool, true, false, cond, List, [], ◌∷◌, Option, Some, None, arith}
use Rattle.std.specs.Prelude.{◌==◌, sum_by}
use Rattle.std.specs.Ordering.{nat_cmp}
use Rattle.std.specs.FinMap as fin
use Rattle.std.proofs.lemmas.Bool.{eq-eqb}
use Rattle.std.proofs.lemmas.List.Sums.{sum_by-append, sum_by-cons}
use Rattle.cg_value.specs.declared.Place.{Place}
use Rattle.cg_graph.specs.Member.{Includes}
use Rattle.cg_graph.specs.Value.{references}
use Rattle.cg_graph.specs.Holdings.{occurrences}
use Rattle.cg_graph.specs.Maps.{total, part}
use Rattle.cg_graph.specs.Store.{Store, Node, list_at, entries_in, entries_of, count_of, inner, held_within, held_by}
use Rattle.cg_graph.proofs.Maps.{total-remove, get-remove_other}
use Rattle.cg_heap.specs.Calls.{IsSound}
use Rattle.cg_trial.specs.View.{View, view_of, IsReadyView, held_by as held_by_all}
use Rattle.cg_trial.specs.Sift.{IsNowhereElse}
use Rattle.cg_trial.proofs.Lists.{occurs, occurrences-cons}
use Rattle.cg_trial.proofs.PlacesOfObjects.{once_at, where_is, apart}

pub sum_by-same : (f g : ℕ → ℕ) (xs : List ℕ) → ((x : ℕ) → Includes xs x → f x ≡ g x) → sum_by f xs ≡ sum_by g xs
sum_by-same f g [] same = refl
sum_by-same f g (x ∷ xs) same = rw (sum_by-cons f x xs, sum_by-cons g x xs) (omega (arith, same x (inl refl), sum_by-same f g xs (λ y h. same y (inr h))))

pub occurrences-held_by : (o : ℕ) (v : View) (members : List ℕ) → occurrences o (held_by_all v members) ≡ sum_by (λ m. occurrences o (references (v.entries m))) members
occurrences-held_by o v [] = refl
occurrences-held_by o v (m ∷ members) =
    sum_by-append (λ r. cond (r == o) 1 0) (references (v.entries m)) (held_by_all v members)
    ∙ ap (λ n. occurrences o (references (v.entries m)) + n) (occurrences-held_by o v members)
    ∙ sym (sum_by-cons (λ q. occurrences o (references (v.entries q))) m members)

-- a sum over some keys is at most the total
some_of_total : (f : Node → ℕ) (xs : List ℕ) (m : fin.FinMap nat_cmp Node) → ((o : ℕ) → occurrences o xs ≤ 1) → sum_by (λ o. part f (fin.get m o)) xs ≤ total f m
some_of_total f [] m once = omega arith
some_of_total f (x ∷ xs) m once =
    let one : occurrences x (x ∷ xs) ≡ 1 + occurrences x xs = occurrences-cons x x xs ∙ ap (λ b. cond b 1 0 + occurrences x xs) (eq-eqb x x refl) in
    let rest = some_of_total f xs (fin.remove m x) (λ o. omega (arith, once o, occurrences-cons o x xs)) in
    let same : sum_by (λ o. part f (fin.get m o)) xs ≡ sum_by (λ o. part f (fin.get (fin.remove m x) o)) xs =
    sum_by-same _ _ xs (λ y h. ap (part f) (sym (get-remove_other m x y (other y h)))) in
    let cut = total-remove f m x in
    rw (sum_by-cons (λ o. part f (fin.get m o)) x xs) (omega (arith, rest, same, cut))
  where
    other : (y : ℕ) → Includes xs y → y ≢ x
    other y h e =
        let one : occurrences x (x ∷ xs) ≡ 1 + occurrences x xs = occurrences-cons x x xs ∙ ap (λ b. cond b 1 0 + occurrences x xs) (eq-eqb x x refl) in
        let again : occurrences y xs ≡ occurrences x xs = ap (λ q. occurrences q xs) e in
        absurd (omega (arith, once x, one, occurs xs y h, again))

held_part : (s : ℕ) (x : Option Node) → occurrences s (references (entries_in x)) ≡ part (held_by s) x
held_part s None = refl
held_part s (Some n) = refl

-- what some objects hold is held inside the heap
held_inside : (store : Store) (s : ℕ) (xs : List ℕ) → ((o : ℕ) → occurrences o xs ≤ 1) → sum_by (λ m. occurrences s (references (entries_of store m))) xs ≤ inner store s
unfolding held_within
held_inside store s xs once =
    let same = sum_by-same (λ m. occurrences s (references (entries_of store m))) (λ o. part (held_by s) (fin.get store.nodes o)) xs (λ m h. held_part s (fin.get store.nodes m)) in
    omega (arith, same, some_of_total (held_by s) xs store.nodes once)

module _ (members : Place) (store : Store) (sound : IsSound store) where
  pub is_ready : IsReadyView members (view_of store)
  is_ready = record {
    once = once_at store sound.listed members;
    alive = λ o h. (where_is store sound.listed members o h).0;
    closed = λ o p live h.
        let some = held_inside store p (o ∷ []) (λ q. omega (arith, occurrences-cons q o [], bit (o == q))) in
        let one = sum_by-cons (λ m. occurrences p (references (entries_of store m))) o [] in
        let here = occurs (references (entries_of store o)) p h in
        sound.live p (omega (arith, some, one, here));
  }
    where
      bit : (b : Bool) → cond b 1 0 ≤ 1
      bit true = omega arith
      bit false = omega arith

  pub is_counted : (o : ℕ) → occurrences o (held_by_all (view_of store) (list_at store members)) ≤ count_of store o
  is_counted o = omega (arith, occurrences-held_by o (view_of store) (list_at store members), held_inside store o (list_at store members) (once_at store sound.listed members))

  pub is_apart : IsNowhereElse members (view_of store)
  is_apart q o h i = apart store sound.listed members q o (λ e. h (sym e)) i
