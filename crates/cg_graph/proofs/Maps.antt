-- Laws of finite maps from serials.
use Rattle.std.proofs.Common.{◌≡◌, ◌≢◌, ℕ, suc, ◌+◌, Bool, true, false, ◌&&◌, T, List, [], ◌∷◌, map, length, Option, Some, None, is_some, cond, refl, sym, ap, ◌∙◌, subst, inl, inr, arith, sum_by}
use Rattle.std.specs.Prelude.{◌==◌, option_map, if◌then◌else◌}
use Rattle.std.proofs.lemmas.Bool.{cases_eq, eq-eqb, ne_eqb}
use Rattle.std.proofs.lemmas.List.Sums.{sum_by-cons}
use Rattle.std.specs.declared.cmp.Ordering.TheVariants.{Less, Equal, Greater}
use Rattle.std.specs.Ordering.{nat_cmp, eq_by_cmp, is_eq, is_lt}
use Rattle.std.specs.Cmp.{nat_cmp_total, unsigned_tied}
use Rattle.std.specs.FinMap as fin
use Rattle.std.specs.FinMap.Entries.{put, find, is_sorted, below_all, by_order, length-put}
use Rattle.cg_graph.specs.Maps.{mapped, changed, total, part}

tied : (a b : ℕ) → a ≡ b → eq_by_cmp nat_cmp a b ≡ true
tied a b e = unsigned_tied a b ∙ eq-eqb a b e

apart : (a b : ℕ) → a ≢ b → eq_by_cmp nat_cmp a b ≡ false
apart a b n = unsigned_tied a b ∙ ne_eqb a b n

module _ {X : Type 0} where
  pub get-insert_same : (m : fin.FinMap nat_cmp X) (k q : ℕ) (v : X) → q ≡ k → fin.get (fin.insert m k v) q ≡ Some v
  get-insert_same m k q v e = fin.get-insert nat_cmp_total m k v q ∙ ap (λ b. cond b (Some v) (fin.get m q)) (tied q k e)

  pub get-insert_other : (m : fin.FinMap nat_cmp X) (k q : ℕ) (v : X) → q ≢ k → fin.get (fin.insert m k v) q ≡ fin.get m q
  get-insert_other m k q v n = fin.get-insert nat_cmp_total m k v q ∙ ap (λ b. cond b (Some v) (fin.get m q)) (apart q k n)

  pub get-remove_same : (m : fin.FinMap nat_cmp X) (k q : ℕ) → q ≡ k → fin.get (fin.remove m k) q ≡ None
  get-remove_same m k q e = fin.get-remove nat_cmp_total m k q ∙ ap (λ b. cond b None (fin.get m q)) (tied q k e)

  pub get-remove_other : (m : fin.FinMap nat_cmp X) (k q : ℕ) → q ≢ k → fin.get (fin.remove m k) q ≡ fin.get m q
  get-remove_other m k q n = fin.get-remove nat_cmp_total m k q ∙ ap (λ b. cond b None (fin.get m q)) (apart q k n)

  -- maps with the same look-ups are equal
  pub same_map : (m n : fin.FinMap nat_cmp X) → ((q : ℕ) → fin.get m q ≡ fin.get n q) → m ≡ n
  same_map m n h = fin.same_map nat_cmp_total fin.nat_cmp-IsAntisymmetric m n h

module _ {X Y : Type 0} (g : ℕ → X → Y) where
  abbrev rows : List (ℕ × X) → List (ℕ × Y)
  rows es = map (λ e. (e.0, g e.0 e.1)) es

  below-rows : (x : ℕ) (es : List (ℕ × X)) → below_all nat_cmp x (rows es) ≡ below_all nat_cmp x es
  below-rows x [] = refl
  below-rows x (e ∷ es) = ap (λ b. is_lt (nat_cmp x e.0) && b) (below-rows x es)

  sorted-rows : (es : List (ℕ × X)) → is_sorted nat_cmp (rows es) ≡ is_sorted nat_cmp es
  sorted-rows [] = refl
  sorted-rows (e ∷ es) = λ i. below-rows e.0 es i && sorted-rows es i

  find-rows : (q : ℕ) (es : List (ℕ × X)) → find nat_cmp q (rows es) ≡ option_map (g q) (find nat_cmp q es)
  find-rows q [] = refl
  find-rows q (e ∷ es) =
      elim (cases_eq q e.0) [
        | inl same ↦
            ap (λ b. cond b (Some (g e.0 e.1)) (find nat_cmp q (rows es))) (tied q e.0 same)
            ∙ ap (λ k. Some (g k e.1)) (sym same)
            ∙ sym (ap (λ b. option_map (g q) (cond b (Some e.1) (find nat_cmp q es))) (tied q e.0 same))
        | inr differs ↦
            ap (λ b. cond b (Some (g e.0 e.1)) (find nat_cmp q (rows es))) (apart q e.0 differs)
            ∙ find-rows q es
            ∙ sym (ap (λ b. option_map (g q) (cond b (Some e.1) (find nat_cmp q es))) (apart q e.0 differs))
      ]

  module _ (m : fin.FinMap nat_cmp X) where
    pub entries-mapped : fin.entries (mapped g m) ≡ map (λ e. (e.0, g e.0 e.1)) (fin.entries m)
    unfolding mapped
    entries-mapped = fin.entries-from_sorted nat_cmp (rows (fin.entries m)) (subst T (sym (sorted-rows (fin.entries m))) (fin.entries_sorted m))

    pub get-mapped : (q : ℕ) → fin.get (mapped g m) q ≡ option_map (g q) (fin.get m q)
    get-mapped q =
        fin.get-entries (mapped g m) q
        ∙ ap (find nat_cmp q) entries-mapped
        ∙ find-rows q (fin.entries m)
        ∙ ap (option_map (g q)) (sym (fin.get-entries m q))

  sum-rows : (f : Y → ℕ) (h : X → ℕ) → ((s : ℕ) (x : X) → f (g s x) ≡ h x) → (es : List (ℕ × X)) → sum_by (λ e. f e.1) (rows es) ≡ sum_by (λ e. h e.1) es
  sum-rows f h same [] = refl
  sum-rows f h same (e ∷ es) =
      sum_by-cons (λ e. f e.1) (e.0, g e.0 e.1) (rows es)
      ∙ (λ i. same e.0 e.1 i + sum-rows f h same es i)
      ∙ sym (sum_by-cons (λ e. h e.1) e es)

  -- a sum that the change keeps
  pub total-mapped : (f : Y → ℕ) (h : X → ℕ) (m : fin.FinMap nat_cmp X) → ((s : ℕ) (x : X) → f (g s x) ≡ h x) → total f (mapped g m) ≡ total h m
  total-mapped f h m same = ap (λ es. sum_by (λ e. f e.1) es) (entries-mapped m) ∙ sum-rows f h same (fin.entries m)

module _ {X : Type 0} (f : X → X) (o : ℕ) (m : fin.FinMap nat_cmp X) where
  pub get-changed_same : (q : ℕ) → q ≡ o → fin.get (changed f o m) q ≡ option_map f (fin.get m q)
  get-changed_same q e =
      get-mapped (λ s x. if s == o then f x else x) m q
      ∙ ap (λ b. option_map (λ x. if b then f x else x) (fin.get m q)) (eq-eqb q o e)

  pub get-changed_other : (q : ℕ) → q ≢ o → fin.get (changed f o m) q ≡ fin.get m q
  get-changed_other q n =
      get-mapped (λ s x. if s == o then f x else x) m q
      ∙ ap (λ b. option_map (λ x. if b then f x else x) (fin.get m q)) (ne_eqb q o n)
      ∙ as_it_is (fin.get m q)
    where
      as_it_is : (y : Option X) → option_map (λ x. x) y ≡ y
      as_it_is None = refl
      as_it_is (Some x) = refl

  -- changing a present value is an insertion
  pub changed-insert : (x : X) → fin.get m o ≡ Some x → changed f o m ≡ fin.insert m o (f x)
  changed-insert x found =
      same_map _ _
      (λ q. elim (cases_eq q o) [
        | inl same ↦
            get-changed_same q same
            ∙ ap (λ k. option_map f (fin.get m k)) same
            ∙ ap (option_map f) found
            ∙ sym (get-insert_same m o q (f x) same)
        | inr differs ↦ get-changed_other q differs ∙ sym (get-insert_other m o q (f x) differs)
      ])

tail_sorted : {X : Type 0} (e : ℕ × X) (es : List (ℕ × X)) → T (is_sorted nat_cmp (e ∷ es)) → T (is_sorted nat_cmp es)
tail_sorted e es h = second _ _ h
  where
    second : (a b : Bool) → T (a && b) → T b
    second true b p = p
    second false b p = absurd p

module _ {X : Type 0} (f : X → ℕ) where
  none_of_length : (o : Option X) (n : ℕ) → suc n ≡ cond (is_some o) n (n + 1) → o ≡ None
  none_of_length None n e = refl
  none_of_length (Some x) n e = absurd (omega (arith, e))

  abbrev sum : List (ℕ × X) → ℕ
  sum es = sum_by (λ e. f e.1) es

  sum-cons : (e : ℕ × X) (es : List (ℕ × X)) → sum (e ∷ es) ≡ f e.1 + sum es
  sum-cons e es = sum_by-cons {X = ℕ × X} (λ e. f e.1) e es

  sum-put : (k : ℕ) (v : X) (es : List (ℕ × X)) → T (is_sorted nat_cmp es) → sum (put nat_cmp k v es) + part f (find nat_cmp k es) ≡ sum es + f v
  sum-put k v [] h = omega (arith, sum-cons (k, v) [])
  sum-put k v (e ∷ es) h =
      elim (nat_cmp k e.0) as (λ r. nat_cmp k e.0 ≡ r → sum (by_order r ((k, v) ∷ e ∷ es) ((e.0, v) ∷ es) (e ∷ put nat_cmp k v es)) + part f
      (cond (is_eq r) (Some e.1) (find nat_cmp k es)) ≡ sum (e ∷ es) + f v) [
        | Less ↦ λ p.
            let len : suc (suc (length es)) ≡ cond (is_some (find nat_cmp k es)) (suc (length es)) (suc (length es) + 1) =
            subst (λ r. length (by_order r ((k, v) ∷ e ∷ es) ((e.0, v) ∷ es) (e ∷ put nat_cmp k v es))
            ≡ cond (is_some (cond (is_eq r) (Some e.1) (find nat_cmp k es))) (suc (length es)) (suc (length es) + 1)) p (length-put nat_cmp nat_cmp_total k
            v (e ∷ es) h) in
            let none : find nat_cmp k es ≡ None = none_of_length _ _ len in
            ap (λ o. sum ((k, v) ∷ e ∷ es) + part f o) none ∙ omega (arith, sum-cons (k, v) (e ∷ es))
        | Equal ↦ λ p. omega (arith, sum-cons (e.0, v) es, sum-cons e es)
        | Greater ↦ λ p. omega (arith, sum-cons e (put nat_cmp k v es), sum-cons e es, sum-put k v es (tail_sorted e es h))
      ] refl

  -- inserting a value, which replaces the old one
  pub total-insert : (m : fin.FinMap nat_cmp X) (k : ℕ) (v : X) → total f (fin.insert m k v) + part f (fin.get m k) ≡ total f m + f v
  total-insert m k v =
      ap (λ es. sum es + part f (fin.get m k)) (fin.entries-insert nat_cmp_total m k v)
      ∙ ap (λ o. sum (put nat_cmp k v (fin.entries m)) + part f o) (fin.get-entries m k)
      ∙ sum-put k v (fin.entries m) (fin.entries_sorted m)

  pub total-changed : (g : X → X) (m : fin.FinMap nat_cmp X) (k : ℕ) (x : X) → fin.get m k ≡ Some x → total f (changed g k m) + f x ≡ total f m + f (g x)
  total-changed g m k x found =
      ap (λ n. total f n + f x) (changed-insert g k m x found)
      ∙ ap (λ y. total f (fin.insert m k (g x)) + part f y) (sym found)
      ∙ total-insert m k (g x)

  pub total-remove : (m : fin.FinMap nat_cmp X) (k : ℕ) → total f (fin.remove m k) + part f (fin.get m k) ≡ total f m
  total-remove m k =
      elim (fin.get m k) as (λ y. fin.get m k ≡ y → total f (fin.remove m k) + part f y ≡ total f m) [
        | None ↦ λ none. omega (
          arith,
          ap (total f) (same_map (fin.remove m k) m (λ q. elim (cases_eq q k) [
            | inl same ↦ get-remove_same m k q same ∙ sym none ∙ ap (fin.get m) (sym same)
            | inr differs ↦ get-remove_other m k q differs
          ])),
        )
        | Some x ↦ λ found.
            let back : fin.insert (fin.remove m k) k x ≡ m = same_map _ _ (λ q. elim (cases_eq q k) [
              | inl same ↦ get-insert_same (fin.remove m k) k q x same ∙ sym found ∙ ap (fin.get m) (sym same)
              | inr differs ↦ get-insert_other (fin.remove m k) k q x differs ∙ get-remove_other m k q differs
            ]) in
            let put_in = total-insert (fin.remove m k) k x in
            let was : total f (fin.insert (fin.remove m k) k x) ≡ total f m = ap (total f) back in
            let gone : part f (fin.get (fin.remove m k) k) ≡ 0 = ap (part f) (get-remove_same m k k refl) in
            omega (arith, put_in, was, gone)
      ] refl
