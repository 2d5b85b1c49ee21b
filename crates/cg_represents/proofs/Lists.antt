-- What stands in a list, how often, and what is found among the objects.
use Rattle.std.proofs.Common.{◌≡◌, refl, sym, ◌∙◌, ap, subst, ℕ, zero, suc, ◌+◌, ◌<◌, ◌≤◌, Bool, true, false, cond, inl, inr, ◌⊎◌, List, [], ◌∷◌, Some, None, take, drop, length, arith, map}
use Rattle.std.specs.Prelude.{◌==◌, remove, slice_get, slice_set, if◌then◌else◌}
use Rattle.std.proofs.lemmas.Bool.{eqb-true, eq-eqb}
use Rattle.std.proofs.lemmas.List.Sums.{sum_by-cons}
use Rattle.cg_graph.specs.declared.Edge.{Edge}
use Rattle.cg_graph.specs.Member.{Includes, includes}
use Rattle.cg_graph.specs.Value.{references}
use Rattle.cg_graph.specs.Object.{Object, object_at}
use Rattle.cg_graph.specs.Holdings.{occurrences, entry_holdings, graph_of}
use Rattle.cg_graph.specs.Reach.{Reach, first, next}
use Rattle.cg_graph.proofs.Members.{either, Includes-of, includes-of, Includes-append_left, Includes-append_right, Includes-append_cases, Includes-map_cases}

pub occurrences-cons : (o x : ℕ) (xs : List ℕ) → occurrences o (x ∷ xs) ≡ cond (x == o) 1 0 + occurrences o xs
occurrences-cons o x xs = sum_by-cons (λ r. cond (r == o) 1 0) x xs

-- an object that is held no time is not among the holdings, and the other way round
pub absent : (o : ℕ) (xs : List ℕ) → occurrences o xs ≡ 0 → ¬ Includes xs o
absent o [] none m = absurd m
absent o (x ∷ xs) none (inl e) =
    let one : ◌≡◌ {A = ℕ} (cond (x == o) 1 0) 1 = ap (λ b. cond b 1 0) (eq-eqb x o e) in
    absurd (omega (arith, occurrences-cons o x xs, one, none))
absent o (x ∷ xs) none (inr m) = absent o xs (omega (arith, occurrences-cons o x xs, none)) m

pub no_times : (o : ℕ) (xs : List ℕ) → ¬ Includes xs o → occurrences o xs ≡ 0
no_times o [] h = refl
no_times o (x ∷ xs) h = go (x == o) refl (no_times o xs (λ m. h (inr m)))
  where
    go : (b : Bool) → (x == o) ≡ b → occurrences o xs ≡ 0 → occurrences o (x ∷ xs) ≡ 0
    go true e rest = absurd (h (inl (eqb-true x o e)))
    go false e rest =
        let none : ◌≡◌ {A = ℕ} (cond (x == o) 1 0) 0 = ap (λ b. cond b 1 0) e in
        omega (arith, occurrences-cons o x xs, none, rest)

-- what stands in a list stands there once at least, and what members hold is held
pub present : (o : ℕ) (xs : List ℕ) → Includes xs o → 0 < occurrences o xs
present o xs m = go (occurrences o xs) refl
  where
    go : (n : ℕ) → occurrences o xs ≡ n → 0 < occurrences o xs
    go zero e = absurd (absent o xs e m)
    go (suc n) e = omega (arith, e)

pub Includes-of_count : (o : ℕ) (xs : List ℕ) → 0 < occurrences o xs → Includes xs o
Includes-of_count o xs more = go (includes xs o) refl
  where
    go : (b : Bool) → includes xs o ≡ b → Includes xs o
    go true e = Includes-of xs o e
    go false e = absurd (let none = no_times o xs (λ m. let no : true ≡ false = sym (includes-of xs o m) ∙ e in cc) in omega (arith, more, none))

-- a list whose members stand in another as often has no more of them
abbrev dropped : ℕ → List ℕ → List ℕ
dropped x [] = []
dropped x (y ∷ ys) = cond (y == x) ys (y ∷ dropped x ys)

dropped_length : (x : ℕ) (ys : List ℕ) → 0 < occurrences x ys → length ys ≡ suc (length (dropped x ys))
dropped_length x [] h = absurd (omega (arith, h))
dropped_length x (y ∷ ys) h = go (y == x) refl (λ l. dropped_length x ys l)
  where
    go : (b : Bool) → (y == x) ≡ b → (0 < occurrences x ys → length ys ≡ suc (length (dropped x ys))) → suc (length ys) ≡ suc (length (cond b ys (y ∷ dropped x ys)))
    go true e ih = refl
    go false e ih =
        let more : 0 < cond false 1 0 + occurrences x ys = subst (λ b. 0 < cond b 1 0 + occurrences x ys) e (subst (λ n. 0 < n) (occurrences-cons x y ys) h) in
        ap suc (ih (omega (arith, more)))

dropped_count : (x o : ℕ) (ys : List ℕ) → 0 < occurrences x ys → occurrences o ys ≡ cond (x == o) 1 0 + occurrences o (dropped x ys)
dropped_count x o [] h = absurd (omega (arith, h))
dropped_count x o (y ∷ ys) h = go (y == x) refl (λ l. dropped_count x o ys l)
  where
    go : (b : Bool) → (y == x) ≡ b → (0 < occurrences x ys → occurrences o ys ≡ cond (x == o) 1 0 + occurrences o (dropped x ys)) → occurrences o (y ∷ ys)
        ≡ cond (x == o) 1 0 + occurrences o (cond b ys (y ∷ dropped x ys))
    go true e ih = occurrences-cons o y ys ∙ ap (λ z. cond (z == o) 1 0 + occurrences o ys) (eqb-true y x e)
    go false e ih =
        let more : 0 < cond false 1 0 + occurrences x ys = subst (λ b. 0 < cond b 1 0 + occurrences x ys) e (subst (λ n. 0 < n) (occurrences-cons x y ys) h) in
        let rest = ih (omega (arith, more)) in
        omega (arith, occurrences-cons o y ys, occurrences-cons o y (dropped x ys), rest)

pub fewer_times : (xs ys : List ℕ) → ((o : ℕ) → occurrences o xs ≤ occurrences o ys) → length xs ≤ length ys
fewer_times [] ys h = omega arith
fewer_times (x ∷ xs) ys h =
    let here : occurrences x (x ∷ xs) ≡ 1 + occurrences x xs = occurrences-cons x x xs ∙ ap (λ b. cond b 1 0 + occurrences x xs) (eq-eqb x x refl) in
    let there : 0 < occurrences x ys = omega (arith, here, h x) in
    let rest = fewer_times xs (dropped x ys) (λ o. let a = h o in let b = occurrences-cons o x xs in let c = dropped_count x o ys there in omega (arith, a, b, c)) in
    omega (arith, dropped_length x ys there, rest)

pub no_longer : (xs ys : List ℕ) → ((o : ℕ) → occurrences o xs ≡ occurrences o ys) → length xs ≤ length ys
no_longer xs ys h = fewer_times xs ys (λ o. omega (arith, h o))

pub entry_held : (objects : List Object) (x : Object) (o : ℕ) → Includes objects x → Includes (references x.entries) o → Includes (entry_holdings (graph_of objects)) o
entry_held [] x o m h = absurd m
entry_held (y ∷ objects) x o (inl e) h = Includes-append_left (references y.entries) (entry_holdings (graph_of objects)) o (subst (λ (z : Object). Includes (references z.entries) o) (sym e) h)
entry_held (y ∷ objects) x o (inr m) h = Includes-append_right (references y.entries) (entry_holdings (graph_of objects)) o (entry_held objects x o m h)

pub found_at : (objects : List Object) (o : ℕ) (x : Object) → object_at objects o ≡ Some x → Includes objects x × (x.serial ≡ o)
found_at [] o x e = let no : None ≡ Some x = e in cc
found_at (y ∷ objects) o x e = go (y.serial == o) refl e (λ k. found_at objects o x k)
  where
    go : (b : Bool) → (y.serial == o) ≡ b → cond b (Some y) (object_at objects o) ≡ Some x → (object_at objects o ≡ Some x → Includes objects x
        × (x.serial ≡ o)) → Includes (y ∷ objects) x × (x.serial ≡ o)
    go true t k ih = let same : y ≡ x = cc in (inl same, ap (λ (z : Object). z.serial) (sym same) ∙ eqb-true y.serial o t)
    go false t k ih = (inr (ih k).0, (ih k).1)

pub slice_get_member : {X : Type 0} (xs : List X) (i : ℕ) (x : X) → slice_get xs i ≡ Some x → Includes xs x
slice_get_member [] i x e = let no : None ≡ Some x = e in cc
slice_get_member (y ∷ xs) zero x e = let same : y ≡ x = cc in inl same
slice_get_member (y ∷ xs) (suc i) x e = inr (slice_get_member xs i x e)

-- members of lists
pub taken_member : {X : Type 0} (n : ℕ) (xs : List X) (x : X) → Includes (take n xs) x → Includes xs x
taken_member (suc n) (y ∷ xs) x m = either m (λ e. inl e) (λ k. inr (taken_member n xs x k))
taken_member n xs x m = absurd m

dropped_member : {X : Type 0} (n : ℕ) (xs : List X) (x : X) → Includes (drop n xs) x → Includes xs x
dropped_member zero xs x m = m
dropped_member (suc n) [] x m = absurd m
dropped_member (suc n) (y ∷ xs) x m = inr (dropped_member n xs x m)

pub removed_member : {X : Type 0} (xs : List X) (i : ℕ) (x : X) → Includes (remove xs i) x → Includes xs x
removed_member xs i x m = either (Includes-append_cases (take i xs) (drop (suc i) xs) x m) (taken_member i xs x) (dropped_member (suc i) xs x)

pub set_member : {X : Type 0} (xs : List X) (i : ℕ) (y x : X) → Includes (slice_set xs i y) x → Includes xs x ⊎ (y ≡ x)
set_member [] i y x m = absurd m
set_member (z ∷ xs) zero y x m = either m (λ e. inr e) (λ k. inl (inr k))
set_member (z ∷ xs) (suc i) y x m = either m (λ e. inl (inl e)) (λ k. either (set_member xs i y x k) (λ a. inl (inr a)) (λ b. inr b))

pub Reach-inside : {Held Inside : ℕ → Type 0} {arrows : List Edge} {o : ℕ} → Reach Held Inside arrows o → Inside o
Reach-inside (first h i) = i
Reach-inside (next r e i) = i

-- what holds of the changed objects and of the others holds of each after the change
pub each_changed : (P : Object → Type 0) (f : Object → Object) (test : Object → Bool) (objects : List Object) → ((x : Object) → Includes objects x → test x ≡ true → P (f x))
    → ((x : Object) → Includes objects x → test x ≡ false → P x) → (y : Object) → Includes (map (λ x. if test x then f x else x) objects) y → P y
each_changed P f test objects changed others y m = let x = Includes-map_cases (λ x. if test x then f x else x) objects y m in subst P x.2 (by (test x.0) x.0 refl x.1)
  where
    by : (b : Bool) (x : Object) → test x ≡ b → Includes objects x → P (if b then f x else x)
    by true x t m = changed x m t
    by false x t m = others x m t
