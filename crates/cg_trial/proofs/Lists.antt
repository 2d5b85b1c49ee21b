-- Lemmas on elements of a list, how often they occur, and the list without one (`without_serial`).
use Rattle.std.proofs.Common.{◌≡◌, ◌≢◌, refl, sym, ◌∙◌, ap, subst, replicate, ℕ, zero, suc, ◌+◌, ◌*◌, ◌≤◌, true, false, cond, not, ◌⊎◌, inl, inr, List, [], ◌∷◌, ◌++◌, length, Option, Some, arith, mul-le-mul_right}
use Rattle.std.proofs.lemmas.Bool.{eqb-true, eq-eqb, ne_eqb}
use Rattle.std.proofs.lemmas.Bool.Decides.{nat_tests}
use Rattle.std.proofs.lemmas.List.Sums.{sum_by-cons, length-filter, count_by-le-length}
use Rattle.std.proofs.lemmas.List.Elements.{filter-append}
use Rattle.std.proofs.lemmas.List.Folds.{sum_by-replicate}
use Rattle.std.specs.Prelude.{◌==◌, sum_by, nat_eq}
use Rattle.cg_graph.proofs.Members.{either, cases_of}
use Rattle.cg_graph.proofs.Objects.{occurrences-append}
use Rattle.cg_graph.specs.Member.{Includes}
use Rattle.cg_graph.specs.Holdings.{occurrences}
use Rattle.cg_graph.specs.Places.{without_serial}
use Rattle.cg_trial.specs.View.{head_of}

pub occurrences-cons : (o x : ℕ) (xs : List ℕ) → occurrences o (x ∷ xs) ≡ cond (x == o) 1 0 + occurrences o xs
occurrences-cons o x xs = sum_by-cons (λ y. cond (y == o) 1 0) x xs

pub occurs : (xs : List ℕ) (o : ℕ) → Includes xs o → 1 ≤ occurrences o xs
occurs [] o h = absurd h
occurs (x ∷ xs) o (inl e) = grind (arith, nat_tests, occurrences-cons o x xs, e)
occurs (x ∷ xs) o (inr h) = grind (arith, nat_tests, occurrences-cons o x xs, occurs xs o h)

pub occurs_in : (xs : List ℕ) (o : ℕ) → 1 ≤ occurrences o xs → Includes xs o
occurs_in [] o h = absurd (omega arith)
occurs_in (x ∷ xs) o h = go (cases_of (x == o)) (λ k. occurs_in xs o k)
  where
    go : (x == o ≡ true) ⊎ (x == o ≡ false) → (1 ≤ occurrences o xs → Includes xs o) → Includes (x ∷ xs) o
    go (inl e) rec = inl (eqb-true x o e)
    go (inr e) rec = let none : occurrences o (x ∷ xs) ≡ 0 + occurrences o xs = occurrences-cons o x xs ∙ ap (λ b. cond b 1 0 + occurrences o xs) e in inr (rec (omega arith))

-- a list that repeats one object
pub occurs_often : (n o : ℕ) → occurrences o (replicate n o) ≡ n
occurs_often n o = sum_by-replicate (λ y. cond (y == o) 1 0) n o ∙ ap (λ b. n * cond b 1 0) (eq-eqb o o refl) ∙ omega arith

pub always_that : (n o q : ℕ) → Includes (replicate n o) q → o ≡ q
always_that zero o q h = absurd h
always_that (suc n) o q (inl e) = e
always_that (suc n) o q (inr h) = always_that n o q h

pub without-cons_yes : (o x : ℕ) (xs : List ℕ) → x == o ≡ true → without_serial o (x ∷ xs) ≡ without_serial o xs
without-cons_yes o x xs e = ap (λ b. cond (not b) (x ∷ without_serial o xs) (without_serial o xs)) (eq-eqb o x (sym (eqb-true x o e)))

pub without-cons_no : (o x : ℕ) (xs : List ℕ) → x == o ≡ false → without_serial o (x ∷ xs) ≡ x ∷ without_serial o xs
without-cons_no o x xs e = ap (λ b. cond (not b) (x ∷ without_serial o xs) (without_serial o xs))
    (ne_eqb o x (λ same. let t : x == o ≡ true = eq-eqb x o (sym same) in let f : true ≡ false = sym t ∙ e in cc))

pub sum_by-without : (f : ℕ → ℕ) (o : ℕ) (xs : List ℕ) → sum_by f (without_serial o xs) + occurrences o xs * f o ≡ sum_by f xs
sum_by-without f o [] = omega arith
sum_by-without f o (x ∷ xs) = go (cases_of (x == o)) (sum_by-without f o xs)
  where
    go : (x == o ≡ true) ⊎ (x == o ≡ false) → sum_by f (without_serial o xs) + occurrences o xs * f o ≡ sum_by f xs → sum_by f (without_serial o (x ∷ xs)) +
        occurrences o (x ∷ xs) * f o ≡ sum_by f (x ∷ xs)
    go (inl e) rec =
        let same : f x ≡ f o = ap f (eqb-true x o e) in
        let one : occurrences o (x ∷ xs) ≡ 1 + occurrences o xs = occurrences-cons o x xs ∙ ap (λ b. cond b 1 0 + occurrences o xs) e in
        rw (without-cons_yes o x xs e, sum_by-cons f x xs, one) (omega arith)
    go (inr e) rec =
        let none : occurrences o (x ∷ xs) ≡ 0 + occurrences o xs = occurrences-cons o x xs ∙ ap (λ b. cond b 1 0 + occurrences o xs) e in
        rw (without-cons_no o x xs e, sum_by-cons f x (without_serial o xs), sum_by-cons f x xs, none) (omega arith)

pub without-absent : (o : ℕ) (xs : List ℕ) → occurrences o xs ≡ 0 → without_serial o xs ≡ xs
without-absent o [] h = refl
without-absent o (x ∷ xs) h = go (cases_of (x == o)) (without-absent o xs)
  where
    go : (x == o ≡ true) ⊎ (x == o ≡ false) → (occurrences o xs ≡ 0 → without_serial o xs ≡ xs) → without_serial o (x ∷ xs) ≡ x ∷ xs
    go (inl e) rec = absurd (let one : occurrences o (x ∷ xs) ≡ 1 + occurrences o xs = occurrences-cons o x xs ∙ ap (λ b. cond b 1 0 + occurrences o xs) e in omega arith)
    go (inr e) rec =
        let none : occurrences o (x ∷ xs) ≡ 0 + occurrences o xs = occurrences-cons o x xs ∙ ap (λ b. cond b 1 0 + occurrences o xs) e in
        without-cons_no o x xs e ∙ ap (λ ys. x ∷ ys) (rec (omega arith))

pub Includes-without : (o : ℕ) (xs : List ℕ) (q : ℕ) → Includes (without_serial o xs) q → Includes xs q × (q ≢ o)
Includes-without o [] q h = absurd h
Includes-without o (x ∷ xs) q h = go (cases_of (x == o)) (λ k. Includes-without o xs q k)
  where
    there : Includes xs q × (q ≢ o) → Includes (x ∷ xs) q × (q ≢ o)
    there found = (inr found.0, found.1)

    here : x == o ≡ false → (Includes (without_serial o xs) q → Includes xs q × (q ≢ o)) → Includes (x ∷ without_serial o xs) q → Includes (x ∷ xs) q × (q ≢ o)
    here e rec (inl i) = (inl i, λ same. let t : x == o ≡ true = eq-eqb x o (i ∙ same) in let f : true ≡ false = sym t ∙ e in cc)
    here e rec (inr k) = there (rec k)

    go : (x == o ≡ true) ⊎ (x == o ≡ false) → (Includes (without_serial o xs) q → Includes xs q × (q ≢ o)) → Includes (x ∷ xs) q × (q ≢ o)
    go (inl e) rec = there (rec (subst (λ (ys : List ℕ). Includes ys q) (without-cons_yes o x xs e) h))
    go (inr e) rec = here e rec (subst (λ (ys : List ℕ). Includes ys q) (without-cons_no o x xs e) h)

-- The list from a cursor on.
abbrev pub ahead : Option ℕ → List ℕ → List ℕ
ahead (Some o) (x ∷ xs) = cond (x == o) (x ∷ xs) (ahead (Some o) xs)
ahead m xs = []

-- A cursor is at the head of the second part.
pub record IsAt (xs : List ℕ) (cursor : Option ℕ) (front back : List ℕ) : Type 0 where
  pub parts : xs ≡ front ++ back
  pub at : cursor ≡ head_of back

pub head_is : (back : List ℕ) (o : ℕ) → Some o ≡ head_of back → (rest : List ℕ) × (back ≡ o ∷ rest)
head_is [] o h = absurd (cc)
head_is (x ∷ rest) o h = let e : o ≡ x = cc in (rest, ap (λ y. y ∷ rest) (sym e))

ahead_past : (front back : List ℕ) (o : ℕ) → occurrences o front ≡ 0 → ahead (Some o) (front ++ o ∷ back) ≡ o ∷ back
ahead_past [] back o h = ap (λ b. cond b (o ∷ back) (ahead (Some o) back)) (eq-eqb o o refl)
ahead_past (x ∷ front) back o h = go (cases_of (x == o)) (ahead_past front back o)
  where
    go : (x == o ≡ true) ⊎ (x == o ≡ false) → (occurrences o front ≡ 0 → ahead (Some o) (front ++ o ∷ back) ≡ o ∷ back) → ahead (Some o) (x ∷ (front ++ o ∷ back)) ≡ o ∷ back
    go (inl e) rec = absurd (let one : occurrences o (x ∷ front) ≡ 1 + occurrences o front = occurrences-cons o x front ∙ ap (λ b. cond b 1 0 + occurrences o front) e in omega arith)
    go (inr e) rec =
        let none : occurrences o (x ∷ front) ≡ 0 + occurrences o front = occurrences-cons o x front ∙ ap (λ b. cond b 1 0 + occurrences o front) e in
        ap (λ b. cond b (x ∷ (front ++ o ∷ back)) (ahead (Some o) (front ++ o ∷ back))) e ∙ rec (omega arith)

-- without duplicates, an element is not in the part before it
pub once_before : (xs front back : List ℕ) (o : ℕ) → occurrences o xs ≤ 1 → xs ≡ front ++ o ∷ back → (occurrences o front ≡ 0) × (occurrences o back ≡ 0)
once_before xs front back o once parts =
    let e : occurrences o xs ≡ occurrences o front + occurrences o (o ∷ back) = ap (occurrences o) parts ∙ occurrences-append o front (o ∷ back) in
    let f : occurrences o (o ∷ back) ≡ 1 + occurrences o back = occurrences-cons o o back ∙ ap (λ b. cond b 1 0 + occurrences o back) (eq-eqb o o refl) in
    (omega arith, omega arith)

pub ahead_is : (xs : List ℕ) (cursor : Option ℕ) (front back : List ℕ) → ((o : ℕ) → occurrences o xs ≤ 1) → IsAt xs cursor front back → ahead cursor xs ≡ back
ahead_is xs cursor front [] once at = ap (λ (c : Option ℕ). ahead c xs) at.at
ahead_is xs cursor front (o ∷ back) once at =
    ap (λ (c : Option ℕ). ahead c xs) at.at
    ∙ ap (ahead (Some o)) at.parts
    ∙ ahead_past front back o (once_before xs front back o (once o) at.parts).0

pub none_or_some : (n : ℕ) → (n ≡ 0) ⊎ (1 ≤ n)
none_or_some zero = inl refl
none_or_some (suc n) = inr (omega arith)

pub absent : (xs : List ℕ) (o : ℕ) → ¬ Includes xs o → occurrences o xs ≡ 0
absent xs o h = either (none_or_some (occurrences o xs)) (λ e. e) (λ k. absurd (h (occurs_in xs o k)))

-- sums of parts, term by term
pub sum_by-parts : (f g h : ℕ → ℕ) → ((x : ℕ) → f x + g x ≡ h x) → (xs : List ℕ) → sum_by f xs + sum_by g xs ≡ sum_by h xs
sum_by-parts f g h e [] = omega arith
sum_by-parts f g h e (x ∷ xs) = rw (sum_by-cons f x xs, sum_by-cons g x xs, sum_by-cons h x xs) (omega (arith, e x, sum_by-parts f g h e xs))

pub length-without : (o : ℕ) (xs : List ℕ) → length (without_serial o xs) ≤ length xs
length-without o xs = omega (arith, length-filter (λ r. not (nat_eq o r)) xs, count_by-le-length (λ r. not (nat_eq o r)) xs)

pub without-append : (o : ℕ) (xs ys : List ℕ) → without_serial o (xs ++ ys) ≡ without_serial o xs ++ without_serial o ys
without-append o xs ys = filter-append (λ r. not (nat_eq o r)) xs ys

pub Includes-without_in : (o : ℕ) (xs : List ℕ) (q : ℕ) → Includes xs q → q ≢ o → Includes (without_serial o xs) q
Includes-without_in o [] q h k = absurd h
Includes-without_in o (x ∷ xs) q h k = go (cases_of (x == o)) h (λ i. Includes-without_in o xs q i k)
  where
    go : (x == o ≡ true) ⊎ (x == o ≡ false) → (x ≡ q) ⊎ Includes xs q → (Includes xs q → Includes (without_serial o xs) q) → Includes (without_serial o (x ∷ xs)) q
    go (inl e) (inl i) rec = absurd (k (sym i ∙ eqb-true x o e))
    go (inl e) (inr i) rec = subst (λ (ys : List ℕ). Includes ys q) (sym (without-cons_yes o x xs e)) (rec i)
    go (inr e) (inl i) rec = subst (λ (ys : List ℕ). Includes ys q) (sym (without-cons_no o x xs e)) (inl i)
    go (inr e) (inr i) rec = subst (λ (ys : List ℕ). Includes ys q) (sym (without-cons_no o x xs e)) (inr (rec i))

-- a sum over some elements is at most the sum over all
pub sum_by-some : (f : ℕ → ℕ) (some all : List ℕ) → ((o : ℕ) → occurrences o some ≤ 1) → ((o : ℕ) → Includes some o → Includes all o) → sum_by f some ≤ sum_by f all
sum_by-some f [] all once within = omega arith
sum_by-some f (m ∷ some) all once within =
    let one : occurrences m (m ∷ some) ≡ 1 + occurrences m some = occurrences-cons m m some ∙ ap (λ b. cond b 1 0 + occurrences m some) (eq-eqb m m refl) in
    let rest = sum_by-some f some (without_serial m all)
    (λ o. omega (arith, once o, occurrences-cons o m some))
    (λ o h. Includes-without_in m all o (within o (inr h)) (λ e. let k = occurs some o h in let l = once m in let same : occurrences o some
    ≡ occurrences m some = ap (λ q. occurrences q some) e in absurd (omega arith))) in
    let parts = sum_by-without f m all in
    let here = occurs all m (within m (inl refl)) in
    rw (sum_by-cons f m some) (at_least (occurrences m all) (f m) (sum_by f some) (sum_by f (without_serial m all)) (sum_by f all) here rest parts)
  where
    at_least : (n x s r a : ℕ) → 1 ≤ n → s ≤ r → r + n * x ≡ a → x + s ≤ a
    at_least n x s r a h k e = let more : 1 * x ≤ n * x = mul-le-mul_right x h in omega arith
