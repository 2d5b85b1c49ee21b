-- How often a number occurs in a list, and where.
use Rattle.std.proofs.Common.{◌≡◌, ◌≢◌, ◌⊎◌, ℕ, ◌+◌, ◌<◌, Bool, true, false, not, List, [], ◌∷◌, ◌++◌, Option, Some, None, cond, refl, sym, ap, ◌∙◌, inl, inr, arith}
use Rattle.std.specs.Prelude.{◌==◌, nat_eq, if◌then◌else◌}
use Rattle.std.proofs.lemmas.Bool.{cases_eq, eq-eqb, ne_eqb}
use Rattle.std.proofs.lemmas.List.Sums.{sum_by-append, sum_by-cons}
use Rattle.cg_graph.specs.Holdings.{occurrences}
use Rattle.cg_graph.specs.Places.{without_serial}
use Rattle.cg_arena.specs.Links.{first_or, last_or}

-- 1 if the two are equal, else 0
abbrev pub one : ℕ → ℕ → ℕ
one j k = if k == j then 1 else 0

pub one-same : (j k : ℕ) → k ≡ j → one j k ≡ 1
one-same j k same = ap (λ b. if b then 1 else 0) (eq-eqb k j same)

pub one-apart : (j k : ℕ) → k ≢ j → one j k ≡ 0
one-apart j k differs = ap (λ b. if b then 1 else 0) (ne_eqb k j differs)

pub occurrences-cons : (j k : ℕ) (ks : List ℕ) → occurrences j (k ∷ ks) ≡ one j k + occurrences j ks
occurrences-cons j k ks = sum_by-cons {X = ℕ} (λ r. cond (r == j) 1 0) k ks

pub occurrences-append : (j : ℕ) (ks ls : List ℕ) → occurrences j (ks ++ ls) ≡ occurrences j ks + occurrences j ls
occurrences-append j ks ls = sum_by-append {X = ℕ} (λ r. cond (r == j) 1 0) ks ls

pub occurrences-single : (j k : ℕ) → occurrences j (k ∷ []) ≡ one j k
occurrences-single j k = occurrences-cons j k [] ∙ omega arith

-- an element splits the list into the parts before and after it
pub record IsBetween (k : ℕ) (ks : List ℕ) : Type 0 where
  pub front : List ℕ
  pub back : List ℕ
  pub is : ks ≡ front ++ k ∷ back

pub stands_between : (k : ℕ) (ks : List ℕ) → 0 < occurrences k ks → IsBetween k ks
stands_between k [] some = absurd (omega (arith, some))
stands_between k (x ∷ ks) some = go (cases_eq x k) (stands_between k ks)
  where
    go : (x ≡ k) ⊎ (x ≢ k) → (0 < occurrences k ks → IsBetween k ks) → IsBetween k (x ∷ ks)
    go (inl same) later = record { front = []; back = ks; is = ap (λ y. y ∷ ks) same }
    go (inr differs) later =
        let found = later (omega (arith, occurrences-cons k x ks, one-apart k x differs)) in
        record { front = x ∷ found.front; back = found.back; is = ap (λ ys. x ∷ ys) found.is }

-- the last of a list occurs in it
pub last-stands : (before : Option ℕ) (k : ℕ) (ks : List ℕ) (j : ℕ) → last_or before (k ∷ ks) ≡ Some j → 0 < occurrences j (k ∷ ks)
last-stands before k [] j is =
    let same : k ≡ j = cc in
    omega (arith, occurrences-single j k, one-same j k same)
last-stands before k (l ∷ ks) j is = omega (arith, last-stands (Some k) l ks j is, occurrences-cons j k (l ∷ ks))

pub last_of-stands : (ks : List ℕ) (j : ℕ) → last_or None ks ≡ Some j → 0 < occurrences j ks
last_of-stands [] j is = absurd (cc)
last_of-stands (k ∷ ks) j is = last-stands None k ks j is

-- so does the first
pub first-stands : (ks : List ℕ) (j : ℕ) → first_or ks None ≡ Some j → 0 < occurrences j ks
first-stands [] j is = absurd (cc)
first-stands (k ∷ ks) j is =
    let same : k ≡ j = cc in
    omega (arith, occurrences-cons j k ks, one-same j k same)

pub first_or-append : (ks ls : List ℕ) (after : Option ℕ) → first_or (ks ++ ls) after ≡ first_or ks (first_or ls after)
first_or-append [] ls after = refl
first_or-append (k ∷ ks) ls after = refl

pub last_or-append : (before : Option ℕ) (ks ls : List ℕ) → last_or before (ks ++ ls) ≡ last_or (last_or before ks) ls
last_or-append before [] ls = refl
last_or-append before (k ∷ ks) ls = last_or-append (Some k) ks ls

-- removing an absent number changes nothing
pub without-absent : (k : ℕ) (ks : List ℕ) → occurrences k ks ≡ 0 → without_serial k ks ≡ ks
without-absent k [] none = refl
without-absent k (x ∷ ks) none =
    let differs : x ≢ k = λ same. absurd (omega (arith, none, occurrences-cons k x ks, one-same k x same)) in
    let rest : occurrences k ks ≡ 0 = omega (arith, none, occurrences-cons k x ks) in
    ap (λ b. cond (not b) (x ∷ without_serial k ks) (without_serial k ks)) (ne_eqb k x (λ e. differs (sym e)))
    ∙ ap (λ ys. x ∷ ys) (without-absent k ks rest)

pub without-append : (k : ℕ) (ks ls : List ℕ) → without_serial k (ks ++ ls) ≡ without_serial k ks ++ without_serial k ls
without-append k [] ls = refl
without-append k (x ∷ ks) ls = go (nat_eq k x) (without-append k ks ls)
  where
    go : (b : Bool) → without_serial k (ks ++ ls) ≡ without_serial k ks ++ without_serial k ls
        → cond (not b) (x ∷ without_serial k (ks ++ ls)) (without_serial k (ks ++ ls)) ≡ cond (not b) (x ∷ without_serial k ks) (without_serial k ks) ++ without_serial k ls
    go true rest = rest
    go false rest = ap (λ ys. x ∷ ys) rest

pub without-between : (k : ℕ) (front back : List ℕ) → occurrences k front ≡ 0 → occurrences k back ≡ 0 → without_serial k (front ++ k ∷ back) ≡ front ++ back
without-between k front back none_before none_after =
    without-append k front (k ∷ back)
    ∙ ap (λ b. without_serial k front ++ cond (not b) (k ∷ without_serial k back) (without_serial k back)) (eq-eqb k k refl)
    ∙ (λ i. without-absent k front none_before i ++ without-absent k back none_after i)

pub occurrences-without_same : (k : ℕ) (ks : List ℕ) → occurrences k (without_serial k ks) ≡ 0
occurrences-without_same k [] = refl
occurrences-without_same k (x ∷ ks) = go (cases_eq k x) (occurrences-without_same k ks)
  where
    go : (k ≡ x) ⊎ (k ≢ x) → occurrences k (without_serial k ks) ≡ 0 → occurrences k (without_serial k (x ∷ ks)) ≡ 0
    go (inl same) rest = ap (λ b. occurrences k (cond (not b) (x ∷ without_serial k ks) (without_serial k ks))) (eq-eqb k x same) ∙ rest
    go (inr differs) rest =
        ap (λ b. occurrences k (cond (not b) (x ∷ without_serial k ks) (without_serial k ks))) (ne_eqb k x differs)
        ∙ omega (arith, rest, occurrences-cons k x (without_serial k ks), one-apart k x (λ e. differs (sym e)))

pub occurrences-without_other : (j k : ℕ) (ks : List ℕ) → j ≢ k → occurrences j (without_serial k ks) ≡ occurrences j ks
occurrences-without_other j k [] apart = refl
occurrences-without_other j k (x ∷ ks) apart = go (cases_eq k x) (occurrences-without_other j k ks apart)
  where
    go : (k ≡ x) ⊎ (k ≢ x) → occurrences j (without_serial k ks) ≡ occurrences j ks → occurrences j (without_serial k (x ∷ ks)) ≡ occurrences j (x ∷ ks)
    go (inl same) rest =
        ap (λ b. occurrences j (cond (not b) (x ∷ without_serial k ks) (without_serial k ks))) (eq-eqb k x same)
        ∙ rest
        ∙ omega (arith, occurrences-cons j x ks, one-apart j x (λ e. apart (sym e ∙ sym same)))
    go (inr differs) rest =
        ap (λ b. occurrences j (cond (not b) (x ∷ without_serial k ks) (without_serial k ks))) (ne_eqb k x differs)
        ∙ omega (arith, rest, occurrences-cons j x (without_serial k ks), occurrences-cons j x ks)
