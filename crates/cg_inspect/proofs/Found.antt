-- What was found: how many there are, and what a look-up among them tells.
use Rattle.std.proofs.Common.{◌≡◌, ◌≢◌, refl, sym, ◌∙◌, ap, subst, ℕ, suc, ◌+◌, ◌≤◌, ◌⊎◌, inl, inr, true, false, cond, List, [], ◌∷◌, length, Option, Some, None, arith}
use Rattle.std.specs.Prelude.{slice_get, sum_by, nat_eq, is_some, position}
use Rattle.std.specs.List.{position_from}
use Rattle.std.specs.Map.{lookup}
use Rattle.std.proofs.lemmas.Bool.{eq-eqb, ne_eqb, cases_eq}
use Rattle.std.proofs.lemmas.Iterator.Adapters.{position_from-zero}
use Rattle.std.proofs.lemmas.List.Sums.{sum_by-cons}
use Rattle.cg_graph.specs.Member.{Includes}
use Rattle.cg_search.specs.Walks.{Findings, objects_in, AreOnce}
use Rattle.cg_search.proofs.Trails.{length-objects_in}
use Rattle.cg_trial.proofs.Lists.{sum_by-some}

-- No more are found than there are objects.
pub few_found : (found : Findings) (objects : List ℕ) → AreOnce found → ((o : ℕ) → Includes (objects_in found) o → Includes objects o) → length found ≤ length objects
few_found found objects once within = omega (arith, sum_by-some (λ o. 1) (objects_in found) objects once within, ones (objects_in found), ones objects, length-objects_in found)
  where
    ones : (xs : List ℕ) → sum_by (λ o. 1) xs ≡ length xs
    ones [] = refl
    ones (x ∷ xs) = omega (arith, sum_by-cons {X = ℕ} (λ o. 1) x xs, ones xs)

-- A look-up finds an object that was found, and only such a one.
pub looked_up : (found : Findings) (object : ℕ) → is_some (lookup (nat_eq object) found) ≡ true → Includes (objects_in found) object
looked_up [] object h = absurd (cc)
looked_up (e ∷ found) object h = go (cases_eq object e.0) h (looked_up found object)
  where
    go : (object ≡ e.0) ⊎ (object ≢ e.0) → is_some (cond (nat_eq object e.0) (Some e.1) (lookup (nat_eq object) found)) ≡ true
        → (is_some (lookup (nat_eq object) found) ≡ true → Includes (objects_in found) object) → Includes (objects_in (e ∷ found)) object
    go (inl same) k rec = inl (sym same)
    go (inr differs) k rec = inr (rec (sym (ap (λ b. is_some (cond b (Some e.1) (lookup (nat_eq object) found))) (ne_eqb object e.0 differs)) ∙ k))

pub not_looked_up : (found : Findings) (object : ℕ) → is_some (lookup (nat_eq object) found) ≡ false → ¬ Includes (objects_in found) object
not_looked_up [] object h m = absurd m
not_looked_up (e ∷ found) object h m = go (cases_eq object e.0) h m (not_looked_up found object)
  where
    go : (object ≡ e.0) ⊎ (object ≢ e.0) → is_some (cond (nat_eq object e.0) (Some e.1) (lookup (nat_eq object) found)) ≡ false → (e.0 ≡ object) ⊎ Includes (objects_in found) object
        → (is_some (lookup (nat_eq object) found) ≡ false → ¬ Includes (objects_in found) object) → ⊥
    go (inl same) k l rec = let is : is_some (Some e.1) ≡ false = sym (ap (λ b. is_some (cond b (Some e.1) (lookup (nat_eq object) found))) (eq-eqb object e.0 same)) ∙ k in absurd (cc)
    go (inr differs) k (inl same) rec = differs (sym same)
    go (inr differs) k (inr l) rec = rec (sym (ap (λ b. is_some (cond b (Some e.1) (lookup (nat_eq object) found))) (ne_eqb object e.0 differs)) ∙ k) l

pub nothing : {X : Type 0} (x : Option X) → is_some x ≡ false → x ≡ None
nothing None h = refl
nothing (Some x) h = absurd (cc)

-- the place that a look-up tells
placed_from : (object k : ℕ) (xs : List ℕ) (j : ℕ) → position_from (nat_eq object) k xs ≡ Some j → (i : ℕ) × (j ≡ k + i) × (slice_get xs i ≡ Some object)
placed_from object k [] j h = absurd (cc)
placed_from object k (x ∷ xs) j h = go (cases_eq object x) h (placed_from object (k + 1) xs j)
  where
    go : (object ≡ x) ⊎ (object ≢ x) → cond (nat_eq object x) (Some k) (position_from (nat_eq object) (k + 1) xs) ≡ Some j
        → (position_from (nat_eq object) (k + 1) xs ≡ Some j → (i : ℕ) × (j ≡ (k + 1) + i) × (slice_get xs i ≡ Some object))
        → (i : ℕ) × (j ≡ k + i) × (slice_get (x ∷ xs) i ≡ Some object)
    go (inl same) s rec = let e : Some k ≡ Some j = sym (ap (λ b. cond b (Some k) (position_from (nat_eq object) (k + 1) xs)) (eq-eqb object x same)) ∙ s
        in let is : k ≡ j = cc in (0, omega (arith, is), ap Some (sym same))
    go (inr differs) s rec = let r = rec (sym (ap (λ b. cond b (Some k) (position_from (nat_eq object) (k + 1) xs)) (ne_eqb object x differs)) ∙ s) in (suc r.0, omega (arith, r.1), r.2)

pub placed : (object : ℕ) (xs : List ℕ) (j : ℕ) → position (nat_eq object) xs ≡ Some j → slice_get xs j ≡ Some object
placed object xs j h =
    let r = placed_from object 0 xs j (sym (position_from-zero (nat_eq object) xs) ∙ h) in
    let same : r.0 ≡ j = omega (arith, r.1) in
    subst (λ i. slice_get xs i ≡ Some object) same r.2
