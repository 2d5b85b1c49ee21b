-- Elements of lists by position, and how often they occur.
use Rattle.std.proofs.Common.{◌≡◌, refl, sym, ◌∙◌, ap, subst, ℕ, zero, suc, ◌+◌, ◌<◌, ◌≤◌, true, false, cond, ◌⊎◌, inl, inr, List, [], ◌∷◌, ◌++◌, length, take, Some, arith, get_or, set, replicate}
use Rattle.std.specs.Prelude.{◌==◌, slice_get}
use Rattle.std.proofs.lemmas.Bool.{cases_eq, eq-eqb, ne_eqb}
use Rattle.std.proofs.lemmas.List.{take_more, get_or-set_same, length-set}
use Rattle.std.proofs.lemmas.List.Sums.{sum_by-cons}
use Rattle.std.proofs.lemmas.Option.{same_Some, slice_get-get_or}
use Rattle.cg_graph.specs.Member.{Includes}
use Rattle.cg_graph.specs.Holdings.{occurrences}
use Rattle.cg_graph.proofs.Members.{either, Includes-append_left, Includes-append_right, Includes-append_cases}

-- a list with one element appended
module _ {X : Type 0} where
  pub snoc_cases : (xs : List X) (x : X) (i : ℕ) (y : X) → slice_get (xs ++ x ∷ []) i ≡ Some y → (slice_get xs i ≡ Some y) ⊎ ((i ≡ length xs) × (x ≡ y))
  snoc_cases [] x zero y e = inr (refl, same_Some x y e)
  snoc_cases [] x (suc i) y e = absurd (cc)
  snoc_cases (z ∷ xs) x zero y e = inl e
  snoc_cases (z ∷ xs) x (suc i) y e = either (snoc_cases xs x i y e) (λ a. inl a) (λ b. inr (ap suc b.0, b.1))

  pub snoc_old : (xs : List X) (x : X) (i : ℕ) (y : X) → slice_get xs i ≡ Some y → slice_get (xs ++ x ∷ []) i ≡ Some y
  snoc_old [] x i y e = absurd (cc)
  snoc_old (z ∷ xs) x zero y e = e
  snoc_old (z ∷ xs) x (suc i) y e = snoc_old xs x i y e

  pub snoc_new : (xs : List X) (x : X) → slice_get (xs ++ x ∷ []) (length xs) ≡ Some x
  snoc_new [] x = refl
  snoc_new (z ∷ xs) x = snoc_new xs x

  -- the element at a position is in the list
  pub includes_at : (xs : List X) (i : ℕ) (x : X) → slice_get xs i ≡ Some x → Includes xs x
  includes_at [] i x e = absurd (cc)
  includes_at (y ∷ xs) zero x e = inl (same_Some y x e)
  includes_at (y ∷ xs) (suc i) x e = inr (includes_at xs i x e)

  -- each element of the list has a position
  pub place_in : (xs : List X) (x : X) → Includes xs x → (i : ℕ) × (slice_get xs i ≡ Some x)
  place_in [] x h = absurd h
  place_in (y ∷ xs) x (inl e) = (0, ap Some e)
  place_in (y ∷ xs) x (inr h) = let found = place_in xs x h in (suc found.0, found.1)

  -- the next element
  pub includes_next : (xs : List X) (k : ℕ) (d : X) → k < length xs → Includes xs (get_or xs k d)
  includes_next xs k d within = includes_at xs k (get_or xs k d) (slice_get-get_or xs k d within)

  -- a list with one element replaced
  pub slice_get-set_same : (xs : List X) (i : ℕ) (y : X) → i < length xs → slice_get (set xs i y) i ≡ Some y
  slice_get-set_same xs i y within = slice_get-get_or (set xs i y) i y (omega (arith, within, length-set xs i y)) ∙ ap Some (get_or-set_same xs i y y within)

  pub slice_get-set_other : (xs : List X) (i j : ℕ) (y : X) → ¬ (j ≡ i) → slice_get (set xs i y) j ≡ slice_get xs j
  slice_get-set_other (x ∷ xs) zero zero y n = absurd (n refl)
  slice_get-set_other (x ∷ xs) (suc i) (suc j) y n = slice_get-set_other xs i j y (λ e. n (ap suc e))
  slice_get-set_other xs i j y n = refl

  -- the first elements, and the next
  pub includes_more : (xs : List X) (k : ℕ) (d x : X) → k < length xs → Includes (take (k + 1) xs) x → Includes (take k xs) x ⊎ (get_or xs k d ≡ x)
  includes_more xs k d x within h =
      either (Includes-append_cases (take k xs) (get_or xs k d ∷ []) x (subst (λ (ys : List X). Includes ys x) (take_more xs k d within) h)) (λ a. inl a) (λ b. either b (λ e. inr e) (λ f. absurd f))

  pub includes_first : (xs : List X) (k : ℕ) (d x : X) → k < length xs → Includes (take k xs) x → Includes (take (k + 1) xs) x
  includes_first xs k d x within h = subst (λ (ys : List X). Includes ys x) (sym (take_more xs k d within)) (Includes-append_left (take k xs) (get_or xs k d ∷ []) x h)

  pub includes_last : (xs : List X) (k : ℕ) (d : X) → k < length xs → Includes (take (k + 1) xs) (get_or xs k d)
  includes_last xs k d within = subst (λ (ys : List X). Includes ys (get_or xs k d)) (sym (take_more xs k d within)) (Includes-append_right (take k xs) (get_or xs k d ∷ []) (get_or xs k d) (inl refl))

pub unmarked : (n i : ℕ) → slice_get (replicate n false) i ≡ Some true → ⊥
unmarked (suc n) (suc i) e = unmarked n i e
unmarked n i e = absurd (cc)

pub occurrences-cons : (o x : ℕ) (xs : List ℕ) → occurrences o (x ∷ xs) ≡ cond (x == o) 1 0 + occurrences o xs
occurrences-cons o x xs = sum_by-cons (λ r. cond (r == o) 1 0) x xs

pub occurrences-same : (o x : ℕ) (xs : List ℕ) → x ≡ o → occurrences o (x ∷ xs) ≡ suc (occurrences o xs)
occurrences-same o x xs e = occurrences-cons o x xs ∙ ap (λ b. (cond {A = ℕ} b 1 0) + occurrences o xs) (eq-eqb x o e) ∙ omega arith

pub occurrences-other : (o x : ℕ) (xs : List ℕ) → ¬ (x ≡ o) → occurrences o (x ∷ xs) ≡ occurrences o xs
occurrences-other o x xs n = occurrences-cons o x xs ∙ ap (λ b. (cond {A = ℕ} b 1 0) + occurrences o xs) (ne_eqb x o n) ∙ omega arith

-- removing the head removes one occurrence, or none
pub fewer_in_tail : (o x : ℕ) (xs : List ℕ) → occurrences o xs ≤ occurrences o (x ∷ xs)
fewer_in_tail o x xs = either (cases_eq x o) (λ e. omega (arith, occurrences-same o x xs e)) (λ n. omega (arith, occurrences-other o x xs n))

pub occurs : (xs : List ℕ) (o : ℕ) → Includes xs o → 0 < occurrences o xs
occurs [] o h = absurd h
occurs (x ∷ xs) o (inl e) = omega (arith, occurrences-same o x xs e)
occurs (x ∷ xs) o (inr h) = omega (arith, fewer_in_tail o x xs, occurs xs o h)

pub occurs_in : (xs : List ℕ) (o : ℕ) → 0 < occurrences o xs → Includes xs o
occurs_in [] o h = absurd (omega (arith, h))
occurs_in (x ∷ xs) o h = either (cases_eq x o) (λ e. inl e) (λ n. inr (occurs_in xs o (omega (arith, h, occurrences-other o x xs n))))

-- an element not in a list occurs 0 times
pub absent_from : (xs : List ℕ) (o : ℕ) → ¬ Includes xs o → occurrences o xs ≡ 0
absent_from [] o h = refl
absent_from (x ∷ xs) o h = occurrences-other o x xs (λ e. h (inl e)) ∙ absent_from xs o (λ m. h (inr m))
