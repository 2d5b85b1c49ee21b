-- Numbers of texts, all below the number of all texts.
use Rattle.std.proofs.Common.{◌≡◌, ℕ, suc, ◌+◌, ◌<◌, ◌≤◌, List, [], ◌∷◌, ◌++◌, length, Bool, true, false, cond, not, ◌||◌, Option, None, Some, refl, arith, length-append}
use Rattle.std.specs.List.{All, list_any, position_or_len}
use Rattle.std.specs.Str.{bytes_eq}
use Rattle.std.proofs.lemmas.List.Elements.{All-cons, All-nil}
use Rattle.std.proofs.lemmas.List.Sums.{prefix_len-le-length}
use Rattle.cg_value.specs.Texts.{has_text, text_number, with_text}
use Rattle.cg_script.specs.Parts.{with_text_if}
use Rattle.cg_script.proofs.NumbersOfWords.{AllHold, hold_both}

abbrev pub Below : ℕ → List ℕ → Type 0
Below n xs = AllHold (λ k. k < n) xs

pub below-append : (n : ℕ) (xs ys : List ℕ) → Below n xs → Below n ys → Below n (xs ++ ys)
below-append n xs ys a b = hold_both (λ k. k < n) xs ys a b

pub below_front : (n : ℕ) (xs ys : List ℕ) → Below n (xs ++ ys) → Below n xs
below_front n [] ys b = tt
below_front n (x ∷ xs) ys b = (b.0, below_front n xs ys b.1)

pub below_back : (n : ℕ) (xs ys : List ℕ) → Below n (xs ++ ys) → Below n ys
below_back n [] ys b = b
below_back n (x ∷ xs) ys b = below_back n xs ys b.1

pub below_more : (n m : ℕ) (xs : List ℕ) → n ≤ m → Below n xs → Below m xs
below_more n m [] h b = tt
below_more n m (x ∷ xs) h b = let k = b.0 in (omega arith, below_more n m xs h b.1)

pub below_all : (n : ℕ) (xs : List ℕ) → Below n xs → All (λ k. k < n) xs
below_all n [] b = All-nil (λ k. k < n)
below_all n (x ∷ xs) b = All-cons (λ k. k < n) x xs b.0 (below_all n xs b.1)

below_step : (b any : Bool) (n m : ℕ) → (b || any) ≡ true → (any ≡ true → n < m) → cond (not b) (1 + n) 0 < suc m
below_step true any n m e r = omega arith
below_step false any n m e r = let h : n < m = r e in omega arith

pub any_below : {A : Type 0} (p : A → Bool) (xs : List A) → list_any p xs ≡ true → position_or_len p xs < length xs
any_below p [] e = absurd (cc)
any_below p (x ∷ xs) e = below_step (p x) (list_any p xs) _ _ e (any_below p xs)

-- the place of an old or new text
pub place_below : (texts : List (List ℕ)) (text : List ℕ) → text_number texts text < length (with_text texts text)
place_below texts text = by (has_text texts text) refl
  where
    by : (b : Bool) → has_text texts text ≡ b → text_number texts text < length (cond b texts (texts ++ text ∷ []))
    by true e = any_below (bytes_eq text) texts e
    by false e = simp length-append (omega (arith, prefix_len-le-length (λ t. not (bytes_eq text t)) texts))

pub grows : (texts : List (List ℕ)) (text : List ℕ) → length texts ≤ length (with_text texts text)
grows texts text = by (has_text texts text)
  where
    by : (b : Bool) → length texts ≤ length (cond b texts (texts ++ text ∷ []))
    by true = omega arith
    by false = simp length-append (omega arith)

pub grows_if : (texts : List (List ℕ)) (text : Option (List ℕ)) → length texts ≤ length (with_text_if texts text)
grows_if texts None = omega arith
grows_if texts (Some text) = grows texts text
