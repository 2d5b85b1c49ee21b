-- Where a table of texts finds a text, and what interning appends.
use Rattle.std.proofs.Common.{◌<◌, ◌≡◌, ℕ, zero, suc, slice_get, is_some, unwrap_or, subst, true≢false, ◌+◌, List, [], ◌∷◌, ◌++◌, map, length, Bool, true, false, cond, not, ◌||◌, Some, None, position, nat_lt, refl, sym, ap, ◌∙◌, arith}
use Rattle.std.proofs.lemmas.Option.{slice_get_within}
use Rattle.std.proofs.lemmas.Map.Keys.{IsDistinct-head, IsDistinct-tail}
use Rattle.std.specs.Cmp.{IsEquivalence}
use Rattle.std.proofs.lemmas.List.{length-map}
use Rattle.std.specs.List.{list_any, position_or_len, IsDistinct, AllByRecursion}
use Rattle.std.specs.Str.{bytes_eq}
use Rattle.cg_value.specs.Texts.{has_text, text_number, with_text}

pub any_map : {A B : Type 0} (p : B → Bool) (f : A → B) (xs : List A) → list_any p (map f xs) ≡ list_any (λ x. p (f x)) xs
any_map p f [] = refl
any_map p f (x ∷ xs) = ap (λ b. p (f x) || b) (any_map p f xs)

any_same : {A : Type 0} (p q : A → Bool) (xs : List A) → ((x : A) → p x ≡ q x) → list_any p xs ≡ list_any q xs
any_same p q [] h = refl
any_same p q (x ∷ xs) h = ap (λ b. b || list_any p xs) (h x) ∙ ap (λ b. q x || b) (any_same p q xs h)

place_map : {A B : Type 0} (p : B → Bool) (f : A → B) (xs : List A) → position_or_len p (map f xs) ≡ position_or_len (λ x. p (f x)) xs
place_map p f [] = refl
place_map p f (x ∷ xs) = grind (arith, place_map p f xs)

pub position_map : {A B : Type 0} (p : B → Bool) (f : A → B) (xs : List A) → position p (map f xs) ≡ position (λ x. p (f x)) xs
position_map p f xs =
    ap (λ n. cond (nat_lt n (length (map f xs))) (Some n) None) (place_map p f xs)
    ∙ ap (λ m. cond (nat_lt (position_or_len (λ x. p (f x)) xs) m) (Some (position_or_len (λ x. p (f x)) xs)) None) (length-map xs f)

absent_step : (b : Bool) (any : Bool) (n m : ℕ) → (b || any) ≡ false → (any ≡ false → n ≡ m) → cond (not b) (1 + n) 0 ≡ 1 + m
absent_step true any n m e h = cc
absent_step false any n m e h = ap (λ k. 1 + k) (h e)

absent_place : {A : Type 0} (p : A → Bool) (xs : List A) → list_any p xs ≡ false → position_or_len p xs ≡ length xs
absent_place p [] e = refl
absent_place p (x ∷ xs) e = absent_step (p x) (list_any p xs) _ _ e (absent_place p xs) ∙ omega arith

map_push : {A B : Type 0} (f : A → B) (xs : List A) (y : A) → map f (xs ++ y ∷ []) ≡ map f xs ++ f y ∷ []
map_push f [] y = refl
map_push f (x ∷ xs) y = ap (λ l. f x ∷ l) (map_push f xs y)

pub found_place : (b : Bool) (n i : ℕ) → Some i ≡ cond b (Some n) None → i ≡ n
found_place true n i e = cc
found_place false n i e = cc

module _ {A : Type 0} (f : A → List ℕ) (keys : List A) (text : List ℕ) where
  abbrev test : A → Bool
  test k = bytes_eq text (f k)

  -- a new text goes last
  pub fresh : (eq : A → A → Bool) (x : A) (after : List A) → f x ≡ text → ((k : A) → eq x k ≡ bytes_eq (f x) (f k)) → false ≡ list_any test keys
      → after ≡ cond (list_any (eq x) keys) keys (keys ++ x ∷ []) → (length keys ≡ text_number (map f keys) text) × (map f after ≡ with_text (map f keys) text)
  fresh eq x after is same absent e =
      let none : list_any (eq x) keys ≡ false = any_same (eq x) test keys (λ k. same k ∙ ap (λ t. bytes_eq t (f k)) is) ∙ sym absent in
      let gone : has_text (map f keys) text ≡ false = any_map (bytes_eq text) f keys ∙ sym absent in (
        sym (place_map (bytes_eq text) f keys ∙ absent_place test keys (sym absent)),
        ap (map f) (e ∙ ap (λ b. cond b keys (keys ++ x ∷ [])) none) ∙ map_push f keys x ∙ ap (λ t. map f keys ++ t ∷ []) is
            ∙ sym (ap (λ b. cond b (map f keys) (map f keys ++ text ∷ [])) gone),
      )

every_at : {K : Type 0} (P : K → Type 0) (xs : List K) (i : ℕ) (k : K) → AllByRecursion P xs → slice_get xs i ≡ Some k → P k
every_at P [] i k all at = absurd (true≢false (sym (ap is_some at)))
every_at P (x ∷ xs) zero k all at = subst P (ap (λ o. unwrap_or o x) at) all.0
every_at P (x ∷ xs) (suc i) k all at = every_at P xs i k all.1 at

found_first : (b : Bool) (n : ℕ) → b ≡ true → cond (not b) (1 + n) 0 ≡ 0
found_first true n e = refl
found_first false n e = cc

found_later : (b : Bool) (n i : ℕ) → b ≡ false → n ≡ i → cond (not b) (1 + n) 0 ≡ suc i
found_later true n i e is = cc
found_later false n i e is = omega (arith, is)

within : {A : Type 0} (i n : ℕ) (a b : A) → i < n → cond (nat_lt i n) a b ≡ a
within i n a b lt = grind (arith, lt)

past_all : {A : Type 0} (n : ℕ) (a b : A) → cond (nat_lt n n) a b ≡ b
past_all n a b = grind (arith)

-- Keys are distinct, so the entry that passes a key's test is at the test's first position.
module _ {K : Type 0} {eq : K → K → Bool} (laws : IsEquivalence eq) (test : K → Bool) (k : K) (passes : test k ≡ true) (same : (x : K) → test x ≡ eq k x) where
  own_place : (keys : List K) (i : ℕ) → IsDistinct eq keys → slice_get keys i ≡ Some k → position_or_len test keys ≡ i
  own_place [] i apart at = absurd (true≢false (sym (ap is_some at)))
  own_place (x ∷ xs) zero apart at = found_first (test x) _ (ap test (ap (λ o. unwrap_or o x) at) ∙ passes)
  own_place (x ∷ xs) (suc i) apart at =
      let other : eq x k ≡ false = every_at (λ y. eq x y ≡ false) xs i k (IsDistinct-head eq x xs apart) at in
      found_later (test x) _ _ (same x ∙ laws.symm k x ∙ other) (own_place xs i (IsDistinct-tail eq x xs apart) at)

  pub own_position : (keys : List K) (i : ℕ) → IsDistinct eq keys → slice_get keys i ≡ Some k → position test keys ≡ Some i
  own_position keys i apart at =
      ap (λ n. cond (nat_lt n (length keys)) (Some n) None) (own_place keys i apart at)
      ∙ within i (length keys) (Some i) None (slice_get_within keys i k at)

-- a text with a first position is in the list
pub found_there : {A : Type 0} (p : A → Bool) (xs : List A) (i : ℕ) → position p xs ≡ Some i → list_any p xs ≡ true
found_there p xs i at = by (list_any p xs) refl
  where
    by : (b : Bool) → list_any p xs ≡ b → b ≡ true
    by true e = refl
    by false e =
        let past : position p xs ≡ None = ap (λ n. cond (nat_lt n (length xs)) (Some n) None) (absent_place p xs e) ∙ past_all (length xs) (Some (length xs)) None in
        absurd (true≢false (sym (ap is_some (sym past ∙ at))))
