-- The equality that `Val` derives is `same_value` with its arguments swapped.
use Rattle.std.proofs.Common.{◌≡◌, ◌≢◌, ℕ, pred, ℤ, pos, negsuc, Bool, true, false, Option, Some, None, cond, refl, sym, ap, ◌∙◌, inl, inr, eqb}
use Rattle.std.specs.Prelude.{nat_abs}
use Rattle.std.proofs.lemmas.Bool.{cases_eq, eq-eqb, ne_eqb}
use Rattle.std.proofs.lemmas.Bool.Decides.{nat_tests}
use Rattle.std.proofs.Common.{arith}
use Rattle.std.specs.Cmp.{signed_Decides}
use Rattle.std.specs.Ordering.{int_eq}
use Rattle.cg_value.specs.declared.Val.{Val}
use Rattle.cg_value.specs.declared.Val.TheVariants.{None as Nothing, Int, Str, Ref}
use Rattle.cg_value.specs.contracts.ValPartialEq.TheImpl as val_eq
use Rattle.cg_graph.specs.Value.{same_value, same_int}

-- the result of `==` on two values
abbrev pub equal : Val → Val → Bool
equal = (val_eq.ghosts).eq

swapped : (a b : ℕ) → eqb a b ≡ eqb b a
swapped a b = elim (cases_eq a b) [
  | inl same ↦ eq-eqb a b same ∙ sym (eq-eqb b a (sym same))
  | inr differs ↦ ne_eqb a b differs ∙ sym (ne_eqb b a (λ same. differs (sym same)))
]

not_false : (b : Bool) → b ≢ true → b ≡ false
not_false true n = absurd (n refl)
not_false false n = refl

-- two integers of the same sign
int_eq-nat : (int : ℕ → ℤ) → ((m n : ℕ) → int m ≡ int n → m ≡ n) → (m n : ℕ) → int_eq (int m) (int n) ≡ eqb n m
int_eq-nat int only m n = elim (cases_eq m n) [
  | inl same ↦ (signed_Decides (int m) (int n)).1 (ap int same) ∙ sym (eq-eqb n m (sym same))
  | inr differs ↦ not_false _ (λ is. differs (only m n ((signed_Decides (int m) (int n)).0 is))) ∙ sym (ne_eqb n m (λ same. differs (sym same)))
]

int_eq-same_int : (m n : ℤ) → int_eq m n ≡ same_int n m
int_eq-same_int (pos m) (pos n) = int_eq-nat pos (λ m n is. ap nat_abs is) m n
int_eq-same_int (negsuc m) (negsuc n) = int_eq-nat negsuc (λ m n is. ap pred (ap nat_abs is)) m n
int_eq-same_int (pos m) (negsuc n) = refl
int_eq-same_int (negsuc m) (pos n) = refl

pub equal-same_value : (a b : Val) → equal a b ≡ same_value b a
equal-same_value Nothing Nothing = refl
equal-same_value (Int m) (Int n) = int_eq-same_int m n
equal-same_value (Str s) (Str t) = swapped s t
equal-same_value (Ref o) (Ref p) = swapped o p
equal-same_value a b = refl

pub equal_is : (a b : Val) → equal a b ≡ same_value b a
equal_is = equal-same_value

same_nat : (a b : ℕ) → eqb a b ≡ true → a ≡ b
same_nat a b is = grind (arith, nat_tests, is)

-- values that are the same are equal
pub same_is : (a b : Val) → same_value a b ≡ true → a ≡ b
same_is Nothing Nothing is = refl
same_is (Int m) (Int n) is = ap Int (sym ((signed_Decides n m).0 (int_eq-same_int n m ∙ is)))
same_is (Str s) (Str t) is = ap Str (same_nat s t is)
same_is (Ref o) (Ref p) is = ap Ref (same_nat o p is)
same_is a b is = absurd (cc)

-- a choice that gives nothing takes the second side
pub not_first : {X : Type 0} (b : Bool) (x : X) (o : Option X) → cond b (Some x) o ≡ None → (b ≡ false) × (o ≡ None)
not_first true x o none = absurd (cc)
not_first false x o none = (refl, none)
