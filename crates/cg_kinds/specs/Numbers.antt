-- The number of a value, which is what a key hashes. (Ours.)
use Rattle.std.specs.Prelude.{ℕ, IsTrue, List}
use Rattle.std.specs.Hash.{u64}
use Rattle.std.proofs.Common.{◌≡◌, refl, ap, eqb, true, arith, w64}
use mir.Val.{of_z}
use Rattle.std.proofs.lemmas.Bool.Decides.{nat_tests}
use Rattle.std.specs.Cmp.{signed_Decides}
use Rattle.cg_value.specs.declared.Val.{Val}
use Rattle.cg_value.specs.declared.Val.TheVariants.{None as Nothing, Int, Str, Ref}
use Rattle.cg_value.specs.contracts.ValPartialEq.TheImpl as val_eq

-- a signed integer by its 64 bits
abbrev pub number_of : Val → ℕ
number_of Nothing = 0
number_of (Int z) = of_z w64 z
number_of (Str name) = name
number_of (Ref serial) = serial

-- only the number is written: values of two sorts may share it
abbrev pub hashed : Val → List (List ℕ)
hashed v = u64 (number_of v)

same : (a b : ℕ) → eqb a b ≡ true → a ≡ b
same a b is = grind (arith, nat_tests, is)

-- equal values have the same number
equal_numbers : (x y : Val) → IsTrue ((val_eq.ghosts).eq x y) → number_of x ≡ number_of y
equal_numbers Nothing Nothing is = refl
equal_numbers Nothing (Int n) is = absurd (cc)
equal_numbers Nothing (Str t) is = absurd (cc)
equal_numbers Nothing (Ref p) is = absurd (cc)
equal_numbers (Int m) Nothing is = absurd (cc)
equal_numbers (Int m) (Int n) is = ap (of_z w64) ((signed_Decides m n).0 is)
equal_numbers (Int m) (Str t) is = absurd (cc)
equal_numbers (Int m) (Ref p) is = absurd (cc)
equal_numbers (Str s) Nothing is = absurd (cc)
equal_numbers (Str s) (Int n) is = absurd (cc)
equal_numbers (Str s) (Str t) is = same s t is
equal_numbers (Str s) (Ref p) is = absurd (cc)
equal_numbers (Ref o) Nothing is = absurd (cc)
equal_numbers (Ref o) (Int n) is = absurd (cc)
equal_numbers (Ref o) (Str t) is = absurd (cc)
equal_numbers (Ref o) (Ref p) is = same o p is

pub equal_hashed : (x y : Val) → IsTrue ((val_eq.ghosts).eq x y) → hashed x ≡ hashed y
equal_hashed x y is = ap u64 (equal_numbers x y is)
