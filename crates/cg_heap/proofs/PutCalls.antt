-- A put under a key: when it fails at the limit.
use Rattle.std.proofs.Common.{◌≡◌, ℕ, ◌<◌, ◌≤◌, Bool, true, false, Option, None, sym, ◌∙◌, inl, inr, arith}
use Rattle.std.specs.Prelude.{◌↔◌, IsTrue}
use Rattle.std.proofs.lemmas.Bool.{cases_lt}
use Rattle.cg_value.specs.declared.Val.{Val}

-- a put that succeeds does not exceed the limit
pub below_limit : (w : Option Val) (n : ℕ) (b : Bool) → (IsTrue b ↔ ((w ≡ None) × (4000000 ≤ n))) → b ≡ false → w ≡ None → n < 4000000
below_limit w n b is within none = elim (cases_lt n 4000000) [
  | inl below ↦ below
  | inr high ↦ absurd (not_both b (is.1 (none, omega (arith, high))) within)
]
  where
    not_both : (b : Bool) → IsTrue b → b ≡ false → ⊥
    not_both b holds h = let both : true ≡ false = sym holds ∙ h in absurd (cc)
