-- The bound names, when one gets another value, and while the upper bound is lowered.
use Rattle.std.proofs.Common.{◌≡◌, ◌≢◌, ℕ, zero, suc, ◌-◌, ◌<◌, ◌≤◌, true, false, List, [], ◌∷◌, length, slice_get, Option, Some, None, refl, sym, ap, subst, ◌∙◌, arith}
use Rattle.std.specs.Prelude.{get_or, is_some}
use Rattle.std.proofs.Math.ListN.{set}
use Rattle.std.proofs.lemmas.List.{length-set}
use Rattle.std.proofs.lemmas.Option.{slice_get_read}
use Rattle.cg_value.specs.declared.Val.{Val}
use Rattle.cg_heap.specs.Calls.{IsBound, AreBoundBelow, IsGreatestBound}

-- a property of each bound name and of the new one holds for each bound name afterwards
bound-set : (P : ℕ → Type 0) (names : List (Option Val)) (i : ℕ) (x : Option Val) → ((j : ℕ) → IsBound names j → P j) → ((v : Val) → x ≡ Some v → P i) → (j : ℕ) → IsBound (set names i x) j → P j
bound-set P [] i x old new j bound = old j bound
bound-set P (y ∷ names) zero x old new zero bound = new bound.0 (let e = bound.1 in cc)
bound-set P (y ∷ names) zero x old new (suc j) bound = old (suc j) bound
bound-set P (y ∷ names) (suc i) x old new zero bound = old zero bound
bound-set P (y ∷ names) (suc i) x old new (suc j) bound = bound-set (λ k. P (suc k)) names i x (λ k. old (suc k)) new j bound

-- the upper bound may be raised, and must be if a value is stored at it or above
pub stored : (old : List (Option Val)) (upper i : ℕ) (x : Option Val) (new : List (Option Val)) (raised : ℕ) → (upper ≤ length old) × AreBoundBelow upper old
    → new ≡ set old i x → upper ≤ raised → raised ≤ length old → ((v : Val) → x ≡ Some v → i < raised) → (raised ≤ length new) × AreBoundBelow raised new
stored old upper i x new raised h is more within above =
    subst (λ ns. (raised ≤ length ns) × AreBoundBelow raised ns) (sym is)
    (omega (arith, within, length-set old i x), bound-set (λ k. k < raised) old i x (λ j bound. omega (arith, h.1 j bound, more)) above)

-- What the downward search keeps: no name at or above the bound is bound.
pub record Lowers (old new : List (Option Val)) (upper : ℕ) : Type 0 where
  pub same : new ≡ old
  pub within : upper ≤ length new
  pub below : AreBoundBelow upper new

module _ {old new : List (Option Val)} {upper : ℕ} (h : Lowers old new upper) where
  top : 0 < upper → (x : Option Val) → x ≡ get_or new (upper - 1) x → slice_get new (upper - 1) ≡ Some x
  top some x read = slice_get_read new (length new) (upper - 1) x refl (omega (arith, some, h.within)) read

  -- a bound name just below the bound is the greatest
  pub found : 0 < upper → (x : Option Val) → x ≡ get_or new (upper - 1) x → true ≡ is_some x → IsGreatestBound old (Some (upper - 1))
  found some None read bound = absurd (cc)
  found some (Some v) read bound =
      subst (λ ns. IsGreatestBound ns (Some (upper - 1))) h.same
      ((v, top some (Some v) read), λ n there. omega (arith, h.below n there))

  -- an unbound one lowers the bound
  pub passed : 0 < upper → (x : Option Val) → x ≡ get_or new (upper - 1) x → false ≡ is_some x → Lowers old new (upper - 1)
  passed some (Some v) read unbound = absurd (cc)
  passed some None read unbound =
      record { same = h.same; within = omega (arith, h.within); below = λ n there. omega (arith, h.below n there, other n there) }
    where
      other : (n : ℕ) → IsBound new n → n ≢ upper - 1
      other n there same = absurd (let e = sym (top some None read) ∙ ap (slice_get new) (sym same) ∙ there.1 in cc)

  pub none_left : upper ≤ 0 → IsGreatestBound old None
  none_left least = subst (λ ns. IsGreatestBound ns None) h.same (λ n there. omega (arith, h.below n there, least))
