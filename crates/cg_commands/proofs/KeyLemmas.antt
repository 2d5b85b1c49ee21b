-- What is under a key has a position.
use Rattle.std.proofs.Common.{◌≡◌, refl, ℕ, suc, Bool, true, false, cond, List, [], ◌∷◌, Some}
use Rattle.std.specs.Prelude.{slice_get}
use Rattle.cg_value.specs.declared.Val.{Val}
use Rattle.cg_value.specs.declared.Entry.{Entry}
use Rattle.cg_graph.specs.Value.{same_value, value_at, entry_at}

pub entry_somewhere : (es : List Entry) (key : Val) (e : Entry) → entry_at es key ≡ Some e → (i : ℕ) × (slice_get es i ≡ Some e)
entry_somewhere [] key e at = absurd (cc)
entry_somewhere (x ∷ es) key e at = by (same_value x.key key) at (entry_somewhere es key e)
  where
    by : (b : Bool) → cond b (Some x) (entry_at es key) ≡ Some e → (entry_at es key ≡ Some e → (i : ℕ) × (slice_get es i ≡ Some e)) → (i : ℕ) × (slice_get (x ∷ es) i ≡ Some e)
    by true h again = (0, h)
    by false h again = let (i, there) = again h in (suc i, there)

some_value : (x y : Val) → Some x ≡ Some y → x ≡ y
some_value x y h = cc

pub value_somewhere : (es : List Entry) (key v : Val) → value_at es key ≡ Some v → (i : ℕ) × ((e : Entry) × ((slice_get es i ≡ Some e) × (e.val ≡ v)))
value_somewhere [] key v at = absurd (cc)
value_somewhere (x ∷ es) key v at = by (same_value x.key key) at (value_somewhere es key v)
  where
    by : (b : Bool) → cond b (Some x.val) (value_at es key) ≡ Some v → (value_at es key ≡ Some v → (i : ℕ)
        × ((e : Entry) × ((slice_get es i ≡ Some e) × (e.val ≡ v)))) → (i : ℕ) × ((e : Entry) × ((slice_get (x ∷ es) i ≡ Some e) × (e.val ≡ v)))
    by true h again = (0, (x, (refl, some_value x.val v h)))
    by false h again = let (i, (e, (there, is))) = again h in (suc i, (e, (there, is)))
