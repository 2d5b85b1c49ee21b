-- Entries with distinct keys: what keeps them distinct, and that putting each under its key rebuilds them.
use Rattle.std.proofs.Common.{◌≡◌, ℕ, zero, suc, ◌<◌, Bool, true, false, List, [], ◌∷◌, ◌++◌, Option, Some, None, cond, refl, sym, ap, ◌∙◌, subst, length, take, get_or, remove, arith}
use Rattle.std.specs.Prelude.{option_to_list, OnSome, IfNone}
use Rattle.cg_value.specs.declared.Val.{Val}
use Rattle.cg_value.specs.declared.Entry.{Entry}
use Rattle.cg_graph.specs.Value.{same_value, value_at, put}
use Rattle.cg_kinds.specs.Pairs.{AreKeysOnce}
use Rattle.cg_kinds.proofs.KeyLemmas.{same_is, not_first}

-- inequality of values is symmetric
differs : (a b : Val) → same_value a b ≡ false → same_value b a ≡ false
differs a b other = by (same_value b a) refl
  where
    by : (t : Bool) → same_value b a ≡ t → same_value b a ≡ false
    by false is = is
    by true is =
        let same : b ≡ a = same_is b a is in
        let yes : same_value a b ≡ true = ap (λ x. same_value x b) (sym same) ∙ ap (same_value b) same ∙ is in
        absurd (cc)

-- a put under another key adds no entry for this key
absent_put : (es : List Entry) (k key val : Val) → same_value key k ≡ false → value_at es k ≡ None → value_at (put es key val) k ≡ None
absent_put [] k key val other none = ap (λ b. cond b (Some val) None) other
absent_put (e ∷ es) k key val other none = by (same_value e.key k) (same_value e.key key) refl none (absent_put es k key val other)
  where
    by : (b c : Bool) → same_value e.key k ≡ b → cond b (Some e.val) (value_at es k) ≡ None → (value_at es k ≡ None → value_at (put es key val) k ≡ None)
        → value_at (cond c (record { key = e.key; val = val } ∷ es) (e ∷ put es key val)) k ≡ None
    by true c is h again = absurd (cc)
    by false true is h again = ap (λ b. cond b (Some val) (value_at es k)) is ∙ h
    by false false is h again = ap (λ b. cond b (Some e.val) (value_at (put es key val) k)) is ∙ again h

pub once_put : (es : List Entry) (key val : Val) → AreKeysOnce es → AreKeysOnce (put es key val)
once_put [] key val once = (refl, tt)
once_put (e ∷ es) key val once = by (same_value e.key key) refl (once_put es key val once.1)
  where
    by : (b : Bool) → same_value e.key key ≡ b → AreKeysOnce (put es key val) → AreKeysOnce (cond b (record { key = e.key; val = val } ∷ es) (e ∷ put es key val))
    by true is again = once
    by false is again = (absent_put es e.key key val (differs e.key key is) once.0, again)

pub once_replaced : (old new : List Entry) (key val : Val) (was : Option Val) → OnSome was (new ≡ put old key val) → IfNone was (new ≡ old) → AreKeysOnce old → AreKeysOnce new
once_replaced old new key val (Some v) is stays once = subst AreKeysOnce (sym is) (once_put old key val once)
once_replaced old new key val None is stays once = subst AreKeysOnce (sym stays) once

-- an absent key stays absent after a removal
absent_remove : (es : List Entry) (i : ℕ) (k : Val) → value_at es k ≡ None → value_at (remove es i) k ≡ None
absent_remove [] zero k none = none
absent_remove [] (suc i) k none = none
absent_remove (e ∷ es) zero k none = (not_first (same_value e.key k) e.val (value_at es k) none).1
absent_remove (e ∷ es) (suc i) k none =
    let other = not_first (same_value e.key k) e.val (value_at es k) none in
    ap (λ b. cond b (Some e.val) (value_at (remove es i) k)) other.0 ∙ absent_remove es i k other.1

pub once_remove : (es : List Entry) (i : ℕ) → AreKeysOnce es → AreKeysOnce (remove es i)
once_remove [] zero once = once
once_remove [] (suc i) once = once
once_remove (e ∷ es) zero once = once.1
once_remove (e ∷ es) (suc i) once = (absent_remove es i e.key once.0, once_remove es i once.1)

absent_front : (es back : List Entry) (k : Val) → value_at (es ++ back) k ≡ None → value_at es k ≡ None
absent_front [] back k none = refl
absent_front (e ∷ es) back k none =
    let other = not_first (same_value e.key k) e.val (value_at (es ++ back) k) none in
    ap (λ b. cond b (Some e.val) (value_at es k)) other.0 ∙ absent_front es back k other.1

once_front : (es back : List Entry) → AreKeysOnce (es ++ back) → AreKeysOnce es
once_front [] back once = tt
once_front (e ∷ es) back once = (absent_front es back e.key once.0, once_front es back once.1)

pub once_popped : (old new : List Entry) (last : Option Entry) → old ≡ new ++ option_to_list last → AreKeysOnce old → AreKeysOnce new
once_popped old new last is once = once_front new (option_to_list last) (subst AreKeysOnce is once)

-- the keys of two entries differ
later_key : (es : List Entry) (i : ℕ) (d : Entry) (k : Val) → value_at es k ≡ None → i < length es → same_value k (get_or es i d).key ≡ false
later_key [] i d k none within = absurd (omega (arith, within))
later_key (e ∷ es) zero d k none within = differs e.key k (not_first (same_value e.key k) e.val (value_at es k) none).0
later_key (e ∷ es) (suc i) d k none within = later_key es i d k (not_first (same_value e.key k) e.val (value_at es k) none).1 (omega (arith, within))

-- putting the next entry appends it
pub put_next : (es : List Entry) (i : ℕ) (d : Entry) → AreKeysOnce es → i < length es → put (take i es) (get_or es i d).key (get_or es i d).val ≡ take (suc i) es
put_next [] i d once within = absurd (omega (arith, within))
put_next (e ∷ es) zero d once within = refl
put_next (e ∷ es) (suc i) d once within =
    let low : i < length es = omega (arith, within) in
    ap (λ b. cond b (record { key = e.key; val = (get_or es i d).val } ∷ take i es) (e ∷ put (take i es) (get_or es i d).key (get_or es i d).val)) (later_key es i d e.key once.0 low)
    ∙ ap (λ l. e ∷ l) (put_next es i d once.1 low)
