-- The first position of a key, the entry there, and the entries without it.
use Rattle.std.proofs.Common.{◌≡◌, refl, sym, ◌∙◌, ap, subst, ℕ, suc, ◌+◌, Bool, true, false, cond, List, [], ◌∷◌, Some, None, arith, remove}
use Rattle.std.specs.Prelude.{if◌then◌else◌, slice_get, position, option_map}
use Rattle.std.specs.List.{position_from}
use Rattle.std.proofs.lemmas.Iterator.Adapters.{position_from-zero}
use Rattle.cg_value.specs.declared.Val.{Val}
use Rattle.cg_value.specs.declared.Entry.{Entry}
use Rattle.cg_value.specs.declared.KindCode.{KindCode}
use Rattle.cg_value.specs.declared.KindCode.TheVariants.{List as ListKind, Tuple, Dict, Inst, Func, Weak}
use Rattle.cg_kind.specs.Calls.{has_key, after_take, after_take_key}
use Rattle.cg_graph.specs.Value.{same_value, value_at, entry_at, without_key}

-- the first entry with the key is at this position
pub record Stands (es : List Entry) (key : Val) (i : ℕ) (e : Entry) : Type 0 where
  pub here : slice_get es i ≡ Some e
  pub entry : entry_at es key ≡ Some e
  pub value : value_at es key ≡ Some e.val
  pub rest : without_key es key ≡ remove es i

some_is : (m n : ℕ) → Some m ≡ Some n → m ≡ n
some_is m n h = cc

found_from : (key : Val) (k i : ℕ) (es : List Entry) → position_from (has_key key) k es ≡ Some i → (j : ℕ) × (i ≡ k + j) × ((e : Entry) × Stands es key j e)
found_from key k i [] at = absurd (cc)
found_from key k i (x ∷ es) at =
    let (j, is, (e, here, entry, value, rest)) = go (same_value x.key key) at (found_from key (k + 1) i es) in
    (j, is, (e, record { here = here; entry = entry; value = value; rest = rest }))
  where
    go : (b : Bool) → cond b (Some k) (position_from (has_key key) (k + 1) es) ≡ Some i
        → (position_from (has_key key) (k + 1) es ≡ Some i → (j : ℕ) × (i ≡ (k + 1) + j) × ((e : Entry) × Stands es key j e))
        → (j : ℕ) × (i ≡ k + j) × ((e : Entry) × (slice_get (x ∷ es) j ≡ Some e) × ((if b then Some x else entry_at es key) ≡ Some e)
        × ((if b then Some x.val else value_at es key) ≡ Some e.val) × ((if b then es else x ∷ without_key es key) ≡ remove (x ∷ es) j))
    go true at next = let is = some_is k i at in (0, omega (arith, is), (x, refl, refl, refl, refl))
    go false at next =
        let (j, is, (e, there)) = next at in (suc j, omega (arith, is), (e, there.here, there.entry, there.value, ap (λ l. x ∷ l) there.rest))

pub key_found : (es : List Entry) (key : Val) (i : ℕ) (e : Entry) → position (has_key key) es ≡ Some i → slice_get es i ≡ Some e → Stands es key i e
key_found es key i e at here =
    let (j, is, (d, there)) = found_from key 0 i es (sym (position_from-zero (has_key key) es) ∙ at) in
    let same : j ≡ i = omega (arith, is) in
    let there_i : Stands es key i d = subst (λ n. Stands es key n d) same there in
    let both : d ≡ e = some_entry d e (sym there_i.here ∙ here) in
    subst (λ x. Stands es key i x) both there_i
  where
    some_entry : (x y : Entry) → Some x ≡ Some y → x ≡ y
    some_entry x y h = cc

-- no entry has the key
pub record Lacks (es : List Entry) (key : Val) : Type 0 where
  pub entry : entry_at es key ≡ None
  pub value : value_at es key ≡ None
  pub rest : without_key es key ≡ es

pub lacks_key : (key : Val) (es : List Entry) → entry_at es key ≡ None → Lacks es key
lacks_key key [] none = record { entry = refl; value = refl; rest = refl }
lacks_key key (x ∷ es) none =
    let (entry, value, rest) = go (same_value x.key key) none (lacks_key key es) in
    record { entry = entry; value = value; rest = rest }
  where
    go : (b : Bool) → cond b (Some x) (entry_at es key) ≡ None → (entry_at es key ≡ None → Lacks es key)
        → ((if b then Some x else entry_at es key) ≡ None) × ((if b then Some x.val else value_at es key) ≡ None) × ((if b then es else x ∷ without_key es key) ≡ x ∷ es)
    go true none next = absurd (cc)
    go false none next = let there = next none in (there.entry, there.value, ap (λ l. x ∷ l) there.rest)

none_from : (key : Val) (k : ℕ) (es : List Entry) → position_from (has_key key) k es ≡ None → entry_at es key ≡ None
none_from key k [] at = refl
none_from key k (x ∷ es) at = go (same_value x.key key) at (none_from key (k + 1) es)
  where
    go : (b : Bool) → cond b (Some k) (position_from (has_key key) (k + 1) es) ≡ None → (position_from (has_key key) (k + 1) es ≡ None → entry_at es key ≡ None)
        → (if b then Some x else entry_at es key) ≡ None
    go true at next = absurd (cc)
    go false at next = next at

pub key_missing : (es : List Entry) (key : Val) → position (has_key key) es ≡ None → Lacks es key
key_missing es key at = lacks_key key es (none_from key 0 es (sym (position_from-zero (has_key key) es) ∙ at))

-- a present key has a first position
pub stands_somewhere : (key : Val) (es : List Entry) (e : Entry) → entry_at es key ≡ Some e → (i : ℕ) × Stands es key i e
stands_somewhere key [] e at = absurd (cc)
stands_somewhere key (x ∷ es) e at =
    let (i, (here, entry, value, rest)) = go (same_value x.key key) at (stands_somewhere key es e) in
    (i, record { here = here; entry = entry; value = value; rest = rest })
  where
    go : (b : Bool) → cond b (Some x) (entry_at es key) ≡ Some e → (entry_at es key ≡ Some e → (i : ℕ) × Stands es key i e)
        → (i : ℕ) × ((slice_get (x ∷ es) i ≡ Some e) × ((if b then Some x else entry_at es key) ≡ Some e) × ((if b then Some x.val else value_at es key)
        ≡ Some e.val) × ((if b then es else x ∷ without_key es key) ≡ remove (x ∷ es) i))
    go true at next = (0, (at, at, ap (option_map (λ (y : Entry). y.val)) at, refl))
    go false at next = let (i, there) = next at in (suc i, (there.here, there.entry, there.value, ap (λ l. x ∷ l) there.rest))

-- taking the entry of a key at its position
pub after_take-key : (kind : KindCode) (es : List Entry) (key : Val) (i : ℕ) (e : Entry) → Stands es key i e → after_take kind es i ≡ after_take_key kind es key
after_take-key ListKind es key i e there = sym there.rest
after_take-key Tuple es key i e there = refl
after_take-key Dict es key i e there = sym there.rest
after_take-key Inst es key i e there = sym there.rest
after_take-key Func es key i e there = refl
after_take-key Weak es key i e there = refl
