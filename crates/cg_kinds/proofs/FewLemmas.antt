-- Entries searched one by one: what a search finds, and the effect of a put.
use Rattle.std.proofs.Common.{◌≡◌, ℕ, ◌+◌, ◌-◌, ◌<◌, ◌≤◌, Bool, true, false, List, [], ◌∷◌, ◌++◌, Some, None, cond, refl, sym, ap, ◌∙◌, subst, length, drop, get_or, set, arith, length-append}
use Rattle.std.specs.Prelude.{position, slice_get}
use Rattle.std.specs.List.{position_from}
use Rattle.std.proofs.lemmas.List.{drop_more, append-nil}
use Rattle.std.proofs.lemmas.Option.{get_or_from_slice_get}
use Rattle.std.proofs.lemmas.List.Quantifiers.{position-Some}
use Rattle.std.proofs.Math.Seq.{set-append_seam, get_or-append_seam}
use Rattle.cg_value.specs.declared.Val.{Val}
use Rattle.cg_value.specs.declared.Entry.{Entry}
use Rattle.cg_graph.specs.Value.{same_value, value_at, put}
use Rattle.cg_kind.specs.Calls.{has_key}
use Rattle.cg_kinds.proofs.KeyLemmas.{same_is, not_first}

module _ (key : Val) where
  -- the first of the rest lacks the key
  pub found_later : (i : ℕ) (es : List Entry) (d : Entry) → i < length es → has_key key (get_or es i d) ≡ false → position_from (has_key key) i (drop i es)
      ≡ position_from (has_key key) (i + 1) (drop (i + 1) es)
  found_later i es d within lacks =
      ap (position_from (has_key key) i) (drop_more es i d within)
      ∙ ap (λ b. cond b (Some i) (position_from (has_key key) (i + 1) (drop (i + 1) es))) lacks

  -- if a key is not found, it has no value
  pub value_none : (i : ℕ) (es : List Entry) → position_from (has_key key) i es ≡ None → value_at es key ≡ None
  value_none i [] none = refl
  value_none i (e ∷ es) none =
      let other = not_first (same_value e.key key) i (position_from (has_key key) (i + 1) es) none in
      ap (λ b. cond b (Some e.val) (value_at es key)) other.0 ∙ value_none (i + 1) es other.1

  -- the entry at this position has the key, and none before it has
  pub record IsFound (es : List Entry) (k : ℕ) : Type 0 where
    pub front : List Entry
    pub entry : Entry
    pub back : List Entry
    pub is : es ≡ front ++ entry ∷ back
    pub at : length front ≡ k
    pub value : value_at es key ≡ Some entry.val
    pub putting : (val : Val) → put es key val ≡ front ++ record { key = entry.key; val = val } ∷ back

  pub found_at : (i k : ℕ) (es : List Entry) → position_from (has_key key) i es ≡ Some k → (i ≤ k) × IsFound es (k - i)
  found_at i k [] some = absurd (cc)
  found_at i k (e ∷ es) some = by (same_value e.key key) refl some (found_at (i + 1) k es)
    where
      by : (b : Bool) → same_value e.key key ≡ b → cond b (Some i) (position_from (has_key key) (i + 1) es) ≡ Some k → (position_from (has_key key) (i + 1) es
          ≡ Some k → (i + 1 ≤ k) × IsFound es (k - (i + 1))) → (i ≤ k) × IsFound (e ∷ es) (k - i)
      by true has h again =
          let here : i ≡ k = cc in (
            omega (arith, here),
            record {
              front = [];
              entry = e;
              back = es;
              is = refl;
              at = omega (arith, here);
              value = ap (λ b. cond b (Some e.val) (value_at es key)) has;
              putting = λ val. ap (λ b. cond b (record { key = e.key; val = val } ∷ es) (e ∷ put es key val)) has;
            },
          )
      by false lacks h again =
          let rest = again h in (
            omega (arith, rest.0),
            record {
              front = e ∷ rest.1.front;
              entry = rest.1.entry;
              back = rest.1.back;
              is = ap (λ l. e ∷ l) rest.1.is;
              at = omega (arith, rest.0, rest.1.at);
              value = ap (λ b. cond b (Some e.val) (value_at es key)) lacks ∙ rest.1.value;
              putting = λ val. ap (λ b. cond b (record { key = e.key; val = val } ∷ es) (e ∷ put es key val)) lacks ∙ ap (λ l. e ∷ l) (rest.1.putting val);
            },
          )

  -- a put among entries without the key appends
  pub back_put : (val : Val) (xs ys : List Entry) → value_at xs key ≡ None → put (xs ++ ys) key val ≡ xs ++ put ys key val
  back_put val [] ys none = refl
  back_put val (e ∷ xs) ys none =
      let other = not_first (same_value e.key key) e.val (value_at xs key) none in
      ap (λ b. cond b (record { key = e.key; val = val } ∷ xs ++ ys) (e ∷ put (xs ++ ys) key val)) other.0 ∙ ap (λ l. e ∷ l) (back_put val xs ys other.1)

  -- the entry found by a search
  pub found_first : (es : List Entry) (k : ℕ) → position_from (has_key key) 0 es ≡ Some k → IsFound es k
  found_first es k some = let n : k - 0 ≡ k = omega arith in subst (λ m. IsFound es m) n (found_at 0 k es some).1

  pub found_within : (es : List Entry) (k : ℕ) → IsFound es k → k < length es
  found_within es k f =
      let n : length es ≡ length (f.front ++ f.entry ∷ f.back) = ap length f.is in
      omega (arith, n, length-append f.front (f.entry ∷ f.back), f.at)

  pub found_entry : (es : List Entry) (k : ℕ) (f : IsFound es k) (d : Entry) → get_or es k d ≡ f.entry
  found_entry es k f d =
      ap (λ l. get_or l k d) f.is
      ∙ ap (λ n. get_or (f.front ++ f.entry ∷ f.back) n d) (sym f.at)
      ∙ get_or-append_seam f.front f.entry f.back d

  pub found_put : (es : List Entry) (k : ℕ) (f : IsFound es k) (e : Entry) (val : Val) → e ≡ f.entry → set es k (record { key = e.key; val = val }) ≡ put es key val
  found_put es k f e val same =
      ap (λ (x : Entry). set es k (record { key = x.key; val = val })) same
      ∙ ap (λ l. set l k (record { key = f.entry.key; val = val })) f.is
      ∙ ap (λ n. set (f.front ++ f.entry ∷ f.back) n (record { key = f.entry.key; val = val })) (sym f.at)
      ∙ set-append_seam f.front f.entry f.back (record { key = f.entry.key; val = val })
      ∙ sym (f.putting val)

pub put_new : (es : List Entry) (key val : Val) → value_at es key ≡ None → put es key val ≡ es ++ record { key = key; val = val } ∷ []
put_new es key val none = ap (λ l. put l key val) (sym (append-nil es)) ∙ back_put key val es [] none

-- the entry at a found position has the key
pub key_there : (es : List Entry) (key : Val) (i : ℕ) (e : Entry) → position (has_key key) es ≡ Some i → slice_get es i ≡ Some e → e.key ≡ key
key_there es key i e found here =
    same_is e.key key (ap (has_key key) (sym (get_or_from_slice_get es i e e here)) ∙ (position-Some (has_key key) es i e found).1)
