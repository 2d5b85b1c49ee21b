-- Items, as lists, tuples, functions and weak references store them.
use Rattle.std.proofs.Common.{◌≡◌, ℕ, suc, ◌+◌, ◌<◌, true, false, List, [], ◌∷◌, length, get_or, Some, None, refl, sym, ap, ◌∙◌, cond, arith, map}
use Rattle.std.specs.Prelude.{position, pos, slice_get, slice_set, option_map}
use Rattle.std.specs.List.{position_from}
use Rattle.std.proofs.lemmas.List.{map-set}
use Rattle.std.proofs.lemmas.Option.{slice_get-map, slice_get-get_or}
use Rattle.std.proofs.lemmas.Iterator.Adapters.{position_from-zero}
use Rattle.cg_value.specs.declared.Val.{Val}
use Rattle.cg_value.specs.declared.Val.TheVariants.{None as Nothing, Int}
use Rattle.cg_value.specs.declared.Entry.{Entry}
use Rattle.cg_value.specs.declared.KindCode.TheVariants.{List as ListKind}
use Rattle.cg_graph.specs.Value.{same_value, item}
use Rattle.cg_kind.specs.Calls.{has_key, AreItems, value_under, after_put}
use Rattle.cg_kinds.proofs.KeyLemmas.{equal, equal-same_value}

-- items are determined by their values
pub items-values : (es : List Entry) → AreItems es → map item (map (λ e. e.val) es) ≡ es
items-values [] h = refl
items-values (e ∷ es) h = λ i. record { key = sym (h 0 e (omega arith)) i; val = e.val } ∷ items-values es (λ k d below. h (suc k) d (omega (arith, below))) i

-- the key none is found at the first item, and no other key is found
module _ (key : Val) where
  first_is : (values : List Val) → same_value Nothing key ≡ true → 0 < length values → Some 0 ≡ position (has_key key) (map item values)
  first_is [] same some = absurd (omega (arith, some))
  first_is (v ∷ values) same some =
      sym (position_from-zero (has_key key) (map item (v ∷ values))
      ∙ ap (λ b. cond b (Some 0) (position_from (has_key key) 1 (map item values))) same)

  none_from : (i : ℕ) (values : List Val) → same_value Nothing key ≡ false → position_from (has_key key) i (map item values) ≡ None
  none_from i [] differs = refl
  none_from i (v ∷ values) differs =
      ap (λ b. cond b (Some i) (position_from (has_key key) (i + 1) (map item values))) differs
      ∙ none_from (i + 1) values differs

  pub found-first : (values : List Val) → equal key Nothing ≡ true → 0 < length values → Some 0 ≡ position (has_key key) (map item values)
  found-first values same some = first_is values (sym (equal-same_value key Nothing) ∙ same) some

  pub found-none : (values : List Val) → equal key Nothing ≡ false → None ≡ position (has_key key) (map item values)
  found-none values differs =
      sym (position_from-zero (has_key key) (map item values) ∙ none_from 0 values (sym (equal-same_value key Nothing) ∙ differs))

  pub found-nothing : (values : List Val) → length values ≡ 0 → None ≡ position (has_key key) (map item values)
  found-nothing [] none = refl
  found-nothing (v ∷ values) none = absurd (omega (arith, none))

-- the items of values stored in some form
pub items-of : {X : Type 0} (value : X → Val) (xs : List X) → map (λ x. item (value x)) xs ≡ map item (map value xs)
items-of value [] = refl
items-of value (x ∷ xs) = ap (λ l. item (value x) ∷ l) (items-of value xs)

-- the entry of the value at an index
pub item-at : {X : Type 0} (value : X → Val) (xs : List X) (i : ℕ) (d : X) → i < length xs → slice_get (map item (map value xs)) i ≡ Some (item (value (get_or xs i d)))
item-at value xs i d within =
    slice_get-map item (map value xs) i
    ∙ ap (option_map item) (slice_get-map value xs i ∙ ap (option_map value) (slice_get-get_or xs i d within))

-- the values after a put at an index
pub values-put : (values : List Val) (key : Val) (i : ℕ) (val : Val) → key ≡ Int (pos i) → map item (slice_set values i val) ≡ after_put ListKind (map item values) key val
values-put values key i val is = map-set item values i val ∙ ap (λ k. after_put ListKind (map item values) k val) (sym is)

-- the value that a put at an index replaces
pub value-under : (values : List Val) (key : Val) (i : ℕ) (val : Val) → key ≡ Int (pos i) → slice_get values i ≡ Some val → Some val ≡ value_under ListKind (map item values) key
value-under values key i val is at =
    sym (ap (option_map (λ e. e.val)) (slice_get-map item values i ∙ ap (option_map item) at))
    ∙ ap (value_under ListKind (map item values)) (sym is)
