-- Entries at the indexes of an order: what a search finds, and the effect of a put or a take.
use Rattle.std.proofs.Common.{◌≡◌, ℕ, zero, suc, ◌+◌, ◌-◌, ◌<◌, Bool, true, false, List, [], ◌∷◌, ◌++◌, Option, Some, None, cond, refl, sym, ap, ◌∙◌, length, take, get_or, set, map, arith, IsSome, inl, inr, true≢false, option_map, Result, Ok, Err, OnErr}
use Rattle.std.specs.Prelude.{position, slice_get, remove, swap_remove, All}
use Rattle.std.specs.List.{position_from, range_with_len, IsDistinct}
use Rattle.std.specs.Map.{keys_of, lookup}
use Rattle.indexmap.specs.IndexMap.{swap_remove_entry}
use Rattle.indexmap.proofs.MapLemmas.{swap_remove_entry-found}
use Rattle.std.proofs.lemmas.Bool.{cases_lt, cases_eq}
use Rattle.std.proofs.lemmas.Iterator.Adapters.{position_from-zero}
use Rattle.std.proofs.lemmas.List.{length-set, length-map, length-take-le, get_or-set_same, get_or-set_other, get_or_append_left, get_or_push, get_or-map, get_or-take, length_push, same_lists, get_or_default, append-nil, map-append, map-set, take-map, take_all, take_more, take_at, drop_all}
use Rattle.std.proofs.lemmas.List.Edits.{length-remove}
use Rattle.std.proofs.lemmas.List.FromFn.{length-range_with_len, get_or-range_with_len}
use Rattle.std.proofs.lemmas.List.Quantifiers.{position-Some}
use Rattle.std.proofs.lemmas.List.Elements.{All-from_recursion}
use Rattle.std.proofs.lemmas.Map.Keys.{IsDistinct-tail, IsDistinct-head}
use Rattle.std.proofs.lemmas.Option.{none-some, slice_get-map, get_or_from_slice_get, slice_get_within, slice_get-get_or}
use Rattle.indexmap.proofs.SetLemmas.{map-remove}
use Rattle.cg_value.specs.declared.Val.{Val}
use Rattle.cg_value.specs.declared.Entry.{Entry}
use Rattle.cg_graph.specs.Value.{same_value, value_at, put}
use Rattle.cg_kind.specs.Calls.{has_key}
use Rattle.cg_kind.proofs.KeyLemmas.{Stands, key_found}
use Rattle.cg_kinds.specs.Order.{renamed, IsSound}
use Rattle.cg_kinds.specs.Pairs.{pair_entry, pairs_of, nothing, picked, ordered, IsOrderOf, IsSoundOrder}
use Rattle.cg_kinds.proofs.KeyLemmas.{equal, equal-same_value, same_is, not_first}
use Rattle.cg_kinds.proofs.PairLemmas.{find-packed, lookup-packed}
use Rattle.cg_kinds.proofs.FewLemmas.{found_first, found_entry, found_put, value_none, put_new}
use Rattle.cg_kinds.proofs.OrderLemmas.{IsOther, renamed_other, renamed_last}

-- the first position that passes a test
from_at : (t : Entry → Bool) (i k : ℕ) (es : List Entry) (d : Entry) → k < length es → t (get_or es k d) ≡ true → ((j : ℕ) → j < k → t (get_or es j d) ≡ false) → position_from t i es ≡ Some (i + k)
from_at t i k [] d within has before = absurd (omega (arith, within))
from_at t i zero (e ∷ es) d within has before =
    let n : i ≡ i + 0 = omega arith in
    ap (λ b. cond b (Some i) (position_from t (i + 1) es)) has ∙ ap (λ m. Some m) n
from_at t i (suc k) (e ∷ es) d within has before =
    let n : i + 1 + k ≡ i + suc k = omega arith in
    ap (λ b. cond b (Some i) (position_from t (i + 1) es)) (before 0 (omega arith))
    ∙ from_at t (i + 1) k es d (omega (arith, within)) has (λ j below. before (suc j) (omega (arith, below)))
    ∙ ap (λ m. Some m) n

pub position_at : (t : Entry → Bool) (k : ℕ) (es : List Entry) (d : Entry) → k < length es → t (get_or es k d) ≡ true → ((j : ℕ) → j < k → t (get_or es j d) ≡ false) → position t es ≡ Some k
position_at t k es d within has before = position_from-zero t es ∙ from_at t 0 k es d within has before ∙ ap (λ m. Some m) (omega arith)

-- no position passes the test
from_none : (t : Entry → Bool) (i : ℕ) (es : List Entry) (d : Entry) → ((j : ℕ) → j < length es → t (get_or es j d) ≡ false) → position_from t i es ≡ None
from_none t i [] d lacks = refl
from_none t i (e ∷ es) d lacks =
    ap (λ b. cond b (Some i) (position_from t (i + 1) es)) (lacks 0 (omega arith))
    ∙ from_none t (i + 1) es d (λ j below. lacks (suc j) (omega (arith, below)))

none_at : (t : Entry → Bool) (i : ℕ) (es : List Entry) (d : Entry) → position_from t i es ≡ None → (j : ℕ) → j < length es → t (get_or es j d) ≡ false
none_at t i [] d none j below = absurd (omega (arith, below))
none_at t i (e ∷ es) d none zero below = (not_first (t e) i (position_from t (i + 1) es) none).0
none_at t i (e ∷ es) d none (suc j) below = none_at t (i + 1) es d (not_first (t e) i (position_from t (i + 1) es) none).1 j (omega (arith, below))

-- no two entries have the same key
abbrev pub AreUnique : List Entry → Type 0
AreUnique es = (key : Val) (i j : ℕ) → i < length es → j < length es → has_key key (get_or es i nothing) ≡ true → has_key key (get_or es j nothing) ≡ true → i ≡ j

-- put replaces the entry of an existing key
put_set : (key val : Val) (es : List Entry) (k : ℕ) → position (has_key key) es ≡ Some k → put es key val ≡ set es k (record { key = (get_or es k nothing).key; val = val })
put_set key val es k is =
    let f = found_first key es k (sym (position_from-zero (has_key key) es) ∙ is) in
    sym (found_put key es k f (get_or es k nothing) val (found_entry key es k f nothing))

value_set : (key : Val) (es : List Entry) (k : ℕ) → position (has_key key) es ≡ Some k → value_at es key ≡ Some (get_or es k nothing).val
value_set key es k is =
    let f = found_first key es k (sym (position_from-zero (has_key key) es) ∙ is) in
    f.value ∙ ap (λ (e : Entry). Some e.val) (sym (found_entry key es k f nothing))

pub value_absent : (key : Val) (es : List Entry) → position (has_key key) es ≡ None → value_at es key ≡ None
value_absent key es none = value_none key 0 es (sym (position_from-zero (has_key key) es) ∙ none)

pub put_absent : (key val : Val) (es : List Entry) → position (has_key key) es ≡ None → put es key val ≡ es ++ record { key = key; val = val } ∷ []
put_absent key val es none = put_new es key val (value_absent key es none)

module _ (es : List Entry) (order : List ℕ) (within : All (λ index. index < length es) order) where
  index_within : (i : ℕ) → i < length order → get_or order i 0 < length es
  index_within i below = within i 0 below

  pub picked_at : (i : ℕ) (d : Entry) → i < length order → get_or (picked es order) i d ≡ get_or es (get_or order i 0) nothing
  picked_at i d below = get_or-map (λ index. get_or es index nothing) order i 0 d below

  pub length-picked : length (picked es order) ≡ length order
  length-picked = length-map order (λ index. get_or es index nothing)

  pub picked_none : (t : Entry → Bool) → position t es ≡ None → position t (picked es order) ≡ None
  picked_none t none =
      position_from-zero t (picked es order)
      ∙ from_none t 0 (picked es order) nothing (λ j below.
      let low : j < length order = omega (arith, below, length-picked) in
      ap t (picked_at j nothing low) ∙ none_at t 0 es nothing (sym (position_from-zero t es) ∙ none) (get_or order j 0) (index_within j low))

  module _ (index place : ℕ) (at : slice_get order place ≡ Some index) (only : (other : ℕ) → slice_get order other ≡ Some index → other ≡ place) where
    place_within : place < length order
    place_within = slice_get_within order place index at

    place_is : get_or order place 0 ≡ index
    place_is = get_or_from_slice_get order place index 0 at

    only_here : (j : ℕ) → j < length order → get_or order j 0 ≡ index → j ≡ place
    only_here j below is = only j (slice_get-get_or order j 0 below ∙ ap Some is)

    -- the entry at an index is found at the index's place
    pub picked_some : AreUnique es → (key : Val) → position (has_key key) es ≡ Some index → position (has_key key) (picked es order) ≡ Some place
    picked_some unique key found =
        position_at (has_key key) place (picked es order) nothing (omega (arith, place_within, length-picked)) here before
      where
        has : has_key key (get_or es index nothing) ≡ true
        has = (position-Some (has_key key) es index nothing found).1

        here : has_key key (get_or (picked es order) place nothing) ≡ true
        here = ap (has_key key) (picked_at place nothing place_within ∙ ap (λ n. get_or es n nothing) place_is) ∙ has

        before : (j : ℕ) → j < place → has_key key (get_or (picked es order) j nothing) ≡ false
        before j below = by (has_key key (get_or (picked es order) j nothing)) refl
          where
            by : (b : Bool) → has_key key (get_or (picked es order) j nothing) ≡ b → has_key key (get_or (picked es order) j nothing) ≡ false
            by false is = is
            by true is =
                let low : j < length order = omega (arith, below, place_within) in
                let same = unique key (get_or order j 0) index (index_within j low) (position-Some (has_key key) es index nothing found).0
                (sym (ap (has_key key) (picked_at j nothing low)) ∙ is) has in
                absurd (omega (arith, below, only_here j low same))

    -- replacing the entry at an index replaces it at the index's place
    pub picked_set : (e : Entry) → index < length es → picked (set es index e) order ≡ set (picked es order) place e
    picked_set e below =
        same_lists (picked (set es index e) order) (set (picked es order) place e)
        (length-map order (λ i. get_or (set es index e) i nothing) ∙ sym (length-set (picked es order) place e ∙ length-picked))
        (λ j d high. at_each j d (omega (arith, high, length-map order (λ i. get_or (set es index e) i nothing))))
      where
        at_each : (j : ℕ) (d : Entry) → j < length order → get_or (picked (set es index e) order) j d ≡ get_or (set (picked es order) place e) j d
        at_each j d low = elim (cases_eq j place) [
          | inl same ↦
              get_or-map (λ i. get_or (set es index e) i nothing) order j 0 d low
              ∙ ap (λ n. get_or (set es index e) (get_or order n 0) nothing) same
              ∙ ap (λ n. get_or (set es index e) n nothing) place_is
              ∙ get_or-set_same es index e nothing below
              ∙ sym (ap (λ n. get_or (set (picked es order) place e) n d) same ∙ get_or-set_same (picked es order) place e d (omega (arith, place_within, length-picked)))
          | inr differs ↦
              get_or-map (λ i. get_or (set es index e) i nothing) order j 0 d low
              ∙ get_or-set_other es index (get_or order j 0) e nothing (λ is. differs (only_here j low is))
              ∙ sym (get_or-set_other (picked es order) place j e d differs ∙ picked_at j d low)
        ]

    pub picked_put : AreUnique es → (key val : Val) → position (has_key key) es ≡ Some index → picked (put es key val) order ≡ put (picked es order) key val
    picked_put unique key val found =
        ap (λ l. picked l order) (put_set key val es index found)
        ∙ picked_set (record { key = (get_or es index nothing).key; val = val }) (position-Some (has_key key) es index nothing found).0
        ∙ ap (λ (e : Entry). set (picked es order) place (record { key = e.key; val = val })) (sym entry)
        ∙ sym (put_set key val (picked es order) place (picked_some unique key found))
      where
        entry : get_or (picked es order) place nothing ≡ get_or es index nothing
        entry = picked_at place nothing place_within ∙ ap (λ n. get_or es n nothing) place_is

    pub picked_value : AreUnique es → (key : Val) → position (has_key key) es ≡ Some index → value_at (picked es order) key ≡ value_at es key
    picked_value unique key found =
        value_set key (picked es order) place (picked_some unique key found)
        ∙ ap (λ (e : Entry). Some e.val) (picked_at place nothing place_within ∙ ap (λ n. get_or es n nothing) place_is)
        ∙ sym (value_set key es index found)

-- an entry appended to both
pub picked_push : (es : List Entry) (order : List ℕ) (e : Entry) → All (λ index. index < length es) order → length order ≡ length es
    → picked (es ++ e ∷ []) (order ++ length order ∷ []) ≡ picked es order ++ e ∷ []
picked_push es order e within long =
    map-append (λ index. get_or (es ++ e ∷ []) index nothing) order (length order ∷ [])
    ∙ ap (λ l. l ++ get_or (es ++ e ∷ []) (length order) nothing ∷ []) same
    ∙ ap (λ x. picked es order ++ x ∷ []) (get_or_push es e nothing (length order) (sym long))
  where
    same : map (λ index. get_or (es ++ e ∷ []) index nothing) order ≡ picked es order
    same =
        same_lists _ _ (length-map order (λ index. get_or (es ++ e ∷ []) index nothing) ∙ sym (length-map order (λ index. get_or es index nothing)))
        (λ j d high.
        let low : j < length order = omega (arith, high, length-map order (λ index. get_or (es ++ e ∷ []) index nothing)) in
        get_or-map (λ index. get_or (es ++ e ∷ []) index nothing) order j 0 d low
        ∙ get_or_append_left es (e ∷ []) nothing (get_or order j 0) (within j 0 low)
        ∙ sym (get_or-map (λ index. get_or es index nothing) order j 0 d low))

-- the map's own order, written out
pub picked_all : (es : List Entry) (count : ℕ) → count ≡ length es → picked es (range_with_len 0 count) ≡ es
picked_all es count long =
    same_lists _ es (length-map (range_with_len 0 count) (λ index. get_or es index nothing) ∙ length-range_with_len 0 count ∙ long)
    (λ j d high.
    let low : j < count = omega (arith, high, length-map (range_with_len 0 count) (λ index. get_or es index nothing), length-range_with_len 0 count) in
    let in_range : j < length (range_with_len 0 count) = omega (arith, low, length-range_with_len 0 count) in
    get_or-map (λ index. get_or es index nothing) (range_with_len 0 count) j 0 d in_range
    ∙ ap (λ n. get_or es n nothing) (get_or-range_with_len 0 count j 0 low ∙ (omega arith))
    ∙ get_or_default es j nothing d (omega (arith, low, long)))

distinct_pairs : (pairs : List (Val × Val)) → IsDistinct equal (keys_of pairs) → (key : Val) (i j : ℕ) → i < j → j < length pairs
    → has_key key (get_or (pairs_of pairs) i nothing) ≡ true → has_key key (get_or (pairs_of pairs) j nothing) ≡ true → ⊥
distinct_pairs [] distinct key i j below within here there = absurd (omega (arith, within))
distinct_pairs (p ∷ pairs) distinct key i zero below within here there = absurd (omega (arith, below))
distinct_pairs (p ∷ pairs) distinct key zero (suc j) below within here there =
    let low : j < length pairs = omega (arith, within) in
    let head = All-from_recursion (λ k. equal p.0 k ≡ false) (keys_of pairs) (IsDistinct-head equal p.0 (keys_of pairs) distinct) j (get_or pairs j p).0
    (omega (arith, low, length-map pairs (λ (q : Val × Val). q.0))) in
    let key_is : get_or (keys_of pairs) j (get_or pairs j p).0 ≡ (get_or pairs j p).0 = get_or-map (λ (q : Val × Val). q.0) pairs j p (get_or pairs j p).0 low in
    let lacks : equal p.0 (get_or pairs j p).0 ≡ false = sym (ap (equal p.0) key_is) ∙ head in
    let other : (get_or pairs j p).0 ≡ key = same_is (get_or pairs j p).0 key (sym (ap (has_key key) (get_or-map pair_entry pairs j p nothing low)) ∙ there) in
    let first : p.0 ≡ key = same_is p.0 key here in
    let yes : equal p.0 (get_or pairs j p).0 ≡ true = equal-same_value p.0 (get_or pairs j p).0 ∙ ap (λ k. same_value (get_or pairs j p).0 k) first
    ∙ sym (ap (has_key key) (get_or-map pair_entry pairs j p nothing low)) ∙ there in
    absurd (true≢false (sym yes ∙ lacks))
distinct_pairs (p ∷ pairs) distinct key (suc i) (suc j) below within here there = distinct_pairs pairs (IsDistinct-tail equal p.0 (keys_of pairs) distinct) key
    i j (omega (arith, below)) (omega (arith, within)) here there

pub unique_pairs : (pairs : List (Val × Val)) → IsDistinct equal (keys_of pairs) → AreUnique (pairs_of pairs)
unique_pairs pairs distinct = λ key i j i_within j_within here there. elim (cases_lt i j) [
  | inl below ↦ absurd (distinct_pairs pairs distinct key i j below (omega (arith, j_within, length-map pairs pair_entry)) here there)
  | inr above ↦ elim (cases_eq i j) [
    | inl same ↦ same
    | inr differs ↦ absurd (distinct_pairs pairs distinct key j i (omega (arith, above, differs)) (omega (arith, i_within, length-map pairs pair_entry)) there here)
  ]
]

module _ (pairs : List (Val × Val)) where
  long_enough : (order : List ℕ) → length order ≡ length pairs → IsSound order → All (λ index. index < length (pairs_of pairs)) order
  long_enough order long sound = λ k d within. omega (arith, sound.within k d within, long, length-map pairs pair_entry)

  -- the result of a look-up in an ordered table, and the table after a put
  pub ordered_none : (order : Option (List ℕ)) → IsOrderOf (length pairs) order → IsSoundOrder order → (key : Val) → position (has_key key) (pairs_of pairs)
      ≡ None → position (has_key key) (ordered pairs order) ≡ None
  ordered_none None long sound key none = none
  ordered_none (Some order) long sound key none = picked_none (pairs_of pairs) order (long_enough order long sound) (has_key key) none

  pub ordered_some : (order : List ℕ) → length order ≡ length pairs → IsSound order → IsDistinct equal (keys_of pairs) → (index place : ℕ)
      → slice_get order place ≡ Some index → ((other : ℕ) → slice_get order other ≡ Some index → other ≡ place)
      → (key : Val) → position (has_key key) (pairs_of pairs) ≡ Some index → position (has_key key) (picked (pairs_of pairs) order) ≡ Some place
  ordered_some order long sound distinct index place at only key found =
      picked_some (pairs_of pairs) order (long_enough order long sound) index place at only (unique_pairs pairs distinct) key found

  -- an existing key
  pub ordered_put : (order : Option (List ℕ)) → IsOrderOf (length pairs) order → IsSoundOrder order → IsDistinct equal (keys_of pairs)
      → (index : ℕ) (key val : Val) → position (has_key key) (pairs_of pairs) ≡ Some index
      → (now : List (Val × Val)) → pairs_of now ≡ put (pairs_of pairs) key val → ordered now order ≡ put (ordered pairs order) key val
  ordered_put None long sound distinct index key val found now is = is
  ordered_put (Some order) long sound distinct index key val found now is =
      let below = (position-Some (has_key key) (pairs_of pairs) index nothing found).0 in
      let p = sound.placed index (omega (arith, below, long, length-map pairs pair_entry)) in
      ap (λ l. picked l order) is ∙ picked_put (pairs_of pairs) order (long_enough order long sound) index p.place p.at p.only (unique_pairs pairs distinct) key val found

  pub ordered_value : (order : Option (List ℕ)) → IsOrderOf (length pairs) order → IsSoundOrder order → IsDistinct equal (keys_of pairs) → (key : Val)
      (now : List Entry) → ordered pairs order ≡ now → value_at now key ≡ value_at (pairs_of pairs) key
  ordered_value None long sound distinct key now view = ap (λ es. value_at es key) (sym view)
  ordered_value (Some order) long sound distinct key now view = ap (λ es. value_at es key) (sym view) ∙ by (position (has_key key) (pairs_of pairs)) refl
    where
      by : (r : Option ℕ) → position (has_key key) (pairs_of pairs) ≡ r → value_at (picked (pairs_of pairs) order) key ≡ value_at (pairs_of pairs) key
      by None none = value_absent key (picked (pairs_of pairs) order) (picked_none (pairs_of pairs) order (long_enough order long sound) (has_key key) none)
          ∙ sym (value_absent key (pairs_of pairs) none)
      by (Some index) found =
          let below = (position-Some (has_key key) (pairs_of pairs) index nothing found).0 in
          let p = sound.placed index (omega (arith, below, long, length-map pairs pair_entry)) in
          picked_value (pairs_of pairs) order (long_enough order long sound) index p.place p.at p.only (unique_pairs pairs distinct) key found

  -- a new key
  pub ordered_push : (order : Option (List ℕ)) → IsOrderOf (length pairs) order → IsSoundOrder order → (key val : Val) → position (has_key key) (pairs_of pairs) ≡ None
      → (now : List (Val × Val)) → pairs_of now ≡ put (pairs_of pairs) key val → ordered now (option_map (λ o. o ++ length o ∷ []) order) ≡ put (ordered pairs order) key val
  ordered_push None long sound key val none now is = is
  ordered_push (Some order) long sound key val none now is =
      ap (λ l. picked l (order ++ length order ∷ [])) (is ∙ put_absent key val (pairs_of pairs) none)
      ∙ picked_push (pairs_of pairs) order (record { key = key; val = val }) (long_enough order long sound) (long ∙ sym (length-map pairs pair_entry))
      ∙ sym (put_absent key val (picked (pairs_of pairs) order) (picked_none (pairs_of pairs) order (long_enough order long sound) (has_key key) none))

-- the value of a packed key in the map
pub lookup-ordered : (pairs : List (Val × Val)) (order : Option (List ℕ)) → IsOrderOf (length pairs) order → IsSoundOrder order → IsDistinct equal (keys_of pairs)
    → (key packed : Val) → packed ≡ key → (now : List Entry) → ordered pairs order ≡ now → lookup (equal packed) pairs ≡ value_at now key
lookup-ordered pairs order long sound distinct key packed is now view = lookup-packed key packed is pairs ∙ sym (ordered_value pairs order long sound distinct key now view)

-- whether a key is present decides its position
pub position_absent : (key : Val) (es : List Entry) → value_at es key ≡ None → position (has_key key) es ≡ None
position_absent key es none = by (position (has_key key) es) refl
  where
    by : (r : Option ℕ) → position (has_key key) es ≡ r → position (has_key key) es ≡ None
    by None is = is
    by (Some k) is = absurd (none-some (get_or es k nothing).val (sym none ∙ value_set key es k is))

pub record HasIndex (key : Val) (es : List Entry) : Type 0 where
  pub index : ℕ
  pub found : position (has_key key) es ≡ Some index

pub has_index : (key : Val) (es : List Entry) (val : Val) → value_at es key ≡ Some val → HasIndex key es
has_index key es val some = by (position (has_key key) es) refl
  where
    by : (r : Option ℕ) → position (has_key key) es ≡ r → HasIndex key es
    by None is = absurd (none-some val (sym (value_absent key es is) ∙ some))
    by (Some k) is = record { index = k; found = is }

-- the entry at a place of the order
pub picked_slice : (es : List Entry) (order : List ℕ) (i index : ℕ) → slice_get order i ≡ Some index → slice_get (picked es order) i ≡ Some (get_or es index nothing)
picked_slice es order i index at = slice_get-map (λ n. get_or es n nothing) order i ∙ ap (option_map (λ n. get_or es n nothing)) at

-- the entry of a key at an index of the map is at the index's place in the order
pub record StandsIn (es : List Entry) (order : List ℕ) (key : Val) (index : ℕ) : Type 0 where
  pub place : ℕ
  pub at : slice_get order place ≡ Some index
  pub below : index < length order
  pub there : Stands (picked es order) key place (get_or es index nothing)

pub ordered_stands : (pairs : List (Val × Val)) (order : List ℕ) → length order ≡ length pairs → IsSound order → IsDistinct equal (keys_of pairs)
    → (index : ℕ) (key : Val) → position (has_key key) (pairs_of pairs) ≡ Some index
    → StandsIn (pairs_of pairs) order key index
ordered_stands pairs order long sound distinct index key found =
    let below : index < length order = omega (arith, (position-Some (has_key key) (pairs_of pairs) index nothing found).0, long, length-map pairs pair_entry) in
    let p = sound.placed index below in
    record {
      place = p.place;
      at = p.at;
      below = below;
      there = key_found (picked (pairs_of pairs) order) key p.place (get_or (pairs_of pairs) index nothing)
          (ordered_some pairs order long sound distinct index p.place p.at p.only key found)
          (picked_slice (pairs_of pairs) order p.place index p.at);
    }

-- what remains after the last entry has moved into the place of the removed one
pub picked_take : (es now : List Entry) (order : List ℕ) (i index : ℕ) → length order ≡ length es → index < length order → All (IsOther order index)
    (remove order i) → now ≡ swap_remove es index nothing
    → picked now (map (renamed (length order - 1) index) (remove order i)) ≡ remove (picked es order) i
picked_take es now order i index long low others is =
    same_lists (picked now (map ren (remove order i))) (picked es (remove order i))
    (length-map (map ren (remove order i)) (λ n. get_or now n nothing) ∙ length-map (remove order i) ren ∙ sym (length-map (remove order i) (λ n. get_or es n nothing)))
    (λ j d high. at_each j d (omega (arith, high, length-map (map ren (remove order i)) (λ n. get_or now n nothing), length-map (remove order i) ren)))
    ∙ map-remove (λ n. get_or es n nothing) order i
  where
    ren : ℕ → ℕ
    ren = renamed (length order - 1) index

    swapped : (r : ℕ) → r < length es - 1 → get_or now r nothing ≡ get_or (set es index (get_or es (length es - 1) nothing)) r nothing
    swapped r below = ap (λ l. get_or l r nothing) is ∙ get_or-take (length es - 1) (set es index (get_or es (length es - 1) nothing)) r nothing below

    same : (q : ℕ) → IsOther order index q → get_or now (ren q) nothing ≡ get_or es q nothing
    same q other = elim (cases_eq q (length order - 1)) [
      | inl last ↦
          let differs = other.1 in
          let below : index < length es - 1 = omega (arith, low, long, λ (at : index ≡ length order - 1). differs (last ∙ sym at)) in
          let n : length es - 1 ≡ q = omega (arith, last, long) in
          ap (λ m. get_or now (ren m) nothing) last
          ∙ ap (λ m. get_or now m nothing) (renamed_last (length order - 1) index)
          ∙ swapped index below
          ∙ get_or-set_same es index (get_or es (length es - 1) nothing) nothing (omega (arith, below))
          ∙ ap (λ m. get_or es m nothing) n
      | inr differs ↦
          ap (λ m. get_or now m nothing) (renamed_other (length order - 1) index q differs)
          ∙ swapped q (omega (arith, differs, other.0, long))
          ∙ get_or-set_other es index q (get_or es (length es - 1) nothing) nothing other.1
    ]

    at_each : (j : ℕ) (d : Entry) → j < length (remove order i) → get_or (picked now (map ren (remove order i))) j d ≡ get_or (picked es (remove order i)) j d
    at_each j d below =
        get_or-map (λ n. get_or now n nothing) (map ren (remove order i)) j 0 d (omega (arith, below, length-map (remove order i) ren))
        ∙ ap (λ m. get_or now m nothing) (get_or-map ren (remove order i) j 0 0 below)
        ∙ same (get_or (remove order i) j 0) (others j 0 below)
        ∙ sym (get_or-map (λ n. get_or es n nothing) (remove order i) j 0 d below)

pub pairs_of-swap : (pairs : List (Val × Val)) (index : ℕ) (p : Val × Val) → index < length pairs → pairs_of (swap_remove pairs index p) ≡ swap_remove (pairs_of pairs) index nothing
pairs_of-swap pairs index p below =
    let n = length-map pairs pair_entry in
    sym (take-map pair_entry (length pairs - 1) (set pairs index (get_or pairs (length pairs - 1) p)))
    ∙ ap (take (length pairs - 1)) (map-set pair_entry pairs index (get_or pairs (length pairs - 1) p))
    ∙ ap (λ e. take (length pairs - 1) (set (pairs_of pairs) index e)) (sym (get_or-map pair_entry pairs (length pairs - 1) p nothing (omega (arith, below))))
    ∙ ap (λ m. take (m - 1) (set (pairs_of pairs) index (get_or (pairs_of pairs) (m - 1) nothing))) (sym n)

pub last_taken : (es : List Entry) (e : Entry) (i : ℕ) → i + 1 ≡ length es → slice_get es i ≡ Some e → es ≡ remove es i ++ e ∷ []
last_taken es e i long at =
    let below : i < length es = omega (arith, long) in
    let n : suc i ≡ length es = omega (arith, long) in
    sym (take_all (i + 1) es (omega (arith, long)))
    ∙ take_more es i e below
    ∙ ap (λ x. take i es ++ x ∷ []) (get_or_from_slice_get es i e e at)
    ∙ ap (λ l. l ++ e ∷ []) (sym (append-nil (take i es)) ∙ ap (λ l. take i es ++ l) (sym (drop_all (suc i) es (omega (arith, n)))))

pub length-swapped : (es : List Entry) (index : ℕ) (d : Entry) → length (swap_remove es index d) ≡ length es - 1
length-swapped es index d = length-take-le (length es - 1) (set es index (get_or es (length es - 1) d)) (omega (arith, length-set es index (get_or es (length es - 1) d)))

-- after one is taken, there are still as many places as pairs
pub taken_as_long : (pairs now : List (Val × Val)) (order order_now : List ℕ) (i index : ℕ) → slice_get order i ≡ Some index → length order ≡ length pairs
    → order_now ≡ map (renamed (length order - 1) index) (remove order i) → pairs_of now ≡ swap_remove (pairs_of pairs) index nothing → length order_now ≡ length now
taken_as_long pairs now order order_now i index at long rest swapped =
    omega (
      arith,
      ap length rest,
      length-map (remove order i) (renamed (length order - 1) index),
      length-remove order i (slice_get_within order i index at),
      long,
      ap length swapped,
      length-swapped (pairs_of pairs) index nothing,
      length-map pairs pair_entry,
      length-map now pair_entry,
    )

pub length-ordered : (pairs : List (Val × Val)) (order : Option (List ℕ)) → IsOrderOf (length pairs) order → length (ordered pairs order) ≡ length pairs
length-ordered pairs None long = length-map pairs pair_entry
length-ordered pairs (Some order) long = length-map order (λ index. get_or (pairs_of pairs) index nothing) ∙ long

-- a fact that holds after an error
pub on_err : {T E : Type 0} (r : Result T E) (P : Type 0) → P → OnErr r P
on_err (Ok x) P p = tt
on_err (Err e) P p = p

pub none_some : IsSome {T = Val} None → ⊥
none_some some = cc

-- one more pair, and one more place in the order
pub order_longer : (order : Option (List ℕ)) (count : ℕ) → IsOrderOf count order → IsOrderOf (count + 1) (option_map (λ o. o ++ length o ∷ []) order)
order_longer None count long = tt
order_longer (Some order) count long = length_push order (length order) ∙ ap (λ n. n + 1) long

-- a pair removed from a map, as an entry
pub entry-pair : (pairs : List (Val × Val)) (index : ℕ) (pair : Val × Val) → slice_get pairs index ≡ Some pair → pair_entry pair ≡ get_or (pairs_of pairs) index nothing
entry-pair pairs index pair at =
    sym (get_or_from_slice_get (pairs_of pairs) index (pair_entry pair) nothing (slice_get-map pair_entry pairs index ∙ ap (option_map pair_entry) at))

-- the entry of a key that a map has at an index
pub entry_found : (pairs : List (Val × Val)) (key : Val) (index : ℕ) (val : Val) → position (has_key key) (pairs_of pairs) ≡ Some index
    → value_at (pairs_of pairs) key ≡ Some val → record { key = key; val = val } ≡ get_or (pairs_of pairs) index nothing
entry_found pairs key index val found value =
    let es = pairs_of pairs in
    by (get_or es index nothing) (same_is (get_or es index nothing).key key (position-Some (has_key key) es index nothing found).1) (sym value ∙ value_set key es index found)
  where
    some_val : (v w : Val) → Some v ≡ Some w → v ≡ w
    some_val v w h = cc

    by : (e : Entry) → e.key ≡ key → Some val ≡ Some e.val → record { key = key; val = val } ≡ e
    by e key_is val_is = ap (λ k. record { key = k; val = val }) (sym key_is) ∙ ap (λ v. record { key = e.key; val = v }) (some_val val e.val val_is)

-- a map without the pair of a key that it has at an index
pub swapped-out : (pairs now : List (Val × Val)) (key packed : Val) (index : ℕ) → packed ≡ key → position (equal packed) (keys_of pairs) ≡ Some index → now
    ≡ swap_remove_entry (equal packed) pairs → pairs_of now ≡ swap_remove (pairs_of pairs) index nothing
swapped-out pairs now key packed index is found rest =
    let below = (position-Some (has_key key) (pairs_of pairs) index nothing (sym (find-packed key packed is pairs) ∙ found)).0 in
    ap pairs_of (rest ∙ swap_remove_entry-found (equal packed) pairs index (key, key) found)
    ∙ pairs_of-swap pairs index (key, key) (omega (arith, below, length-map pairs pair_entry))

-- pairs that are the same entries are the same in each order
pub ordered_same : (pairs now : List (Val × Val)) (order : Option (List ℕ)) → pairs_of now ≡ pairs_of pairs → ordered now order ≡ ordered pairs order
ordered_same pairs now None is = is
ordered_same pairs now (Some order) is = ap (λ l. picked l order) is

-- replacing the value of an existing key adds no pair
pub put_as_long : (pairs now : List (Val × Val)) (key val was : Val) → value_at (pairs_of pairs) key ≡ Some was → pairs_of now ≡ put (pairs_of pairs) key val → length now ≡ length pairs
put_as_long pairs now key val was there is =
    let es = pairs_of pairs in
    let at = has_index key es was there in
    sym (length-map now pair_entry)
    ∙ ap length (is ∙ put_set key val es at.index at.found)
    ∙ length-set es at.index (record { key = (get_or es at.index nothing).key; val = val })
    ∙ length-map pairs pair_entry

-- a new pair, and the table after it is removed again
module _ (pairs now : List (Val × Val)) (key val : Val) (new : value_at (pairs_of pairs) key ≡ None) (is : pairs_of now ≡ put (pairs_of pairs) key val) where
  pub put_longer : length now ≡ length pairs + 1
  put_longer =
      sym (length-map now pair_entry)
      ∙ ap length (is ∙ put_new (pairs_of pairs) key val new)
      ∙ length_push (pairs_of pairs) (record { key = key; val = val })
      ∙ ap (λ n. n + 1) (length-map pairs pair_entry)

  pub put_back : pairs_of (take (length now - 1) now) ≡ pairs_of pairs
  put_back =
      sym (take-map pair_entry (length now - 1) now)
      ∙ ap (take (length now - 1)) (is ∙ put_new (pairs_of pairs) key val new)
      ∙ take_at (pairs_of pairs) (record { key = key; val = val } ∷ []) (length now - 1) (omega (arith, put_longer, length-map pairs pair_entry))

  pub left_as_long : length (take (length now - 1) now) ≡ length pairs
  left_as_long = sym (length-map (take (length now - 1) now) pair_entry) ∙ ap length put_back ∙ length-map pairs pair_entry
