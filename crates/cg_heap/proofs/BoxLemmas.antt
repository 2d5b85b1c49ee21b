-- One of the six boxes, before and after a call on it.
use Rattle.std.proofs.Common.{◌≡◌, ℕ, ◌+◌, ◌<◌, List, [], ◌∷◌, ◌++◌, map, length, get_or, set, Option, Some, None, refl, sym, ap, ◌∙◌, subst, arith}
use Rattle.std.specs.Prelude.{OnSome, IfNone, IsTrue, IsSome, is_some, ◌↔◌, position, cond, if◌then◌else◌, Bool, true, false}
use Rattle.std.specs.List.{position_from}
use Rattle.std.proofs.lemmas.Iterator.Adapters.{position_from-zero}
use Rattle.std.proofs.lemmas.List.{get_or-set_same, length-map, get_or-map, map-set}
use Rattle.std.proofs.Math.Seq.{map-set_same}
use Rattle.std.specs.FinMap as fin
use Rattle.cg_value.specs.declared.KindCode.{KindCode}
use Rattle.cg_value.specs.declared.KindCode.TheVariants.{List as ListKind, Tuple, Dict, Inst, Func, Weak}
use Rattle.cg_value.specs.declared.Entry.{Entry}
use Rattle.cg_value.specs.declared.Val.{Val}
use Rattle.cg_graph.specs.Value.{item, same_value, value_at}
use Rattle.cg_kind.specs.Bodies.{Bodies, with_body, entries_at, spare_at}
use Rattle.cg_kind.specs.Calls.{has_key, value_under}
use Rattle.cg_heap.specs.Calls.{IsMutable}
use Rattle.cg_heap.specs.Boxes.{six_kinds, code_index, bodies_at, boxes_with, boxes_with_body, entries_in_box, spare_in_box}

pub code_index-below : (c : KindCode) → code_index c < 6
code_index-below ListKind = omega arith
code_index-below Tuple = omega arith
code_index-below Dict = omega arith
code_index-below Inst = omega arith
code_index-below Func = omega arith
code_index-below Weak = omega arith

at_index : (c : KindCode) → get_or six_kinds (code_index c) ListKind ≡ c
at_index ListKind = refl
at_index Tuple = refl
at_index Dict = refl
at_index Inst = refl
at_index Func = refl
at_index Weak = refl

-- kinds have different indexes
pub one_index : (c d : KindCode) → code_index c ≡ code_index d → c ≡ d
one_index c d same = sym (at_index c) ∙ ap (λ i. get_or six_kinds i ListKind) same ∙ at_index d

six_kinds-at : (c : KindCode) → get_or six_kinds (code_index c) c ≡ c
six_kinds-at ListKind = refl
six_kinds-at Tuple = refl
six_kinds-at Dict = refl
six_kinds-at Inst = refl
six_kinds-at Func = refl
six_kinds-at Weak = refl

module _ {K : Type 0} (kind : K → KindCode) (bodies : K → Bodies) (items : List K) (six : map kind items ≡ six_kinds) {old : List Bodies}
    (view : map bodies items ≡ old) (code : KindCode) {i : ℕ} (index : i ≡ code_index code) {k : K} (at : k ≡ get_or items i k) where
  pub box_there : i < length items
  box_there = omega (arith, sym (length-map items kind) ∙ ap length six, index, code_index-below code)

  pub box_kind : kind k ≡ code
  box_kind = ap kind at ∙ sym (get_or-map kind items i k code box_there) ∙ (λ j. get_or (six j) (index j) code) ∙ six_kinds-at code

  pub box_bodies : bodies k ≡ bodies_at old code
  box_bodies =
      ap bodies at ∙ sym (get_or-map bodies items i k fin.empty box_there)
      ∙ (λ j. get_or (view j) (index j) fin.empty)

  -- another box put in its place
  module _ (l : K) (same : kind l ≡ kind k) where
    pub six_after : map kind (set items i l) ≡ six_kinds
    six_after = map-set_same kind items i l k (same ∙ ap kind at) ∙ six

    pub box_after : bodies_at (map bodies (set items i l)) code ≡ bodies l
    box_after =
        ap (λ all. bodies_at all code) (map-set bodies items i l)
        ∙ ap (λ j. get_or (set (map bodies items) i (bodies l)) j fin.empty) (sym index)
        ∙ get_or-set_same (map bodies items) i (bodies l) fin.empty (omega (arith, length-map items bodies, box_there))

    pub box_written : (f : KindCode → Bodies → Bodies) → bodies l ≡ f (kind k) (bodies k) → map bodies (set items i l) ≡ boxes_with old code (f code (bodies_at old code))
    box_written f is = map-set bodies items i l ∙ (λ j. set (view j) (index j) ((is ∙ (λ m. f (box_kind m) (box_bodies m))) j))

    pub box_unchanged : bodies l ≡ bodies k → map bodies (set items i l) ≡ old
    box_unchanged is = map-set_same bodies items i l k (is ∙ ap bodies at) ∙ view

    -- making a body, whose spare capacity is the box's
    pub box_made : (at' : ℕ) (entries : List Entry) → bodies l ≡ with_body (bodies k) at' entries (spare_at (bodies l) at') → map bodies (set items i l)
        ≡ boxes_with_body old code at' entries (spare_in_box (map bodies (set items i l)) code at')
    box_made at' entries is =
        box_written (λ _ b. with_body b at' entries (spare_at (bodies l) at')) is
        ∙ ap (λ b. boxes_with_body old code at' entries (spare_at b at')) (sym box_after)

    pub box_appended : (at' : ℕ) (x : Val) → bodies l ≡ with_body (bodies k) at' (entries_at (bodies k) at' ++ item x ∷ []) (spare_at (bodies l) at')
        → map bodies (set items i l) ≡ boxes_with_body old code at' (entries_in_box old code at' ++ item x ∷ []) (spare_in_box (map bodies (set items i l)) code
        at')
    box_appended at' x is =
        box_written (λ _ b. with_body b at' (entries_at b at' ++ item x ∷ []) (spare_at (bodies l) at')) is
        ∙ ap (λ b. boxes_with_body old code at' (entries_in_box old code at' ++ item x ∷ []) (spare_at b at')) (sym box_after)

    pub box_reserved : (at' : ℕ) → bodies l ≡ with_body (bodies k) at' (entries_at (bodies k) at') (spare_at (bodies l) at') → map bodies (set items i l)
        ≡ boxes_with_body old code at' (entries_in_box old code at') (spare_in_box (map bodies (set items i l)) code at')
    box_reserved at' is =
        box_written (λ _ b. with_body b at' (entries_at b at') (spare_at (bodies l) at')) is
        ∙ ap (λ b. boxes_with_body old code at' (entries_in_box old code at') (spare_at b at')) (sym box_after)

-- a weaker clause
pub on_some_weaker : {X P Q : Type 0} (r : Option X) → (P → Q) → OnSome r P → OnSome r Q
on_some_weaker None f h = tt
on_some_weaker (Some x) f h = f h

pub if_none_weaker : {X P Q : Type 0} (r : Option X) → (P → Q) → IfNone r P → IfNone r Q
if_none_weaker None f h = f h
if_none_weaker (Some x) f h = tt

-- a key with a value has a first position
found_next : (b : Bool) (i : ℕ) (v : Val) (p : Option ℕ) (w : Option Val) → is_some p ≡ is_some w → is_some (cond b (Some i) p) ≡ is_some (if b then Some v else w)
found_next true i v p w e = refl
found_next false i v p w e = e

found_from : (key : Val) (i : ℕ) (es : List Entry) → is_some (position_from (has_key key) i es) ≡ is_some (value_at es key)
found_from key i [] = refl
found_from key i (e ∷ es) = found_next (same_value e.key key) i e.val (position_from (has_key key) (i + 1) es) (value_at es key) (found_from key (i + 1) es)

is_there : (b : Bool) (x : Option Val) → b ≡ is_some x → IsTrue b ↔ IsSome x
is_there b x e = subst (λ c. IsTrue c ↔ IsSome x) (sym e) (known x)
  where
    known : (y : Option Val) → IsTrue (is_some y) ↔ IsSome y
    known None = (λ h. h, λ h. h)
    known (Some y) = (λ h. refl, λ h. refl)

pub value_found : (code : KindCode) (es : List Entry) (key : Val) (b : Bool) (r : Option ℕ) → (code ≡ ListKind → ⊥) → IsMutable code → b ≡ is_some r → r
    ≡ position (has_key key) es → IsTrue b ↔ IsSome (value_under code es key)
value_found ListKind es key b r other mutable is found = absurd (other refl)
value_found Tuple es key b r other mutable is found = absurd mutable
value_found Dict es key b r other mutable is found = is_there b (value_at es key) (is ∙ ap is_some (found ∙ position_from-zero (has_key key) es) ∙ found_from key 0 es)
value_found Inst es key b r other mutable is found = is_there b (value_at es key) (is ∙ ap is_some (found ∙ position_from-zero (has_key key) es) ∙ found_from key 0 es)
value_found Func es key b r other mutable is found = absurd mutable
value_found Weak es key b r other mutable is found = absurd mutable
