-- The fields after a node is moved.
use Rattle.std.proofs.Common.{◌≡◌, ◌≢◌, ℕ, ◌+◌, ◌-◌, ◌<◌, ◌^◌, true, List, [], ◌∷◌, map, length, Some, None, refl, sym, ap, ◌∙◌, subst, inl, inr, arith}
use Rattle.std.specs.Prelude.{IfSome, is_some, option_map, unwrap_or, slice_set}
use Rattle.std.proofs.lemmas.Bool.{cases_eq}
use Rattle.std.proofs.lemmas.List.{length-map, length-set}
use Rattle.slab.specs.Slab.{Slab, get, ContainsKey}
use Rattle.cg_value.specs.declared.Place.{Place}
use Rattle.cg_graph.specs.Maps.{changed}
use Rattle.cg_graph.specs.Places.{place_number, list_of, without_serial, leaves_list, move_between}
use Rattle.cg_arena.specs.declared.slot.Slot.{Slot}
use Rattle.cg_arena.specs.declared.index.SlotIndex.{SlotIndex}
use Rattle.cg_arena.specs.Links.{ListEnds, rewritten, tied, link_set, ends_without, ends_joined, one_end}
use Rattle.cg_arena.specs.Nodes.{Nodes, IsPlace, with_node_moved, node_placed, place_in, place_of}
use Rattle.cg_arena.specs.Slots.{before_in, after_in, serial_in, place_in_slot, node_in, placed_last, with_after, before_of, after_of}
use Rattle.cg_arena.specs.Table.{nodes_of, rows_of, serials_of, IsSpelled, ends_at, row_of, IsSound}
use Rattle.cg_arena.specs.Index.{IsKept}
use Rattle.cg_arena.proofs.Chains.{IsTied}
use Rattle.cg_arena.proofs.Writes.{get-rewritten_same, get-rewritten_other}
use Rattle.cg_arena.proofs.TiedSlots.{named_there, part-link_set, get-appended}
use Rattle.cg_arena.proofs.ChangedChains.{loose_spelled, appended_at, joins_spelled}
use Rattle.cg_arena.proofs.Shapes.{SameShape, shape-trans, shape-rewritten, shape-link_set}
use Rattle.cg_arena.proofs.Rows.{nodes-changed}
use Rattle.cg_arena.proofs.Lists.{serials, serials-same, list-at, ten_lists, lists-left, lists-joined}
use Rattle.cg_arena.proofs.Sizes.{sizes, ends_set-same, ends_set-other, sizes-set, size_within}
use Rattle.cg_arena.proofs.Sound.{kept_by, seen_by, value_of, StandsFor, node_here, some_value, named_still, room_still}
use Rattle.cg_arena.proofs.Lookups.{list_is, lists_ten, with_serial}
use Rattle.cg_arena.proofs.Adds.{last_there}
use Rattle.cg_arena.proofs.Drops.{absent, left_shape, left_places, left_nodes, left_there, left_spelled, left_sizes}

-- In s the node leaves its list, giving `left`; then it gets its place and the links of the last of the other list,
-- giving `placed`; then the slot before it names it.
module _ (s left placed new : Slab Slot) (ends : List ListEnds) (x : SlotIndex) (kept : IsKept s x ends) (spare : ℕ) (v : Nodes)
    (view_is : value_of s ends (rows_of s) spare ≡ v) (t k : ℕ) (c : Slot) (row_is : row_of (rows_of s) t ≡ Some k) (slot_is : get s k ≡ Some c) (p : ℕ)
    (p_is : p ≡ place_number c.place) (below_p : p < 10) (left_is : left ≡ tied (before_of c) (after_of c) s) (d : ListEnds) (d_is : d ≡ ends_without (before_of c)
    (after_of c) (ends_at ends p)) (place : Place) (q : ℕ) (q_is : q ≡ place_number place) (below_q : q < 10)
    (placed_is : placed ≡ rewritten (placed_last place (ends_at (slice_set ends p d) q).last) k left) where
  abbrev rows : List (ℕ × ℕ)
  rows = rows_of s

  abbrev sound : IsSound s ends (rows_of s)
  sound = kept.sound

  abbrev between_ends : List ListEnds
  between_ends = slice_set ends p d

  abbrev between_chain : ℕ → List ℕ
  between_chain r = without_serial k (sound.chain r)

  between_ten : length (slice_set ends p d) ≡ 10
  between_ten = length-set ends p d ∙ sound.ten

  abbrev written : Slot → Slot
  written = placed_last place (ends_at (slice_set ends p d) q).last

  others : (j : ℕ) → j ≢ k → get placed j ≡ get left j
  others j differs = ap (λ z. get z j) placed_is ∙ get-rewritten_other written k left j differs

  was : (x : Slot) × (get left k ≡ Some x)
  was = some_value (get left k) (left_there s left ends rows sound t k c row_is slot_is p p_is below_p left_is)

  here : get placed k ≡ Some (written was.0)
  here = ap (λ z. get z k) placed_is ∙ get-rewritten_same written k left ∙ ap (option_map written) was.1

  shape_placed : SameShape s placed
  shape_placed =
      shape-trans s left placed (left_shape s left ends rows sound t k c row_is slot_is p p_is below_p left_is)
      (subst (SameShape left) (sym placed_is) (shape-rewritten written k left (λ x. refl)))

  all_in_place : (j : ℕ) (r : Place) → place_in_slot (get placed j) ≡ Some r → IsPlace r × (j < 2 ^ 32 - 1)
  all_in_place j r is = elim (cases_eq j k) [
    | inl same ↦
        let both : Some place ≡ Some r = sym (ap place_in_slot here) ∙ ap (λ i. place_in_slot (get placed i)) (sym same) ∙ is in
        let it : place ≡ r = cc in
        (subst (λ m. m < 10) (q_is ∙ ap place_number it) below_q, subst (λ i. i < 2 ^ 32 - 1) (sym same) (sound.placed k c.place (ap place_in_slot slot_is)).1)
    | inr differs ↦ sound.placed j r (sym (ap place_in_slot (others j differs) ∙ left_places s left ends rows sound t k c row_is slot_is p p_is below_p left_is j) ∙ is)
  ]

  loose : IsSpelled (get placed) (ends_at between_ends) between_chain (Some k)
  loose =
      loose_spelled (get left) (get placed) (ends_at between_ends) between_chain k
      (left_spelled s left ends rows sound t k c row_is slot_is p p_is below_p left_is d d_is)
      (λ j differs. (ap before_in (others j differs), ap after_in (others j differs)))
      (λ j differs. ap place_in_slot (others j differs))

  between_sizes : sizes (slice_set ends p d) + 1 ≡ sizes ends
  between_sizes = left_sizes s left ends rows sound t k c row_is slot_is p p_is below_p left_is d d_is

  last_is_there : (j : ℕ) → (ends_at between_ends q).last ≡ Some j → is_some (get placed j) ≡ true
  last_is_there = last_there (get placed) (ends_at between_ends) between_chain (Some k) loose q below_q

  -- the list has room for the node, and its last slot is occupied
  pub room_for_one : ((ends_at between_ends q).size + 1 < 2 ^ 64) × IfSome (ends_at between_ends q).last (ContainsKey placed)
  room_for_one = (
    omega (arith, size_within between_ends between_ten q below_q, between_sizes, sound.counted, sound.few),
    named_there (ends_at between_ends q).last placed last_is_there,
  )

  module _ (linked_is : new ≡ link_set with_after (ends_at between_ends q).last (Some k) placed) (e : ListEnds) (ends_are : e ≡ ends_joined (ends_at between_ends q) (one_end k)) where
    tie : IsTied (get placed) (get new) (ends_at between_ends q).last (Some k)
    tie =
        subst (λ z. IsTied (get placed) (get z) (ends_at between_ends q).last (Some k)) (sym linked_is)
        (get-appended (ends_at between_ends q).last k placed all_in_place last_is_there (written was.0) here refl)

    shape : SameShape s new
    shape = shape-trans s placed new shape_placed (subst (SameShape placed) (sym linked_is) (shape-link_set with_after (λ o x. refl) (ends_at between_ends q).last (Some k) placed))

    places : (j : ℕ) → place_in_slot (get new j) ≡ place_in_slot (get placed j)
    places j = ap (λ z. place_in_slot (get z j)) linked_is ∙ part-link_set with_after place_in_slot (λ o x. refl) (ends_at between_ends q).last (Some k) placed j

    nodes : (j : ℕ) → node_in (get new j) ≡ node_in (get placed j)
    nodes j = ap (λ z. node_in (get z j)) linked_is ∙ part-link_set with_after node_in (λ o x. refl) (ends_at between_ends q).last (Some k) placed j

    moved_spelled : IsSpelled (get new) (ends_at (slice_set between_ends q e)) (appended_at q (k ∷ []) between_chain) None
    moved_spelled =
        joins_spelled (get placed) (get new) (ends_at between_ends) (ends_at (slice_set between_ends q e)) between_chain k q loose place below_q
        (ap place_in_slot here) (sym q_is) (ap after_in here)
        (ends_at between_ends q).last refl tie places
        (ends_set-same between_ends between_ten q below_q e ∙ ends_are)
        (λ r differs. ends_set-other between_ends q r e differs)

    moved_sound : IsSound new (slice_set (slice_set ends p d) q e) rows
    moved_sound =
        let size : e.size ≡ (ends_at between_ends q).size + 1 = ap (λ (x : ListEnds). x.size) ends_are in
        record {
          ten = length-set between_ends q e ∙ between_ten;
          chain = appended_at q (k ∷ []) between_chain;
          spelled = moved_spelled;
          names = named_still (λ j. serial_in (get s j)) (λ j. serial_in (get new j)) (row_of rows) shape.serials sound.names;
          placed = λ j r is. all_in_place j r (sym (places j) ∙ is);
          counted = omega (arith, sizes-set between_ends between_ten q below_q e, size, between_sizes, sound.counted, shape.len);
          few = subst (λ m. m < 2 ^ 64) (sym shape.len) sound.few;
        }

    moved_kept : IsKept new x (slice_set (slice_set ends p d) q e)
    moved_kept = kept_by s new shape x ends (slice_set (slice_set ends p d) q e) kept moved_sound

    nodes_are : nodes_of rows new ≡ changed (node_placed place) t v.nodes
    nodes_are =
        let left_alone = left_nodes s left ends rows sound t k c row_is slot_is p p_is below_p left_is in
        nodes-changed rows s new sound.names (node_placed place) t k row_is
        (nodes k ∙ ap node_in here ∙ ap (λ o. node_placed place (node_in o)) (sym was.1) ∙ ap (node_placed place) (left_alone k))
        (λ j differs. nodes j ∙ ap node_in (others j differs) ∙ left_alone j)
        ∙ ap (λ (w : Nodes). changed (node_placed place) t w.nodes) view_is

    place_was : place_number (place_of v t) ≡ p
    place_was = ap (λ o. place_number (place_in o)) (node_here s ends rows spare v view_is t k c row_is slot_is) ∙ sym p_is

    lists_are : map (serials_of new) (slice_set (slice_set ends p d) q e) ≡ move_between v.lists t p q
    lists_are =
        let old_ten = lists_ten s ends rows spare v view_is sound in
        let left_ten : length (leaves_list v.lists t p) ≡ 10 = length-set v.lists p (without_serial t (list_of v.lists p)) ∙ old_ten in
        let left_are = λ (r : ℕ) (r_below : r < 10). let f : list_of (leaves_list v.lists t p) r ≡ serials new (between_chain r) =
        lists-left s v.lists sound.chain old_ten (list_is s ends rows spare v view_is sound) (row_of rows) sound.names t k p row_is below_p
        (with_serial s ends rows spare v view_is sound)
        (absent s left ends rows sound t k c row_is slot_is p p_is below_p left_is)
        r r_below
        ∙ sym (serials-same s new (between_chain r) (λ j stands. shape.serials j)) in f in
        ten_lists (map (serials_of new) (slice_set between_ends q e)) (move_between v.lists t p q)
        (length-map (slice_set between_ends q e) (serials_of new) ∙ length-set between_ends q e ∙ between_ten)
        (length-set (leaves_list v.lists t p) q _ ∙ left_ten)
        (λ r r_below.
        list-at new (slice_set between_ends q e) (appended_at q (k ∷ []) between_chain) None (length-set between_ends q e ∙ between_ten) moved_spelled r r_below
        ∙ sym (lists-joined new (leaves_list v.lists t p) between_chain left_ten left_are t k q (ap (λ o. unwrap_or o 0) (shape.serials k ∙ sound.names.rowed t k row_is)) below_q r r_below))

    moved_view : value_of new (slice_set (slice_set ends p d) q e) (rows_of new) spare ≡ with_node_moved t place v
    moved_view =
        seen_by s new shape (slice_set (slice_set ends p d) q e) spare (with_node_moved t place v)
        (λ i. record {
          nodes = nodes_are i;
          lists = (lists_are ∙ (λ j. move_between v.lists t (sym place_was j) (q_is j))) i;
          room = (room_still spare s new shape.rest shape.len ∙ ap (λ (w : Nodes). w.room) view_is) i;
        })

    pub moved : StandsFor new (slice_set (slice_set ends p d) q e) x spare (with_node_moved t place v)
    moved = record { kept = moved_kept; view = moved_view }
