-- The fields after one list is appended to another.
use Rattle.std.proofs.Common.{◌≡◌, ◌≢◌, ℕ, ◌+◌, ◌-◌, ◌<◌, ◌^◌, true, List, [], map, length, Some, None, refl, sym, ap, ◌∙◌, subst, inl, inr, arith}
use Rattle.std.specs.Prelude.{IfSome, option_map, is_some, slice_set, if◌then◌else◌}
use Rattle.std.proofs.lemmas.Bool.{cases_eq, eq-eqb, ne_eqb}
use Rattle.std.proofs.lemmas.List.{length-map, length-set}
use Rattle.slab.specs.Slab.{Slab, get, ContainsKey}
use Rattle.cg_value.specs.declared.Place.{Place}
use Rattle.cg_graph.specs.Maps.{mapped}
use Rattle.cg_graph.specs.Holdings.{occurrences}
use Rattle.cg_graph.specs.Places.{place_number, list_of, merge_lists}
use Rattle.cg_arena.specs.declared.slot.Slot.{Slot}
use Rattle.cg_arena.specs.declared.index.SlotIndex.{SlotIndex}
use Rattle.cg_arena.specs.Links.{ListEnds, tied, all_placed, chain_from, ends_joined, no_ends}
use Rattle.cg_arena.specs.Nodes.{Nodes, IsPlace, with_lists_merged, place_merged, node_placed, count_in_list}
use Rattle.cg_arena.specs.Slots.{before_in, after_in, serial_in, place_in_slot, node_in, node_of, with_place}
use Rattle.cg_arena.specs.Table.{nodes_of, rows_of, serials_of, IsSpelled, ends_at, row_of, IsSound}
use Rattle.cg_arena.specs.Index.{IsKept}
use Rattle.cg_arena.proofs.Occurrences.{first-stands}
use Rattle.cg_arena.proofs.Chains.{HasLinks, IsTied, chain-read}
use Rattle.cg_arena.proofs.TiedSlots.{named_there, get-tied}
use Rattle.cg_arena.proofs.ChangedChains.{count_in_list-same, count_in_list-other, stands_placed}
use Rattle.cg_arena.proofs.Merged.{merged_chain, merged_spelled}
use Rattle.cg_arena.proofs.Shapes.{SameShape, shape-trans, shape-tied, shape-all_placed, nodes-tied, places-tied, part-all_placed, place_written, get-all_placed_aside, get-all_placed_among}
use Rattle.cg_arena.proofs.Rows.{nodes-mapped}
use Rattle.cg_arena.proofs.Lists.{serials, serials-same, list-at, ten_lists, lists-merged}
use Rattle.cg_arena.proofs.Sizes.{ends_set-same, ends_set-other, sizes-set, two_sizes}
use Rattle.cg_arena.proofs.Sound.{kept_by, seen_by, value_of, some_value, slot_there, named_still, room_still}
use Rattle.cg_arena.proofs.Lookups.{list_is, lists_ten}
use Rattle.cg_arena.proofs.Adds.{some_numbered, last_there}

-- the sizes of two lists add up without overflow
pub sizes_fit : (s : Slab Slot) (ends : List ListEnds) (rows : List (ℕ × ℕ)) → IsSound s ends rows → (p q : ℕ) → p < 10 → q < 10 → p ≢ q → (ends_at ends q).size + (ends_at ends p).size < 2 ^ 64
sizes_fit s ends rows sound p q below_p below_q differ = omega (arith, two_sizes ends p q sound.ten below_p below_q differ, sound.counted, sound.few)

module _ (s placed new : Slab Slot) (ends : List ListEnds) (x : SlotIndex) (kept : IsKept s x ends) (spare : ℕ) (v : Nodes) (view_is : value_of s ends (rows_of s)
    spare ≡ v) (from to : Place) (p q : ℕ) (p_is : p ≡ place_number from) (q_is : q ≡ place_number to) (below_p : p < 10) (below_q : q < 10) (numbers_differ :
    place_number from ≢ place_number to) (placed_is : placed ≡ all_placed (chain_from s (ends_at ends p).size (ends_at ends p).first) to s) (tied_is : new
    ≡ tied (ends_at ends q).last (ends_at ends p).first placed) (e : ListEnds) (ends_are : e ≡ ends_joined (ends_at ends q) (ends_at ends p)) (none : ListEnds)
    (none_is : none ≡ no_ends) where
  abbrev rows : List (ℕ × ℕ)
  rows = rows_of s

  abbrev sound : IsSound s ends (rows_of s)
  sound = kept.sound

  differ : p ≢ q
  differ same = numbers_differ (sym p_is ∙ same ∙ q_is)

  chain_is : chain_from s (ends_at ends p).size (ends_at ends p).first ≡ sound.chain p
  chain_is = ap (λ (d : ListEnds). chain_from s d.size d.first) (sound.spelled.ended p below_p) ∙ chain-read s None (sound.chain p) (sound.spelled.linked p below_p)

  all_are : placed ≡ all_placed (sound.chain p) to s
  all_are = placed_is ∙ ap (λ ks. all_placed ks to s) chain_is

  links : (j : ℕ) → HasLinks (get s) (get placed) j
  links j = (
    ap (λ z. before_in (get z j)) all_are ∙ part-all_placed before_in (λ r x. refl) (sound.chain p) to s j,
    ap (λ z. after_in (get z j)) all_are ∙ part-all_placed after_in (λ r x. refl) (sound.chain p) to s j,
  )

  occupied : (r j : ℕ) → r < 10 → 0 < occurrences j (sound.chain r) → is_some (get s j) ≡ true
  occupied r j below stands = some_numbered r (get s j) (stands_placed (get s) (ends_at ends) sound.chain None sound.spelled r j below stands)

  still_there : (j : ℕ) → is_some (get placed j) ≡ is_some (get s j)
  still_there j = ap (λ z. is_some (get z j)) all_are ∙ part-all_placed is_some (λ r x. refl) (sound.chain p) to s j

  among : (j : ℕ) → 0 < occurrences j (sound.chain p) → get placed j ≡ option_map (with_place to) (get s j)
  among j stands = ap (λ z. get z j) all_are ∙ get-all_placed_among (sound.chain p) to s j stands

  aside : (j : ℕ) → occurrences j (sound.chain p) ≡ 0 → get placed j ≡ get s j
  aside j absent = ap (λ z. get z j) all_are ∙ get-all_placed_aside (sound.chain p) to s j absent

  first_stands : (j : ℕ) → (ends_at ends p).first ≡ Some j → 0 < occurrences j (sound.chain p)
  first_stands j is = first-stands (sound.chain p) j (sym (ap (λ (d : ListEnds). d.first) (sound.spelled.ended p below_p)) ∙ is)

  all_in_place : (j : ℕ) (r : Place) → place_in_slot (get placed j) ≡ Some r → IsPlace r × (j < 2 ^ 32 - 1)
  all_in_place j r is = elim (cases_eq (occurrences j (sound.chain p)) 0) [
    | inl absent ↦ sound.placed j r (sym (ap place_in_slot (aside j absent)) ∙ is)
    | inr some ↦
        let stands : 0 < occurrences j (sound.chain p) = omega (arith, some) in
        let was = some_value (get s j) (occupied p j below_p stands) in
        let both : Some to ≡ Some r = sym (ap place_in_slot (among j stands) ∙ place_written to (get s j) (occupied p j below_p stands)) ∙ is in
        let here : to ≡ r = cc in
        (subst (λ m. m < 10) (q_is ∙ ap place_number here) below_q, (sound.placed j was.0.place (ap place_in_slot was.1)).1)
  ]

  joined_there : (j : ℕ) → (ends_at ends q).last ≡ Some j → is_some (get placed j) ≡ true
  joined_there j is = still_there j ∙ last_there (get s) (ends_at ends) sound.chain None sound.spelled q below_q j is

  moved_there : (j : ℕ) → (ends_at ends p).first ≡ Some j → is_some (get placed j) ≡ true
  moved_there j is = still_there j ∙ occupied p j below_p (first_stands j is)

  -- the slots where the lists meet are occupied
  pub seam_there : IfSome (ends_at ends q).last (ContainsKey placed) × IfSome (ends_at ends p).first (ContainsKey placed)
  seam_there = (named_there (ends_at ends q).last placed joined_there, named_there (ends_at ends p).first placed moved_there)

  tie : IsTied (get placed) (get new) (ends_at ends q).last (ends_at ends p).first
  tie =
      subst (λ z. IsTied (get placed) (get z) (ends_at ends q).last (ends_at ends p).first) (sym tied_is)
      (get-tied (ends_at ends q).last (ends_at ends p).first placed all_in_place joined_there moved_there)

  shape : SameShape s new
  shape =
      shape-trans s placed new
      (subst (SameShape s) (sym all_are) (shape-all_placed (sound.chain p) to s))
      (subst (SameShape placed) (sym tied_is) (shape-tied (ends_at ends q).last (ends_at ends p).first placed))

  places : (j : ℕ) → place_in_slot (get new j) ≡ place_in_slot (get placed j)
  places j = ap (λ z. place_in_slot (get z j)) tied_is ∙ places-tied (ends_at ends q).last (ends_at ends p).first placed j

  nodes : (j : ℕ) → node_in (get new j) ≡ node_in (get placed j)
  nodes j = ap (λ z. node_in (get z j)) tied_is ∙ nodes-tied (ends_at ends q).last (ends_at ends p).first placed j

  abbrev new_ends : List ListEnds
  new_ends = slice_set (slice_set ends q e) p none

  joined_ten : length (slice_set ends q e) ≡ 10
  joined_ten = length-set ends q e ∙ sound.ten

  new_ten : length (slice_set (slice_set ends q e) p none) ≡ 10
  new_ten = length-set (slice_set ends q e) p none ∙ joined_ten

  all_spelled : IsSpelled (get new) (ends_at new_ends) (merged_chain p q sound.chain) None
  all_spelled =
      merged_spelled (get s) (get placed) (get new) (ends_at ends) (ends_at new_ends) sound.chain sound.spelled p q to below_p below_q differ (sym q_is) links
      (λ j stands. ap place_in_slot (among j stands) ∙ place_written to (get s j) (occupied p j below_p stands))
      (λ j absent. ap place_in_slot (aside j absent))
      (ends_at ends q).last (ends_at ends p).first refl refl tie places
      (ends_set-other (slice_set ends q e) p q none (λ f. differ (sym f)) ∙ ends_set-same ends sound.ten q below_q e ∙ ends_are)
      (ends_set-same (slice_set ends q e) joined_ten p below_p none ∙ none_is)
      (λ r not_to not_from. ends_set-other (slice_set ends q e) p r none not_from ∙ ends_set-other ends q r e not_to)

  merged_sound : IsSound new (slice_set (slice_set ends q e) p none) rows
  merged_sound =
      let size : e.size ≡ (ends_at ends q).size + (ends_at ends p).size = ap (λ (d : ListEnds). d.size) ends_are in
      let nothing : none.size ≡ 0 = ap (λ (d : ListEnds). d.size) none_is in
      let still : (ends_at (slice_set ends q e) p).size ≡ (ends_at ends p).size = ap (λ (d : ListEnds). d.size) (ends_set-other ends q p e differ) in
      record {
        ten = new_ten;
        chain = merged_chain p q sound.chain;
        spelled = all_spelled;
        names = named_still (λ j. serial_in (get s j)) (λ j. serial_in (get new j)) (row_of rows) shape.serials sound.names;
        placed = λ j r is. all_in_place j r (sym (places j) ∙ is);
        counted = omega (
          arith,
          sizes-set ends sound.ten q below_q e,
          sizes-set (slice_set ends q e) joined_ten p below_p none,
          size,
          nothing,
          still,
          sound.counted,
          shape.len,
        );
        few = subst (λ m. m < 2 ^ 64) (sym shape.len) sound.few;
      }

  node_is : (u j : ℕ) → row_of rows u ≡ Some j → node_in (get new j) ≡ place_merged from to (node_in (get s j))
  node_is u j row_is =
      let found = some_value (get s j) (slot_there s ends rows sound u j row_is) in
      let c = found.0 in
      let standing : occurrences j (sound.chain p) ≡ count_in_list p (Some c.place) = sound.spelled.standing p j below_p ∙ ap (λ o. count_in_list p (place_in_slot o)) found.1 in
      nodes j ∙ elim (cases_eq (place_number c.place) (place_number from)) [
        | inl same ↦
            let stands : 0 < occurrences j (sound.chain p) = omega (arith, standing, count_in_list-same p c.place (same ∙ sym p_is)) in
            ap node_in (among j stands)
            ∙ ap (λ o. node_in (option_map (with_place to) o)) found.1
            ∙ sym (ap (λ b. if b then node_placed to (node_of c) else node_of c) (eq-eqb (place_number c.place) (place_number from) same))
            ∙ ap (λ o. place_merged from to (node_in o)) (sym found.1)
        | inr differs ↦
            let absent : occurrences j (sound.chain p) ≡ 0 = standing ∙ count_in_list-other p c.place (λ f. differs (f ∙ p_is)) in
            ap node_in (aside j absent)
            ∙ ap node_in found.1
            ∙ sym (ap (λ b. if b then node_placed to (node_of c) else node_of c) (ne_eqb (place_number c.place) (place_number from) differs))
            ∙ ap (λ o. place_merged from to (node_in o)) (sym found.1)
      ]

  nodes_are : nodes_of rows new ≡ mapped (λ u n. place_merged from to n) v.nodes
  nodes_are = nodes-mapped rows s new (place_merged from to) node_is ∙ ap (λ (w : Nodes). mapped (λ u n. place_merged from to n) w.nodes) view_is

  lists_are : map (serials_of new) (slice_set (slice_set ends q e) p none) ≡ merge_lists v.lists p q
  lists_are =
      let old_ten = lists_ten s ends rows spare v view_is sound in
      let old_are = λ (r : ℕ) (below : r < 10). let f : list_of v.lists r ≡ serials new (sound.chain r) =
      list_is s ends rows spare v view_is sound r below ∙ sym (serials-same s new (sound.chain r) (λ j stands. shape.serials j)) in f in
      ten_lists (map (serials_of new) new_ends) (merge_lists v.lists p q)
      (length-map new_ends (serials_of new) ∙ new_ten)
      (length-set (slice_set v.lists q _) p [] ∙ length-set v.lists q _ ∙ old_ten)
      (λ r below.
      list-at new new_ends (merged_chain p q sound.chain) None new_ten all_spelled r below
      ∙ sym (lists-merged new v.lists sound.chain old_ten old_are p q differ below_p below_q r below))

  pub merged_kept : IsKept new x (slice_set (slice_set ends q e) p none)
  merged_kept = kept_by s new shape x ends (slice_set (slice_set ends q e) p none) kept merged_sound

  pub merged_view : value_of new (slice_set (slice_set ends q e) p none) (rows_of new) spare ≡ with_lists_merged from to v
  merged_view =
      seen_by s new shape (slice_set (slice_set ends q e) p none) spare (with_lists_merged from to v)
      (λ i. record {
        nodes = nodes_are i;
        lists = (lists_are ∙ (λ j. merge_lists v.lists (p_is j) (q_is j))) i;
        room = (room_still spare s new shape.rest shape.len ∙ ap (λ (w : Nodes). w.room) view_is) i;
      })
