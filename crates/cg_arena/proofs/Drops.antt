-- The fields after a node is dropped.
use Rattle.std.proofs.Common.{◌≡◌, ◌≢◌, ℕ, ◌+◌, ◌-◌, ◌<◌, ◌≤◌, true, List, map, Some, None, sym, ap, ◌∙◌, subst, inl, inr, arith}
use Rattle.std.specs.Prelude.{IfSome, is_some, nat_eq, slice_set, ◌==◌, if◌then◌else◌}
use Rattle.std.proofs.lemmas.Bool.{cases_eq, eq-eqb, ne_eqb}
use Rattle.std.proofs.lemmas.List.{length-map, length-set}
use Rattle.std.specs.FinMap as fin
use Rattle.slab.specs.Slab.{Slab, get, slab_len, ContainsKey, Updates}
use Rattle.cg_graph.specs.Holdings.{occurrences}
use Rattle.cg_graph.specs.Places.{place_number, list_of, without_serial, leaves_list}
use Rattle.cg_arena.specs.declared.slot.Slot.{Slot}
use Rattle.cg_arena.specs.declared.index.SlotIndex.{SlotIndex}
use Rattle.cg_arena.specs.Links.{ListEnds, tied, ends_without}
use Rattle.cg_arena.specs.Nodes.{Nodes, without_node, place_in, place_of, count_in_list}
use Rattle.cg_arena.specs.Slots.{before_in, after_in, serial_in, place_in_slot, node_in, before_of, after_of}
use Rattle.cg_arena.specs.Table.{nodes_of, rows_of, serials_of, room_of, IsSpelled, IsNamed, ends_at, row_of, IsSound}
use Rattle.cg_arena.specs.Index.{IsIndex, IsKept}
use Rattle.cg_arena.proofs.Occurrences.{occurrences-without_same}
use Rattle.cg_arena.proofs.Chains.{IsTied}
use Rattle.cg_arena.proofs.TiedSlots.{named_there, get-tied}
use Rattle.cg_arena.proofs.ChangedChains.{count_in_list-same, count_in_list-other, stands_placed, before_stands, after_stands, leaves_spelled, loose_spelled, loose_vacant}
use Rattle.cg_arena.proofs.Shapes.{SameShape, shape-tied, nodes-tied, places-tied, there-tied}
use Rattle.cg_arena.proofs.Indexes.{rows_without, index_without}
use Rattle.cg_arena.proofs.Rows.{nodes-remove}
use Rattle.cg_arena.proofs.Lists.{serials-same, list-at, ten_lists, lists-left}
use Rattle.cg_arena.proofs.Sizes.{sizes, ends_set-same, ends_set-other, sizes-set, size_above}
use Rattle.cg_arena.proofs.Sound.{value_of, StandsFor, node_here}
use Rattle.cg_arena.proofs.Lookups.{list_is, lists_ten, with_serial}
use Rattle.cg_arena.proofs.Adds.{some_numbered}

-- a node leaves its list: its neighbours are tied, and the ends updated
module _ (s new : Slab Slot) (ends : List ListEnds) (rows : List (ℕ × ℕ)) (sound : IsSound s ends rows) (t k : ℕ) (c : Slot) (row_is : row_of rows t ≡ Some k)
    (slot_is : get s k ≡ Some c) (p : ℕ) (p_is : p ≡ place_number c.place) (below : p < 10) (tied_is : new ≡ tied (before_of c) (after_of c) s) where
  stood : occurrences k (sound.chain p) ≡ 1
  stood = sound.spelled.standing p k below ∙ ap (λ o. count_in_list p (place_in_slot o)) slot_is ∙ count_in_list-same p c.place (sym p_is)

  pub absent : (r : ℕ) → r < 10 → r ≢ p → occurrences k (sound.chain r) ≡ 0
  absent r r_below differs = sound.spelled.standing r k r_below ∙ ap (λ o. count_in_list r (place_in_slot o)) slot_is ∙ count_in_list-other r c.place (λ e. differs (sym e ∙ sym p_is))

  size_there : 0 < (ends_at ends p).size
  size_there = size_above (get s) (ends_at ends) sound.chain None sound.spelled p k below (omega (arith, stood))

  neighbour : (j : ℕ) → 0 < occurrences j (sound.chain p) → is_some (get s j) ≡ true
  neighbour j stands = some_numbered p (get s j) (stands_placed (get s) (ends_at ends) sound.chain None sound.spelled p j below stands)

  before_is : before_in (get s k) ≡ before_of c
  before_is = ap before_in slot_is

  after_is : after_in (get s k) ≡ after_of c
  after_is = ap after_in slot_is

  before_there : (j : ℕ) → before_of c ≡ Some j → is_some (get s j) ≡ true
  before_there j is = neighbour j (before_stands (get s) (ends_at ends) sound.chain None sound.spelled k p below (omega (arith, stood)) j (before_is ∙ is))

  after_there : (j : ℕ) → after_of c ≡ Some j → is_some (get s j) ≡ true
  after_there j is = neighbour j (after_stands (get s) (ends_at ends) sound.chain None sound.spelled k p below (omega (arith, stood)) j (after_is ∙ is))

  -- the list has a slot, and the neighbours in it are occupied
  pub neighbours_there : (0 < (ends_at ends p).size) × (IfSome (before_of c) (ContainsKey s) × IfSome (after_of c) (ContainsKey s))
  neighbours_there = (size_there, (named_there (before_of c) s before_there, named_there (after_of c) s after_there))

  leaving_tie : IsTied (get s) (get new) (before_of c) (after_of c)
  leaving_tie =
      subst (λ z. IsTied (get s) (get z) (before_of c) (after_of c)) (sym tied_is)
      (get-tied (before_of c) (after_of c) s sound.placed before_there after_there)

  pub left_shape : SameShape s new
  left_shape = subst (SameShape s) (sym tied_is) (shape-tied (before_of c) (after_of c) s)

  pub left_places : (j : ℕ) → place_in_slot (get new j) ≡ place_in_slot (get s j)
  left_places j = ap (λ z. place_in_slot (get z j)) tied_is ∙ places-tied (before_of c) (after_of c) s j

  pub left_nodes : (j : ℕ) → node_in (get new j) ≡ node_in (get s j)
  left_nodes j = ap (λ z. node_in (get z j)) tied_is ∙ nodes-tied (before_of c) (after_of c) s j

  pub left_there : is_some (get new k) ≡ true
  left_there = ap (λ z. is_some (get z k)) tied_is ∙ there-tied (before_of c) (after_of c) s k ∙ ap is_some slot_is

  module _ (e : ListEnds) (ends_are : e ≡ ends_without (before_of c) (after_of c) (ends_at ends p)) where
    pub left_spelled : IsSpelled (get new) (ends_at (slice_set ends p e)) (λ r. without_serial k (sound.chain r)) (Some k)
    left_spelled =
        leaves_spelled (get s) (get new) (ends_at ends) (ends_at (slice_set ends p e)) sound.chain sound.spelled k p c.place below
        (ap place_in_slot slot_is) (sym p_is)
        (subst (λ b. IsTied (get s) (get new) b (after_in (get s k))) (sym before_is) (subst (λ a. IsTied (get s) (get new) (before_of c) a) (sym after_is) leaving_tie))
        left_places
        (ends_set-same ends sound.ten p below e ∙ ends_are ∙ (λ i. ends_without (sym before_is i) (sym after_is i) (ends_at ends p)))
        (λ r differs. ends_set-other ends p r e differs)

    pub left_sizes : sizes (slice_set ends p e) + 1 ≡ sizes ends
    left_sizes =
        let size : e.size ≡ (ends_at ends p).size - 1 = ap (λ (d : ListEnds). d.size) ends_are in
        omega (arith, sizes-set ends sound.ten p below e, size, size_there)

module _ (s mid new : Slab Slot) (ends : List ListEnds) (x y : SlotIndex) (kept : IsKept s x ends) (spare : ℕ) (v : Nodes) (view_is : value_of s ends (rows_of s)
    spare ≡ v) (t k : ℕ) (c : Slot) (row_is : row_of (rows_of s) t ≡ Some k) (slot_is : get s k ≡ Some c) (p : ℕ) (p_is : p ≡ place_number c.place) (below : p <
    10) (tied_is : mid ≡ tied (before_of c) (after_of c) s) (e : ListEnds) (ends_are : e ≡ ends_without (before_of c) (after_of c) (ends_at ends p)) (updates :
    Updates mid new k None) (len : slab_len new + 1 ≡ slab_len mid) (removed : IsIndex (λ j. if j == k then None else serial_in (get s j)) y) where
  abbrev rows : List (ℕ × ℕ)
  rows = rows_of s

  abbrev later : List (ℕ × ℕ)
  later = rows_of new

  abbrev sound : IsSound s ends (rows_of s)
  sound = kept.sound

  shape : SameShape s mid
  shape = left_shape s mid ends rows sound t k c row_is slot_is p p_is below tied_is

  others : (j : ℕ) → j ≢ k → get new j ≡ get mid j
  others j differs = updates.others j differs

  dropped_spelled : IsSpelled (get new) (ends_at (slice_set ends p e)) (λ r. without_serial k (kept.sound.chain r)) None
  dropped_spelled =
      loose_vacant (get new) (ends_at (slice_set ends p e)) (λ r. without_serial k (sound.chain r)) k updates.changed
      (loose_spelled (get mid) (get new) (ends_at (slice_set ends p e)) (λ r. without_serial k (sound.chain r)) k
      (left_spelled s mid ends rows sound t k c row_is slot_is p p_is below tied_is e ends_are)
      (λ j differs. (ap before_in (others j differs), ap after_in (others j differs)))
      (λ j differs. ap place_in_slot (others j differs)))

  serial_here : serial_in (get new k) ≡ None
  serial_here = ap serial_in updates.changed

  serial_there : (j : ℕ) → j ≢ k → serial_in (get new j) ≡ serial_in (get s j)
  serial_there j differs = ap serial_in (others j differs) ∙ shape.serials j

  rows_are : (u : ℕ) → row_of (rows_of new) u ≡ (if nat_eq t u then None else row_of (rows_of s) u)
  rows_are = rows_without s new kept.sound.names t k serial_there row_is serial_here

  row_here : (u : ℕ) → u ≡ t → row_of (rows_of new) u ≡ None
  row_here u same = rows_are u ∙ ap (λ b. if b then None else row_of rows u) (eq-eqb t u (sym same))

  row_there : (u : ℕ) → u ≢ t → row_of (rows_of new) u ≡ row_of (rows_of s) u
  row_there u differs = rows_are u ∙ ap (λ b. if b then None else row_of rows u) (ne_eqb t u (λ f. differs (sym f)))

  was_named : serial_in (get s k) ≡ Some t
  was_named = sound.names.rowed t k row_is

  dropped_names : IsNamed (λ j. serial_in (get new j)) (row_of (rows_of new))
  dropped_names =
      record {
        named = λ j u is. elim (cases_eq j k) [
          | inl same ↦ let none : None ≡ Some u = sym serial_here ∙ ap (λ i. serial_in (get new i)) (sym same) ∙ is in absurd (cc)
          | inr differs ↦
              let row_u : row_of rows u ≡ Some j = sound.names.named j u (sym (serial_there j differs) ∙ is) in
              let other : u ≢ t = λ same. let both : Some j ≡ Some k = sym row_u ∙ ap (row_of rows) same ∙ row_is in differs (cc) in
              row_there u other ∙ row_u
        ];
        rowed = λ u j is. elim (cases_eq u t) [
          | inl same ↦ let none : None ≡ Some j = sym (row_here u same) ∙ is in absurd (cc)
          | inr differs ↦
              let row_u : row_of rows u ≡ Some j = sym (row_there u differs) ∙ is in
              let was : serial_in (get s j) ≡ Some u = sound.names.rowed u j row_u in
              let other : j ≢ k = λ same. let both : Some u ≡ Some t = sym was ∙ ap (λ i. serial_in (get s i)) same ∙ was_named in differs (cc) in
              serial_there j other ∙ was
        ];
      }

  dropped_sound : IsSound new (slice_set ends p e) (rows_of new)
  dropped_sound =
      record {
        ten = length-set ends p e ∙ sound.ten;
        chain = λ r. without_serial k (sound.chain r);
        spelled = dropped_spelled;
        names = dropped_names;
        placed = λ j q is. elim (cases_eq j k) [
          | inl same ↦ let none : None ≡ Some q = sym (ap place_in_slot updates.changed) ∙ ap (λ i. place_in_slot (get new i)) (sym same) ∙ is in absurd (cc)
          | inr differs ↦ sound.placed j q (sym (ap place_in_slot (others j differs) ∙ left_places s mid ends rows sound t k c row_is slot_is p p_is below tied_is j) ∙ is)
        ];
        counted = omega (arith, left_sizes s mid ends rows sound t k c row_is slot_is p p_is below tied_is e ends_are, sound.counted, len, shape.len);
        few = omega (arith, sound.few, len, shape.len);
      }

  dropped_kept : IsKept new y (slice_set ends p e)
  dropped_kept = record { sound = dropped_sound; indexed = index_without s new kept.sound.names t k serial_there row_is serial_here y removed }

  nodes_are : nodes_of (rows_of new) new ≡ fin.remove v.nodes t
  nodes_are =
      nodes-remove rows later s new sound.names t k row_is rows_are
      (λ j differs. ap node_in (others j differs) ∙ left_nodes s mid ends rows sound t k c row_is slot_is p p_is below tied_is j)
      ∙ ap (λ (w : Nodes). fin.remove w.nodes t) view_is

  place_is : place_number (place_of v t) ≡ p
  place_is = ap (λ o. place_number (place_in o)) (node_here s ends rows spare v view_is t k c row_is slot_is) ∙ sym p_is

  gone : (r : ℕ) → occurrences k (without_serial k (kept.sound.chain r)) ≡ 0
  gone r = occurrences-without_same k (sound.chain r)

  lists_are : map (serials_of new) (slice_set ends p e) ≡ leaves_list v.lists t p
  lists_are =
      let old_ten = lists_ten s ends rows spare v view_is sound in
      ten_lists (map (serials_of new) (slice_set ends p e)) (leaves_list v.lists t p)
      (length-map (slice_set ends p e) (serials_of new) ∙ length-set ends p e ∙ sound.ten)
      (length-set v.lists p (without_serial t (list_of v.lists p)) ∙ old_ten)
      (λ r r_below.
      list-at new (slice_set ends p e) (λ q. without_serial k (sound.chain q)) None (length-set ends p e ∙ sound.ten) dropped_spelled r r_below
      ∙ serials-same s new (without_serial k (sound.chain r))
      (λ j stands. serial_there j (λ same. absurd (omega (arith, stands, gone r, ap (λ i. occurrences i (without_serial k (sound.chain r))) same))))
      ∙ sym (lists-left s v.lists sound.chain old_ten (list_is s ends rows spare v view_is sound) (row_of rows) sound.names t k p row_is below
      (with_serial s ends rows spare v view_is sound)
      (absent s mid ends rows sound t k c row_is slot_is p p_is below tied_is)
      r r_below))

  pub dropped : (left : ℕ) → new.capacity ≡ mid.capacity → new.vacant_key ≡ k → spare ≤ left → StandsFor new (slice_set ends p e) y left
      (without_node t (record v { room = room_of left new })) × (v.room ≤ room_of left new)
  dropped left capacity next more =
      let was : v.room ≡ room_of spare s = ap (λ (w : Nodes). w.room) (sym view_is) in
      let still : mid.capacity ≡ s.capacity = ap (λ (z : Slab Slot). z.capacity) shape.rest in
      let low = (sound.placed k c.place (ap place_in_slot slot_is)).1 in
      let room : v.room ≤ room_of left new = omega (arith, was, capacity, next, more, len, shape.len, still, low) in
      let view : value_of new (slice_set ends p e) (rows_of new) left ≡ without_node t (record v { room = room_of left new }) = λ i. record {
        nodes = nodes_are i;
        lists = (lists_are ∙ ap (leaves_list v.lists t) (sym place_is)) i;
        room = room_of left new;
      } in
      (record { kept = dropped_kept; view = view }, room)
