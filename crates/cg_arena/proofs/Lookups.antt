-- What the fields of an arena say of its lists.
use Rattle.std.proofs.Common.{◌≡◌, ℕ, ◌+◌, ◌<◌, List, [], ◌∷◌, ◌++◌, map, length, get_or, Option, Some, None, refl, sym, ap, ◌∙◌, subst, arith, replicate}
use Rattle.std.specs.Prelude.{option_map, option_and_then, slice_get, unwrap_or, sum_by}
use Rattle.std.proofs.lemmas.List.{length-map, get_or-replicate}
use Rattle.std.specs.Ordering.{nat_cmp}
use Rattle.std.specs.FinMap as fin
use Rattle.slab.specs.Slab.{Slab, get, slab_len, entries_from}
use Rattle.cg_graph.specs.Holdings.{occurrences}
use Rattle.cg_graph.specs.Places.{place_number, list_of}
use Rattle.cg_graph.proofs.Maps.{same_map}
use Rattle.cg_arena.specs.declared.slot.Slot.{Slot}
use Rattle.cg_arena.specs.declared.index.SlotIndex.{SlotIndex}
use Rattle.cg_arena.specs.Links.{ListEnds, first_or, no_ends, IsLinked}
use Rattle.cg_arena.specs.Nodes.{Nodes, ArenaNode, IsPlace, IsListed, following, place_in, place_of, no_nodes, count_in_list}
use Rattle.cg_arena.specs.Slots.{after_in, serial_in, place_in_slot, node_in, node_of, after_of}
use Rattle.cg_arena.specs.Table.{nodes_of, rows_of, serials_of, room_of, IsSpelled, ends_at, row_of, IsSound}
use Rattle.cg_arena.specs.Index.{IsKept}
use Rattle.cg_arena.proofs.Occurrences.{one-same, occurrences-cons, occurrences-append, IsBetween, stands_between}
use Rattle.cg_arena.proofs.Chains.{linked_back}
use Rattle.cg_arena.proofs.ChangedChains.{stands_placed, count_in_list-same}
use Rattle.cg_arena.proofs.Rows.{get-nodes_of}
use Rattle.cg_arena.proofs.Lists.{serial_at, serials, has_serial, list-at, ten_lists, occurrences-serials, following-serials, serials-absent}
use Rattle.cg_arena.proofs.Sound.{value_of, node_here, some_value, slot_there, slot_placed}

abbrev count_of_node : ℕ → Option ArenaNode → ℕ
count_of_node p o = count_in_list p (option_map (λ (n : ArenaNode). n.place) o)

-- the first serial of a chain
abbrev pub serial_of_slot : Slab Slot → Option ℕ → Option ℕ
serial_of_slot s at = option_and_then (λ k. option_map (λ (c : Slot). c.serial) (get s k)) at

serial_found : (o : Option Slot) (u : ℕ) → serial_in o ≡ Some u → option_map (λ (c : Slot). c.serial) o ≡ Some u
serial_found None u is = is
serial_found (Some c) u is = is

first-serials : (s : Slab Slot) (ks : List ℕ) → ((j : ℕ) → 0 < occurrences j ks → (u : ℕ) × (serial_in (get s j) ≡ Some u)) → serial_of_slot s (first_or ks None) ≡ slice_get (serials s ks) 0
first-serials s [] there = refl
first-serials s (k ∷ ks) there =
    let found = there k (omega (arith, occurrences-cons k k ks, one-same k k refl)) in
    serial_found (get s k) found.0 found.1 ∙ ap Some (sym (ap (λ o. unwrap_or o 0) found.1))

module _ (s : Slab Slot) (ends : List ListEnds) (rows : List (ℕ × ℕ)) (spare : ℕ) (v : Nodes) (view_is : value_of s ends rows spare ≡ v) (sound : IsSound s ends rows) where
  pub lists_ten : length v.lists ≡ 10
  lists_ten = ap (λ (w : Nodes). length w.lists) (sym view_is) ∙ length-map ends (serials_of s) ∙ sound.ten

  pub list_is : (r : ℕ) → r < 10 → list_of v.lists r ≡ serials s (sound.chain r)
  list_is r below = ap (λ (w : Nodes). list_of w.lists r) (sym view_is) ∙ list-at s ends sound.chain None sound.ten sound.spelled r below

  pub with_serial : (j r : ℕ) → r < 10 → 0 < occurrences j (sound.chain r) → (u : ℕ) × (serial_in (get s j) ≡ Some u)
  with_serial j r below stands = has_serial r (get s j) (stands_placed (get s) (ends_at ends) sound.chain None sound.spelled r j below stands)

  pub first_is : (p : ℕ) → p < 10 → serial_of_slot s (ends_at ends p).first ≡ slice_get (list_of v.lists p) 0
  first_is p below =
      ap (λ (e : ListEnds). serial_of_slot s e.first) (sound.spelled.ended p below)
      ∙ first-serials s (sound.chain p) (λ j. with_serial j p below)
      ∙ ap (λ xs. slice_get xs 0) (sym (list_is p below))

  pub size_is : (p : ℕ) → p < 10 → (ends_at ends p).size ≡ length (list_of v.lists p)
  size_is p below =
      ap (λ (e : ListEnds). e.size) (sound.spelled.ended p below)
      ∙ sym (length-map (sound.chain p) (serial_at s))
      ∙ ap length (sym (list_is p below))

  pub next_is : (t k : ℕ) (c : Slot) → row_of rows t ≡ Some k → get s k ≡ Some c → serial_of_slot s (after_of c) ≡ following t (list_of v.lists (place_number (place_of v t)))
  next_is t k c row_is slot_is =
      let node_is = node_here s ends rows spare v view_is t k c row_is slot_is in
      let below = slot_placed s ends rows sound k c slot_is in
      let p = place_number c.place in
      let once : occurrences k (sound.chain p) ≡ 1 = sound.spelled.standing p k below ∙ ap (λ o. count_in_list p (place_in_slot o)) slot_is ∙ count_in_list-same p c.place refl in
      let between : IsBetween k (sound.chain p) = stands_between k (sound.chain p) (omega (arith, once)) in
      let counted : occurrences k (sound.chain p) ≡ occurrences k between.front + occurrences k (k ∷ between.back) = ap (occurrences k) between.is
      ∙ occurrences-append k between.front (k ∷ between.back) in
      let linked : IsLinked (get s) None (between.front ++ k ∷ between.back) None = subst (λ ks. IsLinked (get s) None ks None) between.is (sound.spelled.linked p below) in
      let behind = linked_back (get s) None between.front (k ∷ between.back) None linked in
      let absent : occurrences k between.front ≡ 0 = omega (arith, once, counted, occurrences-cons k k between.back, one-same k k refl) in
      let among = λ (j : ℕ) (h : 0 < occurrences j between.front). let e : 0 < occurrences j (sound.chain p) = omega (
        arith,
        h,
        ap (occurrences j) between.is,
        occurrences-append j between.front (k ∷ between.back),
      ) in e in
      let later = λ (j : ℕ) (h : 0 < occurrences j between.back). let e : 0 < occurrences j (sound.chain p) = omega (
        arith,
        h,
        ap (occurrences j) between.is,
        occurrences-append j between.front (k ∷ between.back),
        occurrences-cons j k between.back,
      ) in e in
      ap (serial_of_slot s) (sym (ap after_in slot_is) ∙ behind.1)
      ∙ first-serials s between.back (λ j h. with_serial j p below (later j h))
      ∙ sym (following-serials s (row_of rows) sound.names t k row_is between.front between.back absent (λ j h. with_serial j p below (among j h)))
      ∙ ap (λ ks. following t (serials s ks)) (sym between.is)
      ∙ ap (following t) (sym (list_is p below))
      ∙ ap (λ (o : Option ArenaNode). following t (list_of v.lists (place_number (place_in o)))) (sym node_is)

  pub listed_is : IsListed v
  listed_is =
      record {
        ten = lists_ten;
        placed = λ t n is. placed_here t n is (row_of rows t) refl;
        once = λ p t below. once_here p t below (row_of rows t) refl;
      }
    where
      node_at : (t : ℕ) → fin.get v.nodes t ≡ option_map (λ k. node_in (get s k)) (row_of rows t)
      node_at t = ap (λ (w : Nodes). fin.get w.nodes t) (sym view_is) ∙ get-nodes_of rows s t

      placed_here : (t : ℕ) (n : ArenaNode) → fin.get v.nodes t ≡ Some n → (o : Option ℕ) → row_of rows t ≡ o → IsPlace n.place
      placed_here t n is None row_is =
          let none : Some n ≡ None = sym is ∙ node_at t ∙ ap (option_map (λ k. node_in (get s k))) row_is in
          absurd (cc)
      placed_here t n is (Some k) row_is =
          let found = some_value (get s k) (slot_there s ends rows sound t k row_is) in
          let both : Some (node_of found.0) ≡ Some n = sym (node_here s ends rows spare v view_is t k found.0 row_is found.1) ∙ is in
          let same : node_of found.0 ≡ n = cc in
          subst (λ (m : ArenaNode). IsPlace m.place) same (slot_placed s ends rows sound k found.0 found.1)

      once_here : (p t : ℕ) → p < 10 → (o : Option ℕ) → row_of rows t ≡ o → occurrences t (list_of v.lists p) ≡ count_of_node p (fin.get v.nodes t)
      once_here p t below None row_is =
          ap (occurrences t) (list_is p below)
          ∙ serials-absent s (row_of rows) sound.names t row_is (sound.chain p) (λ j. with_serial j p below)
          ∙ sym (ap (count_of_node p) (node_at t ∙ ap (option_map (λ k. node_in (get s k))) row_is))
      once_here p t below (Some k) row_is =
          let found = some_value (get s k) (slot_there s ends rows sound t k row_is) in
          ap (occurrences t) (list_is p below)
          ∙ occurrences-serials s (row_of rows) sound.names t k row_is (sound.chain p) (λ j. with_serial j p below)
          ∙ sound.spelled.standing p k below
          ∙ ap (λ o. count_in_list p (place_in_slot o)) found.1
          ∙ sym (ap (count_of_node p) (node_here s ends rows spare v view_is t k found.0 row_is found.1))

-- an arena without nodes
module _ (s : Slab Slot) (e : ListEnds) (x : SlotIndex) (vacant : s.slots ≡ []) (ends_are : e ≡ no_ends) (no_rows : x.rows.entries ≡ []) where
  abbrev rows : List (ℕ × ℕ)
  rows = rows_of s

  abbrev ten_ends : List ListEnds
  ten_ends = replicate 10 e

  nothing_at : (k : ℕ) → get s k ≡ None
  nothing_at k = ap (λ xs. get_or xs k None) vacant

  no_row : (t : ℕ) → row_of (rows_of s) t ≡ None
  unfolding rows_of
  no_row t = ap (λ xs. row_of (map (λ (f : ℕ × Slot). (f.1.serial, f.0)) (entries_from 0 xs)) t) vacant

  empty_spelled : IsSpelled (get s) (ends_at ten_ends) (λ p. []) None
  empty_spelled =
      record {
        linked = λ p below. tt;
        ended = λ p below. get_or-replicate 10 p e no_ends below ∙ ends_are;
        standing = λ p k below. sym (ap (λ o. count_in_list p (place_in_slot o)) (nothing_at k));
      }

  new_sound : IsSound s ten_ends (rows_of s)
  new_sound =
      let no_len : slab_len s ≡ 0 = ap (λ xs. slab_len (record s { slots = xs })) vacant in
      record {
        ten = refl;
        chain = λ p. [];
        spelled = empty_spelled;
        names = record {
          named = λ k t is. let none : None ≡ Some t = sym (ap serial_in (nothing_at k)) ∙ is in absurd (cc);
          rowed = λ t k is. let none : None ≡ Some k = sym (no_row t) ∙ is in absurd (cc);
        };
        placed = λ k p is. let none : None ≡ Some p = sym (ap place_in_slot (nothing_at k)) ∙ is in absurd (cc);
        counted = ap (λ x. sum_by (λ (d : ListEnds). d.size) (replicate 10 x)) ends_are ∙ sym no_len;
        few = omega (arith, no_len);
      }

  pub new_kept : IsKept s x ten_ends
  new_kept =
      record {
        sound = new_sound;
        indexed = record {
          found = λ k t is. let none : None ≡ Some t = sym (ap serial_in (nothing_at k)) ∙ is in absurd (cc);
          right = λ t k is. let none : None ≡ Some k = sym (ap (λ es. row_of es t) no_rows) ∙ is in absurd (cc);
          below = λ t k is. let none : None ≡ Some k = sym (ap (λ es. row_of es t) no_rows) ∙ is in absurd (cc);
        };
      }

  pub new_value : (spare : ℕ) → value_of s ten_ends (rows_of s) spare ≡ no_nodes (room_of spare s)
  new_value spare =
      let nodes_are : nodes_of rows s ≡ fin.empty = same_map (nodes_of rows s) fin.empty (λ q. get-nodes_of rows s q ∙ ap (option_map (λ k. node_in (get s k)))
      (no_row q) ∙ sym (fin.get-empty nat_cmp q)) in
      let lists_are : map (serials_of s) ten_ends ≡ replicate 10 [] =
      ten_lists (map (serials_of s) ten_ends) (replicate 10 []) refl refl
      (λ r below. list-at s ten_ends (λ p. []) None refl empty_spelled r below ∙ sym (get_or-replicate 10 r [] [] below)) in
      λ i. record { nodes = nodes_are i; lists = lists_are i; room = room_of spare s }
