-- The fields after a node is added.
use Rattle.std.proofs.Common.{◌≡◌, ◌≢◌, ◌⊎◌, ℕ, ◌+◌, ◌-◌, ◌<◌, ◌≤◌, ◌^◌, true, List, [], ◌∷◌, map, Option, Some, None, refl, sym, ap, ◌∙◌, subst, inl, inr, arith}
use Rattle.std.specs.Prelude.{IfSome, option_map, is_some, nat_eq, unwrap_or, slice_set, if◌then◌else◌}
use Rattle.std.proofs.lemmas.Bool.{cases_eq, eq-eqb, ne_eqb, true≢false}
use Rattle.std.proofs.lemmas.List.{length-map, length-set}
use Rattle.std.specs.FinMap as fin
use Rattle.slab.specs.Slab.{Slab, get, slab_len, ContainsKey, Updates}
use Rattle.cg_value.specs.declared.Place.{Place}
use Rattle.cg_graph.specs.Maps.{changed}
use Rattle.cg_graph.specs.Holdings.{occurrences}
use Rattle.cg_graph.specs.Places.{place_number, list_of, joins_list}
use Rattle.cg_graph.proofs.Maps.{same_map, get-changed_same, get-changed_other, get-insert_same, get-insert_other}
use Rattle.cg_arena.specs.declared.slot.Slot.{Slot}
use Rattle.cg_arena.specs.declared.index.SlotIndex.{SlotIndex}
use Rattle.cg_arena.specs.Links.{ListEnds, link_set, ends_joined, one_end}
use Rattle.cg_arena.specs.Nodes.{Nodes, ArenaNode, IsPlace, with_node, counted_up, node_counted_up, count_in_list}
use Rattle.cg_arena.specs.Slots.{before_in, after_in, serial_in, place_in_slot, node_in, node_of, link_to, with_after, after_of}
use Rattle.cg_arena.specs.Table.{nodes_of, rows_of, serials_of, room_of, IsSpelled, IsNamed, ends_at, row_of, IsSound}
use Rattle.cg_arena.specs.Index.{LeadsTo, HasRowsBelow, IsKept}
use Rattle.cg_arena.proofs.Occurrences.{last_of-stands}
use Rattle.cg_arena.proofs.Chains.{IsTied}
use Rattle.cg_arena.proofs.TiedSlots.{named_there, part-link_set, get-appended}
use Rattle.cg_arena.proofs.ChangedChains.{stands_placed, vacant_loose, loose_spelled, appended_at, joins_spelled}
use Rattle.cg_arena.proofs.Shapes.{SameShape, shape-link_set}
use Rattle.cg_arena.proofs.Indexes.{added_index, rows_with, index_with}
use Rattle.cg_arena.proofs.Rows.{get-nodes_of, nodes-insert}
use Rattle.cg_arena.proofs.Lists.{serials, serials-same, list-at, ten_lists, lists-joined}
use Rattle.cg_arena.proofs.Sizes.{ends_set-same, ends_set-other, sizes-set}
use Rattle.cg_arena.proofs.Sound.{value_of, StandsFor, index_kept, up_once}
use Rattle.cg_arena.proofs.Lookups.{list_is, lists_ten}

no_value : {X Y : Type 0} (f : X → Y) (o : Option X) → option_map f o ≡ None → o ≡ None
no_value f None none = refl
no_value f (Some x) none = absurd (cc)

-- a missing serial has no row
pub no_row_there : (s : Slab Slot) (ends : List ListEnds) (rows : List (ℕ × ℕ)) (spare : ℕ) (v : Nodes) → value_of s ends rows spare ≡ v → (t : ℕ) → fin.get v.nodes t ≡ None → row_of rows t ≡ None
no_row_there s ends rows spare v view_is t none =
    no_value (λ k. node_in (get s k)) (row_of rows t)
    (sym (get-nodes_of rows s t) ∙ ap (λ (w : Nodes). fin.get w.nodes t) view_is ∙ none)

-- a slot that has a place is occupied
pub some_numbered : (p : ℕ) (o : Option Slot) → count_in_list p (place_in_slot o) ≡ 1 → is_some o ≡ true
some_numbered p None stands = absurd (omega (arith, stands))
some_numbered p (Some c) stands = refl

pub last_there : (cell : ℕ → Option Slot) (ends : ℕ → ListEnds) (chain : ℕ → List ℕ) (loose : Option ℕ) → IsSpelled cell ends chain loose → (q : ℕ) → q < 10
    → (j : ℕ) → (ends q).last ≡ Some j → is_some (cell j) ≡ true
last_there cell ends chain loose spelled q below j is =
    some_numbered q (cell j)
    (stands_placed cell ends chain loose spelled q j below
    (last_of-stands (chain q) j (sym (ap (λ (e : ListEnds). e.last) (spelled.ended q below)) ∙ is)))

-- the last slot of a list is still occupied when a vacant one was taken
pub last_still_there : (s mid : Slab Slot) (ends : List ListEnds) (rows : List (ℕ × ℕ)) → IsSound s ends rows → (k : ℕ) (c : Slot) → get s k ≡ None → Updates s mid k (Some c)
    → (q : ℕ) → q < 10 → IfSome (ends_at ends q).last (ContainsKey mid)
last_still_there s mid ends rows sound k c vacant updates q below =
    named_there (ends_at ends q).last mid (λ j is.
    let there = last_there (get s) (ends_at ends) sound.chain None sound.spelled q below j is in
    elim (cases_eq j k) [
      | inl same ↦ absurd (true≢false (sym there ∙ ap (λ i. is_some (get s i)) same ∙ ap is_some vacant))
      | inr differs ↦ ap is_some (updates.others j differs) ∙ there
    ])

module _ (s mid new : Slab Slot) (ends : List ListEnds) (x y : SlotIndex) (kept : IsKept s x ends) (spare : ℕ) (v : Nodes) (view_is : value_of s ends (rows_of s)
    spare ≡ v) (t k : ℕ) (c : Slot) (n : ArenaNode) (node_is : node_of c ≡ n) (serial_is : c.serial ≡ t) (after_is : after_of c
    ≡ None) (fresh : fin.get v.nodes t ≡ None) (k_is : k ≡ s.vacant_key) (roomy : 0 < v.room) (vacant : get s k ≡ None)
    (updated : Updates s mid s.vacant_key (Some c)) (len : slab_len mid ≡ slab_len s + 1) (few : slab_len mid < 2 ^ 64) (noted_below : HasRowsBelow y) (noted : LeadsTo y t k) (noted_others : (j u : ℕ)
    → serial_in (get s j) ≡ Some u → u ≢ t → LeadsTo x u j → LeadsTo y u j) (noted_rows : (u j : ℕ) → row_of y.rows.entries u ≡ Some j
    → (row_of x.rows.entries u ≡ Some j) ⊎ ((serial_in (get s j) ≡ Some u) ⊎ ((u ≡ t) × (j ≡ k)))) (q : ℕ) (q_is : q ≡ place_number n.place) (below : q < 10)
    (before_is : c.previous ≡ link_to (ends_at ends q).last) (linked_is : new ≡ link_set with_after (ends_at ends q).last (Some k) mid) (e : ListEnds)
    (ends_are : e ≡ ends_joined (ends_at ends q) (one_end k)) where
  abbrev rows : List (ℕ × ℕ)
  rows = rows_of s

  abbrev later : List (ℕ × ℕ)
  later = rows_of new

  abbrev sound : IsSound s ends (rows_of s)
  sound = kept.sound

  was : v.room ≡ room_of spare s
  was = ap (λ (w : Nodes). w.room) (sym view_is)

  updates : Updates s mid k (Some c)
  updates = subst (λ j. Updates s mid j (Some c)) (sym k_is) updated

  no_row : row_of (rows_of s) t ≡ None
  no_row = no_row_there s ends rows spare v view_is t fresh

  slot_others : (j : ℕ) → j ≢ k → get mid j ≡ get s j
  slot_others j differs = updates.others j differs

  place_is : c.place ≡ n.place
  place_is = ap (λ (m : ArenaNode). m.place) node_is

  mid_placed : (j : ℕ) (p : Place) → place_in_slot (get mid j) ≡ Some p → IsPlace p × (j < 2 ^ 32 - 1)
  mid_placed j p is = elim (cases_eq j k) [
    | inl same ↦
        let both : Some n.place ≡ Some p = ap Some (sym place_is) ∙ sym (ap place_in_slot updates.changed) ∙ ap (λ i. place_in_slot (get mid i)) (sym same) ∙ is in
        let there : n.place ≡ p = cc in
        (subst (λ m. m < 10) (q_is ∙ ap place_number there) below, omega (arith, same, k_is, was, roomy))
    | inr differs ↦ sound.placed j p (sym (ap place_in_slot (slot_others j differs)) ∙ is)
  ]

  loose : IsSpelled (get mid) (ends_at ends) kept.sound.chain (Some k)
  loose =
      loose_spelled (get s) (get mid) (ends_at ends) sound.chain k
      (vacant_loose (get s) (ends_at ends) sound.chain k vacant sound.spelled)
      (λ j differs. (ap before_in (slot_others j differs), ap after_in (slot_others j differs)))
      (λ j differs. ap place_in_slot (slot_others j differs))

  tie : IsTied (get mid) (get new) (ends_at ends q).last (Some k)
  tie =
      subst (λ z. IsTied (get mid) (get z) (ends_at ends q).last (Some k)) (sym linked_is)
      (get-appended (ends_at ends q).last k mid mid_placed (last_there (get mid) (ends_at ends) sound.chain (Some k) loose q below) c updates.changed before_is)

  shape : SameShape mid new
  shape = subst (SameShape mid) (sym linked_is) (shape-link_set with_after (λ o x. refl) (ends_at ends q).last (Some k) mid)

  places : (j : ℕ) → place_in_slot (get new j) ≡ place_in_slot (get mid j)
  places j = ap (λ z. place_in_slot (get z j)) linked_is ∙ part-link_set with_after place_in_slot (λ o x. refl) (ends_at ends q).last (Some k) mid j

  nodes : (j : ℕ) → node_in (get new j) ≡ node_in (get mid j)
  nodes j = ap (λ z. node_in (get z j)) linked_is ∙ part-link_set with_after node_in (λ o x. refl) (ends_at ends q).last (Some k) mid j

  added_spelled : IsSpelled (get new) (ends_at (slice_set ends q e)) (appended_at q (k ∷ []) kept.sound.chain) None
  added_spelled =
      joins_spelled (get mid) (get new) (ends_at ends) (ends_at (slice_set ends q e)) sound.chain k q loose c.place below
      (ap place_in_slot updates.changed) (ap place_number place_is ∙ sym q_is) (ap after_in updates.changed ∙ after_is)
      (ends_at ends q).last refl tie places
      (ends_set-same ends sound.ten q below e ∙ ends_are)
      (λ r differs. ends_set-other ends q r e differs)

  serial_here : serial_in (get new k) ≡ Some t
  serial_here = shape.serials k ∙ ap serial_in updates.changed ∙ ap Some serial_is

  serial_there : (j : ℕ) → j ≢ k → serial_in (get new j) ≡ serial_in (get s j)
  serial_there j differs = shape.serials j ∙ ap serial_in (slot_others j differs)

  rows_are : (u : ℕ) → row_of (rows_of new) u ≡ (if nat_eq t u then Some k else row_of (rows_of s) u)
  rows_are = rows_with s new kept.sound.names t k serial_there no_row vacant serial_here

  row_here : (u : ℕ) → u ≡ t → row_of (rows_of new) u ≡ Some k
  row_here u same = rows_are u ∙ ap (λ b. if b then Some k else row_of rows u) (eq-eqb t u (sym same))

  row_there : (u : ℕ) → u ≢ t → row_of (rows_of new) u ≡ row_of (rows_of s) u
  row_there u differs = rows_are u ∙ ap (λ b. if b then Some k else row_of rows u) (ne_eqb t u (λ f. differs (sym f)))

  added_names : IsNamed (λ j. serial_in (get new j)) (row_of (rows_of new))
  added_names =
      record {
        named = λ j u is. elim (cases_eq j k) [
          | inl same ↦
              let both : Some t ≡ Some u = sym serial_here ∙ ap (λ i. serial_in (get new i)) (sym same) ∙ is in
              let t_is : u ≡ t = cc in
              row_here u t_is ∙ ap Some (sym same)
          | inr differs ↦
              let row_u : row_of rows u ≡ Some j = sound.names.named j u (sym (serial_there j differs) ∙ is) in
              let other : u ≢ t = λ same. let none : None ≡ Some j = sym no_row ∙ ap (row_of rows) (sym same) ∙ row_u in absurd (cc) in
              row_there u other ∙ row_u
        ];
        rowed = λ u j is. elim (cases_eq u t) [
          | inl same ↦
              let both : Some k ≡ Some j = sym (row_here u same) ∙ is in
              let k_is : j ≡ k = cc in
              ap (λ i. serial_in (get new i)) k_is ∙ serial_here ∙ ap Some (sym same)
          | inr differs ↦
              let was : serial_in (get s j) ≡ Some u = sound.names.rowed u j (sym (row_there u differs) ∙ is) in
              let other : j ≢ k = λ same. let none : None ≡ Some u = sym (ap serial_in vacant) ∙ ap (λ i. serial_in (get s i)) (sym same) ∙ was in absurd (cc) in
              serial_there j other ∙ was
        ];
      }

  added_sound : IsSound new (slice_set ends q e) (rows_of new)
  added_sound =
      let size : e.size ≡ (ends_at ends q).size + 1 = ap (λ (d : ListEnds). d.size) ends_are in
      record {
        ten = length-set ends q e ∙ sound.ten;
        chain = appended_at q (k ∷ []) sound.chain;
        spelled = added_spelled;
        names = added_names;
        placed = λ j p is. mid_placed j p (sym (places j) ∙ is);
        counted = omega (arith, sizes-set ends sound.ten q below e, sound.counted, size, len, shape.len);
        few = subst (λ m. m < 2 ^ 64) (sym shape.len) few;
      }

  added_kept : IsKept new y (slice_set ends q e)
  added_kept = record {
    sound = added_sound;
    indexed = index_with s new kept.sound.names t k serial_there no_row vacant serial_here y
        (added_index s x y (index_kept s ends x kept) t k no_row vacant noted_below noted noted_others noted_rows);
  }

  nodes_are : nodes_of (rows_of new) new ≡ fin.insert v.nodes t n
  nodes_are =
      nodes-insert rows later s new sound.names t k n vacant rows_are
      (nodes k ∙ ap node_in updates.changed ∙ node_is)
      (λ j differs. nodes j ∙ ap node_in (slot_others j differs))
      ∙ ap (λ (w : Nodes). fin.insert w.nodes t n) view_is

  absent_before : (r : ℕ) → r < 10 → occurrences k (kept.sound.chain r) ≡ 0
  absent_before r r_below = sound.spelled.standing r k r_below ∙ ap (λ o. count_in_list r (place_in_slot o)) vacant

  lists_are : map (serials_of new) (slice_set ends q e) ≡ joins_list v.lists t (place_number n.place)
  lists_are =
      let old_ten = lists_ten s ends rows spare v view_is sound in
      let old_are = λ (r : ℕ) (r_below : r < 10). let f : list_of v.lists r ≡ serials new (sound.chain r) =
      list_is s ends rows spare v view_is sound r r_below
      ∙ sym (serials-same s new (sound.chain r) (λ j stands. serial_there j (λ same. absurd (omega (arith, stands, absent_before r r_below, ap (λ i. occurrences i (sound.chain r)) same))))) in f in
      ten_lists (map (serials_of new) (slice_set ends q e)) (joins_list v.lists t (place_number n.place))
      (length-map (slice_set ends q e) (serials_of new) ∙ length-set ends q e ∙ sound.ten)
      (length-set v.lists (place_number n.place) _ ∙ old_ten)
      (λ r r_below.
      list-at new (slice_set ends q e) (appended_at q (k ∷ []) sound.chain) None (length-set ends q e ∙ sound.ten) added_spelled r r_below
      ∙ sym (lists-joined new v.lists sound.chain old_ten old_are t k q (ap (λ o. unwrap_or o 0) serial_here) below r r_below)
      ∙ ap (λ p. list_of (joins_list v.lists t p) r) q_is)

  pub added : (left : ℕ) → StandsFor new (slice_set ends q e) y left
      (with_node t n (record v { room = room_of left new })) × (v.room ≤ room_of left new + 1)
  added left =
      (record { kept = added_kept; view = λ i. record { nodes = nodes_are i; lists = lists_are i; room = room_of left new } }, omega (arith, was))

-- a node added and counted once is added with its count raised
pub counted_up-with_node : (t : ℕ) (n : ArenaNode) (v : Nodes) → counted_up (t ∷ []) (with_node t n v) ≡ with_node t (node_counted_up 1 n) v
counted_up-with_node t n v = sym (up_once t (with_node t n v)) ∙ (λ i. record (with_node t n v) { nodes = raised i })
  where
    raised : changed (node_counted_up 1) t (fin.insert v.nodes t n) ≡ fin.insert v.nodes t (node_counted_up 1 n)
    raised = same_map _ _ (λ q. elim (cases_eq q t) [
      | inl same ↦
          get-changed_same (node_counted_up 1) t (fin.insert v.nodes t n) q same
          ∙ ap (option_map (node_counted_up 1)) (get-insert_same v.nodes t q n same)
          ∙ sym (get-insert_same v.nodes t q (node_counted_up 1 n) same)
      | inr differs ↦
          get-changed_other (node_counted_up 1) t (fin.insert v.nodes t n) q differs
          ∙ get-insert_other v.nodes t q n differs
          ∙ sym (get-insert_other v.nodes t q (node_counted_up 1 n) differs)
    ])
