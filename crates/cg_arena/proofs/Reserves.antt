-- The fields after room is reserved.
use Rattle.std.proofs.Common.{◌≡◌, ℕ, List, map, sym, ap, ◌∙◌, subst}
use Rattle.slab.specs.Slab.{Slab, get, slab_len}
use Rattle.cg_arena.specs.declared.slot.Slot.{Slot}
use Rattle.cg_arena.specs.declared.index.SlotIndex.{SlotIndex}
use Rattle.cg_arena.specs.Links.{ListEnds}
use Rattle.cg_arena.specs.Nodes.{Nodes}
use Rattle.cg_arena.specs.Slots.{before_in, after_in, serial_in, place_in_slot, node_in}
use Rattle.cg_arena.specs.Table.{nodes_of, rows_of, serials_of, room_of, IsSound}
use Rattle.cg_arena.specs.Index.{IsIndexOf, IsKept}
use Rattle.cg_arena.proofs.Indexes.{index_still}
use Rattle.cg_arena.proofs.Rows.{nodes-same}
use Rattle.cg_arena.proofs.Sound.{value_of, sound_still, lists_still}

module _ (s new : Slab Slot) (ends : List ListEnds) (x y : SlotIndex) (kept : IsKept s x ends) (rest : new ≡ record s { capacity = new.capacity }) (indexed : IsIndexOf s y) where
  slots_same : (j : ℕ) → get new j ≡ get s j
  slots_same j = ap (λ z. get z j) rest

  rows_same : rows_of new ≡ rows_of s
  unfolding rows_of
  rows_same = ap rows_of rest

  still : IsSound new ends (rows_of s)
  still =
      sound_still s new ends (rows_of s) kept.sound
      (λ j. (ap before_in (slots_same j), ap after_in (slots_same j)))
      (λ j. ap place_in_slot (slots_same j))
      (λ j. ap serial_in (slots_same j))
      (ap slab_len rest)

  pub reserved_kept : IsKept new y ends
  reserved_kept =
      record {
        sound = subst (IsSound new ends) (sym rows_same) still;
        indexed = index_still (λ k. serial_in (get s k)) (λ k. serial_in (get new k)) y (λ j. ap serial_in (slots_same j)) indexed.finds;
      }

  pub reserved_view : (spare left : ℕ) (v : Nodes) → value_of s ends (rows_of s) spare ≡ v → value_of new ends (rows_of new) left ≡ record v { room = room_of left new }
  reserved_view spare left v view_is =
      let nodes_are : nodes_of (rows_of new) new ≡ v.nodes =
      ap (λ es. nodes_of es new) rows_same ∙ nodes-same (rows_of s) s new (λ j. ap node_in (slots_same j)) ∙ ap (λ (w : Nodes). w.nodes) view_is in
      let lists_are : map (serials_of new) ends ≡ v.lists =
      lists_still s new ends (rows_of s) kept.sound
      (λ j. (ap before_in (slots_same j), ap after_in (slots_same j)))
      (λ j. ap place_in_slot (slots_same j))
      (λ j. ap serial_in (slots_same j))
      (ap slab_len rest)
      ∙ ap (λ (w : Nodes). w.lists) view_is in
      λ i. record { nodes = nodes_are i; lists = lists_are i; room = room_of left new }
