-- What the fields of an arena represent, and their invariant.
use Rattle.std.specs.Prelude.{◌≡◌, ℕ, ◌-◌, ◌<◌, ◌^◌, ◌==◌, List, map, length, sum_by, min, nat_eq, unwrap_or, Option, Some, None, slice_index_or, if◌then◌else◌}
use Rattle.std.specs.Ordering.{nat_cmp}
use Rattle.std.specs.FinMap as fin
use Rattle.std.specs.Map.{lookup}
use Rattle.slab.specs.Slab.{Slab, get, slab_len, entries}
use Rattle.cg_graph.specs.Holdings.{occurrences}
use Rattle.cg_arena.specs.declared.slot.Slot.{Slot}
use Rattle.cg_arena.specs.Links.{ListEnds, chain_from, IsLinked, ends_of, no_ends}
use Rattle.cg_value.specs.declared.Place.{Place}
use Rattle.cg_arena.specs.Nodes.{ArenaNode, IsPlace, count_in_list}
use Rattle.cg_arena.specs.Slots.{serial_in, place_in_slot, node_in}

-- the row of each occupied slot: its serial and the slot
unfoldable pub rows_of : Slab Slot → List (ℕ × ℕ)
rows_of s = map (λ e. (e.1.serial, e.0)) (entries s)

-- the nodes of the rows: each row names the slot of its serial
unfoldable pub nodes_of : List (ℕ × ℕ) → Slab Slot → fin.FinMap nat_cmp ArenaNode
nodes_of rows s = fin.from_entries (map (λ e. (e.0, node_in (get s e.1))) rows)

-- the serials of the list between two ends
unfoldable pub serials_of : Slab Slot → ListEnds → List ℕ
serials_of s e = map (λ k. unwrap_or (serial_in (get s k)) 0) (chain_from s e.size e.first)

-- 1 if one more node fits without allocating, else 0: both tables need room, and a link must be able to name the slot
abbrev pub room_of : ℕ → Slab Slot → ℕ
room_of spare s = min (min 1 (2 ^ 32 - 1 - s.vacant_key)) (min spare (s.capacity - slab_len s))

-- how often a slot is in a list: never, if it is the loose one
abbrev pub stands_at : Option ℕ → ℕ → ℕ → Option Place → ℕ
stands_at None p k at = count_in_list p at
stands_at (Some loose) p k at = if k == loose then 0 else count_in_list p at

-- The chain of each place, by its number: the links agree in both directions, its ends and size are right, and each
-- slot is once in the chain of its place and in no other.
pub record IsSpelled (cell : ℕ → Option Slot) (ends : ℕ → ListEnds) (chain : ℕ → List ℕ) (loose : Option ℕ) : Type 0 where
  pub linked : (p : ℕ) → p < 10 → IsLinked cell None (chain p) None
  pub ended : (p : ℕ) → p < 10 → ends p ≡ ends_of (chain p)
  pub standing : (p k : ℕ) → p < 10 → occurrences k (chain p) ≡ stands_at loose p k (place_in_slot (cell k))

-- the row of each serial names its slot, and each row names a slot with its serial
pub record IsNamed (serial row : ℕ → Option ℕ) : Type 0 where
  pub named : (k s : ℕ) → serial k ≡ Some s → row s ≡ Some k
  pub rowed : (s k : ℕ) → row s ≡ Some k → serial k ≡ Some s

-- the ends at a number
abbrev pub ends_at : List ListEnds → ℕ → ListEnds
ends_at ends p = slice_index_or ends p no_ends

-- the slot of a serial
abbrev pub row_of : List (ℕ × ℕ) → ℕ → Option ℕ
row_of rows s = lookup (nat_eq s) rows

-- the invariant of an arena's fields: among others, each node has one of the ten places, and a link can name its slot
pub record IsSound (slots : Slab Slot) (ends : List ListEnds) (rows : List (ℕ × ℕ)) : Type 0 where
  pub ten : length ends ≡ 10
  pub chain : ℕ → List ℕ
  pub spelled : IsSpelled (get slots) (ends_at ends) chain None
  pub names : IsNamed (λ k. serial_in (get slots k)) (row_of rows)
  pub placed : (k : ℕ) (p : Place) → place_in_slot (get slots k) ≡ Some p → IsPlace p × (k < 2 ^ 32 - 1)
  pub counted : sum_by (λ e. e.size) ends ≡ slab_len slots
  pub few : slab_len slots < 2 ^ 64
