-- The contents of a slot: a node, its serial, and its two links.
use Rattle.std.specs.Prelude.{ℕ, ◌-◌, ◌^◌, ◌==◌, Bool, true, false, Option, Some, None, unwrap_or, if◌then◌else◌}
use Rattle.cg_value.specs.declared.Place.{Place}
use Rattle.cg_value.specs.declared.Place.TheVariants.{Untracked, Gen}
use Rattle.cg_value.specs.declared.KindCode.TheVariants.{List as ListCode}
use Rattle.cg_arena.specs.Nodes.{ArenaNode, new_node}
use Rattle.cg_arena.specs.declared.slot.Slot.{Slot}
use Rattle.cg_arena.specs.declared.slot.Marks.{Marks}
use Rattle.cg_arena.specs.declared.slot.Marks.TheVariants.{Neither, Classed, Finalized, Both}

-- what the marks of an object say
abbrev pub says_classed : Marks → Bool
says_classed Neither = false
says_classed Classed = true
says_classed Finalized = false
says_classed Both = true

abbrev pub says_finalized : Marks → Bool
says_finalized Neither = false
says_finalized Classed = false
says_finalized Finalized = true
says_finalized Both = true

abbrev pub class_of : Slot → Option ℕ
class_of c = if says_classed c.marks then Some c.class else None

abbrev pub node_of : Slot → ArenaNode
node_of c = record {
  code = c.code;
  class = class_of c;
  body = c.body;
  count = c.count;
  finalized = says_finalized c.marks;
  place = c.place;
  number = c.number;
}

-- the number of a generation, 0 for another place
abbrev pub generation_in : Place → ℕ
generation_in (Gen i) = i
generation_in place = 0

-- the slot that a link names, if any: the greatest number of 32 bits names none
abbrev pub link_of : ℕ → Option ℕ
link_of n = if n == 2 ^ 32 - 1 then None else Some n

-- the link to an optional slot
abbrev pub link_to : Option ℕ → ℕ
link_to at = unwrap_or at (2 ^ 32 - 1)

-- the previous and the next slot in its list, if any
abbrev pub before_of : Slot → Option ℕ
before_of c = link_of c.previous

abbrev pub after_of : Slot → Option ℕ
after_of c = link_of c.next

-- the slot with one field changed
abbrev pub with_before : Option ℕ → Slot → Slot
with_before before c = record c { previous = link_to before }

abbrev pub with_after : Option ℕ → Slot → Slot
with_after after c = record c { next = link_to after }

abbrev pub with_place : Place → Slot → Slot
with_place place c = record c { place = place }

-- the slot as the last of the list of a place
abbrev pub placed_last : Place → Option ℕ → Slot → Slot
placed_last place before c = with_after None (with_before before (with_place place c))

abbrev pub with_count : ℕ → Slot → Slot
with_count count c = record c { count = count }

abbrev pub with_mark : Slot → Slot
with_mark c = record c { marks = if says_classed c.marks then Both else Finalized }

abbrev pub with_number : ℕ → Slot → Slot
with_number number c = record c { number = number }

-- the parts of an optional slot
abbrev pub before_in : Option Slot → Option ℕ
before_in None = None
before_in (Some c) = before_of c

abbrev pub after_in : Option Slot → Option ℕ
after_in None = None
after_in (Some c) = after_of c

abbrev pub serial_in : Option Slot → Option ℕ
serial_in None = None
serial_in (Some c) = Some c.serial

abbrev pub place_in_slot : Option Slot → Option Place
place_in_slot None = None
place_in_slot (Some c) = Some c.place

-- a vacant slot has no node: its value here is never used
abbrev pub node_in : Option Slot → ArenaNode
node_in None = new_node ListCode None 0 Untracked
node_in (Some c) = node_of c
