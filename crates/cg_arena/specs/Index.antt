-- Where to find the slot of a serial: by its guess, or in a row. (Ours.)
use Rattle.std.specs.Prelude.{◌≡◌, ◌⊎◌, ◌≤◌, ℕ, ◌/◌, ◌%◌, ◌^◌, List, Option, Some, IsSome, slice_index_or, bit_and, bit_xor}
use Rattle.cg_arena.specs.declared.hints.Hints.{Hints}
use Rattle.cg_arena.specs.declared.index.SlotIndex.{SlotIndex}
use Rattle.slab.specs.Slab.{Slab, get}
use Rattle.cg_arena.specs.declared.slot.Slot.{Slot}
use Rattle.cg_arena.specs.Links.{ListEnds}
use Rattle.cg_arena.specs.Slots.{serial_in}
use Rattle.cg_arena.specs.Table.{row_of, rows_of, IsNamed, IsSound}

-- the index of a serial's guess: its low bits, mixed with the bits above them
unfoldable pub guess_index : Hints → ℕ → ℕ
guess_index h s = bit_and (bit_xor s (s / 2 ^ (h.bits % 64))) h.mask

-- the guessed slot
abbrev pub guess_at : Hints → ℕ → ℕ
guess_at h s = slice_index_or h.guesses.items (guess_index h s) 0

-- the index finds a serial in a slot
abbrev pub LeadsTo : SlotIndex → ℕ → ℕ → Type 0
LeadsTo x s k = (guess_at x.hints s ≡ k) ⊎ (row_of x.rows.entries s ≡ Some k)

-- no serial above this bound has a row
abbrev pub HasRowsBelow : SlotIndex → Type 0
HasRowsBelow x = (s k : ℕ) → row_of x.rows.entries s ≡ Some k → s ≤ x.most

-- the index finds the serial of each slot, and no row is wrong
pub record IsIndex (serial : ℕ → Option ℕ) (x : SlotIndex) : Type 0 where
  pub found : (k s : ℕ) → serial k ≡ Some s → LeadsTo x s k
  pub right : (s k : ℕ) → row_of x.rows.entries s ≡ Some k → serial k ≡ Some s
  pub below : HasRowsBelow x

-- it is the index of these slots, and no serial is in two of them
pub record IsIndexOf (slots : Slab Slot) (x : SlotIndex) : Type 0 where
  pub finds : IsIndex (λ k. serial_in (get slots k)) x
  pub names : IsNamed (λ k. serial_in (get slots k)) (row_of (rows_of slots))

-- it is the index of these slots, and the serial is in one of them
pub record Finds (slots : Slab Slot) (x : SlotIndex) (serial : ℕ) : Type 0 where
  pub index : IsIndexOf slots x
  pub there : IsSome (row_of (rows_of slots) serial)

-- the row of a serial names its slot
pub record HasRow (slots : Slab Slot) (x : SlotIndex) (serial : ℕ) : Type 0 where
  pub at : ℕ
  pub slot : Slot
  pub row : row_of x.rows.entries serial ≡ Some at
  pub there : get slots at ≡ Some slot
  pub serial_is : slot.serial ≡ serial

-- the invariant of an arena's fields: its chains, and the index of its slots
pub record IsKept (slots : Slab Slot) (index : SlotIndex) (ends : List ListEnds) : Type 0 where
  pub sound : IsSound slots ends (rows_of slots)
  pub indexed : IsIndex (λ k. serial_in (get slots k)) index
