-- Chains of slots: what the links spell, and what link updates write.
use Rattle.std.specs.Prelude.{◌≡◌, ℕ, zero, suc, ◌+◌, ◌-◌, List, [], ◌∷◌, length, Option, Some, None, option_map, slice_set, refl}
use Rattle.std.specs.Coded.{Coded, code_by, coded×, coded_ℕ, coded_option}
use Rattle.slab.specs.Slab.{Slab, get}
use Rattle.cg_value.specs.declared.Place.{Place}
use Rattle.cg_arena.specs.declared.slot.Slot.{Slot}
use Rattle.cg_arena.specs.Slots.{before_in, after_in, with_before, with_after, with_place}

-- the slots with one of them changed, if it is occupied
unfoldable pub rewritten : (Slot → Slot) → ℕ → Slab Slot → Slab Slot
rewritten f k s = record s { slots = slice_set s.slots k (option_map f (get s k)) }

-- sets one link of an optional slot
abbrev pub link_set : (Option ℕ → Slot → Slot) → Option ℕ → Option ℕ → Slab Slot → Slab Slot
link_set write None to s = s
link_set write (Some k) to s = rewritten (write to) k s

-- sets its place
abbrev pub place_set : Option ℕ → Place → Slab Slot → Slab Slot
place_set None place s = s
place_set (Some k) place s = rewritten (with_place place) k s

-- two slots name each other
abbrev pub tied : Option ℕ → Option ℕ → Slab Slot → Slab Slot
tied before after s = link_set with_before after before (link_set with_after before after s)

-- each slot of a list gets a place
abbrev pub all_placed : List ℕ → Place → Slab Slot → Slab Slot
all_placed [] place s = s
all_placed (k ∷ ks) place s = all_placed ks place (rewritten (with_place place) k s)

-- the slots reached by following the links, up to a number of them
abbrev pub chain_from : Slab Slot → ℕ → Option ℕ → List ℕ
chain_from s zero at = []
chain_from s (suc n) None = []
chain_from s (suc n) (Some k) = k ∷ chain_from s n (after_in (get s k))

-- the first of some slots, else what comes after them
abbrev pub first_or : List ℕ → Option ℕ → Option ℕ
first_or [] after = after
first_or (k ∷ ks) after = Some k

-- the last of some slots, else what comes before them
abbrev pub last_or : Option ℕ → List ℕ → Option ℕ
last_or before [] = before
last_or before (k ∷ ks) = last_or (Some k) ks

-- the slots are linked in this order, both ways, between these two
abbrev pub IsLinked : (ℕ → Option Slot) → Option ℕ → List ℕ → Option ℕ → Type 0
IsLinked cell before [] after = Unit {0}
IsLinked cell before (k ∷ ks) after =
    (before_in (cell k) ≡ before) × (after_in (cell k) ≡ first_or ks after) × IsLinked cell (Some k) ks after

-- the ends of a list of slots, and its size
pub record ListEnds : Type 0 where
  pub first : Option ℕ
  pub last : Option ℕ
  pub size : ℕ

-- they are stored as the tuple of their fields
abbrev pub list_ends_code : Coded ListEnds
list_ends_code =
    code_by
    (Option ℕ × (Option ℕ × ℕ))
    (coded× (coded_option coded_ℕ) (coded× (coded_option coded_ℕ) coded_ℕ))
    (λ e. (e.first, (e.last, e.size)))
    (λ p. record { first = p.0; last = p.1.0; size = p.1.1 })
    (λ _. refl)

-- the ends of an empty list, of one slot, of a list after a slot leaves, and of two lists joined
abbrev pub no_ends : ListEnds
no_ends = record { first = None; last = None; size = 0 }

abbrev pub one_end : ℕ → ListEnds
one_end k = record { first = Some k; last = Some k; size = 1 }

abbrev pub or_else : Option ℕ → Option ℕ → Option ℕ
or_else None other = other
or_else (Some k) other = Some k

-- the second if the first is missing, else the third
abbrev pub at_end : Option ℕ → Option ℕ → Option ℕ → Option ℕ
at_end None beyond end = beyond
at_end (Some k) beyond end = end

abbrev pub ends_without : Option ℕ → Option ℕ → ListEnds → ListEnds
ends_without before after e = record {
  first = at_end before after e.first;
  last = at_end after before e.last;
  size = e.size - 1;
}

abbrev pub ends_joined : ListEnds → ListEnds → ListEnds
ends_joined e f = record { first = or_else e.first f.first; last = or_else f.last e.last; size = e.size + f.size }

-- the ends of a list of slots
abbrev pub ends_of : List ℕ → ListEnds
ends_of ks = record { first = first_or ks None; last = last_or None ks; size = length ks }
