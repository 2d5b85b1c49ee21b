-- How the stack stores its activities: a collection is stored in a separate seat. (Ours.)
use Rattle.std.specs.Prelude.{◌≡◌, Bool, true, false, List, Option, None, Some, IsSome, count_by, length, option_to_list}
use Rattle.cg_death.specs.declared.death.Death.{Death}
use Rattle.cg_collect.specs.declared.collection.Collection.{Collection}
use Rattle.cg_interp.specs.declared.activity.Activity.{Activity}
use Rattle.cg_interp.specs.declared.activity.Activity.TheVariants as activity
use Rattle.cg_interp.specs.declared.slot.Slot.{Slot}
use Rattle.cg_interp.specs.declared.slot.Slot.TheVariants as slot

-- a collection with the content of the seat; an empty seat has no such slot, so the value then does not matter
abbrev pub seated : Bool → Option Collection → Activity
seated asked None = activity.Script None
seated asked (Some collection) = activity.Collecting asked collection

-- the activity of a slot, with the content of the seat
abbrev pub filled : Option Collection → Slot → Activity
filled seat (slot.Script next) = activity.Script next
filled seat (slot.Frame locals procedure next) = activity.Frame locals procedure next
filled seat (slot.Releasing release) = activity.Releasing release
filled seat (slot.Shutdown started) = activity.Shutdown started
filled seat (slot.Dying death) = activity.Dying death
filled seat (slot.Collecting asked) = seated asked seat

-- whether a slot is that of the seated collection
abbrev pub takes_seat : Slot → Bool
takes_seat (slot.Script next) = false
takes_seat (slot.Frame locals procedure next) = false
takes_seat (slot.Releasing release) = false
takes_seat (slot.Shutdown started) = false
takes_seat (slot.Dying death) = false
takes_seat (slot.Collecting asked) = true

-- As many slots are that of the seated collection as there are seated collections: one or none.
abbrev pub IsSeatOf : List Slot → Option Collection → Type 0
IsSeatOf slots seat = count_by takes_seat slots ≡ length (option_to_list seat)

-- The seat without a slot, and with it: a collection takes the seat if it is empty; any other slot leaves it alone.
pub record Seats (top : Slot) (without with : Option Collection) : Type 0 where
  pub takes : takes_seat top ≡ true → (without ≡ None) × IsSome with
  pub leaves : takes_seat top ≡ false → with ≡ without

-- the death in a slot, if any
abbrev pub death_at : Slot → Option Death
death_at (slot.Dying death) = Some death
death_at top = None
