-- When a collection is due, and of which generation. (`gc.set_threshold`; developer guide, "collecting the oldest
-- generation", for the quarter.)
use Rattle.std.specs.Prelude.{ℕ, ◌/◌, Bool, not, ◌&&◌, ◌==◌, nat_lt, Option, Some, None, if◌then◌else◌}
use Rattle.cg_machine.specs.World.{World, Numbers}
use Rattle.cg_machine.specs.Holdings.{is_collecting}

-- Generation 2 is skipped while fewer objects are pending than a quarter of the total of the last full collection.
abbrev pub due_generation : Numbers → ℕ
due_generation n =
    if nat_lt n.two_threshold n.two_count && not (nat_lt n.pending (n.total / 4)) then 2
    else if nat_lt n.one_threshold n.one_count then 1
    else 0

-- by the numbers alone
abbrev pub is_due : Numbers → Bool
is_due n = n.enabled && not (n.zero_threshold == 0) && nat_lt n.zero_threshold n.zero_count

-- the generation of the collection that is due, if one is due and none is running
abbrev pub due : World → Option ℕ
due w = if is_due w.numbers && not (is_collecting w) then Some (due_generation w.numbers) else None
