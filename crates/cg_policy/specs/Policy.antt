-- What a contract sees of a `Policy`, and what each call does to its numbers where the machine has no name for it.
use Rattle.std.specs.Prelude.{ℕ, ◌+◌, ◌-◌, ◌<◌, ◌^◌, Bool, not, ◌&&◌, Option, Some, None, if◌then◌else◌, unwrap_or}
use Rattle.cg_machine.specs.World.{Numbers}
use Rattle.cg_machine.specs.Due.{is_due, due_generation}

-- the machine's numbers, and whether a collection is running
pub record Policy : Type 0 where
  pub numbers : Numbers
  pub running : Bool

abbrev pub with_numbers : Numbers → Policy → Policy
with_numbers n p = record p { numbers = n }

-- The generation of the collection that is due, if any, while none is running. (The machine's rule, on a policy.)
abbrev pub due_of : Policy → Option ℕ
due_of p = if is_due p.numbers && not p.running then Some (due_generation p.numbers) else None

-- The rising numbers are in range. (Ours: a run makes far fewer than 2 ^ 63 objects. Pending grows at each collection
-- of generation 1 by all survivors, counted again each time, so the number of objects does not bound it.)
pub record IsBounded (n : Numbers) : Type 0 where
  pub zero : n.zero_count < 2 ^ 63
  pub one : n.one_count < 2 ^ 63
  pub two : n.two_count < 2 ^ 63
  pub pending : n.pending < 2 ^ 127
  pub total : n.total < 2 ^ 63

-- The numbers after an object is made, and after one is freed. (`gc.set_threshold`, and CPython's `PyObject_GC_Del`:
-- count 0 does not fall below 0.)
abbrev pub with_one_made : Numbers → Numbers
with_one_made n = record n { zero_count = n.zero_count + 1 }

abbrev pub with_one_freed : Numbers → Numbers
with_one_freed n = record n { zero_count = n.zero_count - 1 }

-- automatic collections on or off (`gc.enable`, `gc.disable`)
abbrev pub with_enabled : Bool → Numbers → Numbers
with_enabled on n = record n { enabled = on }

-- other debug flags (`gc.set_debug`)
abbrev pub with_flags : ℕ → Numbers → Numbers
with_flags bits n = record n { flags = bits }

-- other thresholds; a missing one is kept (`gc.set_threshold`)
abbrev pub with_thresholds : ℕ → Option ℕ → Option ℕ → Numbers → Numbers
with_thresholds first second third n = record n {
  zero_threshold = first;
  one_threshold = unwrap_or second n.one_threshold;
  two_threshold = unwrap_or third n.two_threshold;
}

-- all three counts set to 0 (`gc.freeze`)
abbrev pub with_zero_counts : Numbers → Numbers
with_zero_counts n = record n { zero_count = 0; one_count = 0; two_count = 0 }
