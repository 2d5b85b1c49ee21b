-- What each call of a `Policy` does, in terms of the machine.
use Rattle.std.specs.Prelude.{◌≡◌, ℕ, true, false, List, [], Option, None, Ok}
use Rattle.cg_value.specs.declared.Entry.{Entry}
use Rattle.cg_value.specs.declared.KindCode.{KindCode}
use Rattle.cg_script.specs.declared.Command.TheVariants.{Enable, Disable, Threshold, Flags, Freeze}
use Rattle.cg_machine.specs.World.{World, Activity}
use Rattle.cg_machine.specs.Holdings.{is_collecting}
use Rattle.cg_machine.specs.Dying.{empty_one}
use Rattle.cg_machine.specs.Effects.{Changes, frozen, replaced, sets_numbers, with_new}
use Rattle.cg_machine.specs.Commands.{effect}
use Rattle.cg_machine.specs.Due.{due}
use Rattle.cg_policy.specs.Policy.{Policy, due_of, with_one_made, with_one_freed, with_enabled, with_flags, with_thresholds, with_zero_counts}

-- the policy of a world
abbrev pub policy_of : World → Policy
policy_of w = record { numbers = w.numbers; running = is_collecting w }

-- A collection is due exactly if it is in the machine, and the numbers after each call are those after the machine's
-- step or command. (The machine's own functions give the numbers at a collection's start and after its survivors.)
pub record FollowsMachine : Type 0 where
  pub due : (w : World) → due_of (policy_of w) ≡ due w
  pub made : (w : World) (code : KindCode) (class : Option ℕ) (entries : List Entry) (referent : Option ℕ) → (with_new w code class entries referent).numbers ≡ with_one_made w.numbers
  pub freed : (w : World) (o : ℕ) (below : List Activity) → (empty_one o below w None).1.numbers ≡ with_one_freed w.numbers
  pub enable : (w : World) → effect w Enable ≡ sets_numbers w (with_enabled true w.numbers)
  pub disable : (w : World) → effect w Disable ≡ sets_numbers w (with_enabled false w.numbers)
  pub flags : (w : World) (bits : ℕ) → effect w (Flags bits) ≡ sets_numbers w (with_flags bits w.numbers)
  pub thresholds : (w : World) (first : ℕ) (second third : Option ℕ) → effect w (Threshold first second third) ≡ sets_numbers w (with_thresholds first second third w.numbers)
  pub freeze : (w : World) → effect w Freeze ≡ Ok (Changes false [] [] (record w { objects = replaced frozen w; numbers = with_zero_counts w.numbers }))
