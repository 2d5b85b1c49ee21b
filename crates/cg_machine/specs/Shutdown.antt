-- The end of a script that declares `shutdown`: all names are given up, a full collection runs, and what is left is
-- counted. (Ours, after what CPython does at interpreter shutdown: the names of the main module are given up, and then
-- garbage is collected.)
use Rattle.std.specs.Prelude.{ℕ, ◌+◌, Bool, true, false, List, [], ◌∷◌, Option, Some, None}
use Rattle.cg_value.specs.declared.Val.{Val}
use Rattle.cg_machine.specs.declared.event.Event.TheVariants.{Left, End}
use Rattle.cg_machine.specs.World.{World, Activity, Releasing, ShuttingDown, Ended, push, with_stack}
use Rattle.cg_machine.specs.Frame.{Transition}
use Rattle.cg_machine.specs.Effects.{live, bound, given_up_by}
use Rattle.cg_machine.specs.Commands.{new_collection}

-- the greatest bound name of a list whose first name has number n, given the one of its tail
abbrev pub greatest_of : Option ℕ → ℕ → Option Val → Option ℕ
greatest_of (Some name) n value = Some name
greatest_of None n (Some v) = Some n
greatest_of None n None = None

-- the bound name with the greatest number, counting from n
abbrev pub greatest_from : ℕ → List (Option Val) → Option ℕ
greatest_from n [] = None
greatest_from n (value ∷ names) = greatest_of (greatest_from (n + 1) names) n value

-- the same for a world
abbrev pub greatest_bound : World → Option ℕ
greatest_bound w = greatest_from 0 w.names

-- Names are given up, greatest first, also those that finalizers bind meanwhile. Then the collection starts; no command
-- asked for it. When it stops, the run ends, whatever was bound since.
abbrev pub shut_down : Bool → Option ℕ → List Activity → World → Transition
shut_down false (Some name) below w = ([], push (Releasing (given_up_by w name)) (bound w name None))
shut_down false None below w = ([], push (new_collection 2 false w) (with_stack (ShuttingDown true ∷ below) w))
shut_down true name below w = (Left (live w) ∷ End ∷ [], record w { outcome = Ended })

-- what follows when a script has no commands left
abbrev pub after_commands : Bool → List Activity → World → Transition
after_commands true below w = ([], with_stack (ShuttingDown false ∷ below) w)
after_commands false below w = (End ∷ [], record w { outcome = Ended })
