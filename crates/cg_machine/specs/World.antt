-- The world of the machine: the objects, the bound names, the numbers of the policy, the budget, and a stack of
-- activities. Only the top activity steps. (Ours; there are no threads, since CPython's collector runs in one.)
use Rattle.std.specs.Prelude.{ℕ, Bool, true, false, List, [], ◌∷◌, Option, None, length, replicate}
use Rattle.cg_value.specs.declared.Val.{Val}
use Rattle.cg_value.specs.declared.KindCode.TheVariants.{List as ListKind}
use Rattle.cg_value.specs.declared.Place.TheVariants.{Untracked}
use Rattle.cg_script.specs.declared.Script.{Script}
use Rattle.cg_script.specs.declared.Command.{Command}
use Rattle.cg_graph.specs.Object.{Object, change}
use Rattle.cg_machine.specs.declared.event.FrameSort.{FrameSort}
use Rattle.cg_machine.specs.Program.{commands_of}

-- a frame: what runs, and its locals
pub record Frame : Type 0 where
  pub sort : FrameSort
  pub subject : ℕ
  pub function : Option ℕ
  pub commands : List Command

-- The phases of a death. (PEP 442, and the developer guide's order of finalization: finalizer, weak references,
-- contents.) The waiting weak references are held, newest first.
pub data DyingPhase : Type 0 where
  Finalizer : DyingPhase  -- the finalizer is to come
  AfterFinalizer : DyingPhase  -- its frame runs or has ended; the object is held
  Clearing : (waiting : List ℕ) → DyingPhase  -- weak references are cleared
  Calling : (waiting : List ℕ) → DyingPhase  -- callbacks are still to run
  AfterCall : (weak callback : ℕ) (waiting : List ℕ) → DyingPhase  -- its frame runs or has ended; both are held
  LegacyFinalizer : DyingPhase
  AfterLegacy : DyingPhase  -- its frame runs or has ended; the object is held
  Detaching : DyingPhase  -- weak references made by those frames are cleared
  Emptying : DyingPhase  -- the entries are removed, and the object is freed

-- the death of an object
pub record Death : Type 0 where
  pub object : ℕ
  pub phase : DyingPhase

-- The phases of a collection. (PEP 442, "disposal of cyclic isolates"; developer guide, "destroying unreachable
-- objects".) The waiting weak references are held, in the order in which they were cleared.
pub data CollectPhase : Type 0 where
  Start : CollectPhase  -- everything before the weak phase is one step
  WeakClearing : (waiting : List ℕ) → CollectPhase  -- weak references to and of condemned objects are cleared
  WeakCalling : (waiting : List ℕ) → CollectPhase  -- callbacks are still to run
  AfterCallback : (weak : ℕ) (waiting : List ℕ) → CollectPhase  -- its frame runs or has ended; it is held
  AfterRelease : (weak : ℕ) (waiting : List ℕ) → CollectPhase  -- it was given up
  Finalizing : CollectPhase  -- condemned objects are visited for their finalizers
  AfterFinalizing : (object : ℕ) → CollectPhase  -- its frame runs or has ended; it is held
  Split : CollectPhase  -- the second reachability pass comes next
  Turns : CollectPhase  -- members of the final set wait for their turns
  Turn : (object : ℕ) → CollectPhase  -- it is held while its entries are removed
  AfterTurn : (object : ℕ) → CollectPhase  -- it was given up
  Ending : CollectPhase  -- uncollectable objects are printed and saved

-- a collection under way
pub record Collection : Type 0 where
  pub generation : ℕ
  pub flags : ℕ  -- read when it started
  pub asked : Bool  -- whether a command asked for it
  pub collected : ℕ  -- how many objects it found to be garbage
  pub phase : CollectPhase

-- what is under way
pub data Activity : Type 0 where
  TopLevel : (commands : List Command) → Activity  -- the script's own remaining commands
  Framed : Frame → Activity
  Releasing : (references : List ℕ) → Activity  -- references still to be given up
  Dying : Death → Activity
  Collecting : Collection → Activity
  ShuttingDown : (started : Bool) → Activity  -- names are given up; whether the last collection has started

-- The numbers of the `gc` module: counts and thresholds of the generations (`gc.get_count`, `gc.set_threshold`), how many
-- objects wait for a full collection and how many the last one left (developer guide, "collecting the oldest generation"),
-- whether automatic collections are enabled, and the debug flags.
pub record Numbers : Type 0 where
  pub zero_count : ℕ
  pub one_count : ℕ
  pub two_count : ℕ
  pub zero_threshold : ℕ
  pub one_threshold : ℕ
  pub two_threshold : ℕ
  pub pending : ℕ
  pub total : ℕ
  pub enabled : Bool
  pub flags : ℕ

-- running, ended by `end`, or ended because the budget is spent
pub data Outcome : Type 0 where
  Running : Outcome
  Ended : Outcome
  BudgetIsSpent : Outcome

-- the whole state of a run at one moment
pub record World : Type 0 where
  pub objects : List Object  -- by rising serial
  pub next_serial : ℕ
  pub names : List (Option Val)  -- by the number of the name
  pub numbers : Numbers
  pub budget : ℕ
  pub stack : List Activity  -- top first
  pub outcome : Outcome

-- the garbage list, `gc.garbage`; it is never tracked and never dies (ours)
abbrev pub garbage_list : Object
garbage_list = record { serial = 1; code = ListKind; class = None; entries = []; place = Untracked; finalized = false; referent = None }

-- The numbers of a new run: automatic collections are on, with CPython's thresholds. (`gc.get_threshold`.)
abbrev pub first_numbers : Numbers
first_numbers = record {
  zero_count = 0;
  one_count = 0;
  two_count = 0;
  zero_threshold = 700;
  one_threshold = 10;
  two_threshold = 10;
  pending = 0;
  total = 0;
  enabled = true;
  flags = 0;
}

-- the world in which a run begins
abbrev pub opening : Script → ℕ → World
opening script budget = record {
  objects = garbage_list ∷ [];
  next_serial = 2;
  names = replicate (length script.names) None;
  numbers = first_numbers;
  budget = budget;
  stack = TopLevel (commands_of script.items) ∷ [];
  outcome = Running;
}

-- the world with an activity on top
abbrev pub push : Activity → World → World
push a w = record w { stack = a ∷ w.stack }

-- a world with another stack, and with other objects
abbrev pub with_stack : List Activity → World → World
with_stack stack w = record w { stack = stack }

-- a world with other objects
abbrev pub with_objects : List Object → World → World
with_objects objects w = record w { objects = objects }

-- a world with one object changed
abbrev pub with_change : (Object → Object) → ℕ → World → World
with_change f o w = record w { objects = change f o w.objects }
