-- How far a heap grows in a command. (Ours.)
use Rattle.std.specs.Prelude.{◌≡◌, ◌+◌, ◌≤◌, Bool, true, false, if◌then◌else◌, length}
use Rattle.cg_script.specs.declared.command.Command.{Command}
use Rattle.cg_script.specs.declared.command.Command.TheVariants.{MakeList, MakeTuple, MakeDict, MakeInst, MakeFunc, MakeRef}
use Rattle.cg_graph.specs.Store.{Store, objects_of}

-- the commands that make an object
abbrev pub makes_object : Command → Bool
makes_object (MakeList name items) = true
makes_object (MakeTuple name items) = true
makes_object (MakeDict name) = true
makes_object (MakeInst name class) = true
makes_object (MakeFunc name proc cells) = true
makes_object (MakeRef name target callback) = true
makes_object command = false

-- At most one more object lives if there is room for one, and none more if there is not. The number of names stays.
pub record GrowsBy (room : Bool) (old new : Store) : Type 0 where
  pub objects : length (objects_of new) ≤ length (objects_of old) + (if room then 1 else 0)
  pub names : length new.names ≡ length old.names
