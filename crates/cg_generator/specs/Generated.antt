-- The script of a number of blocks, as its list of items by number. (Ours.)
use Rattle.std.specs.Prelude.{ℕ, ◌%◌, ◌==◌, List, [], ◌∷◌, ◌++◌, codes, flat_map, if◌then◌else◌, pos}
use Rattle.std.specs.List.{range_with_len}
use Rattle.cg_script.specs.declared.command.Operand.TheVariants.{Int, Name}
use Rattle.cg_script.specs.declared.command.Command.TheVariants.{MakeList, Append, Del, Collect}
use Rattle.cg_script.specs.declared.item.Item.{Item}
use Rattle.cg_script.specs.declared.item.Item.TheVariants.{Run}
use Rattle.cg_script.specs.declared.item.Script.{Script}

-- The variables of the script: `c` is number 0, `a` number 1 and `b` number 2.
abbrev pub variables : List (List ℕ)
variables = codes "c" ∷ codes "a" ∷ codes "b" ∷ []

-- two lists that hold each other: `a = list`, `b = list a`, `append a b`, `del a`, `del b`
abbrev pub ring : List Item
ring = Run (MakeList 1 []) ∷ Run (MakeList 2 (Name 1 ∷ [])) ∷ Run (Append (Name 1) (Name 2)) ∷ Run (Del 1) ∷ Run (Del 2) ∷ []

-- three lists, one in another: `a = list I`, `a = list a a`, `a = list a a`, `del a`
abbrev pub tree : ℕ → List Item
tree number = Run (MakeList 1 (Int (pos number) ∷ [])) ∷ Run (MakeList 1 (Name 1 ∷ Name 1 ∷ [])) ∷ Run (MakeList 1 (Name 1 ∷ Name 1 ∷ [])) ∷ Run (Del 1) ∷ []

-- one more list in a chain: `c = list c`
abbrev pub link : List Item
link = Run (MakeList 0 (Name 0 ∷ [])) ∷ []

-- the block of a number: a ring, a tree and a link in turn
abbrev pub block : ℕ → List Item
block number = if number % 3 == 1 then ring else if number % 3 == 2 then tree number else link

-- `c = list`
abbrev pub beginning : List Item
beginning = Run (MakeList 0 []) ∷ []

-- `del c`, `collect 2`
abbrev pub ending : List Item
ending = Run (Del 0) ∷ Run (Collect (pos 2)) ∷ []

-- the blocks from 1 to this number
abbrev pub blocks_to : ℕ → List Item
blocks_to last = flat_map block (range_with_len 1 last)

-- the script of a number of blocks
abbrev pub generated : ℕ → Script
generated blocks = record { names = variables; items = beginning ++ blocks_to blocks ++ ending }
