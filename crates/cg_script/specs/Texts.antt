-- Which texts of a script its lines name. (Ours.)
use Rattle.std.specs.Prelude.{ℕ, ◌<◌, List, [], ◌∷◌, ◌++◌, flat_map, length}
use Rattle.std.specs.List.{All}
use Rattle.cg_script.specs.declared.command.Operand.{Operand}
use Rattle.cg_script.specs.declared.command.Operand.TheVariants.{Str, Name}
use Rattle.cg_script.specs.declared.command.Command.{Command}
use Rattle.cg_script.specs.declared.command.Command.TheVariants.{MakeList, MakeTuple, MakeDict, MakeInst, MakeFunc, MakeRef, Bind, Del, Append, SetItem, DelItem, Put, Remove, SetAttr, DelAttr, Item as ItemOf, Get, Attr, Deref, Call, Quit, Print, Refs, Tracked, Finalized, Referents, Referrers, Why}
use Rattle.cg_script.specs.declared.item.Item.{Item}
use Rattle.cg_script.specs.declared.item.Item.TheVariants.{Class, Def, Run}
use Rattle.cg_script.specs.declared.item.Script.{Script}

-- the numbers of the texts of an operand: of a string, or of a variable's name
abbrev pub operand_texts : Operand → List ℕ
operand_texts (Str s) = s ∷ []
operand_texts (Name x) = x ∷ []
operand_texts operand = []

-- of several operands, in order
abbrev pub operands_texts : List Operand → List ℕ
operands_texts operands = flat_map operand_texts operands

-- The number of a variable's name, for an operand that is one. A string may have the same number, but is no name.
abbrev pub operand_names : Operand → List ℕ
operand_names (Name x) = x ∷ []
operand_names operand = []

-- The words of a command as operands, in line order: a name that it binds counts as a variable, and an attribute as a string.
-- Classes and procedures have numbers of their own.
abbrev pub words_by : (Operand → List ℕ) → Command → List ℕ
words_by of (MakeList name items) = of (Name name) ++ flat_map of items
words_by of (MakeTuple name items) = of (Name name) ++ flat_map of items
words_by of (MakeDict name) = of (Name name)
words_by of (MakeInst name class) = of (Name name)
words_by of (MakeFunc name proc cells) = of (Name name) ++ flat_map of cells
words_by of (MakeRef name target callback) = of (Name name) ++ (of target ++ of callback)
words_by of (Bind name value) = of (Name name) ++ of value
words_by of (Del name) = of (Name name)
words_by of (Append list value) = of list ++ of value
words_by of (SetItem list index value) = of list ++ of value
words_by of (DelItem list index) = of list
words_by of (Put dict key value) = of dict ++ of key ++ of value
words_by of (Remove dict key) = of dict ++ of key
words_by of (SetAttr object attr value) = of object ++ (of (Str attr) ++ of value)
words_by of (DelAttr object attr) = of object ++ of (Str attr)
words_by of (ItemOf name list index) = of (Name name) ++ of list
words_by of (Get name dict key) = of (Name name) ++ (of dict ++ of key)
words_by of (Attr name object attr) = of (Name name) ++ (of object ++ of (Str attr))
words_by of (Deref name weak) = of (Name name) ++ of weak
words_by of (Call func) = of func
words_by of (Quit value) = of value
words_by of (Print value) = of value
words_by of (Refs value) = of value
words_by of (Tracked value) = of value
words_by of (Finalized value) = of value
words_by of (Referents value) = of value
words_by of (Referrers value) = of value
words_by of (Why name) = of (Name name)
words_by of command = []

-- the texts of a command
abbrev pub command_texts : Command → List ℕ
command_texts command = words_by operand_texts command

-- the names that it uses
abbrev pub command_names : Command → List ℕ
command_names command = words_by operand_names command

-- the texts of a declaration or a command
abbrev pub item_texts : Item → List ℕ
item_texts (Class c) = c.name ∷ []
item_texts (Def p) = p.name ∷ flat_map command_texts p.body
item_texts (Run c) = command_texts c
item_texts item = []

-- Each text that a line names is the script's. This holds for every script that some bytes spell.
abbrev pub TextsAreKnown : Script → Type 0
TextsAreKnown script = All (λ n. n < length script.names) (flat_map item_texts script.items)
