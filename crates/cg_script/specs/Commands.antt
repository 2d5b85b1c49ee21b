-- What a line says in a script: how the parts of each form become a command or a declaration, and which parts a command or a
-- declaration is printed by. (Ours.)
use Rattle.std.specs.Prelude.{◌≡◌, ℕ, List, [], ◌∷◌, ◌++◌, map, drop, Option, None, Some, slice_get, bit_or, bit_and, ◌==◌, if◌then◌else◌, ℤ, pos}
use Rattle.std.specs.Option.{option_or}
use Rattle.cg_script.specs.declared.command.Operand.{Operand}
use Rattle.cg_script.specs.declared.command.Operand.TheVariants as operands
use Rattle.cg_script.specs.declared.command.Command.{Command}
use Rattle.cg_script.specs.declared.command.Command.TheVariants as commands
use Rattle.cg_script.specs.declared.item.Item.TheVariants as items
use Rattle.cg_script.specs.declared.form.Form.{Form}
use Rattle.cg_script.specs.declared.form.Form.TheVariants as forms
use Rattle.cg_script.specs.declared.part.Part.{Part}
use Rattle.cg_script.specs.declared.part.Part.TheVariants as parts
use Rattle.cg_script.specs.declared.part.Said.{Said}
use Rattle.cg_script.specs.declared.part.Said.TheVariants.{Declares, Begins, Ends, Does}

-- the number of a part's text
abbrev pub text_or : Option Part → ℕ
text_or (Some (parts.Text n)) = n
text_or other = 0

-- a part's value; a place without a word has the value none
abbrev pub value_or : Option Part → Operand
value_or (Some (parts.Value operand)) = operand
value_or other = operands.None

-- a part's number, or a default without a word
abbrev pub number_or : ℤ → Option Part → ℤ
number_or n (Some (parts.Number m)) = m
number_or n other = n

-- a part's count, or none without a word
abbrev pub count_if : Option Part → Option ℕ
count_if (Some (parts.Count n)) = Some n
count_if other = None

-- a part's count, or 0
abbrev pub count_or : Option Part → ℕ
count_or (Some (parts.Count n)) = n
count_or other = 0

-- the finalizer, or else the legacy finalizer, that a part names
abbrev pub del_if : Option Part → Option ℕ
del_if (Some (parts.Finalizer n)) = Some n
del_if other = None

abbrev pub legacy_if : Option Part → Option ℕ
legacy_if (Some (parts.Legacy n)) = Some n
legacy_if other = None

-- the part at a place, counting from 0
abbrev pub part_at : List Part → ℕ → Option Part
part_at line place = slice_get line place

abbrev pub text_at : List Part → ℕ → ℕ
text_at line place = text_or (part_at line place)

abbrev pub value_at : List Part → ℕ → Operand
value_at line place = value_or (part_at line place)

abbrev pub number_at : List Part → ℕ → ℤ
number_at line place = number_or (pos 0) (part_at line place)

abbrev pub count_at : List Part → ℕ → ℕ
count_at line place = count_or (part_at line place)

-- the values from a place on
abbrev pub values_from : List Part → ℕ → List Operand
values_from line place = map (λ part. value_or (Some part)) (drop place line)

-- the union of the flags
abbrev pub flags_in : List Part → ℕ
flags_in line = bit_or (bit_or (bit_or (bit_or (count_at line 1) (count_at line 2)) (count_at line 3)) (count_at line 4)) (count_at line 5)

-- what a line of a form says
abbrev pub said : Form → List Part → Said
said forms.MakeList p = Does (commands.MakeList (text_at p 0) (values_from p 3))
said forms.MakeTuple p = Does (commands.MakeTuple (text_at p 0) (values_from p 3))
said forms.MakeDict p = Does (commands.MakeDict (text_at p 0))
said forms.MakeInst p = Does (commands.MakeInst (text_at p 0) (count_at p 3))
said forms.MakeFunc p = Does (commands.MakeFunc (text_at p 0) (count_at p 3) (values_from p 4))
said forms.MakeRef p = Does (commands.MakeRef (text_at p 0) (value_at p 3) (value_at p 4))
said forms.Bind p = Does (commands.Bind (text_at p 0) (value_at p 2))
said forms.Del p = Does (commands.Del (text_at p 1))
said forms.Append p = Does (commands.Append (value_at p 1) (value_at p 2))
said forms.SetItem p = Does (commands.SetItem (value_at p 1) (number_at p 2) (value_at p 3))
said forms.DelItem p = Does (commands.DelItem (value_at p 1) (number_at p 2))
said forms.Put p = Does (commands.Put (value_at p 1) (value_at p 2) (value_at p 3))
said forms.Remove p = Does (commands.Remove (value_at p 1) (value_at p 2))
said forms.SetAttr p = Does (commands.SetAttr (value_at p 1) (text_at p 2) (value_at p 3))
said forms.DelAttr p = Does (commands.DelAttr (value_at p 1) (text_at p 2))
said forms.Item p = Does (commands.Item (text_at p 0) (value_at p 3) (number_at p 4))
said forms.Get p = Does (commands.Get (text_at p 0) (value_at p 3) (value_at p 4))
said forms.Attr p = Does (commands.Attr (text_at p 0) (value_at p 3) (text_at p 4))
said forms.Deref p = Does (commands.Deref (text_at p 0) (value_at p 3))
said forms.Call p = Does (commands.Call (value_at p 1))
said forms.Quit p = Does (commands.Quit (value_at p 1))
said forms.Collect p = Does (commands.Collect (number_or (pos 2) (part_at p 1)))
said forms.Enable p = Does commands.Enable
said forms.Disable p = Does commands.Disable
said forms.Threshold p = Does (commands.Threshold (count_at p 1) (count_if (part_at p 2)) (count_if (part_at p 3)))
said forms.Flags p = Does (commands.Flags (flags_in p))
said forms.Freeze p = Does commands.Freeze
said forms.Unfreeze p = Does commands.Unfreeze
said forms.Print p = Does (commands.Print (value_at p 1))
said forms.Refs p = Does (commands.Refs (value_at p 1))
said forms.Tracked p = Does (commands.Tracked (value_at p 1))
said forms.Finalized p = Does (commands.Finalized (value_at p 1))
said forms.Referents p = Does (commands.Referents (value_at p 1))
said forms.Referrers p = Does (commands.Referrers (value_at p 1))
said forms.Why p = Does (commands.Why (text_at p 1))
said forms.Count p = Does commands.Count
said forms.Gens p = Does commands.Gens
said forms.Profile p = Declares (items.Profile (count_at p 1))
said forms.Shutdown p = Declares items.Shutdown
said forms.Budget p = Declares (items.Budget (count_at p 1))
said forms.Class p = Declares (items.Class (record {
  name = text_at p 1;
  del = option_or (del_if (part_at p 2)) (del_if (part_at p 3));
  legacy = option_or (legacy_if (part_at p 2)) (legacy_if (part_at p 3));
}))
said forms.Def p = Begins (text_at p 1)
said forms.End p = Ends

-- a form with the parts of its words
pub record Filled : Type 0 where
  pub form : Form
  pub filling : List Part

abbrev pub filled : Form → List Part → Filled
filled form filling = record { form = form; filling = filling }

-- a line that begins with the word of its form
abbrev pub opening : Form → List Part → Filled
opening form rest = filled form (parts.Bare ∷ rest)

-- a line `x = ..` with the word of its form
abbrev pub binding : Form → ℕ → List Part → Filled
binding form name rest = filled form (parts.Text name ∷ parts.Bare ∷ parts.Bare ∷ rest)

-- a callback that is none is left out
abbrev pub callback_filling : Operand → List Part
callback_filling operands.None = []
callback_filling callback = parts.Value callback ∷ []

-- a count, or the number of a procedure, that may be absent
abbrev pub filling_if : (ℕ → Part) → Option ℕ → List Part
filling_if part None = []
filling_if part (Some n) = part n ∷ []

-- a debug flag, where its bit is set
abbrev pub flag_filling : ℕ → ℕ → List Part
flag_filling bits bit = if bit_and bits bit == 0 then [] else parts.Count bit ∷ []

-- the line of a command: one row for each form
abbrev pub command_filled : Command → Filled
command_filled (commands.MakeList name items) = binding forms.MakeList name (map parts.Value items)
command_filled (commands.MakeTuple name items) = binding forms.MakeTuple name (map parts.Value items)
command_filled (commands.MakeDict name) = binding forms.MakeDict name []
command_filled (commands.MakeInst name class) = binding forms.MakeInst name (parts.Count class ∷ [])
command_filled (commands.MakeFunc name proc cells) = binding forms.MakeFunc name (parts.Count proc ∷ map parts.Value cells)
command_filled (commands.MakeRef name target callback) = binding forms.MakeRef name (parts.Value target ∷ callback_filling callback)
command_filled (commands.Bind name value) = filled forms.Bind (parts.Text name ∷ parts.Bare ∷ parts.Value value ∷ [])
command_filled (commands.Del name) = opening forms.Del (parts.Text name ∷ [])
command_filled (commands.Append list value) = opening forms.Append (parts.Value list ∷ parts.Value value ∷ [])
command_filled (commands.SetItem list index value) = opening forms.SetItem (parts.Value list ∷ parts.Number index ∷ parts.Value value ∷ [])
command_filled (commands.DelItem list index) = opening forms.DelItem (parts.Value list ∷ parts.Number index ∷ [])
command_filled (commands.Put dict key value) = opening forms.Put (parts.Value dict ∷ parts.Value key ∷ parts.Value value ∷ [])
command_filled (commands.Remove dict key) = opening forms.Remove (parts.Value dict ∷ parts.Value key ∷ [])
command_filled (commands.SetAttr object attr value) = opening forms.SetAttr (parts.Value object ∷ parts.Text attr ∷ parts.Value value ∷ [])
command_filled (commands.DelAttr object attr) = opening forms.DelAttr (parts.Value object ∷ parts.Text attr ∷ [])
command_filled (commands.Item name list index) = binding forms.Item name (parts.Value list ∷ parts.Number index ∷ [])
command_filled (commands.Get name dict key) = binding forms.Get name (parts.Value dict ∷ parts.Value key ∷ [])
command_filled (commands.Attr name object attr) = binding forms.Attr name (parts.Value object ∷ parts.Text attr ∷ [])
command_filled (commands.Deref name weak) = binding forms.Deref name (parts.Value weak ∷ [])
command_filled (commands.Call func) = opening forms.Call (parts.Value func ∷ [])
command_filled (commands.Quit value) = opening forms.Quit (parts.Value value ∷ [])
command_filled (commands.Collect generation) = opening forms.Collect (parts.Number generation ∷ [])
command_filled commands.Enable = opening forms.Enable []
command_filled commands.Disable = opening forms.Disable []
command_filled (commands.Threshold first second third) = opening forms.Threshold (parts.Count first ∷ (filling_if parts.Count second ++ filling_if parts.Count third))
command_filled (commands.Flags bits) = opening forms.Flags (flag_filling bits 1 ++ flag_filling bits 2 ++ flag_filling bits 4 ++ flag_filling bits 32)
command_filled commands.Freeze = opening forms.Freeze []
command_filled commands.Unfreeze = opening forms.Unfreeze []
command_filled (commands.Print value) = opening forms.Print (parts.Value value ∷ [])
command_filled (commands.Refs value) = opening forms.Refs (parts.Value value ∷ [])
command_filled (commands.Tracked value) = opening forms.Tracked (parts.Value value ∷ [])
command_filled (commands.Finalized value) = opening forms.Finalized (parts.Value value ∷ [])
command_filled (commands.Referents value) = opening forms.Referents (parts.Value value ∷ [])
command_filled (commands.Referrers value) = opening forms.Referrers (parts.Value value ∷ [])
command_filled (commands.Why name) = opening forms.Why (parts.Text name ∷ [])
command_filled commands.Count = opening forms.Count []
command_filled commands.Gens = opening forms.Gens []

-- the line of what is said; of a procedure, its first one
abbrev pub said_filled : Said → Filled
said_filled (Declares (items.Profile profile)) = opening forms.Profile (parts.Count profile ∷ [])
said_filled (Declares items.Shutdown) = opening forms.Shutdown []
said_filled (Declares (items.Budget count)) = opening forms.Budget (parts.Count count ∷ [])
said_filled (Declares (items.Class c)) = opening forms.Class (parts.Text c.name ∷ (filling_if parts.Finalizer c.del ++ filling_if parts.Legacy c.legacy))
said_filled (Declares (items.Def p)) = opening forms.Def (parts.Text p.name ∷ [])
said_filled (Declares (items.Run command)) = command_filled command
said_filled (Begins name) = opening forms.Def (parts.Text name ∷ [])
said_filled Ends = opening forms.End []
said_filled (Does command) = command_filled command

-- The line that it is printed by says it again.
abbrev pub IsSaidAgain : Said → Type 0
IsSaidAgain s = said (said_filled s).form (said_filled s).filling ≡ s
