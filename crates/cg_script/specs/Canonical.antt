-- The canonical bytes of a script: its lines in order, the words of each with one space between them. (Ours.)
use Rattle.std.specs.Prelude.{ℕ, ◌+◌, List, [], ◌∷◌, ◌++◌, ◌==◌, map, flat_map, codes, decimal, slice_index_or, if◌then◌else◌}
use Rattle.std.specs.Fmt.{signed_decimal}
use Rattle.cg_script.specs.declared.command.Operand.{Operand}
use Rattle.cg_script.specs.declared.command.Operand.TheVariants as operands
use Rattle.cg_script.specs.declared.command.Command.{Command}
use Rattle.cg_script.specs.declared.item.Item.{Item}
use Rattle.cg_script.specs.declared.item.Item.TheVariants as items
use Rattle.cg_script.specs.declared.form.Form.{Form}
use Rattle.cg_script.specs.declared.form.Sort.{Sort}
use Rattle.cg_script.specs.declared.form.Sort.TheVariants.{Class, Proc, Flag}
use Rattle.cg_script.specs.declared.part.Part.{Part}
use Rattle.cg_script.specs.declared.part.Part.TheVariants as parts
use Rattle.cg_script.specs.declared.part.Said.{Said}
use Rattle.cg_script.specs.declared.part.Said.TheVariants.{Declares, Begins, Ends}
use Rattle.cg_script.specs.declared.printer.Named.{Named}
use Rattle.cg_script.specs.Items.{procedures, classes}
use Rattle.cg_script.specs.Words.{flags}
use Rattle.cg_script.specs.Forms.{word_of, sort_at}
use Rattle.cg_script.specs.Commands.{Filled, command_filled, said_filled}

-- what the numbers in a script stand for: texts, and the numbers of the names of procedures and classes, in order
pub record Naming : Type 0 where
  pub texts : List (List ℕ)
  pub procs : List ℕ
  pub classes : List ℕ

-- the text of a number
abbrev pub text_of : List (List ℕ) → ℕ → List ℕ
text_of texts n = slice_index_or texts n []

-- the name of a procedure or class
abbrev pub name_of : List (List ℕ) → List ℕ → ℕ → List ℕ
name_of texts names n = slice_index_or (map (text_of texts) names) n []

-- the word of a value; numbers have no leading zeros
abbrev pub value_word : List (List ℕ) → Operand → List ℕ
value_word texts operands.None = codes "none"
value_word texts (operands.Int n) = signed_decimal n
value_word texts (operands.Str n) = 39 ∷ text_of texts n
value_word texts (operands.Name n) = text_of texts n
value_word texts operands.SelfLocal = codes "self"
value_word texts operands.WeakLocal = codes "ref"
value_word texts (operands.Cell n) = codes "c" ++ decimal n
value_word texts operands.Garbage = codes "garbage"

-- the word of a debug flag
abbrev pub word_with : List (List ℕ × ℕ) → ℕ → List ℕ
word_with [] bits = []
word_with (row ∷ rows) bits = if row.1 == bits then row.0 else word_with rows bits

-- the word of a count, or of the number of a procedure or class, by what its place asks for
abbrev pub count_word : Naming → Sort → ℕ → List ℕ
count_word n Class number = name_of n.texts n.classes number
count_word n Proc number = name_of n.texts n.procs number
count_word n Flag bits = word_with flags bits
count_word n sort count = decimal count

-- the word of a part, by the word of the form at its place and by what the place asks for
abbrev pub part_word : Naming → List ℕ → Sort → Part → List ℕ
part_word n key sort parts.Bare = key
part_word n key sort (parts.Text number) = text_of n.texts number
part_word n key sort (parts.Value value) = value_word n.texts value
part_word n key sort (parts.Number number) = signed_decimal number
part_word n key sort (parts.Count count) = count_word n sort count
part_word n key sort (parts.Finalizer proc) = codes "del=" ++ name_of n.texts n.procs proc
part_word n key sort (parts.Legacy proc) = codes "legacy=" ++ name_of n.texts n.procs proc
part_word n key sort parts.Unknown = []

-- the word of the form at a place, where it has one there
abbrev pub key_word : Form → ℕ → List ℕ
key_word form place = if place == 1 then codes "=" else word_of form

-- the words of parts from a place on
abbrev pub words_from : Naming → Form → ℕ → List Part → List (List ℕ)
words_from n form place [] = []
words_from n form place (p ∷ ps) = part_word n (key_word form place) (sort_at form place) p ∷ words_from n form (place + 1) ps

-- the words of a line: those of its form, with its parts in their places
unfoldable pub filled_words : Naming → Filled → List (List ℕ)
filled_words n line = words_from n line.form 0 line.filling

abbrev pub said_words : Naming → Said → List (List ℕ)
said_words n s = filled_words n (said_filled s)

abbrev pub command_words : Naming → Command → List (List ℕ)
command_words n command = filled_words n (command_filled command)

-- the lines of an item, each by its words
abbrev pub item_lines : Naming → Item → List (List (List ℕ))
item_lines n (items.Def p) = said_words n (Begins p.name) ∷ (map (command_words n) p.body ++ said_words n Ends ∷ [])
item_lines n item = said_words n (Declares item) ∷ []

-- the names of the procedures, and of the classes
abbrev pub procs_in : List Item → List ℕ
procs_in lines = map (λ p. p.name) (procedures lines)

abbrev pub classes_in : List Item → List ℕ
classes_in lines = map (λ c. c.name) (classes lines)

abbrev pub naming_of : List (List ℕ) → List Item → Naming
naming_of texts lines = record { texts = texts; procs = procs_in lines; classes = classes_in lines }

-- what the numbers stand for
abbrev pub names_by : Named → Naming
names_by named = naming_of named.names.now named.items.now

-- a word behind another
abbrev pub behind_space : List ℕ → List ℕ
behind_space word = 32 ∷ word

-- words separated by one space
abbrev pub joined : List (List ℕ) → List ℕ
joined [] = []
joined (word ∷ words) = word ++ flat_map behind_space words

-- a line of these words, with its line feed
abbrev pub line_of_words : List (List ℕ) → List ℕ
line_of_words words = joined words ++ 10 ∷ []

-- the canonical bytes of a script with these texts and items
unfoldable pub canonical : List (List ℕ) → List Item → List ℕ
canonical texts items = flat_map line_of_words (flat_map (item_lines (naming_of texts items)) items)
