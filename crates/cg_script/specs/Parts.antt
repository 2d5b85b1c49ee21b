-- What the words of a line stand for in a script: texts, procedures and classes by number. (Ours.)
use Rattle.std.specs.Prelude.{ℕ, ◌+◌, List, [], ◌∷◌, Bool, true, false, codes, slice_index, if◌then◌else◌, Option, None, Some, unwrap_or, position}
use Rattle.std.specs.List.{list_any}
use Rattle.std.specs.Str.{bytes_eq}
use Rattle.cg_value.specs.Texts.{text_number, with_text}
use Rattle.cg_script.specs.declared.command.Operand.{Operand}
use Rattle.cg_script.specs.declared.command.Operand.TheVariants as operands
use Rattle.cg_script.specs.declared.form.Form.{Form}
use Rattle.cg_script.specs.declared.form.Sort.{Sort}
use Rattle.cg_script.specs.declared.form.Sort.TheVariants.{Key, Variable, Name, Class, Proc, Finalizer, Value, Number, Profile, Budget, Count, Flag}
use Rattle.cg_script.specs.declared.part.Part.{Part}
use Rattle.cg_script.specs.declared.part.Part.TheVariants as parts
use Rattle.cg_script.specs.Tables.{named}
use Rattle.cg_script.specs.Words.{begins_name, is_quoted, string_text, number_of, decimal_value, after_prefix, atoms, flags}
use Rattle.cg_script.specs.Forms.{row, sort_at}

-- What earlier lines have contributed: texts in order of appearance, names of procedures and of classes, whether there was a
-- budget, a shutdown, a line that is not ignored, and whether a procedure is open.
pub record Known : Type 0 where
  pub texts : List (List ℕ)
  pub procs : List (List ℕ)
  pub classes : List (List ℕ)
  pub budget : Bool
  pub shutdown : Bool
  pub started : Bool
  pub inside : Bool

-- the text of a value that is no keyword
abbrev pub value_text : Option Operand → List ℕ → Option (List ℕ)
value_text (Some operand) word = None
value_text None word = if is_quoted word then Some (string_text word) else if begins_name (slice_index word 0) then Some word else None

-- the text of a word at its place
abbrev pub text_in : Sort → List ℕ → Option (List ℕ)
text_in Variable word = Some word
text_in Name word = Some word
text_in Value word = value_text (named atoms word) word
text_in sort word = None

-- the texts with that of a word, appended if it is new
abbrev pub with_text_if : List (List ℕ) → Option (List ℕ) → List (List ℕ)
with_text_if texts None = texts
with_text_if texts (Some text) = with_text texts text

-- what a value stands for
abbrev pub operand_or : Option Operand → List (List ℕ) → List ℕ → Operand
operand_or (Some operand) texts word = operand
operand_or None texts word =
    if is_quoted word then operands.Str (text_number texts (string_text word))
    else if begins_name (slice_index word 0) then operands.Name (text_number texts word)
    else operands.Int (number_of word)

-- the number of a procedure or class, if an earlier line defines it
abbrev pub numbered : Option ℕ → Part
numbered None = parts.Unknown
numbered (Some n) = parts.Count n

-- the number of a procedure or class among those defined earlier
abbrev pub defined_number : List (List ℕ) → List ℕ → Option ℕ
defined_number names name = position (bytes_eq name) names

abbrev pub finalizer : Option ℕ → Part
finalizer None = parts.Unknown
finalizer (Some n) = parts.Finalizer n

abbrev pub legacy : Option ℕ → Part
legacy None = parts.Unknown
legacy (Some n) = parts.Legacy n

-- a class's `legacy=P`
abbrev pub legacy_of : List (List ℕ) → Option (List ℕ) → Part
legacy_of procs None = parts.Bare
legacy_of procs (Some name) = legacy (defined_number procs name)

-- a class's `del=P`, or else its `legacy=P`
abbrev pub finalizer_of : List (List ℕ) → Option (List ℕ) → List ℕ → Part
finalizer_of procs (Some name) word = finalizer (defined_number procs name)
finalizer_of procs None word = legacy_of procs (after_prefix (codes "legacy=") word)

-- what a word stands for at its place, given the procedures, classes and texts before it; its text keeps or gets its number
abbrev pub part_of : List (List ℕ) → List (List ℕ) → List (List ℕ) → Sort → List ℕ → Part
part_of procs classes texts Key word = parts.Bare
part_of procs classes texts Variable word = parts.Text (text_number texts word)
part_of procs classes texts Name word = parts.Text (text_number texts word)
part_of procs classes texts Class word = numbered (defined_number classes word)
part_of procs classes texts Proc word = numbered (defined_number procs word)
part_of procs classes texts Finalizer word = finalizer_of procs (after_prefix (codes "del=") word) word
part_of procs classes texts Value word = parts.Value (operand_or (named atoms word) texts word)
part_of procs classes texts Number word = parts.Number (number_of word)
part_of procs classes texts Profile word = parts.Count (decimal_value word)
part_of procs classes texts Budget word = parts.Count (decimal_value word)
part_of procs classes texts Count word = parts.Count (decimal_value word)
part_of procs classes texts Flag word = parts.Count (unwrap_or (named flags word) 0)

-- the parts of the words from a place on
abbrev pub parts_from : List (List ℕ) → List (List ℕ) → List (List ℕ) → Form → ℕ → List (List ℕ) → List Part
parts_from procs classes texts form place [] = []
parts_from procs classes texts form place (word ∷ words) =
    part_of procs classes texts (sort_at form place) word ∷ parts_from procs classes (with_text_if texts (text_in (sort_at form place) word)) form (place + 1) words

-- the texts after the words from a place on
abbrev pub texts_from : List (List ℕ) → Form → ℕ → List (List ℕ) → List (List ℕ)
texts_from texts form place [] = texts
texts_from texts form place (word ∷ words) = texts_from (with_text_if texts (text_in (sort_at form place) word)) form (place + 1) words

-- the parts of a line
abbrev pub parts_of : Known → Form → List (List ℕ) → List Part
parts_of known form words = parts_from known.procs known.classes known.texts form 0 words

abbrev pub is_unknown : Part → Bool
is_unknown parts.Unknown = true
is_unknown part = false

-- it names a procedure or class that no earlier line defines
abbrev pub has_unknown : List Part → Bool
has_unknown line = list_any is_unknown line

-- a place requires an earlier procedure or class
abbrev pub asks_for_defined : Sort → Bool
asks_for_defined Class = true
asks_for_defined Proc = true
asks_for_defined Finalizer = true
asks_for_defined sort = false

-- a place of a line of this form requires one
abbrev pub names_defined : Form → Bool
names_defined form = list_any asks_for_defined (row form).places
