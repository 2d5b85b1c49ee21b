-- The lines of a `wget` and a `wset`, once read: consecutive commands. (Ours.)
use Rattle.std.specs.Prelude.{◌≡◌, ℕ, ◌+◌, true, List, [], ◌∷◌, ◌++◌, None, Some, codes, length}
use Rattle.cg_script.specs.declared.item.Item.{Item}
use Rattle.cg_script.specs.declared.item.Proc.{Proc}
use Rattle.cg_script.specs.declared.command.Operand.{Operand}
use Rattle.cg_script.specs.declared.command.Operand.TheVariants as operands
use Rattle.cg_script.specs.declared.command.Command.{Command}
use Rattle.cg_script.specs.Items.{commands_of, procedures}
use Rattle.cg_script.specs.Pieces.{lines_of, words_of, word_at}
use Rattle.cg_script.specs.Tables.{named}
use Rattle.cg_script.specs.Words.{atoms, is_number, is_quoted, is_value, is_variable, number_of, string_text}
use Rattle.cg_script.specs.Canonical.{text_of}
use Rattle.cg_script.specs.Reading.{reading, spells}
use Rattle.cg_graph.specs.Member.{Includes}
use Rattle.cg_weakcoll.specs.declared.form.Form.TheVariants as forms
use Rattle.cg_weakcoll.specs.Expansion.{expansion, first_bad, form_of, weak_name}
use Rattle.cg_weakcoll.specs.Maps.{wget_commands, wset_commands}

-- commands are consecutive outside procedures, or in the body of one
pub data StandTogether (items : List Item) (commands : List Command) : Type 0 where
  Outside : (front back : List Command) → commands_of items ≡ front ++ commands ++ back → StandTogether items commands
  InProcedure : (proc : Proc) (front back : List Command) → Includes (procedures items) proc → proc.body ≡ front ++ commands ++ back → StandTogether items commands

-- what a word stands for in a script with these texts: a keyword for a value, a string, a variable or a number
pub data WordStandsFor (texts : List (List ℕ)) (word : List ℕ) : Operand → Type 0 where
  Atom : (operand : Operand) → named atoms word ≡ Some operand → WordStandsFor texts word operand
  Quoted : (n : ℕ) → is_quoted word ≡ true → text_of texts n ≡ string_text word → WordStandsFor texts word (operands.Str n)
  Named : (n : ℕ) → is_variable word ≡ true → text_of texts n ≡ word → WordStandsFor texts word (operands.Name n)
  Counted : is_number word ≡ true → WordStandsFor texts word (operands.Int (number_of word))

-- three consecutive lines of a script, by their words
pub record HasLines (bytes : List ℕ) (first second third : List (List ℕ)) : Type 0 where
  pub front : List (List ℕ)
  pub one : List ℕ
  pub two : List ℕ
  pub three : List ℕ
  pub back : List (List ℕ)
  pub all : lines_of bytes ≡ front ++ one ∷ two ∷ three ∷ back
  pub first_is : words_of one ≡ first
  pub second_is : words_of two ≡ second
  pub third_is : words_of three ≡ third

-- the commands of `x = wget M k`, with these values of its words
pub record HasLook (texts : List (List ℕ)) (items : List Item) (x map key : List ℕ) : Type 0 where
  pub name : ℕ
  pub dict : Operand
  pub at : Operand
  pub name_is : text_of texts name ≡ x
  pub dict_is : WordStandsFor texts map dict
  pub at_is : WordStandsFor texts key at
  pub together : StandTogether items (wget_commands name dict at)

-- A script with the three lines has these commands.
abbrev pub LookLinesAreCommands : Type 0
LookLinesAreCommands = (bytes : List ℕ) (texts : List (List ℕ)) (items : List Item) → reading bytes ≡ spells texts items → (x map key : List ℕ) → is_variable x ≡ true
    → HasLines bytes (x ∷ codes "=" ∷ codes "none" ∷ []) (x ∷ codes "=" ∷ codes "get" ∷ map ∷ key ∷ []) (x ∷ codes "=" ∷ codes "deref" ∷ x ∷ []) → HasLook texts items x map key

-- the commands of `wset M k v`
pub record HasStore (texts : List (List ℕ)) (items : List Item) (temporary map key v : List ℕ) : Type 0 where
  pub name : ℕ
  pub dict : Operand
  pub at : Operand
  pub value : Operand
  pub name_is : text_of texts name ≡ temporary
  pub dict_is : WordStandsFor texts map dict
  pub at_is : WordStandsFor texts key at
  pub value_is : WordStandsFor texts v value
  pub together : StandTogether items (wset_commands name dict at value)

-- A script with the three lines has these commands.
abbrev pub StoreLinesAreCommands : Type 0
StoreLinesAreCommands = (bytes : List ℕ) (texts : List (List ℕ)) (items : List Item) → reading bytes ≡ spells texts items → (temporary map key v : List ℕ)
    → is_variable temporary ≡ true → is_value map ≡ true
    → HasLines bytes (temporary ∷ codes "=" ∷ codes "ref" ∷ v ∷ []) (codes "put" ∷ map ∷ key ∷ temporary ∷ []) (codes "del" ∷ temporary ∷ []) → HasStore texts items temporary map key v

-- In the script that an expansion spells, each `wget` line has its commands.
abbrev pub ExpandedLooksAreCommands : Type 0
ExpandedLooksAreCommands = (bytes : List ℕ) → first_bad bytes ≡ None → (texts : List (List ℕ)) (items : List Item) → reading (expansion bytes) ≡ spells texts items
    → (front : List (List ℕ)) (line : List ℕ) (back : List (List ℕ)) → lines_of bytes ≡ front ++ line ∷ back → form_of (words_of line) ≡ Some forms.Get
    → HasLook texts items (word_at (words_of line) 0) (word_at (words_of line) 3) (word_at (words_of line) 4)

-- Each `wset` line has its own, with the name generated from its number.
abbrev pub ExpandedStoresAreCommands : Type 0
ExpandedStoresAreCommands = (bytes : List ℕ) → first_bad bytes ≡ None → (texts : List (List ℕ)) (items : List Item) → reading (expansion bytes) ≡ spells texts items
    → (front : List (List ℕ)) (line : List ℕ) (back : List (List ℕ)) → lines_of bytes ≡ front ++ line ∷ back → form_of (words_of line) ≡ Some forms.Set
    → HasStore texts items (weak_name (1 + length front)) (word_at (words_of line) 1) (word_at (words_of line) 2) (word_at (words_of line) 3)
