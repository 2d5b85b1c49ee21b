-- Properties of the lines of a script that some bytes spell. (Ours.)
use Rattle.std.specs.Prelude.{ℕ, ◌<◌, ◌≤◌, drop, length}
use Rattle.std.specs.List.{All}
use Rattle.cg_script.specs.declared.command.Command.{Command}
use Rattle.cg_script.specs.declared.command.Command.TheVariants.{MakeList, MakeTuple, MakeFunc, Collect, Enable, Disable, Threshold, Flags, Freeze, Unfreeze, Count, Gens}
use Rattle.cg_script.specs.declared.item.Item.{Item}
use Rattle.cg_script.specs.declared.item.Item.TheVariants.{Profile, Shutdown, Budget, Class, Def, Run}
use Rattle.cg_script.specs.declared.item.Script.{Script}
use Rattle.cg_script.specs.declared.limits.TheConstants.{MOST_BUDGET, MOST_LINE_BYTES, MOST_LINES, MOST_TEXTS, MOST_WORDS}
use Rattle.cg_script.specs.Texts.{command_texts}

-- a line has at most 64 words, and a function at most 8 cells
abbrev pub HasFewWords : Command → Type 0
HasFewWords (MakeList name items) = length items ≤ MOST_WORDS
HasFewWords (MakeTuple name items) = length items ≤ MOST_WORDS
HasFewWords (MakeFunc name proc cells) = length cells ≤ 8
HasFewWords command = Unit {0}

-- The texts that it names are the script's, and it has few words.
pub record IsSpelledCommand (names : ℕ) (command : Command) : Type 0 where
  pub known : All (λ n. n < names) (command_texts command)
  pub few_words : HasFewWords command

-- a command other than the collector's
abbrev pub IsForObjects : Command → Type 0
IsForObjects (Collect generation) = ⊥
IsForObjects Enable = ⊥
IsForObjects Disable = ⊥
IsForObjects (Threshold first second third) = ⊥
IsForObjects (Flags bits) = ⊥
IsForObjects Freeze = ⊥
IsForObjects Unfreeze = ⊥
IsForObjects Count = ⊥
IsForObjects Gens = ⊥
IsForObjects command = Unit {0}

-- the property of a line: of its command, or of those of a procedure; a profile is 1 or 2, and a budget at most 100,000
abbrev pub IsSpelledItem : ℕ → Item → Type 0
IsSpelledItem names (Profile n) = (1 ≤ n) × (n ≤ 2)
IsSpelledItem names Shutdown = Unit {0}
IsSpelledItem names (Budget n) = n ≤ MOST_BUDGET
IsSpelledItem names (Class c) = Unit {0}
IsSpelledItem names (Def p) = (length p.body ≤ MOST_LINES) × All (IsSpelledCommand names) p.body
IsSpelledItem names (Run c) = IsSpelledCommand names c

-- a line other than a profile
abbrev pub IsNoProfile : Item → Type 0
IsNoProfile (Profile n) = ⊥
IsNoProfile item = Unit {0}

-- The properties of a script that some bytes spell: those of its lines; a profile comes first; and a text, as part of a
-- line, has at most 1,024 bytes.
pub record IsSpelled (script : Script) : Type 0 where
  pub lines : All (IsSpelledItem (length script.names)) script.items
  pub profile_first : All IsNoProfile (drop 1 script.items)
  pub few_lines : length script.items ≤ MOST_LINES
  pub short : All (λ text. length text ≤ MOST_LINE_BYTES) script.names
  pub few_texts : length script.names ≤ MOST_TEXTS
