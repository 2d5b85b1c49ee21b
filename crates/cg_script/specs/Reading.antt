-- How the bytes of a script are read. (Ours.)
--
-- In addition to the codes in `Meanings`: 6 a procedure or class that no earlier line defines, 7 a declaration in the wrong
-- place, 8 a second definition.
use Rattle.std.specs.Prelude.{ℕ, ◌+◌, List, [], ◌∷◌, Bool, true, false, not, ◌||◌, if◌then◌else◌, Option, None, Some}
use Rattle.cg_value.specs.Texts.{has_text, with_text}
use Rattle.cg_script.specs.declared.command.Command.{Command}
use Rattle.cg_script.specs.declared.item.Item.{Item}
use Rattle.cg_script.specs.declared.item.Item.TheVariants as items
use Rattle.cg_script.specs.declared.form.Form.{Form}
use Rattle.cg_script.specs.declared.form.Form.TheVariants as forms
use Rattle.cg_script.specs.declared.part.Said.{Said}
use Rattle.cg_script.specs.declared.part.Said.TheVariants.{Declares, Begins, Ends, Does}
use Rattle.cg_script.specs.Pieces.{lines_of, word_at}
use Rattle.cg_script.specs.Meanings.{Meaning, passed, says, bad, meaning}
use Rattle.cg_script.specs.Parts.{Known, parts_of, texts_from, has_unknown}
use Rattle.cg_script.specs.Commands.{said}

-- before the first line
abbrev pub nothing_known : Known
nothing_known = record { texts = []; procs = []; classes = []; budget = false; shutdown = false; started = false; inside = false }

-- an `end` outside a procedure, a declaration inside one, or a profile after another line
abbrev pub is_misplaced : Known → Form → Bool
is_misplaced known forms.End = not known.inside
is_misplaced known forms.Def = known.inside
is_misplaced known forms.Class = known.inside
is_misplaced known forms.Budget = known.inside
is_misplaced known forms.Shutdown = known.inside
is_misplaced known forms.Profile = known.inside || known.started
is_misplaced known form = false

-- a procedure or class that exists already, or a second budget or shutdown
abbrev pub is_repeated : Known → Form → List (List ℕ) → Bool
is_repeated known forms.Def words = has_text known.procs (word_at words 1)
is_repeated known forms.Class words = has_text known.classes (word_at words 1)
is_repeated known forms.Budget words = known.budget
is_repeated known forms.Shutdown words = known.shutdown
is_repeated known form words = false

-- what is wrong with a line of this form, given what earlier lines say
abbrev pub fault_in : Known → Form → List (List ℕ) → Option ℕ
fault_in known form words =
    if is_misplaced known form then Some 7
    else if is_repeated known form words then Some 8
    else if has_unknown (parts_of known form words) then Some 6
    else None

abbrev pub says_or_bad : Option ℕ → Form → List (List ℕ) → Meaning
says_or_bad None form words = says form words
says_or_bad (Some code) form words = bad code

abbrev pub checked : Known → Meaning → Meaning
checked known passed = passed
checked known (says form words) = says_or_bad (fault_in known form words) form words
checked known (bad code) = bad code

-- what the line with this number means, given what earlier lines say
unfoldable pub meant : Known → ℕ → List ℕ → Meaning
meant known number line = checked known (meaning number line)

-- the procedures after a line
abbrev pub procs_after : List (List ℕ) → Form → List (List ℕ) → List (List ℕ)
procs_after procs forms.Def words = with_text procs (word_at words 1)
procs_after procs form words = procs

abbrev pub classes_after : List (List ℕ) → Form → List (List ℕ) → List (List ℕ)
classes_after classes forms.Class words = with_text classes (word_at words 1)
classes_after classes form words = classes

abbrev pub budget_after : Bool → Form → Bool
budget_after budget forms.Budget = true
budget_after budget form = budget

abbrev pub shutdown_after : Bool → Form → Bool
shutdown_after shutdown forms.Shutdown = true
shutdown_after shutdown form = shutdown

abbrev pub inside_after : Bool → Form → Bool
inside_after inside forms.Def = true
inside_after inside forms.End = false
inside_after inside form = inside

-- what is known after a line
abbrev pub known_after : Known → Form → List (List ℕ) → Known
known_after known form words = record {
  texts = texts_from known.texts form 0 words;
  procs = procs_after known.procs form words;
  classes = classes_after known.classes form words;
  budget = budget_after known.budget form;
  shutdown = shutdown_after known.shutdown form;
  started = true;
  inside = inside_after known.inside form;
}

-- What some lines say: texts and what each line says, in order; or the first bad line with its code.
pub data Lines : Type 0 where
  good : List (List ℕ) → List Said → Lines
  spoilt : ℕ → ℕ → Lines

abbrev pub also_said : Said → Lines → Lines
also_said s (good texts later) = good texts (s ∷ later)
also_said s (spoilt number code) = spoilt number code

-- a line with this meaning, and the ones after it
abbrev pub with_later : Known → ℕ → Meaning → (Known → Lines) → Lines
with_later known number passed later = later known
with_later known number (says form words) later = also_said (said form (parts_of known form words)) (later (known_after known form words))
with_later known number (bad code) later = spoilt number code

-- the lines from this number on; a procedure still open at the end is a fault of the line after the last
abbrev pub lines_from : Known → ℕ → List (List ℕ) → Lines
lines_from known number [] = if known.inside then spoilt number 7 else good known.texts []
lines_from known number (line ∷ lines) =
    with_later known number (meant known number line) (λ behind. lines_from behind (number + 1) lines)

-- the commands up to `end`
abbrev pub body_of : List Said → List Command
body_of [] = []
body_of (Does command ∷ later) = command ∷ body_of later
body_of (Declares item ∷ later) = []
body_of (Begins name ∷ later) = []
body_of (Ends ∷ later) = []

-- the items of a script; the commands of a procedure are in its body
abbrev pub items_of : Bool → List Said → List Item
items_of inside [] = []
items_of inside (Declares item ∷ later) = item ∷ items_of inside later
items_of inside (Begins name ∷ later) = items.Def (record { name = name; body = body_of later }) ∷ items_of true later
items_of inside (Ends ∷ later) = items_of false later
items_of true (Does command ∷ later) = items_of true later
items_of false (Does command ∷ later) = items.Run command ∷ items_of false later

-- what some bytes are: a script with its texts and items, or a first bad line with its code
pub data Reading : Type 0 where
  spells : List (List ℕ) → List Item → Reading
  faulty : ℕ → ℕ → Reading

abbrev pub script_of : Lines → Reading
script_of (good texts lines) = spells texts (items_of false lines)
script_of (spoilt number code) = faulty number code

-- what some bytes are read as
abbrev pub reading : List ℕ → Reading
reading bytes = script_of (lines_from nothing_known 1 (lines_of bytes))
