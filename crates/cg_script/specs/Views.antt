-- What the parts of the reader represent. (Ours.)
use Rattle.std.specs.Prelude.{◌≡◌, ℕ, ◌+◌, ◌*◌, ◌≤◌, List, ◌∷◌, ◌++◌, Bool, true, false, not, length, Option, None, Some, is_some}
use Rattle.cg_script.specs.declared.item.Item.{Item}
use Rattle.cg_script.specs.declared.item.Item.TheVariants as variants
use Rattle.cg_script.specs.declared.form.Form.{Form}
use Rattle.cg_script.specs.declared.part.Said.{Said}
use Rattle.cg_script.specs.declared.part.Said.TheVariants.{Declares, Begins, Ends, Does}
use Rattle.cg_script.specs.declared.line.Line.{Line}
use Rattle.cg_script.specs.declared.line.Line.TheVariants as lines
use Rattle.cg_script.specs.declared.draft.Begun.{Begun}
use Rattle.cg_script.specs.declared.draft.Draft.{Draft}
use Rattle.cg_script.specs.declared.limits.TheConstants.{MOST_LINES, MOST_WORDS}
use Rattle.cg_script.specs.Meanings.{Meaning, passed, bad, formed}
use Rattle.cg_script.specs.Parts.{Known, parts_of}
use Rattle.cg_script.specs.Commands.{said}
use Rattle.cg_script.specs.Reading.{Lines, good, spoilt, lines_from, known_after, items_of, body_of, Reading, spells, faulty}

-- what a line of these words means in itself
abbrev pub meaning_of : Line → List (List ℕ) → Meaning
meaning_of lines.Passed words = passed
meaning_of (lines.Of form) words = formed form words
meaning_of (lines.Bad code) words = bad code

-- what a draft knows
abbrev pub known_of : Draft → Known
known_of draft = record { texts = draft.names; procs = draft.procs; classes = draft.classes; budget = draft.budget; shutdown = draft.shutdown; started = draft.started; inside = is_some draft.begun }

-- these items, then those said later; an open procedure goes on
abbrev pub grouped : List Item → Option Begun → List Said → List Item
grouped items None later = items ++ items_of false later
grouped items (Some begun) later = items ++ variants.Def (record { name = begun.name; body = begun.body.items ++ body_of later }) ∷ items_of true later

-- a declaration is outside procedures, and `end` inside one
abbrev pub is_placed : Said → Bool → Bool
is_placed (Declares item) inside = not inside
is_placed (Begins name) inside = not inside
is_placed Ends inside = inside
is_placed (Does command) inside = true

-- whether a procedure is open after this
abbrev pub inside_behind : Said → Bool → Bool
inside_behind (Declares item) inside = inside
inside_behind (Begins name) inside = true
inside_behind Ends inside = false
inside_behind (Does command) inside = inside

-- The draft has taken a line that says this.
pub record Takes (old : Draft) (form : Form) (words : List (List ℕ)) (new : Draft) : Type 0 where
  pub known : known_of new ≡ known_after (known_of old) form words
  pub items : (later : List Said) → grouped new.items new.begun later ≡ grouped old.items old.begun (said form (parts_of (known_of old) form words) ∷ later)

abbrev pub script_after : Draft → Lines → Reading
script_after draft (good texts later) = spells texts (grouped draft.items draft.begun later)
script_after draft (spoilt number code) = faulty number code

-- the reading of these lines after a draft
abbrev pub reading_after : Draft → ℕ → List (List ℕ) → Reading
reading_after draft number lines = script_after draft (lines_from (known_of draft) number lines)

-- A draft is no larger than the lines before this one can make it.
pub record IsSmall (draft : Draft) (number : ℕ) : Type 0 where
  pub lines : number ≤ MOST_LINES + 1
  pub texts : length draft.names + MOST_WORDS ≤ MOST_WORDS * number
  pub procs : length draft.procs + 1 ≤ number
  pub classes : length draft.classes + 1 ≤ number
  pub items : length draft.items + 1 ≤ number
