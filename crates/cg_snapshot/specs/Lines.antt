-- The lines of a snapshot, one by one. (Ours.)
use Rattle.std.specs.Prelude.{ℕ, ◌^◌, ◌<◌, List, [], ◌∷◌, ◌++◌, length, map, flat_map}
use Rattle.cg_snapshot.specs.declared.heap.Member.{Member}
use Rattle.cg_snapshot.specs.declared.question.Question.{Question}
use Rattle.cg_snapshot.specs.declared.question.Question.TheVariants.{Why, Referrers, Hidden, Lost, Dropped, Untold}
use Rattle.cg_snapshot.specs.declared.reading.Snapshot.{Snapshot}
use Rattle.cg_snapshot.specs.declared.row.Kind.{Kind}
use Rattle.cg_snapshot.specs.declared.row.Kind.TheVariants as kinds
use Rattle.cg_snapshot.specs.declared.row.Row.{Row}
use Rattle.cg_snapshot.specs.declared.line.Line.{Line}
use Rattle.cg_snapshot.specs.declared.line.Line.TheVariants as lines
use Rattle.cg_snapshot.specs.Rows.{raw_of, AreSmall}
use Rattle.cg_snapshot.specs.Text.{flag}

abbrev pub row : Kind → List ℕ → List ℕ → Row
row kind numbers but = record { kind = kind; numbers = numbers; but = but }

-- the words of a question
abbrev pub row_of_question : Question → Row
row_of_question (Why n but) = row kinds.Why (n ∷ []) but
row_of_question (Referrers n) = row kinds.Referrers (n ∷ []) []
row_of_question Hidden = row kinds.Hidden [] []
row_of_question Lost = row kinds.Lost [] []
row_of_question (Dropped ns) = row kinds.Dropped ns []
row_of_question Untold = row kinds.Untold [] []

-- the words of a line
abbrev pub row_of : Line → Row
row_of lines.Opens = row kinds.Heap [] []
row_of (lines.Tells degree size tracked legacy refs) = row kinds.Member (degree ∷ size ∷ flag tracked ∷ flag legacy ∷ refs) []
row_of (lines.Adds words) = row kinds.Words words []
row_of lines.Closes = row kinds.End [] []
row_of (lines.Asks question) = row_of_question question

-- the numbers of a question are below 2 ^ 64
abbrev pub IsSmallQuestion : Question → Type 0
IsSmallQuestion (Why n but) = (n < 2 ^ 64) × AreSmall but
IsSmallQuestion (Referrers n) = n < 2 ^ 64
IsSmallQuestion Hidden = Unit {0}
IsSmallQuestion Lost = Unit {0}
IsSmallQuestion (Dropped ns) = (0 < length ns) × AreSmall ns
IsSmallQuestion Untold = Unit {0}

-- the numbers of a line are in range, and not empty where the line needs some
abbrev pub IsLine : Line → Type 0
IsLine lines.Opens = Unit {0}
IsLine (lines.Tells degree size tracked legacy refs) = (degree < 2 ^ 64) × (size < 2 ^ 36) × AreSmall refs
IsLine (lines.Adds words) = (0 < length words) × AreSmall words
IsLine lines.Closes = Unit {0}
IsLine (lines.Asks question) = IsSmallQuestion question

-- a line without its line feed
abbrev pub raw_line : Line → List ℕ
raw_line line = raw_of (row_of line)

-- the line of untold words, if there are any
abbrev pub untold_lines : List ℕ → List Line
untold_lines [] = []
untold_lines (n ∷ ns) = lines.Adds (n ∷ ns) ∷ []

abbrev pub member_lines : Member → List Line
member_lines m = lines.Tells m.degree m.size m.tracked m.legacy m.refs ∷ untold_lines m.untold

abbrev pub lines_of : Snapshot → List Line
lines_of s = lines.Opens ∷ (flat_map member_lines s.members ++ lines.Closes ∷ map lines.Asks s.questions)
