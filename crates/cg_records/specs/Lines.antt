-- The lines of records, one by one: a word and the numbers after it. (Ours.)
use Rattle.std.specs.Prelude.{ℕ, ◌^◌, ◌<◌, ◌≤◌, Bool, true, false, List, [], ◌∷◌, ◌++◌, codes, decimal}
use Rattle.cg_records.specs.declared.line.Word.{Word}
use Rattle.cg_records.specs.declared.line.Word.TheVariants as words
use Rattle.cg_records.specs.declared.line.Line.{Line}
use Rattle.cg_records.specs.declared.line.Line.TheVariants as lines

-- the first word of a line
abbrev pub word_text : Word → List ℕ
word_text words.Record = codes "record "
word_text words.First = codes "graph 1\n"
word_text words.Second = codes "graph 2\n"
word_text words.Member = codes "m "
word_text words.Reference = codes "r "
word_text words.Lost = codes "lost "
word_text words.Legacy = codes "legacy "
word_text words.Cut = codes "cut\n"
word_text words.Stop = codes "stop\n"
word_text words.End = codes "end\n"

-- 1 for true, 0 for false
abbrev pub mark_of : Bool → ℕ
mark_of true = 1
mark_of false = 0

-- the word of a line
abbrev pub word_of : Line → Word
word_of (lines.Record g) = words.Record
word_of lines.First = words.First
word_of lines.Second = words.Second
word_of (lines.Member serial degree legacy) = words.Member
word_of (lines.Reference n) = words.Reference
word_of (lines.Lost n) = words.Lost
word_of (lines.Legacy n) = words.Legacy
word_of lines.Cut = words.Cut
word_of lines.Stop = words.Stop
word_of lines.End = words.End

-- a number that ends its line
abbrev pub last : ℕ → List ℕ
last n = decimal n ++ 10 ∷ []

-- the text after the word
abbrev pub numbers_text : Line → List ℕ
numbers_text (lines.Record g) = last g
numbers_text lines.First = []
numbers_text lines.Second = []
numbers_text (lines.Member serial degree legacy) = decimal serial ++ 32 ∷ (decimal degree ++ 32 ∷ last (mark_of legacy))
numbers_text (lines.Reference n) = last n
numbers_text (lines.Lost n) = last n
numbers_text (lines.Legacy n) = last n
numbers_text lines.Cut = []
numbers_text lines.Stop = []
numbers_text lines.End = []

abbrev pub line_text : Line → List ℕ
line_text line = word_text (word_of line) ++ numbers_text line

-- the numbers are in range
abbrev pub IsLine : Line → Type 0
IsLine (lines.Record g) = g ≤ 2
IsLine lines.First = Unit {0}
IsLine lines.Second = Unit {0}
IsLine (lines.Member serial degree legacy) = (serial < 2 ^ 64) × (degree < 2 ^ 64)
IsLine (lines.Reference n) = n < 2 ^ 64
IsLine (lines.Lost n) = n < 2 ^ 64
IsLine (lines.Legacy n) = n < 2 ^ 64
IsLine lines.Cut = Unit {0}
IsLine lines.Stop = Unit {0}
IsLine lines.End = Unit {0}
