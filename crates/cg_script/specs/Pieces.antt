-- Splitting bytes at a separator: lines and words. (Ours.)
use Rattle.std.specs.Prelude.{ℕ, List, [], ◌∷◌, Bool, true, false, filter, ◌==◌, if◌then◌else◌, slice_index_or}
use Rattle.std.specs.Str.{bytes_eq}

-- a byte at the front of the first piece
abbrev pub onto : ℕ → List (List ℕ) → List (List ℕ)
onto b [] = (b ∷ []) ∷ []
onto b (p ∷ ps) = (b ∷ p) ∷ ps

-- A separator ends a piece. What follows the last one is a piece if it is not empty.
abbrev pub pieces : ℕ → List ℕ → List (List ℕ)
pieces separator [] = []
pieces separator (b ∷ bs) = if b == separator then [] ∷ pieces separator bs else onto b (pieces separator bs)

abbrev pub has_bytes : List ℕ → Bool
has_bytes [] = false
has_bytes (b ∷ bs) = true

-- a line feed ends a line
abbrev pub lines_of : List ℕ → List (List ℕ)
lines_of bytes = pieces 10 bytes

-- the longest pieces without spaces
abbrev pub words_of : List ℕ → List (List ℕ)
words_of line = filter has_bytes (pieces 32 line)

-- the word at a place, counting from 0, or no bytes after the last
abbrev pub word_at : List (List ℕ) → ℕ → List ℕ
word_at words place = slice_index_or words place []

abbrev pub word_is : List (List ℕ) → ℕ → List ℕ → Bool
word_is words place text = bytes_eq (word_at words place) text
