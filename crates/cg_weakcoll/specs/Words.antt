-- What the words of a written line stand for. (Ours.)
use Rattle.std.specs.Prelude.{ℕ, List, ◌++◌, map, decimal}
use Rattle.std.specs.Borrow.{Bor}
use Rattle.cg_script.specs.Canonical.{joined}
use Rattle.cg_weakcoll.specs.declared.write.Word.{Word}
use Rattle.cg_weakcoll.specs.declared.write.Word.TheVariants.{Text, Own}

-- the bytes of a word
abbrev pub word_bytes : Word → List ℕ
word_bytes (Text text) = text.now
word_bytes (Own front number) = front.now ++ decimal number

-- a line of such words
abbrev pub line_of : Bor (List Word) → List ℕ
line_of line = joined (map word_bytes line.now)
