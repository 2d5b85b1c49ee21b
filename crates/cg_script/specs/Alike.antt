-- The rows of a table and the forms whose words have a given first byte and length. (Ours.)
use Rattle.std.specs.Prelude.{ℕ, List, Bool, ◌&&◌, ◌==◌, length, filter, slice_index}
use Rattle.cg_script.specs.declared.form.Form.{Form}
use Rattle.cg_script.specs.Forms.{word_of}

-- a word has this first byte and length
abbrev pub is_alike : ℕ → ℕ → List ℕ → Bool
is_alike byte count word = (slice_index word 0 == byte) && (length word == count)

-- the rows with such words
abbrev pub rows_like : {A : Type 0} → ℕ → ℕ → List (List ℕ × A) → List (List ℕ × A)
rows_like byte count rows = filter (λ row. is_alike byte count row.0) rows

-- the forms with such words
abbrev pub forms_like : ℕ → ℕ → List Form → List Form
forms_like byte count these = filter (λ form. is_alike byte count (word_of form)) these
