-- Texts by number: each occurs once, and its number is its position.
use Rattle.std.specs.Prelude.{ℕ, List, [], ◌∷◌, ◌++◌, Bool, if◌then◌else◌}
use Rattle.std.specs.List.{list_any, position_or_len}
use Rattle.std.specs.Str.{bytes_eq}

abbrev pub has_text : List (List ℕ) → List ℕ → Bool
has_text texts text = list_any (bytes_eq text) texts

-- the first position of a text, or the next free number if it is new
abbrev pub text_number : List (List ℕ) → List ℕ → ℕ
text_number texts text = position_or_len (bytes_eq text) texts

-- the texts, with a new one appended
abbrev pub with_text : List (List ℕ) → List ℕ → List (List ℕ)
with_text texts text = if has_text texts text then texts else texts ++ text ∷ []
