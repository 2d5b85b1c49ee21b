-- The forms of words, and what they stand for. (Ours.)
use Rattle.std.specs.Prelude.{ℕ, ◌+◌, ◌-◌, ◌*◌, List, [], ◌∷◌, Bool, true, false, not, ◌&&◌, ◌||◌, length, codes, take, drop, ◌==◌, nat_le, slice_index, if◌then◌else◌, Option, None, Some, is_some, ℤ, pos, neg_ℤ}
use Rattle.std.specs.List.{list_all}
use Rattle.std.specs.Str.{bytes_eq}
use Rattle.cg_script.specs.declared.command.Operand.{Operand}
use Rattle.cg_script.specs.declared.command.Operand.TheVariants as operands
use Rattle.cg_script.specs.declared.form.Form.{Form}
use Rattle.cg_script.specs.declared.limits.TheConstants.{MOST_NAME_BYTES, MOST_PROFILE}
use Rattle.cg_script.specs.Tables.{named}
use Rattle.cg_script.specs.Forms.{row, openers, bindings}

-- space to `~`
abbrev pub is_printable : ℕ → Bool
is_printable b = nat_le 32 b && nat_le b 126

-- `!` to `~`: a printable byte other than the space
abbrev pub is_graphic : ℕ → Bool
is_graphic b = nat_le 33 b && nat_le b 126

-- A to Z and a to z
abbrev pub is_letter : ℕ → Bool
is_letter b = (nat_le 65 b && nat_le b 90) || (nat_le 97 b && nat_le b 122)

-- 0 to 9
abbrev pub is_digit : ℕ → Bool
is_digit b = nat_le 48 b && nat_le b 57

-- a letter, or `_`
abbrev pub begins_name : ℕ → Bool
begins_name b = is_letter b || (b == 95)

-- a letter, a digit, or `_`
abbrev pub is_name_byte : ℕ → Bool
is_name_byte b = begins_name b || is_digit b

-- 1 to this many bytes, the first of which is no digit
abbrev pub is_identifier : List ℕ → Bool
is_identifier word = nat_le 1 (length word) && nat_le (length word) MOST_NAME_BYTES && begins_name (slice_index word 0) && list_all is_name_byte word

-- the keywords for values
unfoldable pub atoms : List (List ℕ × Operand)
atoms = (codes "none", operands.None) ∷ (codes "self", operands.SelfLocal) ∷ (codes "ref", operands.WeakLocal) ∷ (codes "garbage", operands.Garbage)
    ∷ (codes "c0", operands.Cell 0) ∷ (codes "c1", operands.Cell 1) ∷ (codes "c2", operands.Cell 2) ∷ (codes "c3", operands.Cell 3)
    ∷ (codes "c4", operands.Cell 4) ∷ (codes "c5", operands.Cell 5) ∷ (codes "c6", operands.Cell 6) ∷ (codes "c7", operands.Cell 7) ∷ []

-- whether the word of a form is reserved
abbrev pub reserves : Option Form → Bool
reserves None = false
reserves (Some form) = (row form).reserved

-- the reserved words: keywords for values, and words of forms
abbrev pub is_reserved : List ℕ → Bool
is_reserved word = is_some (named atoms word) || reserves (named openers word) || reserves (named bindings word)

abbrev pub is_variable : List ℕ → Bool
is_variable word = is_identifier word && not (is_reserved word)

-- the text of a string
abbrev pub string_text : List ℕ → List ℕ
string_text word = drop 1 word

-- 1 to this many digits
abbrev pub are_digits : ℕ → List ℕ → Bool
are_digits most word = nat_le 1 (length word) && nat_le (length word) most && list_all is_digit word

-- the number that digits write after those of n
abbrev pub decimal_after : ℕ → List ℕ → ℕ
decimal_after n [] = n
decimal_after n (d ∷ ds) = decimal_after (n * 10 + (d - 48)) ds

-- the number that digits write
abbrev pub decimal_value : List ℕ → ℕ
decimal_value digits = decimal_after 0 digits

abbrev pub has_minus : List ℕ → Bool
has_minus word = slice_index word 0 == 45

-- 1 to 19 digits, perhaps after `-`, of a signed number of 64 bits
abbrev pub is_number : List ℕ → Bool
is_number word =
    if has_minus word then are_digits 19 (drop 1 word) && nat_le (decimal_value (drop 1 word)) 9223372036854775808
    else are_digits 19 word && nat_le (decimal_value word) 9223372036854775807

-- the number that such a word writes
abbrev pub number_of : List ℕ → ℤ
number_of word = if has_minus word then neg_ℤ (pos (decimal_value (drop 1 word))) else pos (decimal_value word)

-- 1 to 10 digits of a number up to a limit
abbrev pub is_count : ℕ → List ℕ → Bool
is_count most word = are_digits 10 word && nat_le (decimal_value word) most

-- 1 or 2, as a count
abbrev pub is_profile : List ℕ → Bool
is_profile word = is_count MOST_PROFILE word && nat_le 1 (decimal_value word)

-- a word that begins with `'`: a string, whose text follows
abbrev pub is_quoted : List ℕ → Bool
is_quoted word = slice_index word 0 == 39

-- a keyword, or by its first byte a string, a variable or a number
abbrev pub is_value : List ℕ → Bool
is_value word =
    if is_some (named atoms word) then true
    else if is_quoted word then list_all is_graphic word
    else if begins_name (slice_index word 0) then is_variable word
    else is_number word

-- what follows a prefix of a word
abbrev pub after_prefix : List ℕ → List ℕ → Option (List ℕ)
after_prefix prefix word = if bytes_eq (take (length prefix) word) prefix then Some (drop (length prefix) word) else None

-- an identifier after such a prefix
abbrev pub is_identifier_after : Option (List ℕ) → Bool
is_identifier_after None = false
is_identifier_after (Some rest) = is_identifier rest

-- `del=P`
abbrev pub names_finalizer : List ℕ → Bool
names_finalizer word = is_identifier_after (after_prefix (codes "del=") word)

-- `legacy=P`
abbrev pub names_legacy : List ℕ → Bool
names_legacy word = is_identifier_after (after_prefix (codes "legacy=") word)

-- the flags of `debug`, with their bits (`gc.set_debug`)
unfoldable pub flags : List (List ℕ × ℕ)
flags = (codes "stats", 1) ∷ (codes "collectable", 2) ∷ (codes "uncollectable", 4) ∷ (codes "saveall", 32) ∷ (codes "leak", 38) ∷ []
