-- What a line means by its words alone. (Ours.)
--
-- The codes of bad lines: 1 a byte that is not printable, 2 no known form, 3 the number of words, 4 the form of a word, 5 a
-- line that is too long, has too many words, or is one too many.
use Rattle.std.specs.Prelude.{ℕ, ◌+◌, List, [], ◌∷◌, Bool, true, false, not, ◌&&◌, ◌||◌, length, codes, ◌==◌, nat_lt, slice_index, if◌then◌else◌, Option, None, Some, is_some, unwrap_or}
use Rattle.std.specs.List.{list_all}
use Rattle.cg_script.specs.declared.form.Form.{Form}
use Rattle.cg_script.specs.declared.form.Form.TheVariants as forms
use Rattle.cg_script.specs.declared.form.Sort.{Sort}
use Rattle.cg_script.specs.declared.form.Sort.TheVariants.{Key, Variable, Name, Class, Proc, Finalizer, Value, Number, Profile, Budget, Count, Flag}
use Rattle.cg_script.specs.declared.limits.TheConstants.{MOST_BUDGET, MOST_COUNT, MOST_LINE_BYTES, MOST_LINES, MOST_WORDS}
use Rattle.cg_script.specs.Pieces.{words_of, word_at, word_is}
use Rattle.cg_script.specs.Tables.{named}
use Rattle.cg_script.specs.Words.{is_printable, is_identifier, is_variable, is_value, is_number, is_count, is_profile, names_finalizer, names_legacy, flags}
use Rattle.cg_script.specs.Forms.{row, sort_at, bindings, openers}

-- what a line means: nothing, if it is ignored; these words in a form; or a bad line, with its code
pub data Meaning : Type 0 where
  passed : Meaning
  says : Form → List (List ℕ) → Meaning
  bad : ℕ → Meaning

-- the code of a bad line
abbrev pub code_of : Meaning → Option ℕ
code_of passed = None
code_of (says form words) = None
code_of (bad code) = Some code

-- a word has the form that its place requires
abbrev pub fits : Sort → List ℕ → Bool
fits Key word = true
fits Variable word = is_variable word
fits Name word = is_identifier word
fits Class word = is_identifier word
fits Proc word = is_identifier word
fits Finalizer word = names_finalizer word || names_legacy word
fits Value word = is_value word
fits Number word = is_number word
fits Profile word = is_profile word
fits Budget word = is_count MOST_BUDGET word
fits Count word = is_count MOST_COUNT word
fits Flag word = is_some (named flags word)

-- the words from a place on have the forms that their places require
abbrev pub all_fit : Form → ℕ → List (List ℕ) → Bool
all_fit form place [] = true
all_fit form place (word ∷ words) = fits (sort_at form place) word && all_fit form (place + 1) words

-- a class with two finalizers, or two legacy finalizers
abbrev pub repeats_finalizer : Form → List (List ℕ) → Bool
repeats_finalizer forms.Class words = (length words == 4)
    && ((names_finalizer (word_at words 2) && names_finalizer (word_at words 3)) || (names_legacy (word_at words 2) && names_legacy (word_at words 3)))
repeats_finalizer form words = false

-- the words of a line of this form
abbrev pub formed : Form → List (List ℕ) → Meaning
formed form words =
    if nat_lt (length words) (row form).fewest || nat_lt (row form).most (length words) then bad 3
    else if not (all_fit form 0 words) || repeats_finalizer form words then bad 4
    else says form words

-- the form of a line `x = ..`: its third word selects it, but a lone `ref` is a value
abbrev pub binding_form : List (List ℕ) → Form
binding_form words = if word_is words 2 (codes "ref") && (length words == 3) then forms.Bind else unwrap_or (named bindings (word_at words 2)) forms.Bind

abbrev pub formed_if : Option Form → List (List ℕ) → Meaning
formed_if None words = bad 2
formed_if (Some form) words = formed form words

-- the words of a line that is not ignored
abbrev pub worded : List (List ℕ) → Meaning
worded words =
    if not (word_is words 1 (codes "=")) then formed_if (named openers (word_at words 0)) words
    else if length words == 2 then bad 3
    else formed (binding_form words) words

-- no words, or a first one that begins with `#`
abbrev pub is_passed : List (List ℕ) → Bool
is_passed [] = true
is_passed (word ∷ words) = slice_index word 0 == 35

-- the line with this number
unfoldable pub meaning : ℕ → List ℕ → Meaning
meaning number line =
    if not (list_all is_printable line) then bad 1
    else if nat_lt MOST_LINE_BYTES (length line) || nat_lt MOST_WORDS (length (words_of line)) || (number == MOST_LINES + 1) then bad 5
    else if is_passed (words_of line) then passed
    else worded (words_of line)
