-- The expansion of an extended script: lines with weak value maps and exit finalizers become lines of the base language, all
-- others are copied. (Ours; after CPython's `weakref.WeakValueDictionary` and `weakref.finalize`.)
--
-- Lines and words are those of a script (cg_script `Pieces`). A written line is given by its words, or is a copy.
use Rattle.std.specs.Prelude.{◌≡◌, ℕ, ◌+◌, List, [], ◌∷◌, ◌++◌, Bool, true, false, not, ◌&&◌, ◌||◌, length, map, flat_map, reverse, codes, decimal, ◌==◌, nat_lt, if◌then◌else◌, Option, None, Some, is_some}
use Rattle.std.specs.Option.{option_or}
use Rattle.std.specs.List.{list_all, list_any}
use Rattle.std.specs.Str.{bytes_eq}
use Rattle.cg_script.specs.Pieces.{lines_of, words_of, word_at, word_is}
use Rattle.cg_script.specs.Words.{is_printable, is_variable, is_value, after_prefix}
use Rattle.cg_script.specs.Meanings.{is_passed}
use Rattle.cg_script.specs.Canonical.{joined}
use Rattle.cg_script.specs.declared.limits.TheConstants.{MOST_LINES}
use Rattle.cg_script.specs.declared.fault.ScriptFault.{ScriptFault}
use Rattle.cg_script.specs.declared.fault.ScriptFault.TheVariants.{Bad, OutOfMemory}
use Rattle.cg_weakcoll.specs.declared.form.Form.{Form}
use Rattle.cg_weakcoll.specs.declared.form.Form.TheVariants.{MakeMap, Set, Get, Remove, Finalize}
use Rattle.cg_weakcoll.specs.declared.form.TheConstants.{MOST_FORM_BYTES}

-- The names generated for line l. For a `wset` line: the weak reference, until it is in the map.
abbrev pub weak_name : ℕ → List ℕ
weak_name l = codes "wv_" ++ decimal l

-- For a `finalize` line: its procedure,
abbrev pub proc_name : ℕ → List ℕ
proc_name l = codes "wv_p_" ++ decimal l

-- the object that the procedure asks for,
abbrev pub object_name : ℕ → List ℕ
object_name l = codes "wv_o_" ++ decimal l

-- the procedure's function, which the line at the script's end calls,
abbrev pub exit_name : ℕ → List ℕ
exit_name l = codes "wv_g_" ++ decimal l

-- the function to call,
abbrev pub function_name : ℕ → List ℕ
function_name l = codes "wv_f_" ++ decimal l

-- and the weak reference that has it as its callback.
abbrev pub watch_name : ℕ → List ℕ
watch_name l = codes "wv_w_" ++ decimal l

-- `x = wmap`
abbrev pub wmap_lines : List ℕ → List (List (List ℕ))
wmap_lines x = (x ∷ codes "=" ∷ codes "dict" ∷ []) ∷ []

-- `wset M k v`
abbrev pub wset_lines : ℕ → List ℕ → List ℕ → List ℕ → List (List (List ℕ))
wset_lines l M k v =
    (weak_name l ∷ codes "=" ∷ codes "ref" ∷ v ∷ [])
    ∷ (codes "put" ∷ M ∷ k ∷ weak_name l ∷ [])
    ∷ (codes "del" ∷ weak_name l ∷ [])
    ∷ []

-- `x = wget M k`
abbrev pub wget_lines : List ℕ → List ℕ → List ℕ → List (List (List ℕ))
wget_lines x M k =
    (x ∷ codes "=" ∷ codes "none" ∷ [])
    ∷ (x ∷ codes "=" ∷ codes "get" ∷ M ∷ k ∷ [])
    ∷ (x ∷ codes "=" ∷ codes "deref" ∷ x ∷ [])
    ∷ []

-- `wdrop M k`
abbrev pub wdrop_lines : List ℕ → List ℕ → List (List (List ℕ))
wdrop_lines M k = (codes "drop" ∷ M ∷ k ∷ []) ∷ []

-- The procedure of a `finalize` line: nothing if the object is gone; else it drops the weak reference, so that its callback is
-- not called, and calls the function.
abbrev pub exit_lines : ℕ → List (List (List ℕ))
exit_lines l =
    (codes "def" ∷ proc_name l ∷ [])
    ∷ (object_name l ∷ codes "=" ∷ codes "deref" ∷ watch_name l ∷ [])
    ∷ (codes "quit" ∷ object_name l ∷ [])
    ∷ (codes "del" ∷ watch_name l ∷ [])
    ∷ (codes "del" ∷ object_name l ∷ [])
    ∷ (codes "call" ∷ function_name l ∷ [])
    ∷ (codes "end" ∷ [])
    ∷ []

-- what follows it: the procedure's function, the function to call, and the weak reference with the callback
abbrev pub watch_lines : ℕ → List ℕ → List ℕ → List (List (List ℕ))
watch_lines l y f =
    (exit_name l ∷ codes "=" ∷ codes "func" ∷ proc_name l ∷ [])
    ∷ (function_name l ∷ codes "=" ∷ f ∷ [])
    ∷ (watch_name l ∷ codes "=" ∷ codes "ref" ∷ y ∷ function_name l ∷ [])
    ∷ []

-- `finalize y f`
abbrev pub finalize_lines : ℕ → List ℕ → List ℕ → List (List (List ℕ))
finalize_lines l y f = exit_lines l ++ watch_lines l y f

-- the final call for the `finalize` line l
abbrev pub call_line : ℕ → List (List ℕ)
call_line l = codes "call" ∷ exit_name l ∷ []

-- what is written for line l with this form and these words
abbrev pub form_lines : Form → ℕ → List (List ℕ) → List (List (List ℕ))
form_lines MakeMap l words = wmap_lines (word_at words 0)
form_lines Set l words = wset_lines l (word_at words 1) (word_at words 2) (word_at words 3)
form_lines Get l words = wget_lines (word_at words 0) (word_at words 3) (word_at words 4)
form_lines Remove l words = wdrop_lines (word_at words 1) (word_at words 2)
form_lines Finalize l words = finalize_lines l (word_at words 1) (word_at words 2)

-- the form that the third word of a line `x = ..` selects
abbrev pub binding_form : List ℕ → Option Form
binding_form word = if bytes_eq word (codes "wmap") then Some MakeMap else if bytes_eq word (codes "wget") then Some Get else None

-- the form that the first word of any other line selects
abbrev pub opening_form : List ℕ → Option Form
opening_form word =
    if bytes_eq word (codes "wset") then Some Set
    else if bytes_eq word (codes "wdrop") then Some Remove
    else if bytes_eq word (codes "finalize") then Some Finalize
    else None

-- the form of a line of these words, if it has one and is not ignored
abbrev pub form_of : List (List ℕ) → Option Form
form_of words =
    if is_passed words then None
    else if word_is words 1 (codes "=") then binding_form (word_at words 2)
    else opening_form (word_at words 0)

-- the lines written for line l, without their line feeds
abbrev pub written_by : Option Form → ℕ → List ℕ → List (List ℕ) → List (List ℕ)
written_by None l line words = line ∷ []
written_by (Some form) l line words = map joined (form_lines form l words)

abbrev pub written : ℕ → List ℕ → List (List ℕ)
written l line = written_by (form_of (words_of line)) l line (words_of line)

-- for all lines, starting with this number
abbrev pub written_from : ℕ → List (List ℕ) → List (List ℕ)
written_from l [] = []
written_from l (line ∷ lines) = written l line ++ written_from (l + 1) lines

-- a `finalize` line
abbrev pub is_finalize : Option Form → Bool
is_finalize (Some Finalize) = true
is_finalize form = false

abbrev pub finalizes : List ℕ → Bool
finalizes line = is_finalize (form_of (words_of line))

-- the number of line l if it is a `finalize` line
abbrev pub finalize_number : ℕ → List ℕ → List ℕ
finalize_number l line = if finalizes line then l ∷ [] else []

-- for all lines, starting with this number
abbrev pub finalize_numbers_from : ℕ → List (List ℕ) → List ℕ
finalize_numbers_from l [] = []
finalize_numbers_from l (line ∷ lines) = finalize_number l line ++ finalize_numbers_from (l + 1) lines

-- the final calls for the `finalize` lines with these numbers, last one first
abbrev pub call_lines : List ℕ → List (List ℕ)
call_lines numbers = map (λ l. joined (call_line l)) (reverse numbers)

abbrev pub final_lines : List (List ℕ) → List (List ℕ)
final_lines lines = call_lines (finalize_numbers_from 1 lines)

-- all lines of the expansion
abbrev pub expanded_lines : List (List ℕ) → List (List ℕ)
expanded_lines lines = written_from 1 lines ++ final_lines lines

-- lines as bytes, each with a line feed
abbrev pub with_feed : List ℕ → List ℕ
with_feed line = line ++ 10 ∷ []

abbrev pub with_feeds : List (List ℕ) → List ℕ
with_feeds lines = flat_map with_feed lines

-- the expansion of some bytes without a bad line
unfoldable pub expansion : List ℕ → List ℕ
expansion bytes = with_feeds (expanded_lines (lines_of bytes))

-- how many words a line of this form has
abbrev pub word_count : Form → ℕ
word_count MakeMap = 3
word_count Set = 4
word_count Get = 5
word_count Remove = 3
word_count Finalize = 3

-- a word of a look-up that is not the word of its variable
abbrev pub is_value_beside : List ℕ → List ℕ → Bool
is_value_beside x word = is_value word && not (bytes_eq word x)

-- the words have the forms that their places require
abbrev pub words_fit : Form → List (List ℕ) → Bool
words_fit MakeMap words = is_variable (word_at words 0)
words_fit Set words = is_value (word_at words 1) && is_value (word_at words 2) && is_value (word_at words 3)
words_fit Get words = is_variable (word_at words 0) && is_value_beside (word_at words 0) (word_at words 3) && is_value_beside (word_at words 0) (word_at words 4)
words_fit Remove words = is_value (word_at words 1) && is_value (word_at words 2)
words_fit Finalize words = is_value (word_at words 1) && is_value (word_at words 2)

-- The codes of bad lines of a form, in this order: 1 a byte that is not printable, 5 a line that is too long or too late, 3 the
-- number of words, 4 the form of a word, 7 a `finalize` inside a procedure.
abbrev pub form_fault : Form → Bool → ℕ → List ℕ → List (List ℕ) → Option ℕ
form_fault form inside l line words =
    if not (list_all is_printable line) then Some 1
    else if nat_lt MOST_FORM_BYTES (length line) || nat_lt MOST_LINES l then Some 5
    else if not (length words == word_count form) then Some 3
    else if not (words_fit form words) then Some 4
    else if is_finalize (Some form) && inside then Some 7
    else None

-- a word that begins so
abbrev pub begins_with : List ℕ → List ℕ → Bool
begins_with prefix word = is_some (after_prefix prefix word)

-- a name reserved for expansions
abbrev pub is_kept : List ℕ → Bool
is_kept word = begins_with (codes "wv_") word || begins_with (codes "del=wv_") word || begins_with (codes "legacy=wv_") word

abbrev pub name_fault : List (List ℕ) → Option ℕ
name_fault words = if not (is_passed words) && list_any is_kept words then Some 4 else None

abbrev pub fault_by : Option Form → Bool → ℕ → List ℕ → List (List ℕ) → Option ℕ
fault_by None inside l line words = name_fault words
fault_by (Some form) inside l line words = option_or (form_fault form inside l line words) (name_fault words)

-- what is wrong with line l, after lines that leave a procedure open or not; code 4 also for a reserved name
abbrev pub fault_of : Bool → ℕ → List ℕ → Option ℕ
fault_of inside l line = fault_by (form_of (words_of line)) inside l line (words_of line)

-- `def` opens a procedure, and only `end` closes it
abbrev pub inside_after : Bool → List (List ℕ) → Bool
inside_after inside words =
    if word_is words 0 (codes "def") && not (word_is words 1 (codes "=")) then true
    else if word_is words 0 (codes "end") && (length words == 1) then false
    else inside

-- this line with its code, or what comes later
abbrev pub bad_or : ℕ → Option ℕ → Option (ℕ × ℕ) → Option (ℕ × ℕ)
bad_or l (Some code) later = Some (l, code)
bad_or l None later = later

-- the first bad line with its code, starting with this number
abbrev pub first_bad_from : Bool → ℕ → List (List ℕ) → Option (ℕ × ℕ)
first_bad_from inside l [] = None
first_bad_from inside l (line ∷ lines) = bad_or l (fault_of inside l line) (first_bad_from (inside_after inside (words_of line)) (l + 1) lines)

-- the first bad line of some bytes, with its code
unfoldable pub first_bad : List ℕ → Option (ℕ × ℕ)
first_bad bytes = first_bad_from false 1 (lines_of bytes)

-- a fault is the first bad line, unless memory ran out
abbrev pub IsFirstBad : ScriptFault → Option (ℕ × ℕ) → Type 0
IsFirstBad (Bad line code) first = first ≡ Some (line, code)
IsFirstBad OutOfMemory first = Unit {0}
