-- The line of each event, as bytes, and the text of a run. (Ours; docs/SCRIPT.md has them all.)
use Rattle.std.specs.Prelude.{ℕ, ◌+◌, ◌<◌, ◌≤◌, length, Bool, true, false, List, [], ◌∷◌, ◌++◌, codes, decimal, unwrap_or, slice_get, flat_map}
use Rattle.std.specs.Fmt.{signed_decimal}
use Rattle.cg_value.specs.declared.Val.{Val}
use Rattle.cg_value.specs.declared.Val.TheVariants.{None as Nothing, Int, Str, Ref}
use Rattle.cg_value.specs.declared.KindCode.{KindCode}
use Rattle.cg_value.specs.declared.KindCode.TheVariants.{List as ListKind, Tuple, Dict, Inst, Func, Weak}
use Rattle.cg_script.specs.declared.Script.{Script}
use Rattle.cg_machine.specs.declared.event.FrameSort.{FrameSort}
use Rattle.cg_machine.specs.declared.event.FrameSort.TheVariants.{Del, Legacy, Callback, Call}
use Rattle.cg_machine.specs.declared.event.Event.{Event}
use Rattle.cg_machine.specs.declared.event.Event.TheVariants.{Made, Enter, Leave, Cleared, Free, Alive, GcStart, GcCollectable, GcUncollectable, GcSaved, GcStop, Collected, Value, RefCount, Tracked, Finalized, Referent, Referrer, Listed, Held, Via, Unreachable, Count, Gens, Refused, BudgetSpent, Left, End}
use Rattle.cg_machine.specs.declared.line.TheConstants.{LONGEST_LINE, ROOM}
use Rattle.cg_machine.specs.Run.{StepTaken, events_of}

-- the word of a kind
abbrev pub kind_text : KindCode → List ℕ
kind_text ListKind = codes "list"
kind_text Tuple = codes "tuple"
kind_text Dict = codes "dict"
kind_text Inst = codes "instance"
kind_text Func = codes "function"
kind_text Weak = codes "weakref"

-- the word of a frame
abbrev pub sort_text : FrameSort → List ℕ
sort_text Del = codes "del"
sort_text Legacy = codes "legacy"
sort_text Callback = codes "callback"
sort_text Call = codes "call"

-- an answer
abbrev pub yes_or_no : Bool → List ℕ
yes_or_no true = codes "yes"
yes_or_no false = codes "no"

-- ` #n`, and ` n`
abbrev pub serial_text : ℕ → List ℕ
serial_text n = codes " #" ++ decimal n

-- a number after a space
abbrev pub number_text : ℕ → List ℕ
number_text n = 32 ∷ decimal n

-- a value; a string follows an apostrophe
abbrev pub value_text : List (List ℕ) → Val → List ℕ
value_text names Nothing = codes "none"
value_text names (Int n) = signed_decimal n
value_text names (Str s) = 39 ∷ unwrap_or (slice_get names s) []
value_text names (Ref o) = 35 ∷ decimal o

-- a line without its line feed
abbrev pub words_of : List (List ℕ) → Event → List ℕ
words_of names (Made code serial) = codes "made " ++ kind_text code ++ serial_text serial
words_of names (Enter sort serial) = codes "enter " ++ sort_text sort ++ serial_text serial
words_of names Leave = codes "leave"
words_of names (Cleared w) = codes "cleared" ++ serial_text w
words_of names (Free n) = codes "free" ++ serial_text n
words_of names (Alive n) = codes "alive" ++ serial_text n
words_of names (GcStart g) = codes "gc start" ++ number_text g
words_of names (GcCollectable n) = codes "gc collectable" ++ serial_text n
words_of names (GcUncollectable n) = codes "gc uncollectable" ++ serial_text n
words_of names (GcSaved n) = codes "gc saved" ++ serial_text n
words_of names (GcStop g m n) = codes "gc stop" ++ number_text g ++ number_text m ++ number_text n
words_of names (Collected n) = codes "collected" ++ number_text n
words_of names (Value v) = codes "value " ++ value_text names v
words_of names (RefCount n) = codes "refs" ++ number_text n
words_of names (Tracked b) = codes "tracked " ++ yes_or_no b
words_of names (Finalized b) = codes "finalized " ++ yes_or_no b
words_of names (Referent n) = codes "referent" ++ serial_text n
words_of names (Referrer n) = codes "referrer" ++ serial_text n
words_of names (Listed n) = codes "listed" ++ number_text n
words_of names (Held n) = codes "held" ++ serial_text n
words_of names (Via n) = codes "via" ++ serial_text n
words_of names Unreachable = codes "unreachable"
words_of names (Count a b c) = codes "count" ++ number_text a ++ number_text b ++ number_text c
words_of names (Gens a b c p) = codes "gens" ++ number_text a ++ number_text b ++ number_text c ++ number_text p
words_of names (Refused k) = codes "refused" ++ number_text k
words_of names BudgetSpent = codes "budget spent"
words_of names (Left n) = codes "left" ++ number_text n
words_of names End = codes "end"

-- A value can be printed if its text is known and has at most 1,024 bytes, the length of a line of a script.
abbrev pub IsPrintableValue : List (List ℕ) → Val → Type 0
IsPrintableValue names Nothing = Unit {0}
IsPrintableValue names (Int n) = Unit {0}
IsPrintableValue names (Str s) = (s < length names) × (length (unwrap_or (slice_get names s) []) ≤ 1024)
IsPrintableValue names (Ref o) = Unit {0}

-- an event can be printed if its value can
abbrev pub IsPrintable : List (List ℕ) → Event → Type 0
IsPrintable names (Value v) = IsPrintableValue names v
IsPrintable names event = Unit {0}

-- a line with its line feed
abbrev pub line : List (List ℕ) → Event → List ℕ
line names event = words_of names event ++ 10 ∷ []

-- A text has room for one more line, however long.
abbrev pub HasRoom : List ℕ → Type 0
HasRoom text = length text + LONGEST_LINE ≤ ROOM

-- the text of a run: the lines of its events, joined
abbrev pub text_of : Script → List StepTaken → List ℕ
text_of script steps = flat_map (line script.names) (events_of steps)
