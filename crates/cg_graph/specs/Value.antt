-- Values, entries and the references in them. (Developer guide, "reference counting": only objects are counted, and
-- each stored reference once.)
use Rattle.std.specs.Prelude.{ℕ, ℤ, pos, negsuc, Bool, true, false, List, [], ◌∷◌, ◌++◌, ◌==◌, Option, Some, None, flat_map, option_and_then, option_to_list, if◌then◌else◌, slice_get, take, length, ◌-◌}
use Rattle.cg_value.specs.declared.Val.{Val}
use Rattle.cg_value.specs.declared.Val.TheVariants.{None as Nothing, Int, Str, Ref}
use Rattle.cg_value.specs.declared.Entry.{Entry}

-- the serial in a value, if there is one
abbrev pub reference_in : Val → Option ℕ
reference_in Nothing = None
reference_in (Int n) = None
reference_in (Str s) = None
reference_in (Ref o) = Some o

-- the references of an optional value: one or none
abbrev pub references_of_value : Option Val → List ℕ
references_of_value v = option_to_list (option_and_then reference_in v)

-- The references of an entry: the value's, then the key's. They are released in this order. (Ours.)
abbrev pub entry_references : Entry → List ℕ
entry_references e = option_to_list (reference_in e.val) ++ option_to_list (reference_in e.key)

-- the references of entries, each as often as it is stored
abbrev pub references : List Entry → List ℕ
references entries = flat_map entry_references entries

-- whether two integers are equal
abbrev pub same_int : ℤ → ℤ → Bool
same_int (pos m) (pos n) = m == n
same_int (pos m) (negsuc n) = false
same_int (negsuc m) (pos n) = false
same_int (negsuc m) (negsuc n) = m == n

-- Whether two values are equal. Objects are compared by identity. (Ours: instances and functions as keys.)
abbrev pub same_value : Val → Val → Bool
same_value Nothing Nothing = true
same_value Nothing (Int n) = false
same_value Nothing (Str t) = false
same_value Nothing (Ref p) = false
same_value (Int m) Nothing = false
same_value (Int m) (Int n) = same_int m n
same_value (Int m) (Str t) = false
same_value (Int m) (Ref p) = false
same_value (Str s) Nothing = false
same_value (Str s) (Int n) = false
same_value (Str s) (Str t) = s == t
same_value (Str s) (Ref p) = false
same_value (Ref o) Nothing = false
same_value (Ref o) (Int n) = false
same_value (Ref o) (Str t) = false
same_value (Ref o) (Ref p) = o == p

-- an entry of a list, tuple, function or weak reference: its key is None
abbrev pub item : Val → Entry
item value = record { key = Nothing; val = value }

-- the value of the first entry with a key
abbrev pub value_at : List Entry → Val → Option Val
value_at [] key = None
value_at (e ∷ entries) key = if same_value e.key key then Some e.val else value_at entries key

-- An existing key keeps its position and gets the value; a new key goes last. (Python's dictionaries keep insertion
-- order.)
abbrev pub put : List Entry → Val → Val → List Entry
put [] key value = record { key = key; val = value } ∷ []
put (e ∷ entries) key value = if same_value e.key key then record { key = e.key; val = value } ∷ entries else e ∷ put entries key value

-- the entries without that of a key
abbrev pub without_key : List Entry → Val → List Entry
without_key [] key = []
without_key (e ∷ entries) key = if same_value e.key key then entries else e ∷ without_key entries key

-- the entry under a key
abbrev pub entry_at : List Entry → Val → Option Entry
entry_at [] key = None
entry_at (e ∷ entries) key = if same_value e.key key then Some e else entry_at entries key

-- the last entry, if any, and the entries before it
abbrev pub last_entry : List Entry → Option Entry
last_entry entries = slice_get entries (length entries - 1)

abbrev pub without_last : List Entry → List Entry
without_last entries = take (length entries - 1) entries
