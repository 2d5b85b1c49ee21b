-- What each call of a kind does to the entries and spare capacity of one object. (Ours, modelled on Python's lists,
-- tuples and dictionaries.)
use Rattle.std.specs.Prelude.{◌≡◌, ℕ, ◌+◌, ◌<◌, ◌≤◌, Bool, All, List, [], Option, None, length, take, drop, slice_get, slice_set, option_map, remove, pos}
use Rattle.cg_value.specs.declared.Val.{Val}
use Rattle.cg_value.specs.declared.Val.TheVariants.{None as Nothing, Int}
use Rattle.cg_value.specs.declared.Entry.{Entry}
use Rattle.cg_value.specs.declared.KindCode.{KindCode}
use Rattle.cg_value.specs.declared.KindCode.TheVariants.{List as ListKind, Tuple, Dict, Inst, Func, Weak}
use Rattle.cg_graph.specs.Value.{same_value, item, value_at, put, without_key}
use Rattle.cg_kind.specs.declared.notes.TheConstants.{AT_ONCE}

-- the entry has this key
abbrev pub has_key : Val → Entry → Bool
has_key key e = same_value e.key key

-- the entries from a position on, at most `AT_ONCE` of them
abbrev pub next_entries : List Entry → ℕ → List Entry
next_entries entries from = take AT_ONCE (drop from entries)

-- no entry has a key: items, cells and callbacks
abbrev pub AreItems : List Entry → Type 0
AreItems entries = All (λ e. e.key ≡ Nothing) entries

-- What an object may be made from: any items for a list or tuple, nothing for a dictionary or instance, at most eight
-- cells for a function, and at most one callback for a weak reference.
abbrev pub IsParts : KindCode → List Entry → Type 0
IsParts ListKind parts = AreItems parts
IsParts Tuple parts = AreItems parts
IsParts Dict parts = parts ≡ []
IsParts Inst parts = parts ≡ []
IsParts Func parts = AreItems parts × (length parts ≤ 8)
IsParts Weak parts = AreItems parts × (length parts ≤ 1)

-- a put on a list uses an existing index
abbrev pub CanPut : KindCode → List Entry → Val → Type 0
CanPut ListKind entries key = (i : ℕ) × (key ≡ Int (pos i)) × (i < length entries)
CanPut _ entries key = Unit {0}

-- The value that a put at this key replaces, None for a new key: the item at a list's index, or the value of a key in
-- a dictionary or instance. The other kinds ignore a put.
abbrev pub value_under : KindCode → List Entry → Val → Option Val
value_under ListKind entries (Int (pos i)) = option_map (λ e. e.val) (slice_get entries i)
value_under ListKind entries _ = None
value_under Dict entries key = value_at entries key
value_under Inst entries key = value_at entries key
value_under _ entries key = None

-- The entries after a put: a list replaces the item at the index; in a dictionary or instance an existing key keeps
-- its position and a new one goes last. (Python's dictionaries keep insertion order, and the existing key object.)
abbrev pub after_put : KindCode → List Entry → Val → Val → List Entry
after_put ListKind entries (Int (pos i)) val = slice_set entries i (item val)
after_put ListKind entries _ val = entries
after_put Dict entries key val = put entries key val
after_put Inst entries key val = put entries key val
after_put _ entries key val = entries

-- the entries after taking one: later ones move down; kinds that never remove entries keep it
abbrev pub after_take : KindCode → List Entry → ℕ → List Entry
after_take ListKind entries i = remove entries i
after_take Dict entries i = remove entries i
after_take Inst entries i = remove entries i
after_take _ entries i = entries

-- the same, by key
abbrev pub after_take_key : KindCode → List Entry → Val → List Entry
after_take_key ListKind entries key = without_key entries key
after_take_key Dict entries key = without_key entries key
after_take_key Inst entries key = without_key entries key
after_take_key _ entries key = entries

-- the spare capacity after an entry leaves: a list has room for one more item
abbrev pub spare_after_leave : KindCode → ℕ → ℕ
spare_after_leave ListKind spare = spare + 1
spare_after_leave _ spare = spare
