-- Why a command is refused, by the numbers that are printed. (Ours.) Where several apply, the first one counts, in
-- the order in which the effects of commands test for them.
use Rattle.std.specs.Prelude.{ℕ, Bool, true, false, Result, Ok, Err}

-- the operand is an unbound name, or a local that the frame lacks
abbrev pub no_name : ℕ
no_name = 1

-- the object is not of the kind that the command expects
abbrev pub wrong_kind : ℕ
wrong_kind = 2

-- the index is below 0 or not below the length
abbrev pub no_index : ℕ
no_index = 3

-- the dictionary has no such key
abbrev pub no_key : ℕ
no_key = 4

-- the instance has no such attribute
abbrev pub no_attribute : ℕ
no_attribute = 5

-- `deref` of a value that is no weak reference
abbrev pub not_weak : ℕ
not_weak = 6

-- the value is not a function
abbrev pub not_callable : ℕ
not_callable = 7

-- the generation is not 0, 1 or 2
abbrev pub bad_generation : ℕ
bad_generation = 8

-- the key is a list, a tuple, a dictionary or a weak reference
abbrev pub unhashable : ℕ
unhashable = 9

-- memory ran out; no rule says when
abbrev pub no_memory : ℕ
no_memory = 10

-- 1,000,000 objects live, and the command makes one
abbrev pub object_limit : ℕ
object_limit = 11

-- the entries would pass 4,000,000
abbrev pub entry_limit : ℕ
entry_limit = 12

-- a collection is under way, and the command would report objects that it may be about to free
abbrev pub in_collection : ℕ
in_collection = 13

-- Checks in order: the first refusal counts.
infixl 10 ◌>>=◌
unfoldable pub ◌>>=◌ : {A B : Type 0} → Result A ℕ → (A → Result B ℕ) → Result B ℕ
(Ok x) >>= f = f x
(Err e) >>= f = Err e

-- refused where a test fails
abbrev pub unless : Bool → ℕ → Result (Unit {0}) ℕ
unless true refusal = Ok tt
unless false refusal = Err refusal
