-- Objects by serial, as the list of objects in ascending order of serials. (The list computes, so worked scripts run
-- in a proof.)
use Rattle.std.specs.Prelude.{ℕ, Bool, true, false, not, List, [], ◌==◌, Option, if◌then◌else◌, option_map, unwrap_or, filter, map, is_some, find}
use Rattle.cg_value.specs.declared.KindCode.{KindCode}
use Rattle.cg_value.specs.declared.KindCode.TheVariants.{List as ListKind, Tuple, Dict, Inst, Func, Weak}
use Rattle.cg_value.specs.declared.Place.{Place}
use Rattle.cg_value.specs.declared.Place.TheVariants.{Untracked, Gen, Frozen, Cand, Seen, Back, Legacy, Pend}
use Rattle.cg_value.specs.declared.Entry.{Entry}

-- An object. It is tracked if its place is not Untracked.
pub record Object : Type 0 where
  pub serial : ℕ
  pub code : KindCode
  pub class : Option ℕ  -- an instance's class, a function's procedure
  pub entries : List Entry
  pub place : Place
  pub finalized : Bool
  pub referent : Option ℕ  -- of a weak reference that has one

-- the object with a serial
abbrev pub object_at : List Object → ℕ → Option Object
object_at objects o = find (λ x. x.serial == o) objects

-- whether an object with the serial exists
abbrev pub is_in_map : List Object → ℕ → Bool
is_in_map objects o = is_some (object_at objects o)

-- the objects, with one changed
abbrev pub change : (Object → Object) → ℕ → List Object → List Object
change f o objects = map (λ x. if x.serial == o then f x else x) objects

-- the objects without one
abbrev pub without : ℕ → List Object → List Object
without o objects = filter (λ x. not (x.serial == o)) objects

-- an object with other entries
abbrev pub with_entries : List Entry → Object → Object
with_entries es x = record x { entries = es }

abbrev pub with_place : Place → Object → Object
with_place p x = record x { place = p }

abbrev pub with_referent : Option ℕ → Object → Object
with_referent r x = record x { referent = r }

-- its finalizer has been called (PEP 442)
abbrev pub marked : Object → Object
marked x = record x { finalized = true }

-- the entries of the object, none if there is no such object
abbrev pub entries_of : List Object → ℕ → List Entry
entries_of objects o = unwrap_or (option_map (λ x. x.entries) (object_at objects o)) []

-- whether two places are the same
abbrev pub same_place : Place → Place → Bool
same_place Untracked Untracked = true
same_place (Gen m) (Gen n) = m == n
same_place Frozen Frozen = true
same_place Cand Cand = true
same_place Seen Seen = true
same_place Back Back = true
same_place Legacy Legacy = true
same_place Pend Pend = true
same_place p q = false

-- `gc.is_tracked`
abbrev pub is_tracked : Object → Bool
is_tracked x = not (same_place x.place Untracked)

-- whether an object is in a place
abbrev pub is_at : Place → Object → Bool
is_at p x = same_place x.place p

-- the objects of a place
abbrev pub objects_at : List Object → Place → List Object
objects_at objects p = filter (is_at p) objects

-- the serials of some objects
abbrev pub serials : List Object → List ℕ
serials objects = map (λ x. x.serial) objects

-- the serials of a place
abbrev pub serials_at : List Object → Place → List ℕ
serials_at objects p = serials (objects_at objects p)

-- The place of a new object: a dictionary is untracked until it holds something that may be tracked. (`gc` manual,
-- `gc.is_tracked`.)
abbrev pub first_place : KindCode → Place
first_place Dict = Untracked
first_place code = Gen 0

abbrev pub is_tuple : Object → Bool
is_tuple x = elim x.code [ ListKind ↦ false | Tuple ↦ true | Dict ↦ false | Inst ↦ false | Func ↦ false | Weak ↦ false ]

-- An object may be tracked if it is not a tuple, or is a tracked tuple. (Developer guide, "optimization: delay
-- tracking containers".)
abbrev pub may_be_tracked : Object → Bool
may_be_tracked x = if is_tuple x then is_tracked x else true
