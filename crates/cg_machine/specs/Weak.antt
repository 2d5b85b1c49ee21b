-- Weak references: which have a referent, and how they are cleared. (PEP 205; `weakref` manual. Newest first in a
-- collection too is ours.)
use Rattle.std.specs.Prelude.{◌≡◌, ℕ, ◌≤◌, Bool, true, false, ◌||◌, ◌==◌, List, [], ◌∷◌, Option, None, option_map, option_and_then, unwrap_or, filter, reverse, if◌then◌else◌}
use Rattle.cg_value.specs.declared.KindCode.TheVariants.{Inst, Func}
use Rattle.cg_value.specs.declared.Entry.{Entry}
use Rattle.cg_graph.specs.Member.{Includes}
use Rattle.cg_graph.specs.Value.{reference_in}
use Rattle.cg_graph.specs.Object.{Object, change, object_at, with_referent, serials}

-- whether an object is a weak reference to o
abbrev pub is_reference_to : ℕ → Object → Bool
is_reference_to o x = unwrap_or (option_map (λ r. r == o) x.referent) false

-- the weak references to an object, the newest first
abbrev pub weak_references : List Object → ℕ → List ℕ
weak_references objects o = reverse (serials (filter (is_reference_to o) objects))

-- those to an object that passes a test; none for another
abbrev pub weak_references_if : (Object → Bool) → List Object → ℕ → List ℕ
weak_references_if test objects o = if unwrap_or (option_map test (object_at objects o)) false then weak_references objects o else []

-- instances and functions support weak references (`weakref` manual: class instances and functions do)
abbrev pub is_instance : Object → Bool
is_instance x = elim x.code [ Inst ↦ true | _ ↦ false ]

-- a function
abbrev pub is_function : Object → Bool
is_function x = elim x.code [ Func ↦ true | _ ↦ false ]

-- an instance or a function
abbrev pub has_weak_references : Object → Bool
has_weak_references x = is_instance x || is_function x

-- a weak reference is cleared
abbrev pub loses_referent : ℕ → List Object → List Object
loses_referent weak objects = change (with_referent None) weak objects

-- the function that a weak reference calls back: its only entry, if it has one
abbrev pub callback_in : List Entry → Option ℕ
callback_in [] = None
callback_in (e ∷ entries) = reference_in e.val

-- the callback of a weak reference, by its serial
abbrev pub callback_of : List Object → ℕ → Option ℕ
callback_of objects weak = option_and_then (λ x. callback_in x.entries) (object_at objects weak)

-- Weak references are cleared one at a time: the next one is the newest to its referent among those still to be
-- cleared.
pub record MayLoseNext (wanted : Object → Bool) (objects : List Object) (weak : ℕ) : Type 0 where
  pub object : Object
  pub is : object.serial ≡ weak
  pub member : Includes objects object
  pub to_lose : wanted object ≡ true
  pub newest : (y : Object) → Includes objects y → wanted y ≡ true → y.referent ≡ object.referent → y.serial ≤ weak

-- no weak reference is still to be cleared
abbrev pub NoneLeft : (Object → Bool) → List Object → Type 0
NoneLeft wanted objects = (x : Object) → Includes objects x → wanted x ≡ false

-- All wanted weak references are cleared, in this order.
abbrev pub AllLose : (Object → Bool) → List Object → List ℕ → List Object → Type 0
AllLose wanted objects [] after = NoneLeft wanted objects × (after ≡ objects)
AllLose wanted objects (weak ∷ weaks) after = MayLoseNext wanted objects weak × AllLose wanted (loses_referent weak objects) weaks after
