-- The pairs of a dictionary or an instance, and how a map stores them. (Ours.)
use Rattle.std.specs.Prelude.{◌≡◌, ◌⊎◌, ℕ, map, length, slice_index_or, List, [], ◌∷◌, Option, Some, None}
use Rattle.std.specs.Global.{Box}
use Rattle.cg_value.specs.declared.Val.{Val}
use Rattle.cg_value.specs.declared.Val.TheVariants as val
use Rattle.cg_value.specs.declared.Entry.{Entry}
use Rattle.cg_value.specs.declared.KindCode.{KindCode}
use Rattle.cg_value.specs.declared.KindCode.TheVariants as code
use Rattle.cg_graph.specs.Value.{value_at}
use Rattle.cg_kinds.specs.Order.{IsSound}

-- dictionaries and instances hold values under keys
abbrev pub IsKeyed : KindCode → Type 0
IsKeyed kind = (kind ≡ code.Dict) ⊎ (kind ≡ code.Inst)

-- a pair of a map as an entry
abbrev pub pair_entry : Val × Val → Entry
pair_entry p = record { key = p.0; val = p.1 }

-- the pairs of a map, as entries
abbrev pub pairs_of : List (Val × Val) → List Entry
pairs_of pairs = map pair_entry pairs

-- the default entry, for a position past the end
abbrev pub nothing : Entry
nothing = record { key = val.None; val = val.None }

-- the entries at these indexes
abbrev pub picked : List Entry → List ℕ → List Entry
picked entries order = map (λ index. slice_index_or entries index nothing) order

-- the pairs of a map, as entries, in its own order or in a given one
abbrev pub ordered : List (Val × Val) → Option (List ℕ) → List Entry
ordered pairs None = pairs_of pairs
ordered pairs (Some order) = picked (pairs_of pairs) order

-- the order in a box, if any
abbrev pub unboxed : Option (Box (List ℕ)) → Option (List ℕ)
unboxed None = None
unboxed (Some order) = Some order.value

-- an order of this number of pairs
abbrev pub IsOrderOf : ℕ → Option (List ℕ) → Type 0
IsOrderOf count None = Unit {0}
IsOrderOf count (Some order) = length order ≡ count

abbrev pub IsSoundOrder : Option (List ℕ) → Type 0
IsSoundOrder None = Unit {0}
IsSoundOrder (Some order) = IsSound order

-- no two entries have the same key
abbrev pub AreKeysOnce : List Entry → Type 0
AreKeysOnce [] = Unit {0}
AreKeysOnce (e ∷ es) = (value_at es e.key ≡ None) × AreKeysOnce es
