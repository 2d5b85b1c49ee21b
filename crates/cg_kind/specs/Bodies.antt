-- The data of a kind of objects: at each place a body, which is a list of entries and a spare capacity. (Ours.)
use Rattle.std.specs.Prelude.{ℕ, List, [], Option, Some, None, IsSome}
use Rattle.std.specs.Ordering.{nat_cmp}
use Rattle.std.specs.FinMap as fin
use Rattle.cg_value.specs.declared.Entry.{Entry}

-- the entries of an object, and how many more items fit without allocating
pub record Body : Type 0 where
  pub entries : List Entry
  pub spare : ℕ

abbrev pub body_of : List Entry → ℕ → Body
body_of entries spare = record { entries = entries; spare = spare }

-- a body at each place
abbrev pub Bodies : Type 0
Bodies = fin.FinMap nat_cmp Body

-- the place holds a body
abbrev pub Holds : Bodies → ℕ → Type 0
Holds bodies at = IsSome (fin.get bodies at)

abbrev pub entries_of : Option Body → List Entry
entries_of None = []
entries_of (Some b) = b.entries

abbrev pub spare_of : Option Body → ℕ
spare_of None = 0
spare_of (Some b) = b.spare

-- the entries at a place, none if it holds no body
abbrev pub entries_at : Bodies → ℕ → List Entry
entries_at bodies at = entries_of (fin.get bodies at)

-- the spare capacity at a place, 0 if it holds no body
abbrev pub spare_at : Bodies → ℕ → ℕ
spare_at bodies at = spare_of (fin.get bodies at)

-- these entries and this spare at one place; all others unchanged
abbrev pub with_body : Bodies → ℕ → List Entry → ℕ → Bodies
with_body bodies at entries spare = fin.insert bodies at (body_of entries spare)
