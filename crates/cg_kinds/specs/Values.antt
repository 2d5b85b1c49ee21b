-- The values of a list, in two columns of words. (Ours.)
use Rattle.std.specs.Prelude.{◌≡◌, ℕ, zero, suc, ◌+◌, ◌<◌, ◌≤◌, ◌^◌, List, length, map}
use Rattle.std.specs.Int.{cast_signed, w64}
use Rattle.std.specs.List.{zip, AllZip}
use Rattle.cg_value.specs.declared.Val.{Val}
use Rattle.cg_value.specs.declared.Val.TheVariants.{None as Nothing, Int, Str, Ref}

-- The first word is the sort of the value: 0 for none, 1 for an integer, 2 for a text and 3 for a reference. The
-- second is its number; a signed integer counts by its 64 bits.
abbrev pub value_in : ℕ → ℕ → Val
value_in zero number = Nothing
value_in (suc zero) number = Int (cast_signed w64 number)
value_in (suc (suc zero)) number = Str number
value_in (suc (suc (suc sort))) number = Ref number

-- the values in a column of sorts and one of numbers
abbrev pub values_in : List ℕ → List ℕ → List Val
values_in sorts numbers = map (λ words. value_in words.0 words.1) (zip sorts numbers)

-- the number of a text has 32 bits
abbrev pub AreWords : ℕ → ℕ → Type 0
AreWords sort number = sort ≡ 2 → number < 2 ^ 32

-- the words of a value, if each value has only one encoding
abbrev pub AreOnlyWords : ℕ → ℕ → Type 0
AreOnlyWords sort number = AreWords sort number × (sort < 4) × (sort ≡ 0 → number ≡ 0)

-- the columns have a sort and a number for each value; the first value is at this place, and both columns have this
-- room after and before the values
pub record AreColumns (sorts numbers : List ℕ) (first room sorts_capacity numbers_capacity : ℕ) : Type 0 where
  pub words : AllZip AreWords sorts numbers
  pub within : first ≤ length sorts
  pub room_for_sorts : length sorts + room ≤ sorts_capacity + first
  pub room_for_numbers : length numbers + room ≤ numbers_capacity + first

-- the values of a list, and how many more fit without allocating
pub record Kept : Type 0 where
  pub items : List Val
  pub room : ℕ
