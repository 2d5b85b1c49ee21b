-- The insertion order of a map's keys: each slot has an index of the map or is a gap. (Ours.)
use Rattle.std.specs.Prelude.{◌≡◌, ℕ, zero, suc, ◌+◌, ◌*◌, ◌<◌, ◌≤◌, ◌^◌, ◌==◌, List, Option, None, Some, All, length, map, take, slice_get, slice_index, slice_index_or, if◌then◌else◌}
use Rattle.std.specs.List.{flat_map, sum}
use Rattle.std.specs.Option.{option_to_list}

-- decodes a slot's word: 0 is a gap, any other number is an index plus one
abbrev pub index_in : ℕ → Option ℕ
index_in zero = None
index_in (suc index) = Some index

-- the indexes in the slots, in order
abbrev pub indexes : List (Option ℕ) → List ℕ
indexes slots = flat_map option_to_list slots

-- the number of pairs in the slots before a slot
abbrev pub pairs_before : List (Option ℕ) → ℕ → ℕ
pairs_before slots slot = length (indexes (take slot slots))

-- slots and homes agree on each index, and each index has a slot
pub record AreHomes (slots : List (Option ℕ)) (homes : List ℕ) : Type 0 where
  pub home : (index : ℕ) → index < length homes → slice_index_or slots (slice_index homes index) None ≡ Some index
  pub within : (slot index : ℕ) → slice_index_or slots slot None ≡ Some index → index < length homes
  pub at_home : (slot index : ℕ) → slice_index_or slots slot None ≡ Some index → slice_index homes index ≡ slot
  pub each : length (indexes slots) ≡ length homes

-- the slots of these homes with the gaps closed
pub record AreClosed (slots : List (Option ℕ)) (homes : List ℕ) : Type 0 where
  pub was : List (Option ℕ)
  pub homes_were : AreHomes was homes
  pub closed : slots ≡ map (λ index. Some index) (indexes was)

-- the sum of the numbers before a position
abbrev pub sum_before : List ℕ → ℕ → ℕ
sum_before numbers k = sum (take k numbers)

-- each sum is what the count gains over a part of 16
abbrev pub AreSums : (ℕ → ℕ) → List ℕ → Type 0
AreSums before sums = (part : ℕ) → part < length sums → before (16 * part + 16) ≡ before (16 * part) + slice_index sums part

-- the sums of the parts of numbers; there are fewer of them
pub record AreSumsOf (numbers sums : List ℕ) : Type 0 where
  pub each : AreSums (sum_before numbers) sums
  pub covered : length numbers ≤ 16 * length sums
  pub fewer : length sums < length numbers

-- above some numbers are the sums of their parts, or nothing
abbrev pub AreAbove : List ℕ → Option (List ℕ) → Type 0
AreAbove numbers None = Unit {0}
AreAbove numbers (Some sums) = AreSumsOf numbers sums

-- the number of pairs in each block of 16 slots
pub record AreCounts (slots : List (Option ℕ)) (counts : List ℕ) : Type 0 where
  pub each : AreSums (pairs_before slots) counts
  pub covered : length slots ≤ 16 * length counts
  pub small : length slots < 2 ^ 32

-- there is a block for each slot that fits
pub record HasBlocks (room : ℕ) (counts : List ℕ) : Type 0 where
  pub blocks : room ≤ 16 * length counts
  pub small : room < 2 ^ 32

-- a pair's index after the pair at an index is removed and the last has moved into its place
abbrev pub renamed : ℕ → ℕ → ℕ → ℕ
renamed last gone index = if index == last then gone else index

-- the one place of an index in an order
pub record HasPlace (order : List ℕ) (index : ℕ) : Type 0 where
  pub place : ℕ
  pub at : slice_get order place ≡ Some index
  pub only : (other : ℕ) → slice_get order other ≡ Some index → other ≡ place

-- the order contains exactly the indexes below the length, each once
pub record IsSound (order : List ℕ) : Type 0 where
  pub within : All (λ index. index < length order) order
  pub placed : (index : ℕ) → index < length order → HasPlace order index
