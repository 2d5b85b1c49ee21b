-- The list of the objects of each place, in the order of arrival. (Developer guide, "optimization: generations": each
-- generation is a list.)
use Rattle.std.specs.Prelude.{nat_eq, ℕ, ◌+◌, not, List, [], ◌∷◌, ◌++◌, filter, slice_set, slice_index_or}
use Rattle.cg_value.specs.declared.Place.{Place}
use Rattle.cg_value.specs.declared.Place.TheVariants.{Untracked, Gen, Frozen, Cand, Seen, Back, Legacy, Pend}

-- The index of a place's list. The generations come last, so no two places share a number.
abbrev pub place_number : Place → ℕ
place_number Untracked = 0
place_number Frozen = 1
place_number Cand = 2
place_number Seen = 3
place_number Back = 4
place_number Legacy = 5
place_number Pend = 6
place_number (Gen i) = 7 + i

-- the list with a number
abbrev pub list_of : List (List ℕ) → ℕ → List ℕ
list_of lists p = slice_index_or lists p []

-- a list without a serial
abbrev pub without_serial : ℕ → List ℕ → List ℕ
without_serial s xs = filter (λ x. not (nat_eq s x)) xs

-- a serial leaves the list of its place
abbrev pub leaves_list : List (List ℕ) → ℕ → ℕ → List (List ℕ)
leaves_list lists s p = slice_set lists p (without_serial s (list_of lists p))

-- a serial goes to the end of the list of a place
abbrev pub joins_list : List (List ℕ) → ℕ → ℕ → List (List ℕ)
joins_list lists s p = slice_set lists p (list_of lists p ++ s ∷ [])

-- a serial moves from the list of one place to the end of another's, which may be the same
abbrev pub move_between : List (List ℕ) → ℕ → ℕ → ℕ → List (List ℕ)
move_between lists s p q = joins_list (leaves_list lists s p) s q

-- the list of one place is appended to another's and emptied
abbrev pub merge_lists : List (List ℕ) → ℕ → ℕ → List (List ℕ)
merge_lists lists p q = slice_set (slice_set lists q (list_of lists q ++ list_of lists p)) p []
