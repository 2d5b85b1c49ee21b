-- The rows of weak references: each one's referent, and which wait for their callback with their former referent.
-- (`weakref` manual: when the referent is about to be finalized, callbacks are called from the most recently
-- registered on.)
use Rattle.std.specs.Prelude.{ℕ, ◌<◌, not, ◌&&◌, ◌==◌, nat_lt, if◌then◌else◌, Bool, true, false, Option, List, [], ◌∷◌, map, filter, find, reverse, option_map, option_and_then}
use Rattle.std.specs.List.{All}

-- a weak reference with its referent, or waiting with its former one
pub record Row : Type 0 where
  pub weak : ℕ
  pub referent : ℕ
  pub waits : Bool

-- rows in ascending order of weak reference, each once
abbrev pub IsRising : List Row → Type 0
IsRising [] = Unit {0}
IsRising (r ∷ rows) = All (λ x. r.weak < x.weak) rows × IsRising rows

-- the referent of a weak reference whose row is not waiting
abbrev pub referent_in : List Row → ℕ → Option ℕ
referent_in rows weak = option_map (λ r. r.referent) (find (λ r. (r.weak == weak) && not r.waits) rows)

-- the referent with which a weak reference waits
abbrev pub waited_in : List Row → ℕ → Option ℕ
waited_in rows weak = option_map (λ r. r.referent) (find (λ r. (r.weak == weak) && r.waits) rows)

-- whether a row has this referent and is not waiting
abbrev pub refers_to : ℕ → Row → Bool
refers_to o r = (r.referent == o) && not r.waits

-- whether a row waits with this referent
abbrev pub waits_with : ℕ → Row → Bool
waits_with o r = (r.referent == o) && r.waits

-- the weak references of the rows that pass, newest first
abbrev pub newest_first : (Row → Bool) → List Row → List ℕ
newest_first test rows = reverse (map (λ r. r.weak) (filter test rows))

-- the weak references to an object, newest first
abbrev pub weak_references_in : List Row → ℕ → List ℕ
weak_references_in rows o = newest_first (refers_to o) rows

-- those that wait with it, newest first
abbrev pub waiting_in : List Row → ℕ → List ℕ
waiting_in rows o = newest_first (waits_with o) rows

-- the next older weak reference to the same object
abbrev pub next_older_in : List Row → ℕ → Option ℕ
next_older_in rows weak =
    option_and_then (λ o. find (λ v. nat_lt v weak) (weak_references_in rows o)) (referent_in rows weak)

-- a new weak reference with its referent
abbrev pub new_row : ℕ → ℕ → Row
new_row weak referent = record { weak = weak; referent = referent; waits = false }

abbrev pub waiting_row : Row → Row
waiting_row r = record r { waits = true }

-- the rows after a weak reference starts to wait
abbrev pub with_row_waiting : ℕ → List Row → List Row
with_row_waiting weak rows = map (λ r. if r.weak == weak then waiting_row r else r) rows

-- the rows without that of a weak reference
abbrev pub without_row : ℕ → List Row → List Row
without_row weak rows = filter (λ r. not (r.weak == weak)) rows
