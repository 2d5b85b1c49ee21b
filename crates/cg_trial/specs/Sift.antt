-- What the search among the members of a place changes: those that look unreachable are set aside, and taken back where a
-- reference to them is found. (Developer guide, "Identifying reference cycles".)
use Rattle.std.specs.Prelude.{◌≡◌, ◌≢◌, ℕ, ◌+◌, ◌≤◌, ◌⊎◌, List, ◌++◌, ◌==◌, ◌<◌, ◌^◌, cond, length, take, drop, slice_index, sum_by, IsTrue}
use Rattle.cg_value.specs.declared.Place.{Place}
use Rattle.cg_value.specs.declared.Place.TheVariants.{Cand, Back}
use Rattle.cg_graph.specs.Member.{Includes}
use Rattle.cg_graph.specs.Value.{references}
use Rattle.cg_graph.specs.Holdings.{occurrences}
use Rattle.cg_trial.specs.declared.subtraction.Search.{Search}
use Rattle.cg_trial.specs.View.{View, IsSame}
use Rattle.cg_trial.specs.Paths.{Reached}
use Rattle.cg_trial.specs.Split.{IsSplitPlace, kept_place}

-- what looks unreachable in a generation is set aside in `Cand`, among the candidates in `Back`
abbrev pub aside_place : Place → Place
aside_place Cand = Back
aside_place place = Cand

-- a generation or the candidates, and where they are set aside
abbrev pub IsSearch : Search → Type 0
IsSearch s = IsSplitPlace s.members × (s.aside ≡ aside_place s.members)

-- the search among the candidates
abbrev pub candidate_search : Search
candidate_search = record { members = Cand; aside = Back }

-- the object is in a place that can be searched
abbrev pub CanBeNumbered : View → ℕ → Type 0
CanBeNumbered v o = (place : Place) × IsSplitPlace place × Includes (v.listed place) o

-- a member, set aside or not
abbrev pub IsMember : Search → View → ℕ → Type 0
IsMember s v o = Includes (v.listed s.members) o ⊎ Includes (v.listed s.aside) o

-- a sum over all of them
abbrev pub both : Search → (ℕ → ℕ) → View → ℕ
both s f v = sum_by f (v.listed s.members) + sum_by f (v.listed s.aside)

-- 1 for an object with number 0, else 0
abbrev pub is_zero : View → ℕ → ℕ
is_zero v o = cond (v.number o == 0) 1 0

-- how many objects of a place have number 0
abbrev pub zeros_at : Place → View → ℕ
zeros_at place v = sum_by (is_zero v) (v.listed place)

-- how many members, set aside or not, have number 0
abbrev pub zeros : Search → View → ℕ
zeros s v = both s (is_zero v) v

-- the members are fewer than 2^64
abbrev pub HasFewMembers : Place → View → Type 0
HasFewMembers members v = length (v.listed members) < 2 ^ 64

-- only those two lists change
abbrev pub AreOthersSame : Search → View → View → Type 0
AreOthersSame s old new = (q : Place) → q ≢ s.members → q ≢ s.aside → new.listed q ≡ old.listed q

-- The references among the members now have a number, and those that were set aside are last.
pub record Woken (s : Search) (refs : List ℕ) (old new : View) : Type 0 where
  pub same : IsSame old new
  pub others : AreOthersSame s old new
  pub sums : (f : ℕ → ℕ) → both s f new ≡ both s f old
  pub stays : (p : ℕ) → old.number p ≢ 0 → new.number p ≢ 0
  pub woken : (p : ℕ) → Includes refs p → IsMember s old p → new.number p ≢ 0
  pub only : (p : ℕ) → new.number p ≢ 0 → (old.number p ≢ 0) ⊎ Includes refs p
  pub asleep : ((q : ℕ) → Includes (old.listed s.aside) q → old.number q ≡ 0) → (q : ℕ) → Includes (new.listed s.aside) q → new.number q ≡ 0
  pub more : List ℕ
  pub longer : new.listed s.members ≡ old.listed s.members ++ more
  pub lighter : zeros s new + length more ≤ zeros s old

-- The first of some objects with number 0 is at this position.
pub record IsFirstZero (v : View) (objects : List ℕ) (at : ℕ) : Type 0 where
  pub within : at < length objects
  pub zero : v.number (slice_index objects at) ≡ 0
  pub before : (p : ℕ) → Includes (take at objects) p → v.number p ≢ 0

-- The last of some objects that has the number 0 stands here.
pub record IsLastZero (v : View) (objects : List ℕ) (at : ℕ) : Type 0 where
  pub within : at < length objects
  pub zero : v.number (slice_index objects at) ≡ 0
  pub behind : (p : ℕ) → Includes (drop (at + 1) objects) p → v.number p ≢ 0

-- A path of members from one that has a number.
pub data Walk (v : View) (members : List ℕ) : ℕ → Type 0 where
  starts : {o : ℕ} → v.number o ≢ 0 → Includes members o → Walk v members o
  goes : {o p : ℕ} → Walk v members o → Includes (references (v.entries o)) p → Includes members p → Walk v members p

-- What a walk reaches stays, with a number; the other members are set aside.
pub record IsParted (s : Search) (old new : View) : Type 0 where
  pub same : IsSame old new
  pub others : AreOthersSame s old new
  pub sums : (f : ℕ → ℕ) → both s f new ≡ sum_by f (old.listed s.members)
  pub numbered : (o : ℕ) → Includes (new.listed s.members) o → new.number o ≢ 0
  pub asleep : (o : ℕ) → Includes (new.listed s.aside) o → new.number o ≡ 0
  pub reached : (o : ℕ) → Includes (new.listed s.members) o → Walk old (old.listed s.members) o
  pub all_reached : (o : ℕ) → Walk old (old.listed s.members) o → Includes (new.listed s.members) o

-- A member is in no other list.
abbrev pub IsNowhereElse : Place → View → Type 0
IsNowhereElse members v = (q : Place) (o : ℕ) → q ≢ members → Includes (v.listed members) o → occurrences o (v.listed q) ≡ 0

-- Each candidate, set aside or not, lives, is only in its list, and its number says which list that is.
pub record IsTwofold (v : View) : Type 0 where
  pub alive : (o : ℕ) → IsMember candidate_search v o → IsTrue (v.live o)
  pub once : (o : ℕ) → occurrences o (v.listed Cand) + occurrences o (v.listed Back) ≤ 1
  pub alone : (q : Place) (o : ℕ) → q ≢ Cand → q ≢ Back → IsMember candidate_search v o → occurrences o (v.listed q) ≡ 0
  pub numbered : (o : ℕ) → Includes (v.listed Cand) o → v.number o ≢ 0
  pub asleep : (o : ℕ) → Includes (v.listed Back) o → v.number o ≡ 0

-- The candidates and those set aside exchange places.
pub record IsExchanged (old new : View) : Type 0 where
  pub same : IsSame old new
  pub others : AreOthersSame candidate_search old new
  pub candidates : new.listed Cand ≡ old.listed Back
  pub aside : new.listed Back ≡ old.listed Cand

-- What a walk reaches is kept; the other members are the candidates.
pub record IsSifted (members : Place) (old new : View) : Type 0 where
  pub same : IsSame old new
  pub others : (q : Place) → q ≢ Cand → q ≢ kept_place members → new.listed q ≡ old.listed q
  pub sums : (f : ℕ → ℕ) → sum_by f (new.listed Cand) + sum_by f (new.listed (kept_place members)) ≡ sum_by f (old.listed members)
  pub reached : (o : ℕ) → Includes (new.listed (kept_place members)) o → Walk old (old.listed members) o
  pub all_reached : (o : ℕ) → Walk old (old.listed members) o → Includes (new.listed (kept_place members)) o

-- The same, in terms of paths from outside.
pub record IsSieved (members : Place) (old new : View) : Type 0 where
  pub same : IsSame old new
  pub others : (q : Place) → q ≢ Cand → q ≢ kept_place members → new.listed q ≡ old.listed q
  pub sums : (f : ℕ → ℕ) → sum_by f (new.listed Cand) + sum_by f (new.listed (kept_place members)) ≡ sum_by f (old.listed members)
  pub reached : (o : ℕ) → Includes (new.listed (kept_place members)) o → Reached old (old.listed members) o
  pub all_reached : (o : ℕ) → Reached old (old.listed members) o → Includes (new.listed (kept_place members)) o
