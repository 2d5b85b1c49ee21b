-- The text of a recorded heap and of the questions about it. (Ours.)
use Rattle.std.specs.Prelude.{◌≡◌, ℕ, ◌+◌, ◌^◌, ◌<◌, Bool, true, false, List, [], ◌∷◌, ◌++◌, length, flat_map, codes}
use Rattle.std.specs.List.{AllByRecursion}
use Rattle.cg_graph.specs.Member.{Includes}
use Rattle.cg_snapshot.specs.declared.heap.Member.{Member}
use Rattle.cg_snapshot.specs.declared.question.Question.{Question}
use Rattle.cg_snapshot.specs.declared.question.Question.TheVariants.{Why, Referrers, Hidden, Lost, Dropped, Untold}
use Rattle.cg_snapshot.specs.declared.reading.Snapshot.{Snapshot}
use Rattle.cg_snapshot.specs.declared.reading.Reading.{Reading}
use Rattle.cg_snapshot.specs.declared.reading.Reading.TheVariants as readings
use Rattle.cg_snapshot.specs.Rows.{spaced, all_spaced, but_text, AreSmall}

-- 1 for true, 0 for false
abbrev pub flag : Bool → ℕ
flag true = 1
flag false = 0

-- in-degree, bytes, whether it is tracked, whether its class has a legacy finalizer, and its references
abbrev pub member_numbers : Member → List ℕ
member_numbers m = m.degree ∷ m.size ∷ flag m.tracked ∷ flag m.legacy ∷ m.refs

-- the line of untold words, if there are any
abbrev pub untold_text : List ℕ → List ℕ
untold_text [] = []
untold_text (n ∷ ns) = codes "u" ++ all_spaced (n ∷ ns) ++ 10 ∷ []

abbrev pub member_text : Member → List ℕ
member_text m = codes "m" ++ all_spaced (member_numbers m) ++ 10 ∷ [] ++ untold_text m.untold

-- a question as a line
abbrev pub question_text : Question → List ℕ
question_text (Why n but) = codes "why" ++ spaced n ++ but_text but ++ 10 ∷ []
question_text (Referrers n) = codes "referrers" ++ spaced n ++ 10 ∷ []
question_text Hidden = codes "hidden\n"
question_text Lost = codes "lost\n"
question_text (Dropped ns) = codes "drop" ++ all_spaced ns ++ 10 ∷ []
question_text Untold = codes "untold\n"

-- the members of the heap, and the questions
abbrev pub text : Snapshot → List ℕ
text s = codes "heap\n" ++ flat_map member_text s.members ++ codes "end\n" ++ flat_map question_text s.questions

-- The numbers of a member are in range.
pub record IsSmallMember (m : Member) : Type 0 where
  pub degree : m.degree < 2 ^ 64
  pub size : m.size < 2 ^ 36
  pub refs : AreSmall m.refs
  pub untold : AreSmall m.untold

-- numbers of members, given how many there are
abbrev pub AreMembers : ℕ → List ℕ → Type 0
AreMembers count ns = AllByRecursion (λ n. n < count) ns

-- A question is about members, given how many there are; a path to a member does not exclude that member.
abbrev pub IsAsked : ℕ → Question → Type 0
IsAsked count (Why n but) = (n < count) × AreMembers count but × ¬ Includes but n
IsAsked count (Referrers n) = n < count
IsAsked count Hidden = Unit {0}
IsAsked count Lost = Unit {0}
IsAsked count (Dropped ns) = (0 < length ns) × AreMembers count ns
IsAsked count Untold = Unit {0}

-- A snapshot can be written if its numbers are in range and its questions are about its members.
pub record IsWritable (s : Snapshot) : Type 0 where
  pub members : AllByRecursion IsSmallMember s.members
  pub few : length s.members < 2 ^ 64
  pub questions : AllByRecursion (IsAsked (length s.members)) s.questions

-- The bytes are the text of a snapshot.
pub record Spells (bytes : List ℕ) (s : Snapshot) : Type 0 where
  pub writable : IsWritable s
  pub text : bytes ≡ text s

-- a text begins with these bytes
abbrev pub Begins : List ℕ → Type 0
Begins bytes = (s : Snapshot) × (more : List ℕ) × Spells (bytes ++ more) s

-- these contain no line feed
abbrev pub HasNoFeed : List ℕ → Type 0
HasNoFeed line = AllByRecursion (λ b. ¬ (b ≡ 10)) line

-- lines, each with its line feed
abbrev pub ended : List (List ℕ) → List ℕ
ended lines = flat_map (λ l. l ++ 10 ∷ []) lines

-- No text continues with what comes next: the next line, or the end of the bytes if no line feed follows.
pub data Leaves (before rest : List ℕ) : Type 0 where
  by_line : (line after : List ℕ) → rest ≡ line ++ 10 ∷ after → HasNoFeed line → ¬ Begins (before ++ (line ++ 10 ∷ [])) → Leaves before rest
  at_end : HasNoFeed rest → ((s : Snapshot) → ¬ Spells (before ++ rest) s) → Leaves before rest

-- The first line at which the bytes deviate from every text, by its number from 1: the lines before it begin some
-- text.
pub record IsBadLine (bytes : List ℕ) (number : ℕ) : Type 0 where
  pub before : List (List ℕ)
  pub rest : List ℕ
  pub whole : bytes ≡ ended before ++ rest
  pub lines : AllByRecursion HasNoFeed before
  pub number_is : number ≡ length before + 1
  pub begins : Begins (ended before)
  pub leaves : Leaves (ended before) rest

-- the result of reading the bytes
abbrev pub Reads : List ℕ → Reading → Type 0
Reads bytes (readings.Read s) = Spells bytes s
Reads bytes (readings.BadLine number) = IsBadLine bytes number
