-- The answers, as text. (Ours.)
use Rattle.std.specs.Prelude.{◌≡◌, ℕ, ◌-◌, ◌<◌, ◌==◌, List, [], ◌∷◌, ◌++◌, map, flat_map, filter, length, sum_by, slice_index, codes, ◌↔◌}
use Rattle.cg_graph.specs.Member.{Includes}
use Rattle.cg_graph.specs.Holdings.{occurrences}
use Rattle.cg_snapshot.specs.declared.heap.Member.{Member}
use Rattle.cg_snapshot.specs.declared.question.Question.{Question}
use Rattle.cg_snapshot.specs.declared.question.Question.TheVariants.{Why, Referrers, Hidden, Lost, Dropped, Untold}
use Rattle.cg_snapshot.specs.Rows.{all_spaced}
use Rattle.cg_snapshot.specs.Text.{question_text}
use Rattle.cg_ask.specs.Dying.{Dies}
use Rattle.cg_ask.specs.Asked.{outside_at, times_at, all_words_of, IsShortest, HasNone, IsLost, IsStuck, IsGone, IsKeptByWords}

-- a line of a word and numbers
abbrev pub line : List ℕ → List ℕ → List ℕ
line word ns = word ++ all_spaced ns ++ 10 ∷ []

-- a row of an answer: a member, and the numbers printed for it
abbrev pub Row : Type 0
Row = ℕ × List ℕ

abbrev pub row_line : List ℕ → Row → List ℕ
row_line word r = line word (r.0 ∷ r.1)

abbrev pub rows_text : List ℕ → List Row → List ℕ
rows_text word rows = flat_map (row_line word) rows

-- the members are in ascending order
abbrev pub Rise : List Row → Type 0
Rise [] = Unit {0}
Rise (r ∷ rows) = ((s : Row) → Includes rows s → r.0 < s.0) × Rise rows

-- Rows list exactly what is to be printed: the right members and numbers, with the members in ascending order, each
-- once.
pub record Tells (P : ℕ → List ℕ → Type 0) (rows : List Row) : Type 0 where
  pub rise : Rise rows
  pub just : (m : ℕ) (ns : List ℕ) → Includes rows (m, ns) ↔ P m ns

-- 1 if a fact holds, else 0
pub data IsFlag (P : Type 0) : List ℕ → Type 0 where
  yes : P → IsFlag P (1 ∷ [])
  no : ¬ P → IsFlag P (0 ∷ [])

-- a member that refers to the object, and how often
pub record TellsReferrer (ms : List Member) (object m : ℕ) (ns : List ℕ) : Type 0 where
  pub some : 0 < times_at ms m object
  pub numbers : ns ≡ times_at ms m object ∷ []

-- a member with outside holds, their number, and how many remain after subtracting its occurrences among untold words
pub record TellsHidden (ms : List Member) (m : ℕ) (ns : List ℕ) : Type 0 where
  pub some : 0 < outside_at ms m
  pub numbers : ns ≡ outside_at ms m ∷ (outside_at ms m - occurrences m (all_words_of ms)) ∷ []

-- a lost member, and whether it is stuck
pub record TellsLost (ms : List Member) (m : ℕ) (ns : List ℕ) : Type 0 where
  pub lost : IsLost ms m
  pub stuck : IsFlag (IsStuck ms m) ns

-- a member that would go, and whether it dies by count
pub record TellsGone (ms : List Member) (dropped : List ℕ) (m : ℕ) (ns : List ℕ) : Type 0 where
  pub gone : IsGone ms dropped m
  pub by_count : IsFlag (Dies ms (Includes dropped) m) ns

-- a member kept by untold words
pub record TellsKept (ms : List Member) (m : ℕ) (ns : List ℕ) : Type 0 where
  pub kept : IsKeptByWords ms m
  pub numbers : ns ≡ []

-- the rows with the number 1
abbrev pub flagged : List Row → List Row
flagged rows = filter (λ r. slice_index r.1 0 == 1) rows

-- the total size of the members of rows
abbrev pub bytes_of : List Member → List Row → ℕ
bytes_of ms rows = sum_by (λ r. slice_index (map (λ m. m.size) ms) r.0) rows

-- the number of rows and their bytes, and the same of those with the number 1
abbrev pub totals_of : List Member → List Row → List ℕ
totals_of ms rows = length rows ∷ bytes_of ms rows ∷ length (flagged rows) ∷ bytes_of ms (flagged rows) ∷ []

-- a path: the first with its outside holds, then each next one
abbrev pub way_text : List Member → List ℕ → List ℕ
way_text ms [] = []
way_text ms (first ∷ path) = line (codes "held") (first ∷ outside_at ms first ∷ []) ++ flat_map (λ o. line (codes "via") (o ∷ [])) path

-- the answer to `why`
pub data IsReason (ms : List Member) (without : List ℕ) (object : ℕ) (text : List ℕ) : Type 0 where
  by_path : (path : List ℕ) → IsShortest ms without path object → text ≡ way_text ms path → IsReason ms without object text
  by_none : HasNone ms without object → text ≡ line (codes "none") [] → IsReason ms without object text

-- rows that list exactly what is to be printed, and what follows them
abbrev pub IsTold : (ℕ → List ℕ → Type 0) → List ℕ → (List Row → List ℕ) → List ℕ → Type 0
IsTold P word rest text = (rows : List Row) × Tells P rows × (text ≡ rows_text word rows ++ rest rows)

abbrev pub nothing_more : List Row → List ℕ
nothing_more rows = []

-- the lines of an answer between the question and `done`
abbrev pub IsAnswer : List Member → Question → List ℕ → Type 0
IsAnswer ms (Why n without) text = IsReason ms without n text
IsAnswer ms (Referrers n) text = IsTold (TellsReferrer ms n) (codes "referrer") (λ rows. line (codes "outside") (outside_at ms n ∷ [])) text
IsAnswer ms Hidden text = IsTold (TellsHidden ms) (codes "hidden") nothing_more text
IsAnswer ms Lost text = IsTold (TellsLost ms) (codes "lost") nothing_more text
IsAnswer ms (Dropped ns) text = IsTold (TellsGone ms ns) (codes "gone") (λ rows. line (codes "total") (totals_of ms rows)) text
IsAnswer ms Untold text = IsTold (TellsKept ms) (codes "kept") nothing_more text

-- an answer with its question as asked, and its end
pub record Answers (ms : List Member) (question : Question) (text : List ℕ) : Type 0 where
  pub lines : List ℕ
  pub is_answer : IsAnswer ms question lines
  pub whole : text ≡ question_text question ++ lines ++ codes "done\n"

-- the answers to questions, in order
abbrev pub AnswersAll : List Member → List Question → List ℕ → Type 0
AnswersAll ms [] text = text ≡ []
AnswersAll ms (q ∷ qs) text = (first : List ℕ) × (rest : List ℕ) × Answers ms q first × AnswersAll ms qs rest × (text ≡ first ++ rest)
