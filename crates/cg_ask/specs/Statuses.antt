-- When each status comes, and what is written. (Ours.)
use Rattle.std.specs.Prelude.{◌≡◌, ◌<◌, ◌≤◌, ◌⊎◌, ℕ, Bool, true, false, List, [], ◌∷◌, ◌++◌, length, codes, Option}
use Rattle.std.specs.List.{list_any}
use Rattle.std.specs.Io.KnownBytes.{Appends, Consumes}
use Rattle.cg_io.specs.Causes.{AppendsFront, Rose}
use Rattle.cg_snapshot.specs.declared.heap.Member.{Member}
use Rattle.cg_snapshot.specs.declared.question.Question.{Question}
use Rattle.cg_snapshot.specs.declared.question.Question.TheVariants.{Why, Referrers, Hidden, Lost, Dropped, Untold}
use Rattle.cg_snapshot.specs.declared.reading.Snapshot.{Snapshot}
use Rattle.cg_snapshot.specs.Text.{Spells, IsBadLine}
use Rattle.cg_ask.specs.Answers.{line, AnswersAll}
use Rattle.cg_ask.specs.Faults.{IsFirstFault, AreRight}
use Rattle.cg_ask.specs.declared.status.AskStatus.{AskStatus}
use Rattle.cg_ask.specs.declared.status.AskStatus.TheVariants.{Answered, Faulty, TooLarge, ReadFault, WriteFault, OutOfMemory}
use Rattle.cg_ask.specs.declared.run.TheConstants.{LIMIT}

-- whether a question is about untold words
abbrev pub is_untold : Question → Bool
is_untold (Why n but) = false
is_untold (Referrers n) = false
is_untold Hidden = false
is_untold Lost = false
is_untold (Dropped ns) = false
is_untold Untold = true

-- whether one of the questions is
abbrev pub asks_untold : List Question → Bool
asks_untold qs = list_any is_untold qs

-- what is written for a snapshot, and the status
pub data OfSnapshot (s : Snapshot) : AskStatus → List ℕ → Type 0 where
  fault : (code at : ℕ) → IsFirstFault s.members (asks_untold s.questions) code at → OfSnapshot s Faulty (line (codes "fault") (code ∷ at ∷ []))
  answers : AreRight s.members (asks_untold s.questions) → (text : List ℕ) → AnswersAll s.members s.questions text → OfSnapshot s Answered text

-- what is written for some bytes, and the status
pub data IsOutcome (bytes : List ℕ) : AskStatus → List ℕ → Type 0 where
  bad_line : (number : ℕ) → length bytes < LIMIT → IsBadLine bytes number → IsOutcome bytes Faulty (line (codes "bad line") (number ∷ []))
  of_snapshot : (s : Snapshot) → length bytes < LIMIT → Spells bytes s → (status : AskStatus) (text : List ℕ) → OfSnapshot s status text → IsOutcome bytes status text
  large : LIMIT ≤ length bytes → IsOutcome bytes TooLarge (codes "too large\n")

-- Its text was written, and this is the status.
pub record WritesOutcome (bytes : List ℕ) (status : AskStatus) (before now : Option (List ℕ)) : Type 0 where
  pub text : List ℕ
  pub outcome : IsOutcome bytes status text
  pub wrote : Appends before now text

-- The text of a snapshot was written.
pub record WritesSnapshot (s : Snapshot) (status : AskStatus) (before now : Option (List ℕ)) : Type 0 where
  pub text : List ℕ
  pub outcome : OfSnapshot s status text
  pub wrote : Appends before now text

-- The text whose prefix is written if the sink fails or memory runs out: nothing, the whole text, or the answers to
-- the first questions.
pub data IsBegunOf (s : Snapshot) : List ℕ → Type 0 where
  nothing : IsBegunOf s []
  whole : (status : AskStatus) (text : List ℕ) → OfSnapshot s status text → IsBegunOf s text
  some : AreRight s.members (asks_untold s.questions) → (first rest : List Question) → s.questions ≡ first ++ rest → (text : List ℕ) → AnswersAll s.members first text → IsBegunOf s text

pub data IsBegun (bytes : List ℕ) : List ℕ → Type 0 where
  nothing_yet : IsBegun bytes []
  whole_bytes : (status : AskStatus) (text : List ℕ) → IsOutcome bytes status text → IsBegun bytes text
  begun_snapshot : (s : Snapshot) → length bytes < LIMIT → Spells bytes s → (text : List ℕ) → IsBegunOf s text → IsBegun bytes text

-- A prefix of that text was written, possibly empty.
pub record WritesFront (bytes : List ℕ) (before now : Option (List ℕ)) : Type 0 where
  pub text : List ℕ
  pub begun : IsBegun bytes text
  pub wrote : AppendsFront before now text

pub record WritesFrontOf (s : Snapshot) (before now : Option (List ℕ)) : Type 0 where
  pub text : List ℕ
  pub begun : IsBegunOf s text
  pub wrote : AppendsFront before now text

-- The answers to these questions were written, or those to the first of them and a prefix of the next.
pub record AnswersSo (ms : List Member) (qs : List Question) (status : AskStatus) (before now : Option (List ℕ)) (faults later : ℕ) : Type 0 where
  pub answered : status ≡ Answered → (text : List ℕ) × AnswersAll ms qs text × Appends before now text
  pub cut : (status ≡ WriteFault) ⊎ (status ≡ OutOfMemory) → (first : List Question) × (rest : List Question) × (text : List ℕ) × (qs ≡ first ++ rest)
      × AnswersAll ms first text × AppendsFront before now text
  pub cause : status ≡ WriteFault → Rose faults later
  pub only : (status ≡ Answered) ⊎ (status ≡ WriteFault) ⊎ (status ≡ OutOfMemory)

-- some text of these bytes has this status
pub record HasOutcome (bytes : List ℕ) (status : AskStatus) : Type 0 where
  pub text : List ℕ
  pub outcome : IsOutcome bytes status text

-- Exactly as many bytes were read as show that there are too many.
pub record TookTooMany (left after : Option (List ℕ)) : Type 0 where
  pub bytes : List ℕ
  pub number : length bytes ≡ LIMIT
  pub taken : Consumes left after bytes

-- a fault of the source or of the sink, or out of memory
abbrev pub IsCutShort : AskStatus → Type 0
IsCutShort status = (status ≡ ReadFault) ⊎ (status ≡ WriteFault) ⊎ (status ≡ OutOfMemory)
