-- What the calls for each question append. (Ours.)
use Rattle.std.specs.Prelude.{◌≡◌, ℕ, List, ◌++◌}
use Rattle.cg_snapshot.specs.declared.heap.Member.{Member}
use Rattle.cg_snapshot.specs.declared.question.Question.{Question}
use Rattle.cg_ask.specs.Answers.{Row, IsReason, IsTold, IsAnswer, Answers}

-- the answer to `why` was appended
pub record AppendsReason (ms : List Member) (without : List ℕ) (object : ℕ) (old new : List ℕ) : Type 0 where
  pub text : List ℕ
  pub reason : IsReason ms without object text
  pub appended : new ≡ old ++ text

-- rows, and what follows them, were appended
pub record AppendsTold (P : ℕ → List ℕ → Type 0) (word : List ℕ) (rest : List Row → List ℕ) (old new : List ℕ) : Type 0 where
  pub text : List ℕ
  pub told : IsTold P word rest text
  pub appended : new ≡ old ++ text

-- the lines of an answer were appended
pub record AppendsAnswer (ms : List Member) (question : Question) (old new : List ℕ) : Type 0 where
  pub text : List ℕ
  pub answer : IsAnswer ms question text
  pub appended : new ≡ old ++ text

-- the whole answer, with its question and `done`
pub record AppendsWhole (ms : List Member) (question : Question) (old new : List ℕ) : Type 0 where
  pub text : List ℕ
  pub answers : Answers ms question text
  pub appended : new ≡ old ++ text
