-- What contracts see of a source over a reader, and of a sink over a writer. (Ours.)
use Rattle.std.specs.Prelude.{ℕ, List}
use Rattle.std.specs.declared.option.Option.{Option}

-- the bytes that the reader has left, if known, and the faults so far
pub record ReaderInUse : Type 0 where
  pub remaining : Option (List ℕ)
  pub faults : ℕ

-- what the writer holds, if known, and the faults so far
pub record WriterInUse : Type 0 where
  pub contents : Option (List ℕ)
  pub faults : ℕ
