-- The faults of a recorded heap. (Ours.)
use Rattle.std.specs.Prelude.{◌≡◌, ℕ, ◌+◌, ◌<◌, ◌≤◌, Bool, true, List, [], length, slice_index_or}
use Rattle.cg_graph.specs.Holdings.{occurrences}
use Rattle.cg_snapshot.specs.declared.heap.Member.{Member}
use Rattle.cg_snapshot.specs.Text.{AreMembers}
use Rattle.cg_ask.specs.Asked.{rows_of, words_of, references_of, all_words_of, degree_at}

-- all references and untold words of the member at a place name members
abbrev pub IsWellNamed : List Member → ℕ → Type 0
IsWellNamed ms at = AreMembers (length ms) (slice_index_or (rows_of ms) at []) × AreMembers (length ms) (slice_index_or (words_of ms) at [])

-- its in-degree is not below its occurrences among the references
abbrev pub IsCovered : List Member → ℕ → Type 0
IsCovered ms at = occurrences at (references_of ms) ≤ degree_at ms at

-- nor below its occurrences among references and untold words together
abbrev pub IsCoveredWithWords : List Member → ℕ → Type 0
IsCoveredWithWords ms at = occurrences at (references_of ms) + occurrences at (all_words_of ms) ≤ degree_at ms at

-- The member at a place has no fault. Untold words count only if they are asked about.
pub record IsRight (ms : List Member) (with_words : Bool) (at : ℕ) : Type 0 where
  pub names : IsWellNamed ms at
  pub covered : IsCovered ms at
  pub covered_with : with_words ≡ true → IsCoveredWithWords ms at

-- its least fault code
pub data HasFault (ms : List Member) (with_words : Bool) (at : ℕ) : ℕ → Type 0 where
  misnamed : ¬ IsWellNamed ms at → HasFault ms with_words at 2
  too_low : IsWellNamed ms at → ¬ IsCovered ms at → HasFault ms with_words at 3
  low_with_words : IsWellNamed ms at → IsCovered ms at → with_words ≡ true → ¬ IsCoveredWithWords ms at → HasFault ms with_words at 4

-- the first member with a fault, and its least code
pub record IsFirstFault (ms : List Member) (with_words : Bool) (code at : ℕ) : Type 0 where
  pub within : at < length ms
  pub before : (i : ℕ) → i < at → IsRight ms with_words i
  pub fault : HasFault ms with_words at code

-- no member has a fault
abbrev pub AreRight : List Member → Bool → Type 0
AreRight ms with_words = (i : ℕ) → i < length ms → IsRight ms with_words i
