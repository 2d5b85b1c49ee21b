-- Rows of members that would go were appended and counted. (Ours.)
use Rattle.std.specs.Prelude.{◌≡◌, ℕ, Bool, List, [], ◌∷◌, ◌++◌, codes}
use Rattle.cg_search.specs.Places.{Marks}
use Rattle.cg_snapshot.specs.declared.heap.Member.{Member}
use Rattle.cg_ask.specs.Answers.{Row, Tells, rows_text, totals_of}
use Rattle.cg_ask.specs.Marked.{flags_of}
use Rattle.cg_ask.specs.declared.sets.Totals.{Totals}

abbrev pub totals_from : ℕ → ℕ → ℕ → ℕ → Totals
totals_from members bytes dead dead_bytes = record { members = members; bytes = bytes; dead = dead; dead_bytes = dead_bytes }

-- rows for these members, and their numbers
pub record AppendsGone (ms : List Member) (gone dead : List Bool) (old new : List ℕ) (t : Totals) : Type 0 where
  pub rows : List Row
  pub tells : Tells (λ m ns. Marks gone m × (ns ≡ flags_of dead m)) rows
  pub text : new ≡ old ++ rows_text (codes "gone") rows
  pub totals : t.members ∷ t.bytes ∷ t.dead ∷ t.dead_bytes ∷ [] ≡ totals_of ms rows
