-- How often each member occurs in lists of members. (Ours.)
use Rattle.std.specs.Prelude.{◌≡◌, ℕ, ◌<◌, List, length, slice_index}
use Rattle.cg_graph.specs.Holdings.{occurrences}
use Rattle.cg_snapshot.specs.declared.heap.Member.{Member}
use Rattle.cg_ask.specs.Asked.{references_of, all_words_of, outside_at}
use Rattle.cg_ask.specs.declared.counts.Counts.{Counts}

-- for each place below a number, how often it occurs in a list
pub record CountEach (count : ℕ) (targets counts : List ℕ) : Type 0 where
  pub len : length counts ≡ count
  pub each : (i : ℕ) → i < count → slice_index counts i ≡ occurrences i targets

pub record IsCounts (ms : List Member) (c : Counts) : Type 0 where
  pub told : CountEach (length ms) (references_of ms) c.told.items
  pub words : CountEach (length ms) (all_words_of ms) c.words.items

-- how often each member is held from outside
pub record AreOutside (ms : List Member) (outside : List ℕ) : Type 0 where
  pub len : length outside ≡ length ms
  pub each : (i : ℕ) → i < length ms → slice_index outside i ≡ outside_at ms i
