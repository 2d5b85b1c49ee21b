-- What a collection requires of the policy's numbers. (Ours: a run makes far fewer objects.)
use Rattle.std.specs.Prelude.{◌<◌, ◌^◌}
use Rattle.cg_machine.specs.World.{Numbers}

-- Counts and total are below 2^62. The pending number grows by at most a whole generation with each collection.
pub record AreSmall (n : Numbers) : Type 0 where
  pub zero : n.zero_count < 2 ^ 62
  pub one : n.one_count < 2 ^ 62
  pub two : n.two_count < 2 ^ 62
  pub pending : n.pending < 2 ^ 126
  pub total : n.total < 2 ^ 62
