-- A death that ended leaves nothing on the stack.
use Rattle.std.proofs.Common.{◌≡◌, ℕ, []}
use Rattle.cg_graph.specs.Store.{Store}
use Rattle.cg_death.specs.declared.phase.Turn.{Turn}
use Rattle.cg_death.specs.Activities.{activities}
use Rattle.cg_death.specs.Deaths.{EndsSo}

pub none_left : (o : ℕ) (turn : Turn) (new : Store) → EndsSo turn → activities o turn.phase turn.release new ≡ []
none_left o turn new ends = λ i. activities o (ends.0 i) (ends.1 i) new
