use Rattle.cg_snapshot.proofs.Read.{same_snapshot}
use Rattle.cg_snapshot.proofs.laws.one_reading.Goals as goal

pub returns : goal.returns
returns c = same_snapshot
