use Rattle.cg_records.proofs.Read.{same_records}
use Rattle.cg_records.proofs.laws.one_reading.Goals as goal

pub returns : goal.returns
returns c = same_records
