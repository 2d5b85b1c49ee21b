use Rattle.cg_laws.proofs.CollectorNumbersOfRuns.{numbers_few}
use Rattle.cg_laws.proofs.laws.numbers_are_few.Goals as goal

pub returns : goal.returns
returns c = numbers_few
