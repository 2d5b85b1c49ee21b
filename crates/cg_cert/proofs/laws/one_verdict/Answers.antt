use Rattle.cg_cert.proofs.Verdicts.{same_verdict}
use Rattle.cg_cert.proofs.laws.one_verdict.Goals as goal

pub returns : goal.returns
returns c = same_verdict
