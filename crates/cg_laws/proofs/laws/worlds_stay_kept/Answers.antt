use Rattle.cg_laws.proofs.LawsOfRuns.{stay_kept}
use Rattle.cg_laws.proofs.laws.worlds_stay_kept.Goals as goal

pub returns : goal.returns
returns c = stay_kept
