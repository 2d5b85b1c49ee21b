use Rattle.cg_laws.proofs.LawsOfWorlds.{stay_lawful}
use Rattle.cg_laws.proofs.laws.runs_stay_lawful.Goals as goal

pub returns : goal.returns
returns c = stay_lawful
