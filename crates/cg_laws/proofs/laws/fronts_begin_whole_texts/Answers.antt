use Rattle.cg_laws.proofs.PrefixesOfRuns.{fronts}
use Rattle.cg_laws.proofs.laws.fronts_begin_whole_texts.Goals as goal

pub returns : goal.returns
returns c = fronts
