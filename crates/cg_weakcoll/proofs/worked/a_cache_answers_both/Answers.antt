use Rattle.cg_weakcoll.proofs.WorkedCache.{spelled, alive, gone}
use Rattle.cg_weakcoll.proofs.worked.a_cache_answers_both.Goals as goal

pub returns : goal.returns
returns c = record { spelled = spelled; alive = alive; gone = gone }
