use Rattle.cg_promises.proofs.FullLaws.{reached_is_kept}
use Rattle.cg_promises.proofs.full_collections.reached_is_kept.Goals as goal

pub returns : goal.returns
returns c = reached_is_kept
