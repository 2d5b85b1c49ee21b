use Rattle.cg_weakcoll.proofs.MapLaws.{references_keep}
use Rattle.cg_weakcoll.proofs.map_laws.weak_references_keep_their_referents.Goals as goal

pub returns : goal.returns
returns c = references_keep
