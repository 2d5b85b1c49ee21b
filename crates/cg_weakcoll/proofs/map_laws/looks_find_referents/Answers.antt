use Rattle.cg_weakcoll.proofs.MapLaws.{looks_find}
use Rattle.cg_weakcoll.proofs.map_laws.looks_find_referents.Goals as goal

pub returns : goal.returns
returns c = looks_find
