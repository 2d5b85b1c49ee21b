use Rattle.cg_weakcoll.proofs.MapLaws.{maps_answer}
use Rattle.cg_weakcoll.proofs.map_laws.weak_maps_answer.Goals as goal

pub returns : goal.returns
returns c = maps_answer
