use Rattle.cg_weakcoll.proofs.MapLaws.{looks_answer_so}
use Rattle.cg_weakcoll.proofs.map_laws.looks_answer.Goals as goal

pub returns : goal.returns
returns c = looks_answer_so
