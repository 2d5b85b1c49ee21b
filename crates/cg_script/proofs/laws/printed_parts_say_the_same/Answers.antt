use Rattle.cg_script.proofs.ReadBack.{said_again}
use Rattle.cg_script.proofs.laws.printed_parts_say_the_same.Goals as goal

pub returns : goal.returns
returns c = λ known number line form words m defined. said_again known number line form words m defined
