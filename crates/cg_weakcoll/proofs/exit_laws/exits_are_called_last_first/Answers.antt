use Rattle.cg_script.proofs.ReadScripts.{read_known}
use Rattle.cg_weakcoll.proofs.CommandOrder.{last_first}
use Rattle.cg_weakcoll.proofs.exit_laws.exits_are_called_last_first.Goals as goal

pub returns : goal.returns
returns c = record { known = last_first; read = λ script budget steps was. last_first script budget steps (read_known script was) }
