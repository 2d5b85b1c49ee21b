use Rattle.cg_script.proofs.ReadScripts.{read_known}
use Rattle.cg_weakcoll.proofs.ExitRuns.{exits_once}
use Rattle.cg_weakcoll.proofs.exit_laws.exits_begin_once.Goals as goal

pub returns : goal.returns
returns c = record { known = exits_once; read = λ script budget steps was. exits_once script budget steps (read_known script was) }
