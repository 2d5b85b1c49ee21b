use Rattle.cg_script.proofs.ReadScripts.{read_known}
use Rattle.cg_promises.proofs.HoldersMoveRuns.{unheld_dying}
use Rattle.cg_promises.proofs.holdings.unheld_is_dying.Goals as goal

pub returns : goal.returns
returns c = record { known = unheld_dying; read = λ script budget steps was. unheld_dying script budget steps (read_known script was) }
