use Rattle.cg_script.proofs.ReadScripts.{read_known}
use Rattle.cg_promises.proofs.FinalSetFreed.{final_set_freed}
use Rattle.cg_promises.proofs.final_sets.final_sets_are_freed.Goals as goal

pub returns : goal.returns
returns c = record { known = final_set_freed; read = λ script budget before split during stop was. final_set_freed script budget before split during stop (read_known script was) }
