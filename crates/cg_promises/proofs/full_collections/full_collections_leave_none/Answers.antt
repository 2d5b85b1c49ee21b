use Rattle.cg_script.proofs.ReadScripts.{read_known}
use Rattle.cg_promises.proofs.FullLeavesNone.{full_leaves_none}
use Rattle.cg_promises.proofs.full_collections.full_collections_leave_none.Goals as goal

pub returns : goal.returns
returns c = record { known = full_leaves_none; read = λ script budget before during stop was. full_leaves_none script budget before during stop (read_known script was) }
