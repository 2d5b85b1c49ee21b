use Rattle.cg_script.proofs.ReadScripts.{read_known}
use Rattle.cg_weakcoll.proofs.MissLaws.{misses_leave_none}
use Rattle.cg_weakcoll.proofs.map_laws.misses_leave_none.Goals as goal

pub returns : goal.returns
returns c = record { known = misses_leave_none; read = λ script budget before first early second was. misses_leave_none script budget before first early second (read_known script was) }
