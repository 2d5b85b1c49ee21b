use Rattle.cg_script.proofs.ReadScripts.{read_known}
use Rattle.cg_weakcoll.proofs.ExitCalls.{begins_alive}
use Rattle.cg_weakcoll.proofs.exit_laws.exits_begin_alive.Goals as goal

pub returns : goal.returns
returns c = record { known = begins_alive; read = λ script budget before during was. begins_alive script budget before during (read_known script was) }
