use Rattle.cg_weakcoll.proofs.WorkedAlive.{alive_and_calls}
use Rattle.cg_weakcoll.proofs.exit_laws.a_finalizer_finds_its_object_alive.Goals as goal

pub returns : goal.returns
returns c = alive_and_calls
