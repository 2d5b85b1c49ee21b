use Rattle.cg_laws.proofs.Ending.{not_stuck}
use Rattle.cg_laws.proofs.laws.no_run_is_stuck.Goals as goal

-- src/lib.rt:72:1
pub returns : goal.returns
returns c = not_stuck
