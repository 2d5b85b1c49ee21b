use Rattle.cg_rows.proofs.Runs.{all_print}
use Rattle.cg_rows.proofs.worked_scripts_print.Goals as goal

pub returns : goal.returns
returns c = all_print
