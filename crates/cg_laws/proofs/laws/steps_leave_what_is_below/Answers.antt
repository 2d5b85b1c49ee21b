use Rattle.cg_laws.proofs.LeftBelowRuns.{steps_leave}
use Rattle.cg_laws.proofs.laws.steps_leave_what_is_below.Goals as goal

pub returns : goal.returns
returns c = steps_leave
