use Rattle.cg_collect.proofs.Untracked.{NoneLooked}
use Rattle.cg_collect.proofs.untracking.has_tracked.Given as goal

abbrev pub invariant-entries : goal.invariant-entries
invariant-entries g l = NoneLooked l.heap l.object l.i l.fn.steps l.steps
