use Rattle.cg_ask.proofs.WouldGo.{CountsGone}
use Rattle.cg_ask.proofs.sets.put_gone.Given as goal

abbrev pub invariant-members : goal.invariant-members
invariant-members l = CountsGone l.members l.gone.gone.items l.gone.dead.items l.at l.fn.out.items l.out.items l.totals
