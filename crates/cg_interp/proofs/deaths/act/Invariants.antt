use Rattle.cg_death.specs.Answers.{MakesNone}
use Rattle.cg_interp.proofs.DeathActions.{CameTo, actions_left}
use Rattle.cg_interp.proofs.deaths.act.Given as goal

-- the death has come this far
abbrev pub invariant-actions : goal.invariant-actions
invariant-actions g l = record {
  came : CameTo l.script l.fn.heap l.fn.death l.heap l.death;
  objects : MakesNone l.fn.heap l.heap;
}

abbrev pub decreases-actions : goal.decreases-actions
decreases-actions g l = actions_left l.death l.heap
