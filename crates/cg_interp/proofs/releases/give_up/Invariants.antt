use Rattle.std.proofs.Common.{length}
use Rattle.cg_death.specs.Activities.{references_left}
use Rattle.cg_death.specs.Answers.{MakesNone}
use Rattle.cg_interp.proofs.GivingUp.{GaveUp}
use Rattle.cg_interp.proofs.releases.give_up.Given as goal

-- this much was given up
abbrev pub invariant-references : goal.invariant-references
invariant-references g l = record {
  gave : GaveUp l.fn.heap l.fn.release l.heap l.release;
  objects : MakesNone l.fn.heap l.heap;
}

abbrev pub decreases-references : goal.decreases-references
decreases-references g l = length (references_left l.release)
