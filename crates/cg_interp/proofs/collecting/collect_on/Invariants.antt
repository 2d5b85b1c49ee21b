use Rattle.std.proofs.Common.{false, [], ◌∷◌}
use Rattle.cg_interp.specs.declared.activity.Activity.TheVariants as activity_of
use Rattle.cg_interp.specs.Quietly.{CameSoFar}
use Rattle.cg_interp.proofs.MeasureOfTurns.{way_left}
use Rattle.cg_interp.proofs.collecting.collect_on.Given as goal

-- the collection has come this far
abbrev pub invariant-collecting : goal.invariant-collecting
invariant-collecting g l = CameSoFar l.script l.fn.collection l.fn.heap l.fn.policy l.collection l.heap l.policy

abbrev pub decreases-collecting : goal.decreases-collecting
decreases-collecting g l = way_left (activity_of.Collecting false l.collection ∷ []) l.heap
