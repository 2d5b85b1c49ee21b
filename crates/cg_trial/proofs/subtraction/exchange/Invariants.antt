use Rattle.cg_trial.specs.View.{view_of}
use Rattle.std.proofs.Common.{length}
use Rattle.cg_value.specs.declared.Place.TheVariants.{Cand}
use Rattle.cg_trial.proofs.Exchanges.{Exchanging}
use Rattle.cg_trial.proofs.subtraction.exchange.Given as goal

abbrev pub invariant-numbered : goal.invariant-numbered
invariant-numbered g l = Exchanging (view_of l.fn.heap) (view_of l.heap) l.cursor

abbrev pub decreases-numbered : goal.decreases-numbered
decreases-numbered g l = length ((view_of l.heap).listed Cand)
