use Rattle.std.proofs.Common.{◌∙◌, ap}
use Rattle.cg_machine.specs.Shutdown.{greatest_from}
use Rattle.cg_interp.specs.Engines.{State}
use Rattle.cg_interp.proofs.CollectMoves.{engine_of}
use Rattle.cg_interp.proofs.ShutdownTurns.{greatest_is}
use Rattle.cg_interp.proofs.engine.Engine.greatest_bound.Goals as goal

pub returns-clause-same : goal.returns-clause-same
returns-clause-same g c = ap (λ h. engine_of h c.self.inside.policy c.self.inside.stack c.self.inside.budget c.self.inside.first_budget) c.greatest_name.ensures.same ∙ c.self.view_is

pub returns-clause-greatest : goal.returns-clause-greatest
returns-clause-greatest g c = greatest_is c.self.inside.heap.names c.greatest_name.result c.greatest_name.ensures.greatest ∙ ap (λ (e : State). greatest_from 0 e.store.names) c.self.view_is
