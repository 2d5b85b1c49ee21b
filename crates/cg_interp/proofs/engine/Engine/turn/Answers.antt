use Rattle.std.proofs.Common.{sym, subst}
use Rattle.cg_interp.specs.Telling.{TurnsAnyBy}
use Rattle.cg_interp.proofs.engine.Engine.turn.Goals as goal

pub returns-in-Some-clause-turns : goal.returns-in-Some-clause-turns
returns-in-Some-clause-turns g c =
    subst (λ es. TurnsAnyBy c.args.script.now es c.args.self.now c.turn_of_collection.new.self c.turn_of_collection.result) (sym c.requires.empty) c.turn_of_collection.ensures.turns
