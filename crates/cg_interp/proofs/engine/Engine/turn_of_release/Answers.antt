use Rattle.std.proofs.Common.{arith, []}
use Rattle.cg_interp.proofs.LawsOfEngines.{has_room, stays_sound}
use Rattle.cg_interp.proofs.RoomStays.{still_fit}
use Rattle.cg_interp.proofs.AnswersOfTurns.{turns_plainly}
use Rattle.cg_interp.specs.declared.activity.Activity.TheVariants as activity_of
use Rattle.cg_interp.proofs.engine.Engine.turn_of_release.Goals as goal

pub go_on_releasing-requires-clause-room : goal.go_on_releasing-requires-clause-room
go_on_releasing-requires-clause-room g c =
    let (script, at) = c.requires.stands in
    omega (arith, has_room script (activity_of.Releasing c.args.release) c.args.self.now at.world at.stands (at.kept [] tt).lawful at.fit)

pub go_on_releasing-requires-clause-stands : goal.go_on_releasing-requires-clause-stands
go_on_releasing-requires-clause-stands g c = let (script, at) = c.requires.stands in (script, at.world, at.stands, stays_sound script _ at.world at.kept)

pub returns-clause-turns : goal.returns-clause-turns
returns-clause-turns g c = λ script w stands stays. turns_plainly script w _ _ (c.go_on_releasing.ensures.turns script w stands (stays_sound script _ w stays))

pub returns-clause-fit : goal.returns-clause-fit
returns-clause-fit g c = still_fit _ _ c.go_on_releasing.ensures.keeps
