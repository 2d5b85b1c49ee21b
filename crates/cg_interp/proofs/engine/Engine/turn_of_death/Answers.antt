use Rattle.cg_interp.proofs.RoomStays.{still_fit}
use Rattle.cg_interp.proofs.DeathTurns.{dies_next, room_to_die, turns_of_death}
use Rattle.cg_interp.proofs.engine.Engine.turn_of_death.Goals as goal

pub go_on_dying-requires-clause-room : goal.go_on_dying-requires-clause-room
go_on_dying-requires-clause-room g c = room_to_die c.args.script.now c.args.self.now c.requires.dying c.requires.stands

pub go_on_dying-requires-clause-stands : goal.go_on_dying-requires-clause-stands
go_on_dying-requires-clause-stands g c = dies_next c.args.script.now c.args.self.now c.requires.dying c.requires.stands

pub returns-clause-turns : goal.returns-clause-turns
returns-clause-turns g c = turns_of_death c.args.script.now c.args.self.now c.requires.dying c.go_on_dying.new.self c.go_on_dying.result c.go_on_dying.ensures.turns

pub returns-clause-fit : goal.returns-clause-fit
returns-clause-fit g c = still_fit _ _ c.go_on_dying.ensures.keeps
