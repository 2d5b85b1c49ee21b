use Rattle.std.proofs.Common.{subst}
use Rattle.cg_heap.specs.Calls.{IsSound}
use Rattle.cg_interp.proofs.RoomStays.{still_fit}
use Rattle.cg_interp.proofs.TopSteps.{collects_next, turns_of_collection}
use Rattle.cg_interp.proofs.engine.Engine.turn_of_collection.Goals as goal

pub go_on_collecting-requires : goal.go_on_collecting-requires
go_on_collecting-requires g c =
    let sound = subst (λ e. IsSound e.store) c.self.view_is c.sound.ensures in
    record { stands = collects_next c.args.script.now c.args.asked c.args.self.now sound c.requires.asked c.requires.stands }

pub returns-clause-turns : goal.returns-clause-turns
returns-clause-turns g c =
    let sound = subst (λ e. IsSound e.store) c.self.view_is c.sound.ensures in
    turns_of_collection c.args.script.now c.args.asked c.args.self.now sound c.go_on_collecting.new.self c.go_on_collecting.result c.requires.asked c.go_on_collecting.ensures.turns

pub returns-clause-fit : goal.returns-clause-fit
returns-clause-fit g c = still_fit c.args.self.now c.go_on_collecting.new.self c.go_on_collecting.ensures.keeps
