use Rattle.std.proofs.Common.{◌∙◌, sym}
use Rattle.cg_interp.proofs.RoomForDeaths.{room_for_one_more, when_ok}
use Rattle.cg_interp.proofs.engine.Engine.reserve.Goals as goal

pub returns-clause-one_more : goal.returns-clause-one_more
returns-clause-one_more g c = λ is.
    room_for_one_more c.self.inside.heap c.self.inside.first_budget c.live.result _ c.live.ensures (when_ok c.reserve_up_to.result (sym c.is_ok.ensures.value ∙ is) c.reserve_up_to.ensures.room)
