use Rattle.cg_interp.proofs.GraphText.{given_err}
use Rattle.cg_interp.proofs.LineByLine.{longer_front}
use Rattle.cg_interp.proofs.writing.write_event.Goals as goal

pub returns-in_err-make_room-clause-err : goal.returns-in_err-make_room-clause-err
returns-in_err-make_room-clause-err g c = given_err _ _ (longer_front _ _ _ _ c.in_err-make_room.ensures.err)
