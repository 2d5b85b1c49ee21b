use Rattle.cg_trial.proofs.EffectsOfCalls.{moved_view}
use Rattle.cg_trial.proofs.candidates.move_last.Goals as goal

pub returns : goal.returns
returns g c = moved_view c.args.heap.now c.sound.ensures.listed c.args.object c.requires.live c.args.place c.requires.place c.move_near.new.self c.move_near.ensures
