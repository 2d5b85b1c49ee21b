use Rattle.cg_trial.proofs.PlacesOfObjects.{takes_number}
use Rattle.cg_trial.proofs.EffectsOfCalls.{numbered}
use Rattle.cg_trial.proofs.candidates.set_number.Goals as goal

pub set_gc-requires-clause-place : goal.set_gc-requires-clause-place
set_gc-requires-clause-place g c = takes_number c.args.heap.now c.sound.ensures.listed c.args.object c.requires.place

pub returns : goal.returns
returns g c = numbered c.args.heap.now c.set_gc.new.self c.args.object c.args.number c.set_gc.ensures c.requires.live
