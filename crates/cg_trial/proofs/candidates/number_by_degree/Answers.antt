use Rattle.cg_trial.proofs.PlacesOfObjects.{takes_number}
use Rattle.cg_trial.proofs.EffectsOfCalls.{numbered}
use Rattle.cg_trial.proofs.candidates.number_by_degree.Goals as goal

pub set_gc_to_refs-requires-clause-place : goal.set_gc_to_refs-requires-clause-place
set_gc_to_refs-requires-clause-place g c = takes_number c.args.heap.now c.sound.ensures.listed c.args.object c.requires.place

pub returns : goal.returns
returns g c = numbered c.args.heap.now c.set_gc_to_refs.new.self c.args.object _ c.set_gc_to_refs.ensures c.requires.live
