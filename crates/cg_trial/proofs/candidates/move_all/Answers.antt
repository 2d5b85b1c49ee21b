use Rattle.cg_trial.proofs.PlacesOfObjects.{one_place}
use Rattle.cg_trial.proofs.EffectsOfCalls.{merged_view}
use Rattle.cg_trial.proofs.candidates.move_all.Goals as goal

pub merge-requires-clause-differ : goal.merge-requires-clause-differ
merge-requires-clause-differ g c = λ e. c.requires.differ (one_place c.args.from c.args.to e)

pub returns : goal.returns
returns g c = merged_view c.args.heap.now c.sound.ensures.listed c.args.from c.args.to c.requires.differ c.requires.from c.requires.to c.merge.new.self c.merge.ensures
