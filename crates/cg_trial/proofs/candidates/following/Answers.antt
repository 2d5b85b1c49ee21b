use Rattle.cg_trial.proofs.PlacesOfObjects.{next_is}
use Rattle.cg_trial.proofs.candidates.following.Goals as goal

pub returns : goal.returns
returns g c = next_is c.args.heap.now c.sound.ensures.listed c.args.object _ c.next_near.ensures
