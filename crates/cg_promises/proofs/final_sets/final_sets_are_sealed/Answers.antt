use Rattle.cg_promises.proofs.FinalSetKept.{sealing}
use Rattle.cg_promises.proofs.final_sets.final_sets_are_sealed.Goals as goal

pub returns : goal.returns
returns c = sealing
