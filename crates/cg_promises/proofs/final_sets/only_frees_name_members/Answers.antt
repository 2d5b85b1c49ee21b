use Rattle.cg_promises.proofs.FinalSetKept.{only_frees}
use Rattle.cg_promises.proofs.final_sets.only_frees_name_members.Goals as goal

pub returns : goal.returns
returns c = only_frees
