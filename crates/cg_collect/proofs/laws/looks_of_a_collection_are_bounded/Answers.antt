use Rattle.cg_collect.proofs.BoundedLooks.{looks_bounded}
use Rattle.cg_collect.proofs.laws.looks_of_a_collection_are_bounded.Goals as goal

pub returns : goal.returns
returns c = looks_bounded
