use Rattle.cg_kinds.proofs.PairLemmas.{none_taken}
use Rattle.cg_kinds.proofs.pairs.PairsContents.take_key.Goals as goal

pub returns-clause-none : goal.returns-clause-none
returns-clause-none g c = none_taken c.args.key c.take_key.result _ _ c.take_key.ensures.entry c.take_key.ensures.rest
