use Rattle.std.proofs.lemmas.List.{map-set}
use Rattle.cg_heap.proofs.names.replace.Goals as goal

pub returns-clause-set : goal.returns-clause-set
returns-clause-set c = map-set (λ b. b.val) c.args.names.now.items c.args.name c.args.bound
