use Rattle.cg_heap.specs.Names.{values_of}
use Rattle.cg_heap.proofs.NameLemmas.{Lowers}
use Rattle.cg_heap.proofs.names.Names.greatest.Given as goal

abbrev pub invariant-down : goal.invariant-down
invariant-down l = Lowers (values_of l.initial.self-inside.names.items) (values_of l.self-inside.names.items) l.self-inside.upper

abbrev pub decreases-down : goal.decreases-down
decreases-down l = l.self-inside.upper
