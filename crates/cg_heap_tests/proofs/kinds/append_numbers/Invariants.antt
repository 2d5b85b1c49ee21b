use Rattle.cg_kind.specs.Bodies.{Holds}
use Rattle.cg_heap_tests.proofs.kinds.append_numbers.Given as goal

abbrev pub invariant-appends : goal.invariant-appends
invariant-appends g l = Holds (g.K.Kind.bodies l.kind) l.at
