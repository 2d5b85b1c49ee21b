use Rattle.cg_kind.specs.Bodies.{Holds}
use Rattle.cg_heap_tests.proofs.kinds.detach_each.Given as goal

abbrev pub invariant-detaches : goal.invariant-detaches
invariant-detaches g l = Holds (g.K.Kind.bodies l.kind) l.at
