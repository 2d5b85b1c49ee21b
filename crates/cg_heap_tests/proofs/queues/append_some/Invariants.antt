use Rattle.cg_kind.specs.Bodies.{Holds}
use Rattle.cg_heap_tests.proofs.queues.append_some.Given as goal

abbrev pub invariant-appends : goal.invariant-appends
invariant-appends g l = Holds (g.K.Kind.bodies l.kind) l.at
