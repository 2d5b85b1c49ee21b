use Rattle.cg_kind.specs.Bodies.{Holds}
use Rattle.cg_heap_tests.proofs.queues.take_and_append.Given as goal

abbrev pub invariant-turns : goal.invariant-turns
invariant-turns g l = Holds (g.K.Kind.bodies l.kind) l.at
