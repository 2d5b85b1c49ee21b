use Rattle.cg_kind.specs.Bodies.{Holds}
use Rattle.cg_heap_tests.proofs.queues.take_each.Given as goal

abbrev pub invariant-takes : goal.invariant-takes
invariant-takes g l = Holds (g.K.Kind.bodies l.kind) l.at
