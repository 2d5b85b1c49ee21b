use Rattle.cg_kind.specs.Bodies.{Holds}
use Rattle.cg_heap_tests.proofs.queues.change_ninety.Given as goal

abbrev pub invariant-rows : goal.invariant-rows
invariant-rows g l = Holds (g.K.Kind.bodies l.kind) l.at
