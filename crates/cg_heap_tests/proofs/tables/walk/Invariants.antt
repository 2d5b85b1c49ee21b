use Rattle.cg_kind.specs.Bodies.{Holds}
use Rattle.cg_heap_tests.proofs.tables.walk.Given as goal

abbrev pub invariant-steps : goal.invariant-steps
invariant-steps g l = Holds (g.K.Kind.bodies l.kind) l.at
