use Rattle.cg_kind.specs.Bodies.{Holds}
use Rattle.cg_heap_tests.proofs.kinds.drive.Given as goal

abbrev pub invariant-rows : goal.invariant-rows
invariant-rows g l = Holds (g.K.Kind.bodies l.kind) l.at × Holds (g.K.Kind.bodies l.kind) l.other
