use Rattle.cg_kind.specs.Bodies.{Holds}
use Rattle.cg_heap_tests.proofs.tables.follow.Given as goal

abbrev pub invariant-keys : goal.invariant-keys
invariant-keys g l = Holds (g.K.Kind.bodies l.kind) l.at

abbrev pub invariant-steps : goal.invariant-steps
invariant-steps g l = Holds (g.K.Kind.bodies l.kind) l.at

abbrev pub invariant-times : goal.invariant-times
invariant-times g l = Holds (g.K.Kind.bodies l.kind) l.at
