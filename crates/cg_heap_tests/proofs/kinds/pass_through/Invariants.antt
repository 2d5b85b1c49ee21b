use Rattle.cg_kind.specs.Bodies.{Holds}
use Rattle.cg_heap_tests.proofs.kinds.pass_through.Given as goal

abbrev pub invariant-appends : goal.invariant-appends
invariant-appends g l = Holds (g.K.Kind.bodies l.kind) l.made × Holds (g.K.Kind.bodies l.kind) l.at

abbrev pub invariant-takes : goal.invariant-takes
invariant-takes g l = Holds (g.K.Kind.bodies l.kind) l.at
