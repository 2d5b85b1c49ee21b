use Rattle.cg_kind.specs.Bodies.{Holds}
use Rattle.cg_heap_tests.proofs.drops.fill_and_drop.Given as goal

abbrev pub invariant-keys : goal.invariant-keys
invariant-keys g l = Holds (g.K.Kind.bodies l.kind) l.at

abbrev pub invariant-drops : goal.invariant-drops
invariant-drops g l = Holds (g.K.Kind.bodies l.kind) l.at
