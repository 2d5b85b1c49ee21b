use Rattle.cg_kind.specs.Calls.{AreItems}
use Rattle.cg_heap_tests.proofs.kinds.numbers.Given as goal

abbrev pub invariant-loop-number : goal.invariant-loop-number
invariant-loop-number l = AreItems l.entries.items
