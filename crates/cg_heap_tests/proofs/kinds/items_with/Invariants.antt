use Rattle.cg_kind.specs.Calls.{AreItems}
use Rattle.cg_heap_tests.proofs.kinds.items_with.Given as goal

abbrev pub invariant-loop-value : goal.invariant-loop-value
invariant-loop-value l = AreItems l.entries.items
