use Rattle.std.proofs.Common.{◌≡◌, ◌+◌, take, false}
use Rattle.cg_graph.specs.Member.{includes}
use Rattle.cg_graph.specs.Value.{references}
use Rattle.cg_graph.specs.Store.{entries_of}
use Rattle.cg_inspect.proofs.backwards.has_reference.Given as goal

abbrev pub invariant-entries : goal.invariant-entries
invariant-entries g l = (includes (references (take l.i (entries_of l.heap l.holder))) l.object ≡ false) × (l.steps ≡ l.fn.steps + l.i)
