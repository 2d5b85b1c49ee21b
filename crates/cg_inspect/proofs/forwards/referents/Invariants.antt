use Rattle.std.proofs.Common.{◌≡◌, ◌+◌, take}
use Rattle.cg_graph.specs.Value.{references}
use Rattle.cg_graph.specs.Store.{entries_of}
use Rattle.cg_inspect.proofs.forwards.referents.Given as goal

abbrev pub invariant-entries : goal.invariant-entries
invariant-entries g l = (l.listed.items ≡ references (take l.i (entries_of l.heap l.object))) × (l.steps ≡ l.fn.steps + l.i)
