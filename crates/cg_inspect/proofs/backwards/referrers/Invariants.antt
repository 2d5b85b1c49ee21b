use Rattle.std.proofs.Common.{◌≡◌, ◌+◌, ◌≤◌, take, filter, sum_by}
use Rattle.cg_graph.specs.Member.{includes}
use Rattle.cg_graph.specs.Value.{references}
use Rattle.cg_graph.specs.Store.{entries_of}
use Rattle.cg_inspect.proofs.Looks.{entry_count}
use Rattle.cg_inspect.proofs.backwards.referrers.Given as goal

abbrev pub invariant-objects : goal.invariant-objects
invariant-objects g l =
    (l.listed.items ≡ filter (λ s. includes (references (entries_of l.heap s)) l.object) (take l.holder-index l.holder-items))
    × (l.steps ≤ l.fn.steps + sum_by (entry_count l.heap) (take l.holder-index l.holder-items))
