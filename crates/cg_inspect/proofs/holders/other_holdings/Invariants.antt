use Rattle.std.proofs.Common.{take, ◌-◌, ◌+◌, ◌≤◌, sum_by}
use Rattle.std.specs.Prelude.{flat_map}
use Rattle.cg_graph.specs.Value.{references}
use Rattle.cg_graph.specs.Holdings.{occurrences}
use Rattle.cg_graph.specs.Store.{count_of, entries_of}
use Rattle.cg_inspect.specs.Numbers.{AreNumbers}
use Rattle.cg_inspect.proofs.Looks.{entry_count}
use Rattle.cg_inspect.proofs.holders.other_holdings.Given as goal

abbrev pub invariant-objects : goal.invariant-objects
invariant-objects g l =
    (AreNumbers (λ o. count_of l.heap o - occurrences o (flat_map (λ p. references (entries_of l.heap p)) (take l.object-index l.objects))) l.objects l.numbers.entries)
    × (l.steps ≤ l.fn.steps + sum_by (entry_count l.heap) (take l.object-index l.objects))
