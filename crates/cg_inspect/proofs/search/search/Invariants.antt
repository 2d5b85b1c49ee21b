use Rattle.std.proofs.Common.{length, ◌-◌, ◌+◌, ◌≤◌, take, sum_by}
use Rattle.cg_inspect.specs.Inspection.{HeldElse, arrows_of, entry_number_in_all}
use Rattle.cg_inspect.specs.Findings.{AreInOrder}
use Rattle.cg_inspect.specs.Order.{references_by}
use Rattle.cg_search.specs.Walks.{HasSpread, objects_in}
use Rattle.cg_inspect.proofs.Looks.{entry_count}
use Rattle.cg_inspect.proofs.search.search.Given as goal

abbrev pub invariant-turns : goal.invariant-turns
invariant-turns g l =
    HasSpread (HeldElse l.heap l.object) (arrows_of l.heap) l.found.entries l.at
    × (l.steps ≤ (l.fn.steps + entry_number_in_all l.heap) + sum_by (entry_count l.heap) (take l.at (objects_in l.found.entries)))
    × AreInOrder (references_by l.heap) l.found.entries l.at

abbrev pub decreases-turns : goal.decreases-turns
decreases-turns g l = length l.objects - l.at
