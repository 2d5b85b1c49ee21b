use Rattle.std.proofs.Common.{take}
use Rattle.cg_graph.specs.Member.{Includes}
use Rattle.cg_inspect.specs.Inspection.{HeldElse}
use Rattle.cg_inspect.specs.Findings.{RiseBy}
use Rattle.cg_search.specs.Walks.{IsStart}
use Rattle.cg_inspect.proofs.holders.held_else.Given as goal

abbrev pub invariant-objects : goal.invariant-objects
invariant-objects g l = IsStart (λ o. HeldElse l.heap l.object o × Includes (take l.holder-index l.objects) o) l.found.entries × RiseBy (λ o. o) l.found.entries
