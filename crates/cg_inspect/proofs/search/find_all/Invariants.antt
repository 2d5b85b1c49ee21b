use Rattle.std.proofs.Common.{take, Some}
use Rattle.cg_inspect.specs.Findings.{FindsInOrder}
use Rattle.cg_inspect.proofs.search.find_all.Given as goal

abbrev pub invariant-references : goal.invariant-references
invariant-references l = FindsInOrder l.fn.found.entries (take l.object-index l.references) (Some l.holder) l.found.entries
