use Rattle.std.proofs.Common.{take}
use Rattle.cg_graph.specs.Store.{count_of}
use Rattle.cg_inspect.specs.Numbers.{AreNumbers}
use Rattle.cg_inspect.proofs.holders.in_degrees.Given as goal

abbrev pub invariant-objects : goal.invariant-objects
invariant-objects g l = AreNumbers (count_of l.heap) (take l.object-index l.objects) l.numbers.entries
