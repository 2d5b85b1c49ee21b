use Rattle.std.proofs.Common.{◌≡◌, take}
use Rattle.cg_graph.specs.Value.{references}
use Rattle.cg_arena.specs.Nodes.{counted_up}
use Rattle.cg_heap.proofs.counts.count_all.Given as goal

abbrev pub invariant-loop-part : goal.invariant-loop-part
invariant-loop-part l = l.arena ≡ counted_up (references (take l.part-index l.parts)) l.fn.arena
