use Rattle.std.proofs.Common.{arith}
use Rattle.cg_graph.specs.Store.{entries_of}
use Rattle.cg_inspect.proofs.Holdings.{listed_next}
use Rattle.cg_inspect.proofs.forwards.referents.Goals as goal

pub entries-preserved : goal.entries-preserved
entries-preserved g c = (
  listed_next (entries_of c.args.heap.now c.args.object) c.entries.i c.look-entry.result c.entries.listed.items c.push_reference.new.listed.items _
      c.look-entry.ensures.entry c.entries.invariant.0 c.in_ok-push_reference.ensures c.in_ok-push_reference-2.ensures,
  omega (arith, c.entries.invariant.1, c.look-entry.ensures.steps),
)
