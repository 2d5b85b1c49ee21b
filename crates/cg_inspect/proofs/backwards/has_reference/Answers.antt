use Rattle.std.proofs.Common.{sym, ◌∙◌, arith}
use Rattle.cg_graph.specs.Store.{entries_of}
use Rattle.cg_inspect.proofs.Holdings.{held_by_next, held_by_one}
use Rattle.cg_inspect.proofs.backwards.has_reference.Goals as goal

pub returns-then-holds-clause-found : goal.returns-then-holds-clause-found
returns-then-holds-clause-found g c = sym (held_by_one (entries_of c.args.heap.now c.args.holder) c.entries.i c.look.result c.args.object c.look.ensures.entry (sym c.holds.ensures ∙ c.if-holds.true))

pub entries-preserved : goal.entries-preserved
entries-preserved g c = (
  held_by_next (entries_of c.args.heap.now c.args.holder) c.entries.i c.look.result c.args.object c.look.ensures.entry
      c.entries.invariant.0 (sym c.holds.ensures ∙ c.if-holds.false),
  omega (arith, c.entries.invariant.1, c.look.ensures.steps),
)
