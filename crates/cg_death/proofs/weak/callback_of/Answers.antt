use Rattle.std.proofs.Common.{◌∙◌, sym}
use Rattle.cg_graph.specs.Store.{entries_of}
use Rattle.cg_death.proofs.Callbacks.{callback-at}
use Rattle.cg_death.proofs.Querying.{no_entry, first_entry}
use Rattle.cg_death.proofs.weak.callback_of.Goals as goal

pub returns-then-len-eq0 : goal.returns-then-len-eq0
returns-then-len-eq0 g c = no_entry (entries_of c.args.heap.now c.args.weak) (sym c.len.ensures ∙ c.if-len-eq0.true) ∙ sym (callback-at c.args.heap.now c.args.weak)

pub returns : goal.returns
returns g c = c.reference_in.ensures ∙ sym (first_entry (entries_of c.args.heap.now c.args.weak) c.entry_at.result c.entry_at.ensures) ∙ sym (callback-at c.args.heap.now c.args.weak)
