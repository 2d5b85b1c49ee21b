use Rattle.std.proofs.Common.{◌∙◌, sym}
use Rattle.cg_graph.specs.Store.{entries_of}
use Rattle.cg_death.proofs.Callbacks.{callback-at}
use Rattle.cg_death.proofs.Querying.{no_entry, first_entry}
use Rattle.cg_collect.proofs.weak.callback_looking.Goals as goal

pub returns-then-len-eq0-clause-callback : goal.returns-then-len-eq0-clause-callback
returns-then-len-eq0-clause-callback g c = no_entry (entries_of c.args.heap.now c.args.weak) (sym c.len.ensures ∙ c.if-len-eq0.true) ∙ sym (callback-at c.args.heap.now c.args.weak)

pub returns-clause-callback : goal.returns-clause-callback
returns-clause-callback g c = c.reference_in.ensures ∙ sym (first_entry (entries_of c.args.heap.now c.args.weak) c.look.result c.look.ensures.entry) ∙ sym (callback-at c.args.heap.now c.args.weak)
