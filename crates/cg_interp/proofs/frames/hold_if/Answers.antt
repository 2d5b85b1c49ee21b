use Rattle.std.proofs.Common.{sym, ap, ◌∙◌, option_to_list}
use Rattle.cg_graph.specs.Changes.{held}
use Rattle.cg_interp.proofs.StackChanges.{held-none}
use Rattle.cg_interp.proofs.frames.hold_if.Goals as goal

pub returns-in-None : goal.returns-in-None
returns-in-None g c = sym (ap (λ o. held (option_to_list o) c.args.heap.now) c.in-None.is ∙ held-none c.args.heap.now)
