use Rattle.std.proofs.Common.{length, ap, ◌∙◌}
use Rattle.cg_graph.specs.Store.{Store, list_at}
use Rattle.cg_heap.proofs.heap.Heap.size.Goals as goal

pub returns : goal.returns
returns g c = c.size.ensures.size ∙ ap (λ (s : Store). length (list_at s c.args.place)) c.self.view_is
