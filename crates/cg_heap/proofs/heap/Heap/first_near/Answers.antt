use Rattle.std.proofs.Common.{ap, ◌∙◌, slice_get}
use Rattle.cg_graph.specs.Store.{Store, list_at}
use Rattle.cg_heap.proofs.heap.Heap.first_near.Goals as goal

pub returns : goal.returns
returns g c = c.first_near.ensures ∙ ap (λ (s : Store). slice_get (list_at s c.args.place) 0) c.self.view_is
