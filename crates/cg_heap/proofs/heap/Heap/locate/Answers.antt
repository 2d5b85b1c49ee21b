use Rattle.std.proofs.Common.{refl}
use Rattle.cg_heap.proofs.Calls.{stands, has_node, field_is}
use Rattle.cg_heap.proofs.heap.Heap.locate.Goals as goal

pub locate-requires : goal.locate-requires
locate-requires g c = has_node (stands c.self.inside.arena c.self.invariant c.self.view_is) c.args.object c.requires

pub returns : goal.returns
returns g c = field_is (stands c.self.inside.arena c.self.invariant c.self.view_is) (λ n. n.code) (λ n. n.code) (λ n k. refl) c.args.object c.locate.result c.locate.ensures
