use Rattle.std.proofs.Common.{refl}
use Rattle.cg_heap.proofs.Calls.{stands, has_node, field_is}
use Rattle.cg_heap.proofs.heap.Heap.class_of.Goals as goal

pub class_of-requires : goal.class_of-requires
class_of-requires g c = has_node (stands c.self.inside.arena c.self.invariant c.self.view_is) c.args.object c.requires

pub returns : goal.returns
returns g c = field_is (stands c.self.inside.arena c.self.invariant c.self.view_is) (λ n. n.class) (λ n. n.class) (λ n k. refl) c.args.object c.class_of.result c.class_of.ensures
