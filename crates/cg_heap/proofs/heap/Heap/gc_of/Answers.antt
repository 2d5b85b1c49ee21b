use Rattle.std.proofs.Common.{refl}
use Rattle.cg_heap.proofs.Calls.{stands, has_node, field_is}
use Rattle.cg_heap.proofs.heap.Heap.gc_of.Goals as goal

pub gc_of-requires : goal.gc_of-requires
gc_of-requires g c = has_node (stands c.self.inside.arena c.self.invariant c.self.view_is) c.args.object c.requires

pub returns : goal.returns
returns g c = field_is (stands c.self.inside.arena c.self.invariant c.self.view_is) (λ n. n.number) (λ n. n.number) (λ n k. refl) c.args.object c.gc_of.result c.gc_of.ensures
