use Rattle.std.proofs.Common.{refl}
use Rattle.cg_heap.proofs.Calls.{stands, has_node, field_is}
use Rattle.cg_heap.proofs.heap.Heap.is_finalized.Goals as goal

pub is_finalized-requires : goal.is_finalized-requires
is_finalized-requires g c = has_node (stands c.self.inside.arena c.self.invariant c.self.view_is) c.args.object c.requires

pub returns : goal.returns
returns g c = field_is (stands c.self.inside.arena c.self.invariant c.self.view_is) (λ n. n.finalized) (λ n. n.finalized) (λ n k. refl) c.args.object c.is_finalized.result c.is_finalized.ensures
