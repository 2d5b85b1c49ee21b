use Rattle.std.proofs.Common.{refl}
use Rattle.cg_heap.proofs.Calls.{stands, has_node, field_is}
use Rattle.cg_heap.proofs.heap.Heap.kind_of.Goals as goal

pub code_of-requires : goal.code_of-requires
code_of-requires g c = has_node (stands c.self.inside.arena c.self.invariant c.self.view_is) c.args.object c.requires

pub returns : goal.returns
returns g c = field_is (stands c.self.inside.arena c.self.invariant c.self.view_is) (λ n. n.code) (λ n. n.code) (λ n k. refl) c.args.object c.code_of.result c.code_of.ensures
