use Rattle.std.proofs.Common.{refl}
use Rattle.cg_heap.proofs.Calls.{stands, has_node, field_is, place_told}
use Rattle.cg_heap.proofs.heap.Heap.head_near.Goals as goal

pub head_near-requires : goal.head_near-requires
head_near-requires g c = has_node (stands c.self.inside.arena c.self.invariant c.self.view_is) c.args.object c.requires

pub returns-clause-code : goal.returns-clause-code
returns-clause-code g c = field_is (stands c.self.inside.arena c.self.invariant c.self.view_is) (λ n. n.code) (λ n. n.code) (λ n k. refl) c.args.object c.head_near.result.code c.head_near.ensures.code

pub returns-clause-place : goal.returns-clause-place
returns-clause-place g c = place_told (stands c.self.inside.arena c.self.invariant c.self.view_is) c.args.object c.requires c.head_near.result.place c.head_near.ensures.place

pub returns-clause-number : goal.returns-clause-number
returns-clause-number g c = field_is (stands c.self.inside.arena c.self.invariant c.self.view_is) (λ n. n.number) (λ n. n.number) (λ n k. refl) c.args.object c.head_near.result.number
    c.head_near.ensures.number
