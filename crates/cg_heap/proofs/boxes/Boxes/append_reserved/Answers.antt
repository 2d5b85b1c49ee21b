use Rattle.std.proofs.Common.{◌<◌, ◌-◌, ◌++◌, ◌∷◌, [], refl, sym, subst}
use Rattle.cg_value.specs.declared.KindCode.TheVariants as code
use Rattle.cg_graph.specs.Value.{item}
use Rattle.cg_kind.specs.Bodies.{Holds, entries_at, spare_at, with_body}
use Rattle.cg_heap.proofs.BoxLemmas.{box_kind, box_bodies, six_after, box_written}
use Rattle.cg_heap.proofs.boxes.Boxes.append_reserved.Goals as goal

pub append_reserved-requires-clause-held : goal.append_reserved-requires-clause-held
append_reserved-requires-clause-held g c = subst (λ b. Holds b c.args.list) (sym (box_bodies _ _ _ c.self.invariant c.self.view_is code.List refl c.index_mut-lists.ensures.value)) c.requires.held

pub append_reserved-requires-clause-room : goal.append_reserved-requires-clause-room
append_reserved-requires-clause-room g c = λ _. subst (λ b. 0 < spare_at b c.args.list) (sym (box_bodies _ _ _ c.self.invariant c.self.view_is code.List refl c.index_mut-lists.ensures.value))
    c.requires.room

pub invariant_of-self : goal.invariant_of-self
invariant_of-self g c = six_after _ _ _ c.self.invariant c.self.view_is code.List refl c.index_mut-lists.ensures.value c.append_reserved.new.self c.append_reserved.ensures.same_kind

pub returns : goal.returns
returns g c = box_written _ _ _ c.self.invariant c.self.view_is code.List refl c.index_mut-lists.ensures.value c.append_reserved.new.self c.append_reserved.ensures.same_kind (λ k b. with_body b c.args.list
    (entries_at b c.args.list ++ item c.args.val ∷ []) (spare_at b c.args.list - 1)) (c.append_reserved.ensures.appends (box_kind _ _ _ c.self.invariant c.self.view_is code.List refl
    c.index_mut-lists.ensures.value))
