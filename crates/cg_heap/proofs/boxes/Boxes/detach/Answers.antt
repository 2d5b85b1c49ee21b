use Rattle.std.proofs.Common.{◌≡◌, ◌++◌, ◌∷◌, [], ◌↔◌, IsNone, sym, subst}
use Rattle.std.specs.Prelude.{IfSome}
use Rattle.cg_graph.specs.Value.{without_last}
use Rattle.cg_kind.specs.Bodies.{Holds, entries_at, spare_at, with_body}
use Rattle.cg_kind.specs.Calls.{spare_after_leave}
use Rattle.cg_heap.proofs.BoxLemmas.{box_bodies, six_after, box_written, box_unchanged, on_some_weaker, if_none_weaker}
use Rattle.cg_heap.proofs.boxes.Boxes.detach.Goals as goal

pub detach-entry-requires : goal.detach-entry-requires
detach-entry-requires g c = subst (λ b. Holds b c.args.seat.body) (sym (box_bodies _ _ _ c.self.invariant c.self.view_is c.args.seat.code c.index_of.ensures.index c.index_mut-kind.ensures.value)) c.requires

pub invariant_of-self : goal.invariant_of-self
invariant_of-self g c = six_after _ _ _ c.self.invariant c.self.view_is c.args.seat.code c.index_of.ensures.index c.index_mut-kind.ensures.value c.detach-entry.new.self c.detach-entry.ensures.same_kind

pub returns-clause-last : goal.returns-clause-last
returns-clause-last g c = subst (λ b. IfSome c.detach-entry.result (λ e. entries_at b c.args.seat.body ≡ without_last (entries_at b c.args.seat.body) ++ e ∷ [])) (box_bodies _ _ _ c.self.invariant
    c.self.view_is c.args.seat.code c.index_of.ensures.index c.index_mut-kind.ensures.value) c.detach-entry.ensures.last

pub returns-clause-rest : goal.returns-clause-rest
returns-clause-rest g c = on_some_weaker c.detach-entry.result (box_written _ _ _ c.self.invariant c.self.view_is c.args.seat.code c.index_of.ensures.index c.index_mut-kind.ensures.value
    c.detach-entry.new.self c.detach-entry.ensures.same_kind (λ k b. with_body b c.args.seat.body (without_last (entries_at b c.args.seat.body)) (spare_after_leave k (spare_at b c.args.seat.body))))
    c.detach-entry.ensures.rest

pub returns-clause-empty : goal.returns-clause-empty
returns-clause-empty g c = subst (λ b. IsNone c.detach-entry.result ↔ (entries_at b c.args.seat.body ≡ [])) (box_bodies _ _ _ c.self.invariant c.self.view_is c.args.seat.code c.index_of.ensures.index
    c.index_mut-kind.ensures.value) c.detach-entry.ensures.empty

pub returns-clause-none : goal.returns-clause-none
returns-clause-none g c = if_none_weaker c.detach-entry.result (box_unchanged _ _ _ c.self.invariant c.self.view_is c.args.seat.code c.index_of.ensures.index c.index_mut-kind.ensures.value
    c.detach-entry.new.self c.detach-entry.ensures.same_kind) c.detach-entry.ensures.none
