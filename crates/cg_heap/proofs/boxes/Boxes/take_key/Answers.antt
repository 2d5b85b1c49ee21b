use Rattle.std.proofs.Common.{ap, sym, subst, ◌∙◌}
use Rattle.cg_graph.specs.Value.{entry_at as entry_under}
use Rattle.cg_kind.specs.Bodies.{Holds, entries_at, spare_at, with_body}
use Rattle.cg_kind.specs.Calls.{after_take_key, spare_after_leave}
use Rattle.cg_heap.proofs.BoxLemmas.{box_bodies, six_after, box_written, box_unchanged, on_some_weaker, if_none_weaker}
use Rattle.cg_heap.proofs.boxes.Boxes.take_key.Goals as goal

pub take_key-entry-requires : goal.take_key-entry-requires
take_key-entry-requires g c = subst (λ b. Holds b c.args.seat.body) (sym (box_bodies _ _ _ c.self.invariant c.self.view_is c.args.seat.code c.index_of.ensures.index c.index_mut-kind.ensures.value))
    c.requires

pub invariant_of-self : goal.invariant_of-self
invariant_of-self g c = six_after _ _ _ c.self.invariant c.self.view_is c.args.seat.code c.index_of.ensures.index c.index_mut-kind.ensures.value c.take_key-entry.new.self c.take_key-entry.ensures.same_kind

pub returns-clause-entry : goal.returns-clause-entry
returns-clause-entry g c = c.take_key-entry.ensures.entry ∙ ap (λ b. entry_under (entries_at b c.args.seat.body) c.args.key) (box_bodies _ _ _ c.self.invariant c.self.view_is c.args.seat.code
    c.index_of.ensures.index c.index_mut-kind.ensures.value)

pub returns-clause-rest : goal.returns-clause-rest
returns-clause-rest g c = on_some_weaker c.take_key-entry.result (box_written _ _ _ c.self.invariant c.self.view_is c.args.seat.code c.index_of.ensures.index c.index_mut-kind.ensures.value
    c.take_key-entry.new.self c.take_key-entry.ensures.same_kind (λ k b. with_body b c.args.seat.body (after_take_key k (entries_at b c.args.seat.body) c.args.key) (spare_after_leave k (spare_at b
    c.args.seat.body)))) c.take_key-entry.ensures.rest

pub returns-clause-none : goal.returns-clause-none
returns-clause-none g c = if_none_weaker c.take_key-entry.result (box_unchanged _ _ _ c.self.invariant c.self.view_is c.args.seat.code c.index_of.ensures.index c.index_mut-kind.ensures.value
    c.take_key-entry.new.self c.take_key-entry.ensures.same_kind) c.take_key-entry.ensures.none
