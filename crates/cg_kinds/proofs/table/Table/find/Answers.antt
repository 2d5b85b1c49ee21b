use Rattle.std.proofs.Common.{◌∙◌, ap, sym, Some, length, subst}
use Rattle.std.specs.Prelude.{position}
use Rattle.cg_kind.specs.Calls.{has_key}
use Rattle.cg_kinds.specs.Pairs.{ordered, unboxed, IsOrderOf, IsSoundOrder}
use Rattle.cg_kinds.proofs.PairLemmas.{find-packed}
use Rattle.cg_kinds.proofs.TableLemmas.{ordered_some, ordered_none}
use Rattle.cg_kinds.proofs.table.Table.find.Goals as goal

pub returns-in-Some-order : goal.returns-in-Some-order
returns-in-Some-order c =
    let pairs = c.self.inside.map.entries in
    let is = ap unboxed c.in-Some-order.is ∙ ap Some (sym c.deref.ensures) in
    sym (ordered_some pairs c.deref.result.now (subst (IsOrderOf (length pairs)) is c.self.invariant) (subst IsSoundOrder is c.sound.ensures) c.get_index_of.ensures.unique
    c.in-Some.index c.place_of.result c.place_of.ensures.place c.place_of.ensures.only c.args.key (sym (find-packed c.args.key c.new.result c.new.ensures pairs)
    ∙ sym c.get_index_of.ensures.index ∙ c.in-Some.is))
    ∙ sym (ap (λ o. position (has_key c.args.key) (ordered pairs o)) is)
    ∙ ap (position (has_key c.args.key)) c.self.view_is

pub returns-in-None-order : goal.returns-in-None-order
returns-in-None-order c =
    let pairs = c.self.inside.map.entries in
    sym c.in-Some.is ∙ c.get_index_of.ensures.index ∙ find-packed c.args.key c.new.result c.new.ensures pairs
    ∙ sym (ap (λ o. position (has_key c.args.key) (ordered pairs o)) (ap unboxed c.in-None-order.is))
    ∙ ap (position (has_key c.args.key)) c.self.view_is

pub returns-in-None : goal.returns-in-None
returns-in-None c =
    let pairs = c.self.inside.map.entries in
    sym (ordered_none pairs (unboxed c.self.inside.order) c.self.invariant c.sound.ensures c.args.key
    (sym (find-packed c.args.key c.new.result c.new.ensures pairs) ∙ sym c.get_index_of.ensures.index ∙ c.in-None.is))
    ∙ ap (position (has_key c.args.key)) c.self.view_is
