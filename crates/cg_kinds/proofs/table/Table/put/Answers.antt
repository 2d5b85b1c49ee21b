use Rattle.std.proofs.Common.{◌≡◌, ◌∙◌, ◌+◌, ◌++◌, ◌∷◌, [], option_map, ap, sym, IsSome, length, subst, true≢false}
use Rattle.cg_graph.specs.Value.{put}
use Rattle.cg_kinds.specs.Pairs.{pairs_of, ordered, unboxed, IsOrderOf}
use Rattle.cg_kinds.proofs.TableLemmas.{ordered_value, ordered_put, ordered_push, ordered_same, has_index, position_absent, none_some, on_err, put_as_long, put_longer, put_back, left_as_long, order_longer}
use Rattle.cg_kinds.proofs.table.Table.put.Goals as goal

pub returns-in_err-was-clause-present : goal.returns-in_err-was-clause-present
returns-in_err-was-clause-present c = λ some.
    let value_is = ordered_value c.self.inside.map.entries (unboxed c.self.inside.order) c.self.invariant c.sound.ensures c.len-count.ensures.unique c.args.key _ c.self.view_is in
    absurd (true≢false (sym (c.in_err-was.ensures.present (subst IsSome value_is some))))

pub returns-in_err-order_last-in-None-clause-present : goal.returns-in_err-order_last-in-None-clause-present
returns-in_err-order_last-in-None-clause-present c = λ some.
    let value_is = ordered_value c.self.inside.map.entries (unboxed c.self.inside.order) c.self.invariant c.sound.ensures c.len-count.ensures.unique c.args.key _ c.self.view_is in
    absurd (none_some (subst IsSome (value_is ∙ sym c.in_ok-was.ensures.replaced ∙ c.in-None.is) some))

pub returns-in_err-order_last-in-None-clause-err : goal.returns-in_err-order_last-in-None-clause-err
returns-in_err-order_last-in-None-clause-err c =
    let pairs = c.self.inside.map.entries in
    let new = sym c.in_ok-was.ensures.replaced ∙ c.in-None.is in
    on_err _ _ (ap (λ l. ordered l (unboxed c.order_last.new.order)) c.in_err-order_last-in-None.ensures.err
    ∙ ordered_same pairs _ (unboxed c.order_last.new.order) (put_back pairs c.put_in.new.map.entries c.args.key c.args.val new c.in_ok-was.ensures.ok)
    ∙ ap (ordered pairs) c.in_err-order_last-in-None.ensures.same_order ∙ c.self.view_is)

pub invariant_of-self-in-None : goal.invariant_of-self-in-None
invariant_of-self-in-None c =
    let pairs = c.self.inside.map.entries in
    let new = sym c.in_ok-was.ensures.replaced ∙ c.in-None.is in
    let longer : length c.fit.new.map.entries ≡ length pairs + 1 = ap length (c.fit.ensures ∙ c.in_ok-order_last-in-None.ensures.ok)
    ∙ put_longer pairs c.put_in.new.map.entries c.args.key c.args.val new c.in_ok-was.ensures.ok in
    subst (IsOrderOf (length c.fit.new.map.entries)) (sym c.in_ok-order_last-in-None.ensures.order)
    (subst (λ n. IsOrderOf n (option_map (λ o. o ++ length o ∷ []) (unboxed c.self.inside.order))) (sym longer) (order_longer (unboxed c.self.inside.order) (length pairs) c.self.invariant))

pub invariant_of-self-in-Some : goal.invariant_of-self-in-Some
invariant_of-self-in-Some c =
    let pairs = c.self.inside.map.entries in
    let long = put_as_long pairs c.put_in.new.map.entries c.args.key c.args.val c.in-Some.was (sym c.in_ok-was.ensures.replaced ∙ c.in-Some.is) c.in_ok-was.ensures.ok in
    subst (λ n. IsOrderOf n (unboxed c.self.inside.order)) (sym long) c.self.invariant

pub invariant_of-self-in_err-order_last-in-None : goal.invariant_of-self-in_err-order_last-in-None
invariant_of-self-in_err-order_last-in-None c =
    let pairs = c.self.inside.map.entries in
    let new = sym c.in_ok-was.ensures.replaced ∙ c.in-None.is in
    let long = ap length c.in_err-order_last-in-None.ensures.err ∙ left_as_long pairs c.put_in.new.map.entries c.args.key c.args.val new c.in_ok-was.ensures.ok in
    subst (IsOrderOf (length c.order_last.new.map.entries)) (sym c.in_err-order_last-in-None.ensures.same_order) (subst (λ n. IsOrderOf n (unboxed c.self.inside.order)) (sym long) c.self.invariant)

pub returns-in-Some-clause-ok : goal.returns-in-Some-clause-ok
returns-in-Some-clause-ok c =
    let pairs = c.self.inside.map.entries in
    let order = unboxed c.self.inside.order in
    let there = has_index c.args.key (pairs_of pairs) c.in-Some.was (sym c.in_ok-was.ensures.replaced ∙ c.in-Some.is) in
    ordered_put pairs order c.self.invariant c.sound.ensures c.len-count.ensures.unique there.index c.args.key c.args.val there.found c.put_in.new.map.entries c.in_ok-was.ensures.ok
    ∙ ap (λ es. put es c.args.key c.args.val) c.self.view_is

pub returns-in-Some-clause-replaced : goal.returns-in-Some-clause-replaced
returns-in-Some-clause-replaced c =
    let value_is = ordered_value c.self.inside.map.entries (unboxed c.self.inside.order) c.self.invariant c.sound.ensures c.len-count.ensures.unique c.args.key _ c.self.view_is in
    sym c.in-Some.is ∙ c.in_ok-was.ensures.replaced ∙ sym value_is

pub returns-in_ok-order_last-in-None-clause-ok : goal.returns-in_ok-order_last-in-None-clause-ok
returns-in_ok-order_last-in-None-clause-ok c =
    let pairs = c.self.inside.map.entries in
    let order = unboxed c.self.inside.order in
    let none = position_absent c.args.key (pairs_of pairs) (sym c.in_ok-was.ensures.replaced ∙ c.in-None.is) in
    ap (λ l. ordered l (unboxed c.order_last.new.order)) (c.fit.ensures ∙ c.in_ok-order_last-in-None.ensures.ok)
    ∙ ap (ordered c.put_in.new.map.entries) c.in_ok-order_last-in-None.ensures.order
    ∙ ordered_push pairs order c.self.invariant c.sound.ensures c.args.key c.args.val none c.put_in.new.map.entries c.in_ok-was.ensures.ok
    ∙ ap (λ es. put es c.args.key c.args.val) c.self.view_is

pub returns-in_ok-order_last-in-None-clause-replaced : goal.returns-in_ok-order_last-in-None-clause-replaced
returns-in_ok-order_last-in-None-clause-replaced c =
    let value_is = ordered_value c.self.inside.map.entries (unboxed c.self.inside.order) c.self.invariant c.sound.ensures c.len-count.ensures.unique c.args.key _ c.self.view_is in
    sym c.in-None.is ∙ c.in_ok-was.ensures.replaced ∙ sym value_is
