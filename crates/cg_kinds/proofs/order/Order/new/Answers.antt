use Rattle.std.proofs.Common.{◌≡◌, ◌∙◌, ◌++◌, ◌∷◌, [], ◌+◌, suc, ap, sym, length, arith}
use Rattle.std.specs.List.{range_with_len}
use Rattle.std.proofs.lemmas.List.FromFn.{length-range_with_len}
use Rattle.cg_kinds.proofs.OrderLemmas.{range_more}
use Rattle.cg_kinds.proofs.order.Order.new.Goals as goal

pub indexes-preserved : goal.indexes-preserved
indexes-preserved c =
    let k = c.indexes.counter in
    let n : length c.indexes.order ≡ 0 + k = ap length c.indexes.invariant ∙ length-range_with_len 0 k ∙ (omega arith) in
    let m : suc k ≡ k + 1 = omega arith in
    c.in_ok-push.ensures.ok
    ∙ ap (λ l. l ++ length c.indexes.order ∷ []) c.indexes.invariant
    ∙ ap (λ i. range_with_len 0 k ++ i ∷ []) n
    ∙ sym (range_more 0 k)
    ∙ ap (range_with_len 0) m
