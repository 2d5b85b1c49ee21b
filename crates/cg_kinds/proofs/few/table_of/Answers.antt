use Rattle.std.proofs.Common.{◌≡◌, ◌+◌, ◌∙◌, ap, suc, take, get_or, arith}
use Rattle.std.proofs.lemmas.List.{get_or_default}
use Rattle.cg_graph.specs.Value.{put}
use Rattle.cg_kinds.specs.Pairs.{nothing}
use Rattle.cg_kinds.proofs.KeysOnce.{put_next}
use Rattle.cg_kinds.proofs.few.table_of.Goals as goal

pub moved-preserved : goal.moved-preserved
moved-preserved c =
    let pairs = c.args.pairs.now in
    let next : suc c.moved.at ≡ c.moved.at + 1 = omega arith in
    let pair : c.entry-pair.result ≡ get_or pairs c.moved.at nothing = c.entry-pair.ensures ∙ c.index-pairs-at.is ∙ get_or_default pairs c.moved.at _ nothing c.moved-test.true in
    c.in_ok-put.ensures.ok
    ∙ (λ i. put (c.moved.invariant i) (pair i).key (pair i).val)
    ∙ put_next pairs c.moved.at nothing c.requires c.moved-test.true
    ∙ ap (λ n. take n pairs) next
