use Rattle.std.proofs.Common.{◌∙◌, ap, length, Bool, List, true}
use Rattle.std.proofs.lemmas.List.{length-replicate}
use Rattle.cg_ask.proofs.Counting.{told_each}
use Rattle.cg_ask.proofs.counts.count_told.Goals as goal

pub count_targets-requires-clause-marked : goal.count_targets-requires-clause-marked
count_targets-requires-clause-marked c = ap (λ (bs : List Bool). length bs) (c.deref.ensures.value ∙ c.in_ok-all.ensures.items_if_clones_equal (λ y e. e))
    ∙ length-replicate (length c.args.members.now) true

pub returns : goal.returns
returns c =
    told_each c.args.members.now c.deref.result.now c.in_ok-counts.counts.items (c.deref.ensures.value ∙ c.in_ok-all.ensures.items_if_clones_equal (λ y e. e))
    c.in_ok-counts.ensures.len c.in_ok-counts.ensures.counts
