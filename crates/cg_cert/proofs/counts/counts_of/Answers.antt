use Rattle.std.proofs.Common.{◌∙◌}
use Rattle.cg_cert.proofs.CountsOfMembers.{count_all}
use Rattle.cg_cert.proofs.counts.counts_of.Goals as goal

pub returns : goal.returns
returns c =
    count_all c.args.rows.now c.deref.result.now c.in_ok-counts.counts.items (c.deref.ensures.value ∙ c.in_ok-all.ensures.items_if_clones_equal (λ y e. e))
    c.in_ok-counts.ensures.len c.in_ok-counts.ensures.counts
