use Rattle.std.proofs.Common.{sym, ◌∙◌, ap, ◌-◌}
use Rattle.cg_snapshot.specs.declared.heap.Member.{Member}
use Rattle.cg_ask.proofs.Counting.{outside_first, outside_next, outside_all}
use Rattle.cg_ask.proofs.counts.outside_holds.Goals as goal

pub members-init : goal.members-init
members-init c = outside_first c.args.members.now c.new-outside.result.items c.new-outside.ensures.items

pub members-preserved : goal.members-preserved
members-preserved c =
    outside_next c.args.members.now c.args.counts.now c.members.at c.members.outside.items c.push.new.self.items c.index-members-at.result c.index.result.now
    c.saturating_sub.result c.requires c.members-test.true c.index-members-at.is c.index.ensures (c.saturating_sub.ensures
    ∙ ap (λ (m : Member). m.degree - c.index.result.now) (sym c.index-members-at.is)) c.in_ok-push.ensures.items c.members.invariant

pub returns : goal.returns
returns c = outside_all c.args.members.now c.members.at c.members.outside.items c.members-test.false c.members.auto.at-end c.members.invariant
