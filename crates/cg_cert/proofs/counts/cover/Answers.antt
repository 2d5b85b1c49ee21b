use Rattle.std.proofs.Common.{◌<◌, ◌≤◌, refl, ap, arith, get_or}
use Rattle.cg_records.specs.declared.graph.Member.{Member}
use Rattle.cg_cert.proofs.CountsOfMembers.{cover_more, cover_not, cover_all}
use Rattle.cg_cert.proofs.GraphsByPositions.{differs}
use Rattle.cg_cert.proofs.counts.cover.Goals as goal

pub returns-then-members-at : goal.returns-then-members-at
returns-then-members-at c =
    let m = c.index-members-at.result in
    let low : m.degree < get_or c.args.counts.now c.members.at 0 = omega (arith, c.if-members-at.true, ap (λ (k : Member). k.degree) c.index-members-at.is) in
    (λ e. absurd (differs e), λ all. absurd (cover_not c.args.members.now c.args.counts.now c.requires c.members.at m c.members-test.true c.index-members-at.is low all))

pub members-preserved : goal.members-preserved
members-preserved c =
    let m = c.index-members-at.result in
    let high : get_or c.args.counts.now c.members.at 0 ≤ m.degree = omega (arith, c.if-members-at.false, ap (λ (k : Member). k.degree) c.index-members-at.is) in
    cover_more c.args.members.now c.args.counts.now c.requires c.members.at m c.members-test.true c.index-members-at.is high c.members.invariant

pub returns : goal.returns
returns c = (λ e. cover_all c.args.members.now c.members.at c.members-test.false c.members.invariant, λ all. refl)
