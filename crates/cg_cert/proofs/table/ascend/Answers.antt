use Rattle.std.proofs.Common.{◌<◌, ap, arith}
use Rattle.cg_records.specs.declared.graph.Member.{Member}
use Rattle.cg_cert.proofs.Ascending.{ascend_more}
use Rattle.cg_cert.proofs.table.ascend.Goals as goal

pub members-preserved : goal.members-preserved
members-preserved c =
    let before = c.index-members-at-in-members.result in
    let this = c.index-members-at.result in
    let less : before.serial < this.serial = omega (
      arith,
      c.if-members-at.false,
      ap (λ (m : Member). m.serial) c.index-members-at-in-members.is,
      ap (λ (m : Member). m.serial) c.index-members-at.is,
    ) in
    ascend_more c.args.members.now c.members.at before this c.members-test.true c.members.invariant (omega arith) c.index-members-at-in-members.is c.index-members-at.is less
