use Rattle.std.proofs.Common.{sym, ◌∙◌, ap}
use Rattle.cg_snapshot.specs.declared.heap.Member.{Member}
use Rattle.cg_ask.specs.Answers.{TellsReferrer}
use Rattle.std.specs.Prelude.{codes}
use Rattle.cg_ask.proofs.Rows.{rows_first}
use Rattle.cg_ask.proofs.Referrers.{referrer_push, referrer_skip, referrer_all}
use Rattle.cg_ask.proofs.holds.put_rows.Goals as goal
use Rattle.cg_ask.proofs.holds.put_rows.Goals.{then-times-gt0+in_ok-put_line, else-times-gt0}

pub members-init : goal.members-init
members-init c = rows_first (TellsReferrer c.args.members.now c.args.object) (codes "referrer") c.args.out.now.items

pub members-preserved : goal.members-preserved
members-preserved c = elim c.if-times-gt0.branch [
  | then-times-gt0+in_ok-put_line w ↦ rw (w.out-is) (referrer_push c.args.members.now c.args.object c.members.at c.args.out.now.items c.members.out.items
      w.put_line.new.out.items c.index-members-at.result c.as_slice.result.now c.times-times.result c.members-test.true c.index-members-at.is
      (c.as_slice.ensures ∙ ap (λ (m : Member). m.refs) (sym c.index-members-at.is)) c.times-times.ensures w.if-times-gt0.true w.in_ok-put_line.ensures
      c.members.invariant)
  | else-times-gt0 w ↦ rw (w.out-is) (referrer_skip c.args.members.now c.args.object c.members.at c.args.out.now.items c.members.out.items
      c.index-members-at.result c.as_slice.result.now c.times-times.result c.members-test.true c.index-members-at.is (c.as_slice.ensures
      ∙ ap (λ (m : Member). m.refs) (sym c.index-members-at.is)) c.times-times.ensures w.if-times-gt0.false c.members.invariant)
]

pub returns : goal.returns
returns c = referrer_all c.args.members.now c.args.object c.members.at c.args.out.now.items c.members.out.items c.members-test.false c.members.invariant
