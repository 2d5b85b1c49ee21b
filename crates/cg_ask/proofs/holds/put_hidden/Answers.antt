use Rattle.std.proofs.Common.{get_or, refl}
use Rattle.cg_ask.specs.Answers.{TellsHidden}
use Rattle.std.specs.Prelude.{codes}
use Rattle.cg_ask.proofs.Rows.{rows_first}
use Rattle.cg_ask.proofs.Referrers.{hidden_push, hidden_skip, hidden_all}
use Rattle.cg_ask.proofs.holds.put_hidden.Goals as goal
use Rattle.cg_ask.proofs.holds.put_hidden.Goals.{then-holds-gt0+in_ok-put_line, else-holds-gt0}

pub members-init : goal.members-init
members-init c = rows_first (TellsHidden c.args.members.now) (codes "hidden") c.args.out.now.items

pub members-preserved : goal.members-preserved
members-preserved c = elim c.if-holds-gt0.branch [
  | then-holds-gt0+in_ok-put_line w ↦ rw (w.out-is)
      (hidden_push c.args.members.now c.args.counts.now c.args.outside.now c.requires.counts c.requires.outside c.members.at c.args.out.now.items
      c.members.out.items c.members-test.true w.put_line.new.out.items (get_or c.args.outside.now c.members.at 0) w.index.result.now
      w.saturating_sub-left.result
      refl w.index.ensures w.saturating_sub-left.ensures w.if-holds-gt0.true w.in_ok-put_line.ensures c.members.invariant)
  | else-holds-gt0 w ↦ rw (w.out-is)
      (hidden_skip c.args.members.now c.args.counts.now c.args.outside.now c.requires.counts c.requires.outside c.members.at c.args.out.now.items
      c.members.out.items c.members-test.true (get_or c.args.outside.now c.members.at 0) refl w.if-holds-gt0.false c.members.invariant)
]

pub returns : goal.returns
returns c = hidden_all c.args.members.now c.members.at c.args.out.now.items c.members.out.items c.members-test.false c.members.invariant
