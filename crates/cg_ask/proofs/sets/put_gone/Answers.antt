use Rattle.std.proofs.Common.{◌∙◌, ap, subst, get_or, ◌^◌, ◌<◌, length, [], ◌∷◌, ◌++◌, arith}
use Rattle.std.specs.Prelude.{codes}
use Rattle.cg_snapshot.specs.declared.heap.Member.{Member}
use Rattle.cg_ask.specs.Answers.{line}
use Rattle.cg_ask.proofs.WouldGo.{gone_first, gone_push, gone_skip, gone_all, size_read, small_size}
use Rattle.cg_ask.proofs.Marking.{mark_read}
use Rattle.cg_ask.proofs.sets.put_gone.Goals as goal
use Rattle.cg_ask.proofs.sets.put_gone.Goals.{then-index+in_ok-put_line, else-index}

pub members-init : goal.members-init
members-init c = gone_first c.args.members.now c.args.gone.now.gone.items c.args.gone.now.dead.items c.args.out.now.items

pub members-preserved : goal.members-preserved
members-preserved c =
    let gone_within : c.members.at < length c.args.gone.now.gone.items = omega (arith, c.members-test.true, c.requires.gone) in
    let dead_within : c.members.at < length c.args.gone.now.dead.items = omega (arith, c.members-test.true, c.requires.dead) in
    let on = mark_read c.args.gone.now.gone.items c.members.at c.index.result.now gone_within c.index.ensures in
    elim c.if-index.branch [
      | then-index+in_ok-put_line w ↦ rw (w.out-is, w.totals-is, w.add_gone-totals.ensures)
          (gone_push c.args.members.now c.args.gone.now.gone.items c.args.gone.now.dead.items c.members.at c.args.out.now.items c.members.out.items
          w.put_line.new.out.items c.members.totals w.index-by_count.result.now (get_or c.args.members.now c.members.at w.index-members-at.result).size
          (on ∙ w.if-index.true) (mark_read c.args.gone.now.dead.items c.members.at w.index-by_count.result.now dead_within w.index-by_count.ensures)
          (size_read c.args.members.now c.members.at w.index-members-at.result c.members-test.true w.index-members-at.is ∙ ap (λ (m : Member). m.size) w.index-members-at.is)
          (subst (λ (m : Member). m.size < 2 ^ 36) w.index-members-at.is (small_size c.args.members.now c.members.at w.index-members-at.result c.requires.small
          c.members-test.true w.index-members-at.is))
          (w.in_ok-put_line.ensures ∙ ap (λ n. c.members.out.items ++ line (codes "gone") (c.members.at ∷ n ∷ [])) w.flag.ensures) c.members.invariant)
      | else-index w ↦ rw (w.out-is, w.totals-is) (gone_skip c.args.members.now c.args.gone.now.gone.items c.args.gone.now.dead.items c.members.at
          c.args.out.now.items c.members.out.items c.members.totals (on ∙ w.if-index.false) c.members.invariant)
    ]

pub returns : goal.returns
returns c = gone_all c.args.members.now c.args.gone.now.gone.items c.args.gone.now.dead.items c.members.at c.args.out.now.items c.members.out.items
    c.members.totals (omega (arith, c.members-test.false, c.requires.gone)) c.members.invariant
