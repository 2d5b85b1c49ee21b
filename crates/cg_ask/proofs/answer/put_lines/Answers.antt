use Rattle.std.proofs.Common.{sym, subst}
use Rattle.cg_snapshot.specs.declared.question.Question.{Question}
use Rattle.cg_ask.specs.Told.{AppendsAnswer}
use Rattle.cg_ask.proofs.Answering.{answer_why, answer_referrers, answer_hidden, answer_lost, answer_dropped, answer_kept}
use Rattle.cg_ask.proofs.answer.put_lines.Goals as goal

pub returns-in_ok-put_why-in-Why : goal.returns-in_ok-put_why-in-Why
returns-in_ok-put_why-in-Why c = subst (λ (q : Question). AppendsAnswer c.args.members.now q c.args.out.now.items c.put_why.new.out.items) (sym c.in-Why.is)
    (answer_why c.args.members.now c.in-Why.object c.in-Why.but c.as_slice.result.now c.args.out.now.items c.put_why.new.out.items c.as_slice.ensures
    c.in_ok-put_why-in-Why.ensures)

pub returns-in_ok-put_referrers-in-Referrers : goal.returns-in_ok-put_referrers-in-Referrers
returns-in_ok-put_referrers-in-Referrers c = subst (λ (q : Question). AppendsAnswer c.args.members.now q c.args.out.now.items c.put_referrers.new.out.items)
    (sym c.in-Referrers.is) (answer_referrers c.args.members.now c.in-Referrers.object c.args.out.now.items c.put_referrers.new.out.items
    c.in_ok-put_referrers-in-Referrers.ensures)

pub returns-in_ok-put_hidden-in-Hidden : goal.returns-in_ok-put_hidden-in-Hidden
returns-in_ok-put_hidden-in-Hidden c = subst (λ (q : Question). AppendsAnswer c.args.members.now q c.args.out.now.items c.put_hidden.new.out.items)
    (sym c.in-Hidden.is) (answer_hidden c.args.members.now c.args.out.now.items c.put_hidden.new.out.items c.in_ok-put_hidden-in-Hidden.ensures)

pub returns-in_ok-put_lost-in-Lost : goal.returns-in_ok-put_lost-in-Lost
returns-in_ok-put_lost-in-Lost c = subst (λ (q : Question). AppendsAnswer c.args.members.now q c.args.out.now.items c.put_lost.new.out.items) (sym c.in-Lost.is)
    (answer_lost c.args.members.now c.args.out.now.items c.put_lost.new.out.items c.in_ok-put_lost-in-Lost.ensures)

pub returns-in_ok-put_dropped-in-Dropped : goal.returns-in_ok-put_dropped-in-Dropped
returns-in_ok-put_dropped-in-Dropped c = subst (λ (q : Question). AppendsAnswer c.args.members.now q c.args.out.now.items c.put_dropped.new.out.items)
    (sym c.in-Dropped.is) (answer_dropped c.args.members.now c.in-Dropped.places c.as_slice-in-Dropped.result.now c.args.out.now.items
    c.put_dropped.new.out.items c.as_slice-in-Dropped.ensures c.in_ok-put_dropped-in-Dropped.ensures)

pub returns-in_ok-put_kept-in-Untold : goal.returns-in_ok-put_kept-in-Untold
returns-in_ok-put_kept-in-Untold c = subst (λ (q : Question). AppendsAnswer c.args.members.now q c.args.out.now.items c.put_kept.new.out.items)
    (sym c.in-Untold.is) (answer_kept c.args.members.now c.args.out.now.items c.put_kept.new.out.items c.in_ok-put_kept-in-Untold.ensures)
