use Rattle.cg_ask.proofs.Answering.{whole_answer}
use Rattle.cg_ask.proofs.answer.put_answer.Goals as goal

pub returns : goal.returns
returns c = whole_answer c.args.members.now c.args.question.now c.args.out.now.items c.put_question.new.out.items c.put_lines.new.out.items
    c.extend_from_slice.new.self.items c.in_ok-put_question.ensures c.in_ok-put_lines.ensures c.in_ok-extend_from_slice.ensures.items
