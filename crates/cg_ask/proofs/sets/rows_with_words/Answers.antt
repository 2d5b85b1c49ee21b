use Rattle.cg_ask.proofs.KeptByUntoldWords.{told_next, told_all}
use Rattle.cg_ask.proofs.sets.rows_with_words.Goals as goal

pub members-preserved : goal.members-preserved
members-preserved c = told_next c.args.members.now c.members.rows.items c.push.new.self.items c.members.member-index c.member-item.result
    c.in_ok-with_words.field-0 c.members-test.true c.member-item.is c.in_ok-with_words.ensures c.members.invariant c.in_ok-push.ensures.items

pub returns : goal.returns
returns c = told_all c.args.members.now c.members.rows.items c.members.member-index c.members-test.false c.members.invariant
