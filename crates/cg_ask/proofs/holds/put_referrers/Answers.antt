use Rattle.cg_ask.proofs.Answering.{referrers_told}
use Rattle.cg_ask.proofs.holds.put_referrers.Goals as goal

pub returns : goal.returns
returns c = referrers_told c.args.members.now c.args.object _ c.args.out.now.items c.put_rows.new.out.items c.put_line.new.out.items c.in_ok-put_rows.ensures
    (c.requires.outside.each c.args.object c.requires.within) c.in_ok-put_line.ensures
