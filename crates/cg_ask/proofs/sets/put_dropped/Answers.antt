use Rattle.cg_ask.proofs.Answering.{gone_told}
use Rattle.cg_ask.proofs.sets.put_dropped.Goals as goal

pub returns : goal.returns
returns c =
    gone_told c.args.members.now c.args.places.now c.in_ok-gone.gone.gone.items c.in_ok-gone.gone.dead.items c.args.out.now.items c.put_gone.new.out.items
    c.put_line.new.out.items c.in_ok-t.t c.in_ok-gone.ensures.gone c.in_ok-gone.ensures.dead c.in_ok-t.ensures c.in_ok-put_line.ensures
