use Rattle.cg_ask.proofs.Reaching.{held_just}
use Rattle.cg_ask.proofs.reach.held_of.Goals as goal

pub returns : goal.returns
returns c = held_just c.args.members.now c.args.outside.now c.in_ok-held.held.items c.requires c.in_ok-held.ensures
