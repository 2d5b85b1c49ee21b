use Rattle.cg_kinds.proofs.OrderLemmas.{sound_order}
use Rattle.cg_kinds.proofs.order.Order.sound.Goals as goal

pub returns : goal.returns
returns c = sound_order c.self.inside.slots.items c.self.inside.homes.items c.self.invariant.0 c.args.self.now c.self.view_is
