use Rattle.std.proofs.Common.{refl}
use Rattle.cg_arena.specs.Slots.{with_count}
use Rattle.cg_arena.proofs.Writes.{rewritten-occupied}
use Rattle.cg_arena.proofs.links.set_count.Goals as goal

pub returns : goal.returns
returns c = rewritten-occupied (with_count c.args.count) c.args.at c.args.slots.now c.in-Some.slot.now _ refl c.in-Some.ensures.value
