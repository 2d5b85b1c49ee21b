use Rattle.std.proofs.Common.{refl}
use Rattle.cg_arena.specs.Slots.{with_number}
use Rattle.cg_arena.proofs.Writes.{rewritten-occupied}
use Rattle.cg_arena.proofs.links.set_number.Goals as goal

pub returns : goal.returns
returns c = rewritten-occupied (with_number c.args.number) c.args.at c.args.slots.now c.in-Some.slot.now _ refl c.in-Some.ensures.value
