use Rattle.cg_arena.specs.Slots.{with_mark}
use Rattle.cg_arena.proofs.Writes.{rewritten-occupied, rewritten-vacant}
use Rattle.cg_arena.proofs.links.mark_finalized.Goals as goal

pub returns-in-Some : goal.returns-in-Some
returns-in-Some c = rewritten-occupied with_mark c.args.at c.args.slots.now c.in-Some.slot.now _ c.mark_finalized.ensures c.in-Some.ensures.value

pub returns-in_default : goal.returns-in_default
returns-in_default c = rewritten-vacant with_mark c.args.at c.args.slots.now c.in_default.ensures.value
