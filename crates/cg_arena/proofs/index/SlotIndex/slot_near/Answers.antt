use Rattle.cg_arena.proofs.Indexes.{here_row}
use Rattle.cg_arena.proofs.index.SlotIndex.slot_near.Goals as goal

pub returns-in-Some-clause-at : goal.returns-in-Some-clause-at
returns-in-Some-clause-at c = here_row c.args.slots.now c.args.self.now c.requires.index c.args.serial c.in-Some.slot c.args.near.slot c.in-Some.ensures.node c.in-Some.ensures.serial
