use Rattle.std.proofs.Common.{IsSome, refl, sym, subst}
use Rattle.slab.specs.Slab.{get}
use Rattle.cg_arena.proofs.Indexes.{by_row, row_right, here_row}
use Rattle.cg_arena.proofs.Sound.{some_serial}
use Rattle.cg_arena.proofs.index.SlotIndex.slot_of.Goals as goal

pub slot_by_row-at-requires : goal.slot_by_row-at-requires
slot_by_row-at-requires c =
    subst IsSome
    (sym (by_row c.args.slots.now c.args.self.now c.requires.index c.args.serial c.guess-guess.result c.guess-guess.ensures (c.in-None.ensures.none refl)))
    c.requires.there

pub slot_at-requires : goal.slot_at-requires
slot_at-requires c = some_serial (get c.args.slots.now c.slot_by_row-at.result) c.args.serial (c.requires.index.finds.right c.args.serial c.slot_by_row-at.result c.slot_by_row-at.ensures)

pub returns-in-Some-clause-at : goal.returns-in-Some-clause-at
returns-in-Some-clause-at c = here_row c.args.slots.now c.args.self.now c.requires.index c.args.serial c.in-Some.slot c.guess-guess.result c.in-Some.ensures.node c.in-Some.ensures.serial

pub returns-in-None-clause-at : goal.returns-in-None-clause-at
returns-in-None-clause-at c = row_right c.args.slots.now c.args.self.now c.requires.index c.args.serial c.slot_by_row-at.result c.slot_by_row-at.ensures
