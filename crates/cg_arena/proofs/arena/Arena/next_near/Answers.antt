use Rattle.std.proofs.Common.{◌∙◌, ap}
use Rattle.indexmap.specs.IndexMap.{spare}
use Rattle.cg_arena.specs.Table.{rows_of}
use Rattle.cg_arena.proofs.Sound.{found}
use Rattle.cg_arena.proofs.Lookups.{serial_of_slot, next_is}
use Rattle.cg_arena.proofs.arena.Arena.next_near.Goals as goal

pub slot_near-requires : goal.slot_near-requires
slot_near-requires c = found c.self.inside.slots c.self.inside.ends c.self.inside.index c.self.invariant (spare c.self.inside.index.rows) c.args.self.now c.self.view_is c.args.serial c.requires

pub returns : goal.returns
returns c =
    c.serial_at.ensures
    ∙ ap (serial_of_slot c.self.inside.slots) c.after-after.ensures.link
    ∙ next_is c.self.inside.slots c.self.inside.ends (rows_of c.self.inside.slots) (spare c.self.inside.index.rows) c.args.self.now c.self.view_is
    c.self.invariant.sound c.args.serial c.slot_near.result.0 c.slot_near.result.1 c.slot_near.ensures.at c.slot_near.ensures.slot
