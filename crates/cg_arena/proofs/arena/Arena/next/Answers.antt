use Rattle.std.proofs.Common.{◌∙◌, ap}
use Rattle.indexmap.specs.IndexMap.{spare}
use Rattle.cg_arena.specs.Table.{rows_of}
use Rattle.cg_arena.proofs.Sound.{found}
use Rattle.cg_arena.proofs.Lookups.{serial_of_slot, next_is}
use Rattle.cg_arena.proofs.arena.Arena.next.Goals as goal

pub slot_of-requires : goal.slot_of-requires
slot_of-requires c = found c.self.inside.slots c.self.inside.ends c.self.inside.index c.self.invariant (spare c.self.inside.index.rows) c.args.self.now c.self.view_is c.args.serial c.requires

pub returns : goal.returns
returns c =
    c.serial_at.ensures
    ∙ ap (serial_of_slot c.self.inside.slots) c.after.ensures.link
    ∙ next_is c.self.inside.slots c.self.inside.ends (rows_of c.self.inside.slots) (spare c.self.inside.index.rows) c.args.self.now c.self.view_is
    c.self.invariant.sound c.args.serial c.slot_of.result.0 c.slot_of.result.1 c.slot_of.ensures.at c.slot_of.ensures.slot
