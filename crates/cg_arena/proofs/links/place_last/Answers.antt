use Rattle.std.proofs.Common.{None, ap, ◌∙◌}
use Rattle.cg_arena.specs.Slots.{placed_last, with_after}
use Rattle.cg_arena.proofs.Writes.{rewritten-occupied}
use Rattle.cg_arena.proofs.links.place_last.Goals as goal

pub returns : goal.returns
returns c =
    rewritten-occupied (placed_last c.args.place c.args.before) c.args.at c.args.slots.now c.in-Some.slot.now _
    (c.set_after.ensures ∙ ap (with_after None) c.set_before.ensures) c.in-Some.ensures.value
