use Rattle.std.proofs.Common.{IfSome, sym, subst}
use Rattle.slab.specs.Slab.{ContainsKey}
use Rattle.cg_arena.specs.Slots.{with_after}
use Rattle.cg_arena.proofs.TiedSlots.{there-link_set}
use Rattle.cg_arena.proofs.links.tie.Goals as goal

pub set_before-requires : goal.set_before-requires
set_before-requires c =
    subst (λ z. IfSome c.args.after (ContainsKey z)) (sym c.set_after.ensures)
    (there-link_set with_after c.args.before c.args.after c.args.slots.now c.args.after c.requires.after)
