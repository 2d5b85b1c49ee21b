use Rattle.std.proofs.Common.{sym, ap, ◌∙◌}
use Rattle.cg_arena.specs.Slots.{with_before}
use Rattle.cg_arena.specs.Links.{link_set}
use Rattle.cg_arena.proofs.Writes.{rewritten-occupied}
use Rattle.cg_arena.proofs.links.set_before.Goals as goal

pub returns-in-Some-get_mut : goal.returns-in-Some-get_mut
returns-in-Some-get_mut c =
    rewritten-occupied (with_before c.args.before) c.in-Some.at c.args.slots.now c.in-Some-get_mut.slot.now _ c.set_before.ensures c.in-Some-get_mut.ensures.value
    ∙ sym (ap (λ o. link_set with_before o c.args.before c.args.slots.now) c.in-Some.is)
