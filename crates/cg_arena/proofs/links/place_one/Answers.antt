use Rattle.std.proofs.Common.{refl, sym, ap, ◌∙◌}
use Rattle.cg_arena.specs.Slots.{with_place}
use Rattle.cg_arena.specs.Links.{place_set}
use Rattle.cg_arena.proofs.Writes.{rewritten-occupied, rewritten-vacant}
use Rattle.cg_arena.proofs.links.place_one.Goals as goal

pub returns-in_err-slot-clause-slots : goal.returns-in_err-slot-clause-slots
returns-in_err-slot-clause-slots c =
    rewritten-vacant (with_place c.args.place) c.in_ok-at.field-0 c.args.slots.now c.in_err-slot.ensures.value
    ∙ sym (ap (λ o. place_set o c.args.place c.args.slots.now) c.in_ok-at.was)

pub returns-clause-slots : goal.returns-clause-slots
returns-clause-slots c =
    rewritten-occupied (with_place c.args.place) c.in_ok-at.field-0 c.args.slots.now c.in_ok-slot.slot.now _ refl c.in_ok-slot.ensures.value
    ∙ sym (ap (λ o. place_set o c.args.place c.args.slots.now) c.in_ok-at.was)
