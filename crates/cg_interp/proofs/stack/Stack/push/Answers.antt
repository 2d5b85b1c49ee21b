use Rattle.std.proofs.Common.{◌∙◌, ap, ◌∷◌}
use Rattle.std.specs.Prelude.{map, reverse}
use Rattle.cg_interp.specs.Engines.{any_collecting}
use Rattle.cg_interp.specs.Stacks.{Stacked}
use Rattle.cg_interp.specs.Slots.{filled}
use Rattle.cg_interp.proofs.CollectionSeats.{vacant, pushed_on}
use Rattle.cg_interp.proofs.stack.Stack.push.Goals as goal

pub slot_of-slot-requires : goal.slot_of-slot-requires
slot_of-slot-requires c = λ is. vacant c.self.inside.slots.items c.self.inside.seat c.self.invariant (ap (λ (s : Stacked). any_collecting s.activities) c.self.view_is ∙ c.requires.alone is)

pub returns-clause-top : goal.returns-clause-top
returns-clause-top c =
    ap (λ l. reverse (map (filled c.slot_of-slot.new.seat) l)) c.in-Ok.ensures.items
    ∙ pushed_on c.self.inside.slots.items c.slot_of-slot.result c.self.inside.seat c.slot_of-slot.new.seat c.slot_of-slot.ensures.seats c.self.invariant
    ∙ ap (λ a. a ∷ reverse (map (filled c.self.inside.seat) c.self.inside.slots.items)) c.slot_of-slot.ensures.is
    ∙ ap (λ (s : Stacked). c.args.activity ∷ s.activities) c.self.view_is
