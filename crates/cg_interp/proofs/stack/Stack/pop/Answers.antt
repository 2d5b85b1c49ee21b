use Rattle.std.proofs.Common.{sym, ◌∙◌, ap, subst, ◌∷◌}
use Rattle.std.specs.Prelude.{map, reverse}
use Rattle.cg_interp.specs.Stacks.{Stacked}
use Rattle.cg_interp.specs.Slots.{filled, IsSeatOf}
use Rattle.cg_interp.proofs.CollectionSeats.{popped_off}
use Rattle.cg_interp.proofs.stack.Stack.pop.Goals as goal

pub returns-in-Some-clause-top : goal.returns-in-Some-clause-top
returns-in-Some-clause-top c =
    let seat = c.self.inside.seat in
    ap (λ (s : Stacked). s.activities) (sym c.self.view_is)
    ∙ ap (λ l. reverse (map (filled seat) l)) c.in-Some.ensures.items
    ∙ popped_off c.pop.new.self.items c.in-Some.slot c.activity_of.new.seat seat c.activity_of.ensures.seats (subst (λ l. IsSeatOf l seat) c.in-Some.ensures.items c.self.invariant)
    ∙ ap (λ a. a ∷ reverse (map (filled c.activity_of.new.seat) c.pop.new.self.items)) (sym c.activity_of.ensures.is)
