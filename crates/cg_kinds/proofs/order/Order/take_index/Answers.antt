use Rattle.std.proofs.Common.{◌≡◌, ◌∙◌, ◌-◌, map}
use Rattle.std.specs.Prelude.{remove}
use Rattle.cg_kinds.specs.Order.{renamed}
use Rattle.cg_kinds.proofs.OrderLemmas.{home_of, taken_facts}
use Rattle.cg_kinds.proofs.order.Order.take_index.Goals as goal

pub returns-clause-rest : goal.returns-clause-rest
returns-clause-rest c = λ place is.
    let h = home_of c.self.inside.slots.items c.self.inside.homes.items c.self.invariant.0 c.args.self.now c.self.view_is c.args.index place is c.index.result.now c.index.ensures in
    let taken : c.take_slot.result ≡ c.args.index = h.one c.take_slot.result c.take_slot.ensures.index in
    c.close_many.ensures ∙ c.take_slot.ensures.rest
    ∙ (λ i. map (renamed (h.count i - 1) (taken i)) (remove (c.self.view_is i) (h.before i)))

pub returns-clause-others : goal.returns-clause-others
returns-clause-others c = λ place is.
    let h = home_of c.self.inside.slots.items c.self.inside.homes.items c.self.invariant.0 c.args.self.now c.self.view_is c.args.index place is c.index.result.now c.index.ensures in
    (taken_facts c.self.inside.slots.items c.self.inside.homes.items c.self.invariant.0 c.index.result.now c.args.index place c.args.self.now h.pair c.self.view_is h.before).1.0
