use Rattle.std.proofs.Common.{◌≡◌, ◌∙◌, ap, sym, length, arith}
use Rattle.std.specs.Prelude.{slice_get}
use Rattle.cg_kinds.specs.Order.{indexes, pairs_before}
use Rattle.cg_kinds.proofs.SlotLemmas.{pair_within}
use Rattle.cg_kinds.proofs.OrderLemmas.{order_at, place_only, pair_home}
use Rattle.cg_kinds.proofs.order.Order.place_of.Goals as goal

pub pairs_before-requires-clause-within : goal.pairs_before-requires-clause-within
pairs_before-requires-clause-within c =
    let items = c.self.inside.slots.items in
    let home = c.index.result.now in
    let pair = pair_home items c.self.inside.homes.items c.self.invariant.0 c.args.self.now c.self.view_is c.args.index home c.requires c.index.ensures in
    omega (arith, pair_within items home c.args.index pair, ap length c.as_slice.ensures.value)

pub returns-clause-place : goal.returns-clause-place
returns-clause-place c =
    let items = c.self.inside.slots.items in
    let home = c.index.result.now in
    let pair = pair_home items c.self.inside.homes.items c.self.invariant.0 c.args.self.now c.self.view_is c.args.index home c.requires c.index.ensures in
    let before : c.pairs_before.result ≡ pairs_before items home = c.pairs_before.ensures ∙ ap (λ l. pairs_before l home) c.as_slice.ensures.value in
    ap (λ l. slice_get l c.pairs_before.result) (sym c.self.view_is) ∙ ap (slice_get (indexes items)) before ∙ order_at items home c.args.index pair

pub returns-clause-only : goal.returns-clause-only
returns-clause-only c = λ place is.
    let items = c.self.inside.slots.items in
    let homes = c.self.inside.homes.items in
    let home = c.index.result.now in
    let pair = pair_home items homes c.self.invariant.0 c.args.self.now c.self.view_is c.args.index home c.requires c.index.ensures in
    let before : c.pairs_before.result ≡ pairs_before items home = c.pairs_before.ensures ∙ ap (λ l. pairs_before l home) c.as_slice.ensures.value in
    place_only items homes c.self.invariant.0 c.args.index home place pair (ap (λ l. slice_get l place) c.self.view_is ∙ is) ∙ sym before
