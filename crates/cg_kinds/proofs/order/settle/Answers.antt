use Rattle.std.proofs.Common.{◌≢◌, ◌∙◌, arith, ap, sym, get_or, None}
use Rattle.std.proofs.lemmas.List.{get_or_default}
use Rattle.cg_kinds.proofs.SlotLemmas.{pair_read}
use Rattle.cg_kinds.proofs.OrderLemmas.{closed_within, settled_more, settled_all}
use Rattle.cg_kinds.proofs.order.settle.Goals as goal
use Rattle.cg_kinds.proofs.order.settle.Goals.{in-Some, in_default}

pub bounds-homes-index : goal.bounds-homes-index
bounds-homes-index c =
    let slots = c.args.slots.now in
    let told = c.index.ensures.index ∙ c.index-slots-slot.is in
    let pair = pair_read slots c.slots.slot c.in-Some.index c.index-slots-slot.result c.index.result (omega (arith, c.slots-test.true)) told c.in-Some.is in
    let below = closed_within slots c.args.homes.now c.requires.closed c.slots.slot c.in-Some.index pair in
    omega (arith, below, c.slots.auto.homes)

pub slots-preserved : goal.slots-preserved
slots-preserved c =
    let slots = c.args.slots.now in
    let told = c.index.ensures.index ∙ c.index-slots-slot.is in
    elim c.match-index.branch [
      | in-Some w ↦ λ s k below is.
          let pair = pair_read slots c.slots.slot w.in-Some.index c.index-slots-slot.result c.index.result (omega (arith, c.slots-test.true)) told w.in-Some.is in
          ap (λ l. get_or l k 0) w.homes-is
          ∙ settled_more slots c.args.homes.now c.requires.closed c.slots.homes c.slots.slot w.in-Some.index c.slots.auto.homes pair c.slots.invariant s k below is
      | in_default w ↦ λ s k below is.
          let same = get_or_default slots c.slots.slot None c.index-slots-slot.result (omega (arith, c.slots-test.true)) in
          let other : s ≢ c.slots.slot = λ at. w.in_default.not-Some k (told ∙ sym same ∙ ap (λ n. get_or slots n None) (sym at) ∙ is) in
          ap (λ l. get_or l k 0) w.homes-is ∙ c.slots.invariant s k (omega (arith, below, other)) is
    ]

pub returns : goal.returns
returns c = settled_all c.args.slots.now c.args.homes.now c.requires.closed c.slots.homes c.slots.auto.homes (λ s k below is. c.slots.invariant s k (omega (arith, below, c.slots-test.false)) is)
