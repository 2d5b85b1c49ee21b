use Rattle.std.proofs.Common.{◌≡◌, ◌-◌, ◌∙◌, ap, sym, subst, arith, length, map, set, get_or, None}
use Rattle.std.specs.Prelude.{remove}
use Rattle.cg_kinds.specs.Order.{indexes, pairs_before, renamed, AreHomes}
use Rattle.cg_kinds.proofs.SlotLemmas.{pair_of, pair_read, pair_within}
use Rattle.cg_kinds.proofs.OrderLemmas.{still_there, last_there, taken_last, taken_other, other_within, slots_moved, refilled_before, indexes-gap, indexes-refilled, renamed-itself, one_slot, left_there, last_is}
use Rattle.cg_kinds.proofs.order.empty_slot.Goals as goal

pub index_mut-requires : goal.index_mut-requires
index_mut-requires c =
    let slots = c.args.slots.now in
    let pair = pair_read slots c.args.slot c.in-Some.index c.index-slots-slot.result c.index.result (pair_of slots c.args.slot c.requires.there).within c.index.ensures.index c.in-Some.is in
    let within = other_within slots c.args.homes.now.items c.requires.homes c.take_last-moved.new.self.items c.take_last-moved.result
    c.take_last-moved.ensures.items c.args.slot c.in-Some.index pair c.if-moved-slot.false in
    omega (arith, within)

pub bounds-slots-moved : goal.bounds-slots-moved
bounds-slots-moved c =
    let slots = c.args.slots.now in
    let rest = c.take_last-moved.new.self.items in
    let moved = c.take_last-moved.result in
    let still = still_there slots c.args.homes.now.items c.requires.homes rest moved c.take_last-moved.ensures.items c.args.slot c.if-moved-slot.false in
    pair_within (set slots c.args.slot c.gap.result) moved (length rest) (ap (λ o. get_or (set slots c.args.slot o) moved None) c.gap.ensures ∙ still)

pub returns-then-moved-slot-clause-homes : goal.returns-then-moved-slot-clause-homes
returns-then-moved-slot-clause-homes c =
    let slots = c.args.slots.now in
    let rest = c.take_last-moved.new.self.items in
    let pair = pair_read slots c.args.slot c.in-Some.index c.index-slots-slot.result c.index.result (pair_of slots c.args.slot c.requires.there).within c.index.ensures.index c.in-Some.is in
    subst (λ o. AreHomes (set slots c.args.slot o) rest) (sym c.gap.ensures)
    (taken_last slots c.args.homes.now.items c.requires.homes rest c.take_last-moved.result c.take_last-moved.ensures.items c.args.slot c.in-Some.index pair c.if-moved-slot.true).1

pub returns-then-moved-slot-clause-rest : goal.returns-then-moved-slot-clause-rest
returns-then-moved-slot-clause-rest c =
    let slots = c.args.slots.now in
    let pair = pair_read slots c.args.slot c.in-Some.index c.index-slots-slot.result c.index.result (pair_of slots c.args.slot c.requires.there).within c.index.ensures.index c.in-Some.is in
    let last = last_is slots c.args.homes.now.items c.requires.homes c.take_last-moved.new.self.items c.take_last-moved.result c.take_last-moved.ensures.items in
    let index = (taken_last slots c.args.homes.now.items c.requires.homes c.take_last-moved.new.self.items c.take_last-moved.result
    c.take_last-moved.ensures.items c.args.slot c.in-Some.index pair c.if-moved-slot.true).0 in
    let e : length c.args.homes.now.items - 1 ≡ c.in-Some.index = last ∙ sym index in
    ap (λ o. indexes (set slots c.args.slot o)) c.gap.ensures
    ∙ indexes-gap slots c.args.slot c.in-Some.index pair
    ∙ sym (renamed-itself c.in-Some.index (remove (indexes slots) (pairs_before slots c.args.slot)))
    ∙ sym (ap (λ n. map (renamed n c.in-Some.index) (remove (indexes slots) (pairs_before slots c.args.slot))) e)

pub returns-else-moved-slot-clause-homes : goal.returns-else-moved-slot-clause-homes
returns-else-moved-slot-clause-homes c =
    let slots = c.args.slots.now in
    let rest = c.take_last-moved.new.self.items in
    let moved = c.take_last-moved.result in
    let pair = pair_read slots c.args.slot c.in-Some.index c.index-slots-slot.result c.index.result (pair_of slots c.args.slot c.requires.there).within c.index.ensures.index c.in-Some.is in
    subst (λ l. AreHomes l (set rest c.in-Some.index moved)) (slots_moved slots c.args.slot moved c.in-Some.index c.gap.result c.of.result c.gap.ensures c.of.ensures)
    (taken_other slots c.args.homes.now.items c.requires.homes rest moved c.take_last-moved.ensures.items c.args.slot c.in-Some.index pair c.if-moved-slot.false)

pub returns-else-moved-slot-clause-gap : goal.returns-else-moved-slot-clause-gap
returns-else-moved-slot-clause-gap c = λ k.
    let slots = c.args.slots.now in
    let rest = c.take_last-moved.new.self.items in
    let moved = c.take_last-moved.result in
    let still = still_there slots c.args.homes.now.items c.requires.homes rest moved c.take_last-moved.ensures.items c.args.slot c.if-moved-slot.false in
    ap (λ l. pairs_before l k) (sym (slots_moved slots c.args.slot moved c.in-Some.index c.gap.result c.of.result c.gap.ensures c.of.ensures))
    ∙ refilled_before (set slots c.args.slot None) moved (length rest) c.in-Some.index k still

pub returns-else-moved-slot-clause-rest : goal.returns-else-moved-slot-clause-rest
returns-else-moved-slot-clause-rest c =
    let slots = c.args.slots.now in
    let rest = c.take_last-moved.new.self.items in
    let moved = c.take_last-moved.result in
    let pair = pair_read slots c.args.slot c.in-Some.index c.index-slots-slot.result c.index.result (pair_of slots c.args.slot c.requires.there).within c.index.ensures.index c.in-Some.is in
    let last = last_is slots c.args.homes.now.items c.requires.homes rest moved c.take_last-moved.ensures.items in
    let there = last_there slots c.args.homes.now.items c.requires.homes rest moved c.take_last-moved.ensures.items in
    let still = still_there slots c.args.homes.now.items c.requires.homes rest moved c.take_last-moved.ensures.items c.args.slot c.if-moved-slot.false in
    ap indexes (sym (slots_moved slots c.args.slot moved c.in-Some.index c.gap.result c.of.result c.gap.ensures c.of.ensures))
    ∙ indexes-refilled (length rest) c.in-Some.index (set slots c.args.slot None) moved still
    (λ other is. one_slot slots c.args.homes.now.items c.requires.homes (length rest) moved other there (left_there slots c.args.homes.now.items c.requires.homes c.args.slot other (length rest) is).1)
    ∙ ap (map (renamed (length rest) c.in-Some.index)) (indexes-gap slots c.args.slot c.in-Some.index pair)
    ∙ sym (ap (λ n. map (renamed n c.in-Some.index) (remove (indexes slots) (pairs_before slots c.args.slot))) last)
