use Rattle.std.proofs.Common.{◌≡◌, ◌∙◌, ◌++◌, ◌∷◌, ◌+◌, ◌/◌, [], set, get_or, ap, sym, Some, length, arith, subst}
use Rattle.std.proofs.lemmas.Int.{ints}
use Rattle.std.proofs.lemmas.List.{length-set}
use Rattle.cg_kinds.specs.Order.{AreHomes, AreCounts}
use Rattle.cg_kinds.proofs.SlotLemmas.{counts_all, few_pairs}
use Rattle.cg_kinds.proofs.OrderLemmas.{few_homes, pushed_homes, pushed_counts, blocks_kept}
use Rattle.cg_kinds.proofs.order.Order.push.Goals as goal

pub overflow_cast-index : goal.overflow_cast-index
overflow_cast-index c = omega (arith, ints, few_homes c.make_room.new.slots.items c.make_room.new.homes.items c.make_room.ensures.homes, c.len-index.ensures, c.make_room.ensures.counts.small)

pub of-requires : goal.of-requires
of-requires c = omega (
  arith,
  few_homes c.make_room.new.slots.items c.make_room.new.homes.items c.make_room.ensures.homes,
  c.len-index.ensures,
  c.in_ok-make_room.ensures.room,
  c.make_room.ensures.blocks.small,
)

pub raise-requires-clause-within : goal.raise-requires-clause-within
raise-requires-clause-within c = omega (arith, c.len-slot.ensures, c.in_ok-make_room.ensures.room, c.make_room.ensures.blocks.blocks)

pub raise-requires-clause-small : goal.raise-requires-clause-small
raise-requires-clause-small c =
    let items = c.make_room.new.slots.items in
    omega (arith, counts_all items c.make_room.new.counts c.make_room.ensures.counts, few_pairs items, c.in_ok-make_room.ensures.room, c.make_room.ensures.blocks.small)

pub invariant_of-self-2 : goal.invariant_of-self-2
invariant_of-self-2 c =
    let items = c.make_room.new.slots.items in
    let homes = c.make_room.new.homes.items in
    let counts = c.make_room.new.counts in
    let blocks = c.make_room.ensures.blocks in
    let index_is : c.len-index.result ≡ length homes = omega (arith, c.len-index.ensures) in
    let slot_is : c.len-slot.result ≡ length items = omega (arith, c.len-slot.ensures) in
    let slots_are : c.push_reserved.new.self.items ≡ items ++ Some (length homes) ∷ [] =
    c.push_reserved.ensures.items ∙ ap (λ o. items ++ o ∷ []) c.of.ensures ∙ ap (λ n. items ++ Some n ∷ []) index_is in
    let homes_are : c.push_reserved-2.new.self.items ≡ homes ++ length items ∷ [] = c.push_reserved-2.ensures.items ∙ ap (λ n. homes ++ n ∷ []) slot_is in (
      subst (λ l. AreHomes l c.push_reserved-2.new.self.items) (sym slots_are) (subst (AreHomes (items ++ Some (length homes) ∷ [])) (sym homes_are)
          (pushed_homes items homes c.make_room.ensures.homes)),
      subst (λ l. AreCounts l c.raise.new.self) (sym slots_are)
          (pushed_counts items (length homes) counts c.raise.new.self c.make_room.ensures.counts (omega (arith, c.in_ok-make_room.ensures.room, blocks.blocks))
          (omega (arith, c.in_ok-make_room.ensures.room, blocks.small))
          (c.raise.ensures ∙ ap (λ n. set counts (n / 16) (get_or counts (n / 16) 0 + 1)) slot_is)),
      blocks_kept _ _ _ _ c.push_reserved.ensures.capacity (ap length c.raise.ensures ∙ length-set counts (c.len-slot.result / 16) (get_or counts (c.len-slot.result / 16) 0 + 1)) blocks,
    )
