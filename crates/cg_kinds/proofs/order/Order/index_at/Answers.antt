use Rattle.std.proofs.Common.{◌≡◌, ◌∙◌, ap, sym, Some, None, get_or, arith, length}
use Rattle.std.proofs.lemmas.List.{get_or_default}
use Rattle.cg_kinds.proofs.SlotLemmas.{pair_of}
use Rattle.std.specs.Prelude.{slice_get}
use Rattle.cg_kinds.specs.Order.{indexes, pairs_before}
use Rattle.cg_kinds.proofs.OrderLemmas.{order_at}
use Rattle.cg_kinds.proofs.order.Order.index_at.Goals as goal

pub returns-clause-index : goal.returns-clause-index
returns-clause-index c =
    let items = c.self.inside.slots.items in
    let slot = c.slot_of-slot.result in
    let pair : get_or items slot None ≡ Some c.in-Some.index =
    get_or_default items slot None c.index.result.now (omega (
      arith,
      (pair_of c.as_slice.result.now slot c.slot_of-slot.ensures.there).within,
      ap length c.as_slice.ensures.value,
    )) ∙ sym c.index.ensures ∙ sym c.index-2.ensures.index ∙ c.in-Some.is in
    let before : pairs_before items slot ≡ c.args.i = ap (λ l. pairs_before l slot) (sym c.as_slice.ensures.value) ∙ c.slot_of-slot.ensures.before in
    ap (λ l. slice_get l c.args.i) (sym c.self.view_is) ∙ ap (slice_get (indexes items)) (sym before) ∙ order_at items slot c.in-Some.index pair
