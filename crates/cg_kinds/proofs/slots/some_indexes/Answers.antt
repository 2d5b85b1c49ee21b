use Rattle.std.proofs.Common.{◌∙◌, ◌-◌, ◌++◌, ◌∷◌, [], List, ℕ, None, Some, sym, ap, get_or, drop, length, arith, length-append}
use Rattle.std.proofs.lemmas.List.{append-nil, get_or_default, length-drop}
use Rattle.cg_kind.specs.declared.notes.TheConstants.{AT_ONCE}
use Rattle.cg_kinds.proofs.SlotLemmas.{pair_read, indexes_more, first_so_many, all_so_many, none_told}
use Rattle.cg_kinds.proofs.slots.some_indexes.Goals as goal
use Rattle.cg_kinds.proofs.slots.some_indexes.Goals.{in-Some, in_default}

pub returns-then-len-eq-AT_ONCE : goal.returns-then-len-eq-AT_ONCE
returns-then-len-eq-AT_ONCE c =
    first_so_many (drop c.args.first c.args.slots.now) (c.slots.slot - c.args.first) AT_ONCE c.slots.some.items c.slots.invariant.some (omega (arith, c.if-len-eq-AT_ONCE.true, c.len.ensures))

pub slots-preserved : goal.slots-preserved
slots-preserved c =
    let slots = c.args.slots.now in
    let first = c.args.first in
    let slot = c.slots.slot in
    let told = c.index.ensures.index ∙ c.index-slots-slot.is in
    elim c.match-index.branch [
      | in-Some w ↦
          let pair = pair_read slots slot w.in-Some.index c.index-slots-slot.result c.index.result (omega (arith, c.slots-test.true)) told w.in-Some.is in
          let items = ap (λ s. s.items) w.some-is ∙ w.push.ensures.items in
          record {
            some = items ∙ ap (λ (l : List ℕ). l ++ w.in-Some.index ∷ []) c.slots.invariant.some ∙ sym (indexes_more slots first slot (Some w.in-Some.index)
                (omega (arith, c.slots.auto.slot)) (omega (arith, c.slots-test.true)) pair);
            few = let long = ap length items in omega (arith, long, length-append c.slots.some.items (w.in-Some.index ∷ []), c.slots.invariant.few, c.if-len-eq-AT_ONCE.false, c.len.ensures);
          }
      | in_default w ↦
          let same = get_or_default slots slot None c.index-slots-slot.result (omega (arith, c.slots-test.true)) in
          let gap = none_told (get_or slots slot None) (λ k is. w.in_default.not-Some k (told ∙ sym same ∙ is)) in
          record {
            some = ap (λ s. s.items) w.some-is ∙ c.slots.invariant.some ∙ sym (append-nil _)
                ∙ sym (indexes_more slots first slot None (omega (arith, c.slots.auto.slot)) (omega (arith, c.slots-test.true)) gap);
            few = let long = ap (λ s. length s.items) w.some-is in omega (arith, long, c.slots.invariant.few);
          }
    ]

pub returns : goal.returns
returns c =
    all_so_many (drop c.args.first c.args.slots.now) (c.slots.slot - c.args.first) AT_ONCE c.slots.some.items c.slots.invariant.some
    (omega (arith, c.slots-test.false, length-drop c.args.first c.args.slots.now)) c.slots.invariant.few
