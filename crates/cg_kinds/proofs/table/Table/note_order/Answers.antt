use Rattle.std.proofs.Common.{◌≡◌, ◌∙◌, ap, sym, length}
use Rattle.std.proofs.lemmas.List.{length-map}
use Rattle.std.proofs.lemmas.List.FromFn.{length-range_with_len}
use Rattle.cg_kinds.specs.Pairs.{pairs_of, pair_entry, picked, ordered, unboxed}
use Rattle.cg_kinds.proofs.TableLemmas.{picked_all}
use Rattle.cg_kinds.proofs.table.Table.note_order.Goals as goal
use Rattle.cg_kinds.proofs.table.Table.note_order.Goals.{in-Some-1, in-None-1}

pub invariant_of-self-in-Ok-2 : goal.invariant_of-self-in-Ok-2
invariant_of-self-in-Ok-2 c = ap length c.in-Ok.ensures.order ∙ length-range_with_len 0 (length c.self.inside.map.entries) ∙ sym (ap length c.in-Ok.ensures.same)

pub returns-in-Ok : goal.returns-in-Ok
returns-in-Ok c =
    let pairs = c.self.inside.map.entries in
    let same : picked (pairs_of c.noted_order.new.map.entries) c.in-Ok.order.value ≡ c.args.self.now =
    ap (λ l. picked (pairs_of l) c.in-Ok.order.value) c.in-Ok.ensures.same
    ∙ ap (picked (pairs_of pairs)) c.in-Ok.ensures.order
    ∙ picked_all (pairs_of pairs) (length pairs) (sym (length-map pairs pair_entry))
    ∙ sym (ap (λ o. ordered pairs (unboxed o)) c.in-None.is) ∙ c.self.view_is in
    elim c.match-self-2.branch [ in-Some-1 w ↦ w.self-is ∙ same | in-None-1 w ↦ w.self-is ∙ same ]
