use Rattle.std.proofs.Common.{◌≡◌, ◌∙◌, ap, sym, Some, length, subst, arith}
use Rattle.std.specs.Prelude.{slice_get, remove}
use Rattle.std.proofs.lemmas.List.{length-map}
use Rattle.std.proofs.lemmas.Option.{slice_get-get_or}
use Rattle.cg_kinds.specs.Pairs.{pairs_of, pair_entry, ordered, picked, nothing, unboxed, IsOrderOf}
use Rattle.cg_kinds.proofs.TableLemmas.{picked_slice, picked_take, taken_as_long}
use Rattle.cg_kinds.proofs.table.Table.take.Goals as goal

pub invariant_of-self : goal.invariant_of-self
invariant_of-self c =
    let pairs = c.self.inside.map.entries in
    let is = ap unboxed c.in-Some.is ∙ ap Some (sym c.deref_mut.ensures.value) in
    taken_as_long pairs c.swap_out.new.map.entries c.deref_mut.result.now _ c.args.i c.take.result c.take.ensures.index
    (subst (IsOrderOf (length pairs)) is c.self.invariant) c.take.ensures.rest c.swap_out.ensures.rest

pub returns-in-Some-clause-entry : goal.returns-in-Some-clause-entry
returns-in-Some-clause-entry c =
    let pairs = c.self.inside.map.entries in
    let order = c.deref_mut.result.now in
    let is = ap unboxed c.in-Some.is ∙ ap Some (sym c.deref_mut.ensures.value) in
    let view : picked (pairs_of pairs) order ≡ c.args.self.now = sym (ap (ordered pairs) is) ∙ c.self.view_is ∙ c.note_order.ensures in
    ap (λ l. slice_get l c.args.i) (sym view) ∙ picked_slice (pairs_of pairs) order c.args.i c.take.result c.take.ensures.index ∙ ap Some (sym c.swap_out.ensures.entry)

pub returns-in-Some-clause-rest : goal.returns-in-Some-clause-rest
returns-in-Some-clause-rest c =
    let pairs = c.self.inside.map.entries in
    let order = c.deref_mut.result.now in
    let is = ap unboxed c.in-Some.is ∙ ap Some (sym c.deref_mut.ensures.value) in
    let view : picked (pairs_of pairs) order ≡ c.args.self.now = sym (ap (ordered pairs) is) ∙ c.self.view_is ∙ c.note_order.ensures in
    let long : length order ≡ length pairs = subst (IsOrderOf (length pairs)) is c.self.invariant in
    ap (picked (pairs_of c.swap_out.new.map.entries)) c.take.ensures.rest
    ∙ picked_take (pairs_of pairs) (pairs_of c.swap_out.new.map.entries) order c.args.i c.take.result (long ∙ sym (length-map pairs pair_entry))
    c.take.ensures.within c.take.ensures.others c.swap_out.ensures.rest
    ∙ ap (λ l. remove l c.args.i) view

pub returns-in-None-clause-entry : goal.returns-in-None-clause-entry
returns-in-None-clause-entry c =
    let pairs = c.self.inside.map.entries in
    let view : pairs_of pairs ≡ c.args.self.now = sym (ap (λ o. ordered pairs (unboxed o)) c.in-None.is) ∙ c.self.view_is ∙ c.note_order.ensures in
    ap (λ l. slice_get l c.args.i) (sym view) ∙ slice_get-get_or (pairs_of pairs) c.args.i nothing (omega (arith, c.requires, ap length view)) ∙ ap Some (sym c.shift_out.ensures.entry)
