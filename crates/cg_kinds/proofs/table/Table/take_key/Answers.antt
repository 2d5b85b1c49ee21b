use Rattle.std.proofs.Common.{◌≡◌, ◌∙◌, ap, sym, Some, length, subst}
use Rattle.std.specs.Prelude.{position}
use Rattle.std.proofs.lemmas.List.{length-map}
use Rattle.cg_graph.specs.Value.{without_key, entry_at as entry_under}
use Rattle.cg_kind.specs.Calls.{has_key}
use Rattle.cg_kind.proofs.KeyLemmas.{Lacks, key_missing}
use Rattle.cg_kinds.specs.Pairs.{pairs_of, pair_entry, ordered, picked, unboxed, IsOrderOf, IsSoundOrder}
use Rattle.cg_kinds.proofs.TableLemmas.{StandsIn, ordered_none, ordered_stands, picked_take, taken_as_long}
use Rattle.cg_kinds.proofs.table.Table.take_key.Goals as goal
use Rattle.cg_kinds.proofs.table.Table.take_key.Goals.{After-self-in-Some-1, After-from_residual}

-- in an order the entry is at the place of the map's index
stands : (c : After-self-in-Some-1) → StandsIn (pairs_of c.self.inside.map.entries) c.deref_mut.result.now c.args.key c.in_ok-index-in-Some.index
stands c =
    let pairs = c.self.inside.map.entries in
    let is = ap unboxed c.in-Some.is ∙ ap Some (sym c.deref_mut.ensures.value) in
    ordered_stands pairs c.deref_mut.result.now (subst (IsOrderOf (length pairs)) is c.self.invariant) (subst IsSoundOrder is c.sound.ensures) c.len-count.ensures.unique
    c.in_ok-index-in-Some.index c.args.key (sym c.in_ok-index-in-Some.ensures.index)

pub invariant_of-self-in-Some : goal.invariant_of-self-in-Some
invariant_of-self-in-Some c =
    let pairs = c.self.inside.map.entries in
    let is = ap unboxed c.in-Some.is ∙ ap Some (sym c.deref_mut.ensures.value) in
    let s = stands c in
    taken_as_long pairs c.swap_out_key.new.map.entries c.deref_mut.result.now _ s.place c.in_ok-index-in-Some.index s.at
    (subst (IsOrderOf (length pairs)) is c.self.invariant) (c.take_index.ensures.rest s.place s.at) c.in_ok-index-in-Some.ensures.rest

pub returns-in_ok-index-in-Some-clause-entry : goal.returns-in_ok-index-in-Some-clause-entry
returns-in_ok-index-in-Some-clause-entry c =
    ap Some c.in_ok-index-in-Some.ensures.entry
    ∙ sym (stands c).there.entry
    ∙ ap (λ es. entry_under es c.args.key) (sym (ap (ordered c.self.inside.map.entries) (ap unboxed c.in-Some.is ∙ ap Some (sym c.deref_mut.ensures.value))) ∙ c.self.view_is)

pub returns-in_ok-index-in-Some-clause-rest : goal.returns-in_ok-index-in-Some-clause-rest
returns-in_ok-index-in-Some-clause-rest c =
    let pairs = c.self.inside.map.entries in
    let order = c.deref_mut.result.now in
    let is = ap unboxed c.in-Some.is ∙ ap Some (sym c.deref_mut.ensures.value) in
    let s = stands c in
    let long : length order ≡ length pairs = subst (IsOrderOf (length pairs)) is c.self.invariant in
    ap (picked (pairs_of c.swap_out_key.new.map.entries)) (c.take_index.ensures.rest s.place s.at)
    ∙ picked_take (pairs_of pairs) (pairs_of c.swap_out_key.new.map.entries) order s.place c.in_ok-index-in-Some.index
    (long ∙ sym (length-map pairs pair_entry)) s.below (c.take_index.ensures.others s.place s.at) c.in_ok-index-in-Some.ensures.rest
    ∙ sym s.there.rest
    ∙ ap (λ es. without_key es c.args.key) (sym (ap (ordered pairs) is) ∙ c.self.view_is)

lacks : (c : After-from_residual) → Lacks c.args.self.now c.args.key
lacks c =
    let pairs = c.self.inside.map.entries in
    key_missing c.args.self.now c.args.key
    (ap (position (has_key c.args.key)) (sym c.self.view_is)
    ∙ ordered_none pairs (unboxed c.self.inside.order) c.self.invariant c.sound.ensures c.args.key (sym c.in_err-index-in-Some.ensures.index))

pub returns-in_err-index-in-Some-clause-entry : goal.returns-in_err-index-in-Some-clause-entry
returns-in_err-index-in-Some-clause-entry c = c.from_residual.ensures ∙ sym (lacks c).entry

pub returns-in_err-index-in-Some-clause-rest : goal.returns-in_err-index-in-Some-clause-rest
returns-in_err-index-in-Some-clause-rest c =
    let pairs = c.self.inside.map.entries in
    ap (λ l. picked (pairs_of l) c.in-Some.order.value) c.in_err-index-in-Some.ensures.stays
    ∙ sym (ap (ordered pairs) (ap unboxed c.in-Some.is))
    ∙ c.self.view_is ∙ sym (lacks c).rest
