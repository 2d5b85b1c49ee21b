use Rattle.std.proofs.Common.{◌≡◌, sym, ap, ◌∙◌, Some, None, arith, length}
use Rattle.std.specs.Prelude.{slice_set}
use Rattle.std.specs.List.{position_from}
use Rattle.cg_value.specs.declared.Entry.{Entry}
use Rattle.cg_kind.specs.Calls.{has_key}
use Rattle.cg_kinds.proofs.FewLemmas.{value_none, found_first, found_within, found_entry, found_put}
use Rattle.cg_kinds.proofs.few.replace_in.Goals as goal

pub index_mut-pair-requires : goal.index_mut-pair-requires
index_mut-pair-requires c =
    let some : position_from (has_key c.args.key) 0 c.args.pairs.now.items ≡ Some c.in-Some.at = ap (position_from (has_key c.args.key) 0)
    (sym c.as_slice.ensures.value) ∙ sym c.place_in.ensures ∙ c.in-Some.is in
    let within = found_within c.args.key c.args.pairs.now.items c.in-Some.at (found_first c.args.key c.args.pairs.now.items c.in-Some.at some) in
    omega (arith, within, ap length c.as_slice.ensures.value, c.as_slice.ensures.len)

pub returns-in-Some-clause-replaced : goal.returns-in-Some-clause-replaced
returns-in-Some-clause-replaced c =
    let some : position_from (has_key c.args.key) 0 c.args.pairs.now.items ≡ Some c.in-Some.at = ap (position_from (has_key c.args.key) 0)
    (sym c.as_slice.ensures.value) ∙ sym c.place_in.ensures ∙ c.in-Some.is in
    let f = found_first c.args.key c.args.pairs.now.items c.in-Some.at some in
    ap Some c.val-was.ensures
    ∙ ap (λ (e : Entry). Some e.val) (c.index_mut-pair.ensures.value ∙ found_entry c.args.key c.args.pairs.now.items c.in-Some.at f _)
    ∙ sym f.value

pub returns-in-Some-clause-put : goal.returns-in-Some-clause-put
returns-in-Some-clause-put c =
    let some : position_from (has_key c.args.key) 0 c.args.pairs.now.items ≡ Some c.in-Some.at = ap (position_from (has_key c.args.key) 0)
    (sym c.as_slice.ensures.value) ∙ sym c.place_in.ensures ∙ c.in-Some.is in
    let f = found_first c.args.key c.args.pairs.now.items c.in-Some.at some in
    ap (slice_set c.args.pairs.now.items c.in-Some.at) c.set_val.ensures
    ∙ found_put c.args.key c.args.pairs.now.items c.in-Some.at f _ c.args.val (c.index_mut-pair.ensures.value ∙ found_entry c.args.key c.args.pairs.now.items c.in-Some.at f _)

-- the key was not found
none : (c : goal.In-None) → position_from (has_key c.args.key) 0 c.args.pairs.now.items ≡ None
none c = ap (position_from (has_key c.args.key) 0) (sym c.as_slice.ensures.value) ∙ sym c.place_in.ensures ∙ c.in-None.is

pub returns-in-None-clause-replaced : goal.returns-in-None-clause-replaced
returns-in-None-clause-replaced c = sym (value_none c.args.key 0 c.args.pairs.now.items (none c))
