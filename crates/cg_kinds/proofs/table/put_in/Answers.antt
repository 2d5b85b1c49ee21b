use Rattle.std.proofs.Common.{◌∙◌, ap, sym, Some, IsSome, subst}
use Rattle.indexmap.specs.Entry.{map_with_value, entry_map_ref, entry_value}
use Rattle.indexmap.proofs.EntryLemmas.{vacant_value}
use Rattle.cg_kinds.specs.Pairs.{pairs_of}
use Rattle.cg_kinds.proofs.PairLemmas.{lookup-packed, insert-packed}
use Rattle.cg_kinds.proofs.TableLemmas.{none_some}
use Rattle.cg_kinds.proofs.table.put_in.Goals as goal

pub returns-in-Ok-Occupied-clause-ok : goal.returns-in-Ok-Occupied-clause-ok
returns-in-Ok-Occupied-clause-ok c =
    let packed = c.new-packed.result in
    ap (λ m. pairs_of m.entries) (c.map-in-Ok-Occupied-1.given.1 (sym (ap (λ e. (entry_map_ref e).ghost_name) (sym c.in-Ok-Occupied.field-0-is) ∙ c.in-Ok-Occupied.ensures.same_map)))
    ∙ ap (λ e. pairs_of (map_with_value e packed).entries) (sym c.in-Ok-Occupied.field-0-is)
    ∙ ap pairs_of (c.in-Ok-Occupied.ensures.update.1 packed)
    ∙ insert-packed c.args.key c.new.result c.args.val packed c.new.ensures c.new-packed.ensures c.args.map.now.entries

pub returns-in-Ok-Occupied-clause-replaced : goal.returns-in-Ok-Occupied-clause-replaced
returns-in-Ok-Occupied-clause-replaced c =
    ap Some c.val-was.ensures
    ∙ sym c.into_mut-value.ensures.value
    ∙ ap entry_value (sym c.in-Ok-Occupied.field-0-is)
    ∙ c.in-Ok-Occupied.ensures.value
    ∙ lookup-packed c.args.key c.new.result c.new.ensures c.args.map.now.entries

pub returns-in-Ok-Vacant-clause-ok : goal.returns-in-Ok-Vacant-clause-ok
returns-in-Ok-Vacant-clause-ok c =
    let packed = c.new-packed.result in
    ap (λ m. pairs_of m.entries)
    (c.map-in-Ok-Vacant-1.given.1 (sym (c.insert_entry.ensures.0 ∙ ap (λ e. (entry_map_ref e).ghost_name) (sym c.in-Ok-Vacant.field-0-is)
    ∙ c.in-Ok-Vacant.ensures.same_map)) ∙ c.insert_entry.ensures.1)
    ∙ ap (λ e. pairs_of (map_with_value e packed).entries) (sym c.in-Ok-Vacant.field-0-is)
    ∙ ap pairs_of (c.in-Ok-Vacant.ensures.update.1 packed)
    ∙ insert-packed c.args.key c.new.result c.args.val packed c.new.ensures c.new-packed.ensures c.args.map.now.entries

pub returns-in-Ok-Vacant-clause-replaced : goal.returns-in-Ok-Vacant-clause-replaced
returns-in-Ok-Vacant-clause-replaced c =
    sym (vacant_value c.in-Ok-Vacant.place)
    ∙ ap entry_value (sym c.in-Ok-Vacant.field-0-is)
    ∙ c.in-Ok-Vacant.ensures.value
    ∙ lookup-packed c.args.key c.new.result c.new.ensures c.args.map.now.entries

pub returns-in-Err-clause-present : goal.returns-in-Err-clause-present
returns-in-Err-clause-present c = λ some.
    absurd (none_some (subst IsSome (sym (lookup-packed c.args.key c.new.result c.new.ensures c.args.map.now.entries) ∙ c.in-Err.ensures.absent) some))
