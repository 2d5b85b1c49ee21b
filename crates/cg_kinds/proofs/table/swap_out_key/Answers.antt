use Rattle.std.proofs.Common.{◌∙◌, ap, sym, Some}
use Rattle.cg_kinds.proofs.PairLemmas.{find-packed, lookup-packed}
use Rattle.cg_kinds.proofs.TableLemmas.{entry_found, swapped-out}
use Rattle.cg_kinds.proofs.table.swap_out_key.Goals as goal

pub returns-in-Some-clause-index : goal.returns-in-Some-clause-index
returns-in-Some-clause-index c = c.in-Some.ensures.index ∙ find-packed c.args.key c.new.result c.new.ensures c.args.map.now.entries

pub returns-in-Some-clause-entry : goal.returns-in-Some-clause-entry
returns-in-Some-clause-entry c =
    let pairs = c.args.map.now.entries in
    entry_found pairs c.args.key c.in-Some.index c.val.result
    (sym (find-packed c.args.key c.new.result c.new.ensures pairs) ∙ sym c.in-Some.ensures.index)
    (sym (lookup-packed c.args.key c.new.result c.new.ensures pairs) ∙ sym c.in-Some.ensures.value ∙ ap Some (sym c.val.ensures))

pub returns-in-Some-clause-rest : goal.returns-in-Some-clause-rest
returns-in-Some-clause-rest c =
    swapped-out c.args.map.now.entries c.swap_remove_full.new.self.entries c.args.key c.new.result c.in-Some.index c.new.ensures (sym c.in-Some.ensures.index) c.in-Some.ensures.entries

pub returns-in-None-clause-index : goal.returns-in-None-clause-index
returns-in-None-clause-index c = c.in-None.ensures.index ∙ find-packed c.args.key c.new.result c.new.ensures c.args.map.now.entries
