use Rattle.std.proofs.Common.{◌∙◌, ap, sym}
use Rattle.indexmap.proofs.SetLemmas.{map-remove}
use Rattle.cg_kinds.specs.Pairs.{pair_entry, pairs_of}
use Rattle.cg_kinds.proofs.TableLemmas.{entry-pair}
use Rattle.cg_kinds.proofs.table.shift_out.Goals as goal

pub returns-clause-entry : goal.returns-clause-entry
returns-clause-entry c = c.entry_of.ensures ∙ entry-pair c.args.map.now.entries c.args.index (c.in-Some.key, c.in-Some.val) (sym c.in-Some.ensures.entry)

pub returns-clause-rest : goal.returns-clause-rest
returns-clause-rest c = ap pairs_of c.in-Some.ensures.entries ∙ map-remove pair_entry c.args.map.now.entries c.args.index
