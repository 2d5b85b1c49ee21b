use Rattle.std.proofs.Common.{◌∙◌, ◌++◌, ap, sym, take}
use Rattle.cg_graph.specs.Value.{entry_references}
use Rattle.cg_kinds.proofs.TableLemmas.{entry-pair}
use Rattle.cg_kinds.proofs.table.note_pair_at.Goals as goal

pub returns-clause-noted : goal.returns-clause-noted
returns-clause-noted c =
    c.note_pair.ensures.noted
    ∙ ap (λ e. take c.args.count c.args.found.now ++ entry_references e) (entry-pair c.args.map.now.entries c.args.index (c.in-Some.key.now, c.in-Some.val.now) (sym c.in-Some.ensures.entry))
