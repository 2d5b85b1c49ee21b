use Rattle.std.proofs.Common.{◌≡◌, ◌∙◌, ap, sym}
use Rattle.std.proofs.lemmas.Bool.{eq-eqb, eqb-true}
use Rattle.cg_weak.specs.Table.{rows_of}
use Rattle.cg_weak.proofs.RowLists.{none-rows_of, some-rows_of}
use Rattle.cg_weak.proofs.table.WeakTable.is_empty.Goals as goal

pub returns : goal.returns
returns c =
    let nodes = c.self.inside.nodes.entries in
    let view : rows_of nodes ≡ c.args.self.now.rows = ap (λ t. t.rows) c.self.view_is in (
      λ none. sym view ∙ none-rows_of nodes (sym c.len.ensures.len ∙ eqb-true c.len.result 0 none),
      λ none. eq-eqb c.len.result 0 (c.len.ensures.len ∙ some-rows_of nodes (view ∙ none)),
    )
