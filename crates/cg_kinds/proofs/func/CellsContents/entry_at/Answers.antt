use Rattle.std.proofs.Common.{◌∙◌, ◌<◌, ap, sym, map, Some, get_or, length, arith}
use Rattle.std.proofs.lemmas.List.{length-map}
use Rattle.cg_value.specs.declared.Val.TheVariants.{None as Nothing}
use Rattle.cg_graph.specs.Value.{item}
use Rattle.cg_kinds.specs.declared.func.Cell.{Cell}
use Rattle.cg_kinds.proofs.ItemLemmas.{item-at}
use Rattle.cg_kinds.proofs.func.CellsContents.entry_at.Goals as goal

pub returns : goal.returns
returns c =
    let cells = c.args.self.now.cells.items in
    let blank : Cell = record { 0 = Nothing } in
    let within : c.args.i < length cells = omega (arith, c.requires, length-map cells (λ x. x.0), length-map (map (λ x. x.0) cells) item) in
    item-at (λ x. x.0) cells c.args.i blank within
    ∙ ap Some (ap (λ xs. item ((get_or xs c.args.i blank).0)) (sym c.deref.ensures.0) ∙ sym c.item_of.ensures)
