use Rattle.std.proofs.Common.{◌≡◌, ◌∙◌, ap, map}
use Rattle.std.proofs.lemmas.List.{take_all}
use Rattle.cg_graph.specs.Value.{item}
use Rattle.cg_kinds.proofs.ItemLemmas.{items-values}
use Rattle.cg_kinds.proofs.packed.packed_values_of.Goals as goal

pub returns : goal.returns
returns c =
    let values : c.loop-part.values.items ≡ map (λ e. e.val) c.args.parts.now = c.loop-part.invariant ∙ ap (map (λ e. e.val)) (take_all _ _ c.loop-part-test.false) in
    ap (map item) values ∙ items-values c.args.parts.now c.requires
