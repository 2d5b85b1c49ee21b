use Rattle.std.proofs.Common.{◌∙◌, sym, ap}
use Rattle.std.specs.Prelude.{◌||◌}
use Rattle.cg_value.specs.declared.Place.TheVariants.{Cand, Seen}
use Rattle.cg_graph.specs.Object.{same_place}
use Rattle.cg_represents.proofs.Places.{place_differs}
use Rattle.cg_collect.proofs.Walking.{condemned-at}
use Rattle.cg_collect.proofs.weak.is_condemned.Goals as goal

pub returns-in-Cand : goal.returns-in-Cand
returns-in-Cand g c = sym (condemned-at c.args.heap.now c.args.object ∙ ap (λ p. same_place p Cand || same_place p Seen) (sym c.place_of.ensures ∙ c.in-Cand.is))

pub returns-in-Seen : goal.returns-in-Seen
returns-in-Seen g c = sym (condemned-at c.args.heap.now c.args.object ∙ ap (λ p. same_place p Cand || same_place p Seen) (sym c.place_of.ensures ∙ c.in-Seen.is))

pub returns-in_default : goal.returns-in_default
returns-in_default g c =
    sym (condemned-at c.args.heap.now c.args.object
    ∙ ap (λ p. same_place p Cand || same_place p Seen) (sym c.place_of.ensures)
    ∙ (λ i. place_differs c.place_of.result Cand c.in_default.not-Cand i || place_differs c.place_of.result Seen c.in_default.not-Seen i))
