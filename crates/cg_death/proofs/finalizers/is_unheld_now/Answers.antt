use Rattle.std.proofs.Common.{[], ◌∷◌, subst, sym}
use Rattle.cg_graph.specs.Store.{IsLive}
use Rattle.cg_graph.specs.Changes.{unheld}
use Rattle.cg_heap.proofs.HoldLemmas.{outside_live}
use Rattle.cg_heap.proofs.CallerLemmas.{lives_on, kinds-unheld}
use Rattle.cg_death.proofs.finalizers.is_unheld_now.Goals as goal

pub move_to-requires-clause-live : goal.move_to-requires-clause-live
move_to-requires-clause-live g c =
    subst (λ st. IsLive st c.args.object) (sym c.unhold.ensures.less)
    (lives_on c.args.heap.now (unheld (c.args.object ∷ []) c.args.heap.now) (kinds-unheld (c.args.object ∷ []) c.args.heap.now) c.args.object (outside_live c.args.heap.now c.args.object c.requires))
