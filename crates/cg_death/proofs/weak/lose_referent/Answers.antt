use Rattle.std.proofs.Common.{[], ◌∷◌, subst, sym}
use Rattle.cg_graph.specs.Store.{IsLive}
use Rattle.cg_graph.specs.Changes.{held}
use Rattle.cg_heap.proofs.CallerLemmas.{lives_on, kinds-held}
use Rattle.cg_death.proofs.weak.lose_referent.Goals as goal

pub clear_weak-requires-clause-live : goal.clear_weak-requires-clause-live
clear_weak-requires-clause-live g c =
    subst (λ st. IsLive st c.args.weak) (sym c.hold.ensures)
    (lives_on c.args.heap.now (held (c.args.weak ∷ []) c.args.heap.now) (kinds-held (c.args.weak ∷ []) c.args.heap.now) c.args.weak c.requires.live)
