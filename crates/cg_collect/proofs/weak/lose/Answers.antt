use Rattle.std.proofs.Common.{◌∙◌, [], ◌∷◌, false, subst, sym, ap}
use Rattle.cg_graph.specs.Store.{IsLive}
use Rattle.cg_graph.specs.Changes.{held}
use Rattle.cg_heap.specs.Weak.{cleared_weak}
use Rattle.cg_heap.proofs.CallerLemmas.{lives_on, kinds-held}
use Rattle.cg_collect.proofs.weak.lose.Goals as goal

pub move_to-requires-clause-live : goal.move_to-requires-clause-live
move_to-requires-clause-live g c =
    subst (λ st. IsLive st c.args.weak) (sym (c.hold.ensures ∙ ap (held (c.args.weak ∷ [])) c.clear_weak.ensures))
    (lives_on (cleared_weak c.args.weak false c.args.heap.now) (held (c.args.weak ∷ []) (cleared_weak c.args.weak false c.args.heap.now))
    (kinds-held (c.args.weak ∷ []) (cleared_weak c.args.weak false c.args.heap.now)) c.args.weak c.requires.live)
