use Rattle.std.proofs.Common.{[], ◌∷◌, subst, sym}
use Rattle.cg_graph.specs.Store.{IsLive}
use Rattle.cg_graph.specs.Changes.{unheld}
use Rattle.cg_heap.proofs.CallerLemmas.{lives_on, kinds-unheld}
use Rattle.cg_heap.proofs.HoldLemmas.{outside_live}
use Rattle.cg_death.specs.Turns.{LeavesTheRest}
use Rattle.cg_death.proofs.LeavingTheRest.{rest-unheld}
use Rattle.cg_death.proofs.release.give_up.Goals as goal

pub returns-then-unhold-clause-leaves : goal.returns-then-unhold-clause-leaves
returns-then-unhold-clause-leaves g c = subst (LeavesTheRest c.args.heap.now) (sym (c.unhold.ensures.less)) (rest-unheld (c.args.object ∷ []) c.args.heap.now)

pub returns-else-unhold-clause-leaves : goal.returns-else-unhold-clause-leaves
returns-else-unhold-clause-leaves g c = subst (LeavesTheRest c.args.heap.now) (sym (c.unhold.ensures.less)) (rest-unheld (c.args.object ∷ []) c.args.heap.now)

pub returns-then-unhold-clause-died : goal.returns-then-unhold-clause-died
returns-then-unhold-clause-died g c = record {
  live = subst (λ st. IsLive st c.args.object) (sym c.unhold.ensures.less) (lives_on c.args.heap.now (unheld (c.args.object ∷ []) c.args.heap.now)
      (kinds-unheld (c.args.object ∷ []) c.args.heap.now) c.args.object (outside_live c.args.heap.now c.args.object c.requires));
  none = c.unhold.ensures.none.0 c.if-unhold.true;
}
