use Rattle.std.proofs.Common.{◌∙◌, sym, ap, subst}
use Rattle.cg_interp.specs.Engines.{State, lowered}
use Rattle.cg_interp.specs.Telling.{CollectsNext}
use Rattle.cg_interp.proofs.CollectMoves.{engine_of}
use Rattle.cg_interp.proofs.TopCollections.{same_collection}
use Rattle.cg_interp.proofs.engine.Engine.collect_on_top.Goals as goal

pub collect_on-requires : goal.collect_on-requires
collect_on-requires g c =
    let (asked, on) = c.requires.stands in
    let inside : State = engine_of c.self.inside.heap c.self.inside.policy c.self.inside.stack c.self.inside.budget c.self.inside.first_budget in
    let top_is = ap (λ (e : State). e.activities) c.self.view_is ∙ on.top in
    let lent = c.collection_on_top_mut-collection.result.now in
    let same = same_collection c.self.inside.stack.activities on.below asked on.collection lent top_is c.collection_on_top_mut-collection.ensures.value in
    record {
      stands = (
        asked,
        lowered on.below inside,
        subst (λ k. CollectsNext c.args.script.now asked k (lowered on.below inside)) (sym same)
            (subst (λ (e : State). CollectsNext c.args.script.now asked on.collection (lowered on.below e)) (sym c.self.view_is) on.next),
      );
    }
