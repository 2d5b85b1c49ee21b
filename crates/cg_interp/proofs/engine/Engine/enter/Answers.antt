use Rattle.std.proofs.Common.{sym, subst, ap, arith, refl}
use Rattle.std.specs.Prelude.{IfSome, option_to_list}
use Rattle.cg_graph.specs.Store.{IsLive}
use Rattle.cg_heap.specs.Calls.{HasFewHolds}
use Rattle.cg_interp.specs.Engines.{StandsFor}
use Rattle.cg_interp.proofs.FrameLemmas.{enters, still_live, when_called}
use Rattle.cg_death.specs.Answers.{MakesNone}
use Rattle.cg_death.proofs.ObjectNumbers.{none-held}
use Rattle.cg_interp.proofs.RoomStays.{keeps_pushed}
use Rattle.cg_interp.proofs.engine.Engine.enter.Goals as goal

pub hold_if-requires-clause-few : goal.hold_if-requires-clause-few
hold_if-requires-clause-few g c = when_called (HasFewHolds c.self.inside.heap) _ c.called.result c.called.ensures.call (λ is. subst (λ e. HasFewHolds e.store) (sym c.self.view_is) (c.requires.few is))

pub hold_if-requires-clause-live : goal.hold_if-requires-clause-live
hold_if-requires-clause-live g c =
    still_live (λ f. IsLive c.self.inside.heap f) _ c.called.result c.args.spec.func c.called.ensures.only c.called.ensures.call
    (λ is. subst (λ e. IfSome c.args.spec.func (λ f. IsLive e.store f)) (sym c.self.view_is) (c.requires.live is))

pub returns-clause-starts : goal.returns-clause-starts
returns-clause-starts g c = λ script w stands.
    enters script _ _ c.args.spec w (subst (λ e. StandsFor script e w) (sym c.self.view_is) stands) c.called.result
    (omega (arith, c.requires.budget, ap (λ e. e.budget) c.self.view_is)) c.called.ensures.holds
    (still_live (λ f. IsLive c.self.inside.heap f) _ c.called.result c.args.spec.func c.called.ensures.only c.called.ensures.call
    (λ is. subst (λ e. IfSome c.args.spec.func (λ f. IsLive e.store f)) (sym c.self.view_is) (c.requires.live is)))
    c.hold_if.ensures refl c.push.ensures.top refl

pub returns-clause-keeps : goal.returns-clause-keeps
returns-clause-keeps g c = keeps_pushed _ _ _ _ c.self.view_is (subst (MakesNone c.self.inside.heap) (sym c.hold_if.ensures)
    (none-held (option_to_list c.called.result) c.self.inside.heap)) c.push.ensures.top c.push.ensures.room refl
