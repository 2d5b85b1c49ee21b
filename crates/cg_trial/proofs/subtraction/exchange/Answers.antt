use Rattle.std.proofs.Common.{sym, ◌∙◌}
use Rattle.cg_trial.specs.View.{view_of}
use Rattle.cg_trial.proofs.EffectsOfCalls.{number_told}
use Rattle.cg_trial.proofs.Exchanges.{exchanging_first, exchanging_at, exchanging_live, exchanging_more, exchanging_shorter, exchanged_stop, exchanged_all}
use Rattle.cg_trial.proofs.subtraction.exchange.Goals as goal

pub numbered-init : goal.numbered-init
numbered-init g c = exchanging_first _ _ _ c.move_all.ensures c.first_near-cursor.ensures

pub head_near-requires : goal.head_near-requires
head_near-requires g c = let so = exchanging_at (view_of c.args.heap.now) (view_of c.numbered.heap) _ _ c.numbered.invariant c.in-Some.is in
    exchanging_live _ _ _ so c.requires

pub returns-then-head_near-eq0 : goal.returns-then-head_near-eq0
returns-then-head_near-eq0 g c = let so = exchanging_at (view_of c.args.heap.now) (view_of c.numbered.heap) _ _ c.numbered.invariant c.in-Some.is in
    exchanged_stop _ _ _ so c.requires (sym (number_told c.numbered.heap _ _ (exchanging_live _ _ _ so c.requires) c.head_near.ensures.number) ∙ c.if-head_near-eq0.true)

pub move_last-requires-clause-live : goal.move_last-requires-clause-live
move_last-requires-clause-live g c = let so = exchanging_at (view_of c.args.heap.now) (view_of c.numbered.heap) _ _ c.numbered.invariant c.in-Some.is in
    exchanging_live _ _ _ so c.requires

pub numbered-smaller : goal.numbered-smaller
numbered-smaller g c = let so = exchanging_at (view_of c.args.heap.now) (view_of c.numbered.heap) _ _ c.numbered.invariant c.in-Some.is in
    exchanging_shorter _ _ _ so c.requires (λ z. c.if-head_near-eq0.false (number_told c.numbered.heap _ _ (exchanging_live _ _ _ so c.requires)
    c.head_near.ensures.number ∙ z)) (view_of c.move_last.new.heap) c.move_last.ensures

pub numbered-preserved : goal.numbered-preserved
numbered-preserved g c = let so = exchanging_at (view_of c.args.heap.now) (view_of c.numbered.heap) _ _ c.numbered.invariant c.in-Some.is in
    exchanging_more _ _ _ so c.requires (λ z. c.if-head_near-eq0.false (number_told c.numbered.heap _ _ (exchanging_live _ _ _ so c.requires)
    c.head_near.ensures.number ∙ z)) (view_of c.move_last.new.heap) c.move_last.ensures _ c.first_near-cursor-in-Some.ensures

pub returns : goal.returns
returns g c = exchanged_all (view_of c.args.heap.now) (view_of c.numbered.heap) _ c.numbered.invariant c.in_default.is
