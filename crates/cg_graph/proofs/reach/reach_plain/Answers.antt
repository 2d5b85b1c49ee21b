use Rattle.std.proofs.Common.{ℕ, List, subst}
use Rattle.std.specs.Prelude.{◌↔◌}
use Rattle.std.proofs.lemmas.Result.{IfOk-weaker}
use Rattle.cg_graph.specs.Member.{Includes}
use Rattle.cg_graph.proofs.PlainReach.{spreads_first, spreads_more, spreads_all}
use Rattle.cg_graph.proofs.reach.reach_plain.Goals as goal

pub turns-init : goal.turns-init
turns-init c = spreads_first _ _ _ _ _ c.in_ok-found.ensures c.in_ok-rest.ensures

pub turns-preserved : goal.turns-preserved
turns-preserved c =
    spreads_more _ _ _ _ _ _ _ c.deref.result.now c.deref-in-turns.result.now _ _ _ c.turns.invariant c.deref.ensures.value c.deref-in-turns.ensures.value c.next_of.ensures c.in-Some.is
    c.remove-object.ensures.value c.in_ok-push.ensures.items c.remove-object.ensures.items

pub returns-clause-members : goal.returns-clause-members
returns-clause-members c =
    IfOk-weaker c.rising.result _ _
    (λ list same. spreads_all _ _ _ c.turns.found.items c.turns.rest.items c.deref.result.now c.deref-in-turns.result.now list.items _ c.turns.invariant
    c.deref.ensures.value c.deref-in-turns.ensures.value c.next_of.ensures c.in_default.is
    (λ o. subst (λ (xs : List ℕ). Includes list.items o ↔ Includes xs o) c.deref-2.ensures.value (same o)))
    c.rising.ensures.same
