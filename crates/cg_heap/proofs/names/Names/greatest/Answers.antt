use Rattle.std.proofs.Common.{◌-◌, Some, None, ap, sym, subst, ◌∙◌}
use Rattle.std.proofs.Math.ListN.{get_or-map}
use Rattle.cg_heap.specs.Calls.{IsGreatestBound}
use Rattle.cg_heap.proofs.NameLemmas.{found, passed, none_left}
use Rattle.cg_heap.proofs.names.Names.greatest.Goals as goal

pub returns-then-is_some-clause-greatest : goal.returns-then-is_some-clause-greatest
returns-then-is_some-clause-greatest c = subst (λ ns. IsGreatestBound ns (Some (c.down.self-inside.upper - 1))) c.self.view_is
    (found c.down.invariant c.down-test.true _ (ap (λ b. b.val) c.index.ensures ∙ sym (get_or-map (λ b. b.val) c.down.self-inside.names.items
    (c.down.self-inside.upper - 1) c.index.result.now)) c.if-is_some.ensures)

pub down-preserved : goal.down-preserved
down-preserved c = passed c.down.invariant c.down-test.true _ (ap (λ b. b.val) c.index.ensures ∙ sym (get_or-map (λ b. b.val) c.down.self-inside.names.items
    (c.down.self-inside.upper - 1) c.index.result.now)) c.if-is_some.ensures

pub returns-clause-greatest : goal.returns-clause-greatest
returns-clause-greatest c = subst (λ ns. IsGreatestBound ns None) c.self.view_is (none_left c.down.invariant c.down-test.false)
