use Rattle.std.proofs.Common.{◌≡◌, None, Some, false, refl, sym, ◌∙◌, ap, subst}
use Rattle.cg_weak.specs.declared.nodes.Node.{Node}
use Rattle.cg_weak.specs.declared.chains.Chains.{Chains}
use Rattle.cg_weak.specs.Chains.{ends_joined}
use Rattle.cg_weak.specs.Table.{chain_at, below, IsLast}
use Rattle.cg_weak.proofs.Fields.{tied}
use Rattle.cg_weak.proofs.Steps.{no_node, nothing_above, newest_below, come_rows, come_fields}
use Rattle.cg_weak.proofs.table.WeakTable.attach_reserved.Goals as goal

pub returns-clause-rows : goal.returns-clause-rows
returns-clause-rows c =
    let older = c.chains_at-chains.result.current.newest in
    let n : Node = record { referent = c.args.referent; waits = false; newer = None; older = older } in
    come_rows c.self.inside.nodes.entries c.args.self.now.rows (ap (λ t. t.rows) c.self.view_is) c.args.weak c.requires.newest c.join.new.nodes.entries n refl
    (λ v. c.join.ensures.nodes v ∙ ap (tied None (Some c.args.weak) older (Some c.args.weak) v) (c.add_node.ensures.nodes v))

pub invariant_of-self : goal.invariant_of-self
invariant_of-self c =
    let older = c.chains_at-chains.result.current.newest in
    let n : Node = record { referent = c.args.referent; waits = false; newer = None; older = older } in
    come_fields c.self.inside.nodes.entries c.join.new.nodes.entries c.args.weak n c.self.inside.chains.entries c.add_chains.new.chains.entries c.with.result
    (no_node c.self.inside.nodes.entries c.args.self.now.rows (ap (λ t. t.rows) c.self.view_is) c.args.weak c.requires.newest)
    c.self.invariant
    (nothing_above c.self.inside.nodes.entries c.args.self.now.rows (ap (λ t. t.rows) c.self.view_is) c.args.weak c.requires.newest (c.args.referent, false))
    (newest_below c.self.inside.nodes.entries c.args.self.now.rows (ap (λ t. t.rows) c.self.view_is) c.args.weak c.requires.newest (c.args.referent, false) older
    (subst (λ (k : Chains). IsLast below (λ v. chain_at c.self.inside.nodes.entries v ≡ Some (c.args.referent, false)) k.current.newest)
    (sym c.chains_at-chains.ensures) (c.self.invariant.newest (c.args.referent, false))))
    (λ v. c.join.ensures.nodes v ∙ ap (tied None (Some c.args.weak) older (Some c.args.weak) v) (c.add_node.ensures.nodes v))
    (c.with.ensures
    ∙ (λ i. record {
      current = (c.joined-ends.ensures ∙ ap (λ (k : Chains). ends_joined None c.args.weak older k.current) c.chains_at-chains.ensures) i;
      waiting = (c.chains_at-chains.ensures i).waiting;
    }))
    c.add_chains.ensures.chains
