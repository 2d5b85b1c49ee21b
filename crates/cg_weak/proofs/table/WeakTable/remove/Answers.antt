use Rattle.std.proofs.Common.{None, ◌∙◌, ap}
use Rattle.std.specs.Prelude.{nat_eq, if◌then◌else◌}
use Rattle.cg_weak.specs.Chains.{with_ends, ends_without, ends_of}
use Rattle.cg_weak.proofs.Newest.{node_there}
use Rattle.cg_weak.specs.Table.{node_in}
use Rattle.cg_weak.proofs.Steps.{chains_there, left_rows, left_fields}
use Rattle.cg_weak.proofs.table.WeakTable.remove.Goals as goal

pub node_at-node-requires : goal.node_at-node-requires
node_at-node-requires c = node_there c.self.inside.nodes.entries c.args.self.now.rows (ap (λ t. t.rows) c.self.view_is) c.args.weak c.requires

pub write_chains-requires : goal.write_chains-requires
write_chains-requires c =
    chains_there (node_in c.self.inside.nodes.entries) c.self.inside.chains.entries c.self.invariant c.args.weak c.node_at-node.result c.node_at-node.ensures

pub invariant_of-self : goal.invariant_of-self
invariant_of-self c =
    left_fields c.self.inside.nodes.entries c.remove_node.new.nodes.entries c.args.weak c.node_at-node.result c.node_at-node.ensures
    (λ v. c.remove_node.ensures.nodes v ∙ ap (λ o. if nat_eq c.args.weak v then None else o) (c.tie.ensures.nodes v))
    c.self.inside.chains.entries c.write_chains.new.chains.entries c.with.result c.self.invariant
    (c.with.ensures
    ∙ (λ i. with_ends c.node_at-node.result.waits
    ((c.without-ends.ensures ∙ ap (ends_without c.node_at-node.result.newer c.node_at-node.result.older) (c.of.ensures ∙ ap (λ k. ends_of k c.node_at-node.result.waits) c.chains_at-chains.ensures)) i)
    (c.chains_at-chains.ensures i)))
    c.write_chains.ensures.chains

pub returns-clause-rows : goal.returns-clause-rows
returns-clause-rows c =
    left_rows c.self.inside.nodes.entries c.remove_node.new.nodes.entries c.args.weak c.node_at-node.result c.node_at-node.ensures
    (λ v. c.remove_node.ensures.nodes v ∙ ap (λ o. if nat_eq c.args.weak v then None else o) (c.tie.ensures.nodes v))
    c.args.self.now.rows (ap (λ t. t.rows) c.self.view_is)
