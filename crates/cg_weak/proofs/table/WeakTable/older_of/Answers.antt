use Rattle.std.proofs.Common.{ap, not}
use Rattle.cg_weak.proofs.RowLists.{found_there}
use Rattle.cg_weak.proofs.Newest.{node_there, older_than}
use Rattle.cg_weak.proofs.table.WeakTable.older_of.Goals as goal

pub node_at-requires : goal.node_at-requires
node_at-requires c =
    node_there c.self.inside.nodes.entries c.args.self.now.rows (ap (λ t. t.rows) c.self.view_is) c.args.weak
    (found_there (λ r. not r.waits) c.args.self.now.rows c.args.weak c.requires)

pub returns : goal.returns
returns c =
    older_than c.self.inside.nodes.entries c.args.self.now.rows (ap (λ t. t.rows) c.self.view_is) c.self.inside.chains.entries c.self.invariant
    c.args.weak c.node_at.result c.node_at.ensures c.requires
