use Rattle.std.proofs.Common.{◌∙◌, ap, true}
use Rattle.cg_weak.proofs.Newest.{newest_at}
use Rattle.cg_weak.proofs.table.WeakTable.newest_waiting.Goals as goal

pub returns : goal.returns
returns c =
    ap (λ k. k.waiting.newest) c.chains_at.ensures
    ∙ newest_at c.self.inside.nodes.entries c.args.self.now.rows (ap (λ t. t.rows) c.self.view_is) c.self.inside.chains.entries c.self.invariant (c.args.referent, true)
