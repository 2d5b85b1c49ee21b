use Rattle.std.proofs.Common.{sym, ◌∙◌, ap}
use Rattle.std.specs.Option.{option_copied}
use Rattle.cg_weak.proofs.Newest.{rows_rise, referent_none, referent_waits, referent_some}
use Rattle.cg_weak.proofs.table.WeakTable.referent_of.Goals as goal

pub returns-in_err-node-clause-referent : goal.returns-in_err-node-clause-referent
returns-in_err-node-clause-referent c =
    c.from_residual.ensures
    ∙ referent_none c.self.inside.nodes.entries c.args.self.now.rows (ap (λ t. t.rows) c.self.view_is) c.args.weak
    (sym c.get.ensures.value ∙ ap option_copied c.in_err-node.was)

pub returns-in_err-node-clause-rising : goal.returns-in_err-node-clause-rising
returns-in_err-node-clause-rising c = rows_rise c.self.inside.nodes.entries c.args.self.now.rows (ap (λ t. t.rows) c.self.view_is)

pub returns-then-node-clause-referent : goal.returns-then-node-clause-referent
returns-then-node-clause-referent c =
    referent_waits c.self.inside.nodes.entries c.args.self.now.rows (ap (λ t. t.rows) c.self.view_is) c.args.weak c.in_ok-node.node.now
    (sym c.get.ensures.value ∙ ap option_copied c.in_ok-node.was) c.if-node.true

pub returns-then-node-clause-rising : goal.returns-then-node-clause-rising
returns-then-node-clause-rising c = rows_rise c.self.inside.nodes.entries c.args.self.now.rows (ap (λ t. t.rows) c.self.view_is)

pub returns-else-node-clause-referent : goal.returns-else-node-clause-referent
returns-else-node-clause-referent c =
    referent_some c.self.inside.nodes.entries c.args.self.now.rows (ap (λ t. t.rows) c.self.view_is) c.args.weak c.in_ok-node.node.now
    (sym c.get.ensures.value ∙ ap option_copied c.in_ok-node.was) c.if-node.false

pub returns-else-node-clause-rising : goal.returns-else-node-clause-rising
returns-else-node-clause-rising c = rows_rise c.self.inside.nodes.entries c.args.self.now.rows (ap (λ t. t.rows) c.self.view_is)
