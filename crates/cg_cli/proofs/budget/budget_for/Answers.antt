use Rattle.std.proofs.Common.{ap, ◌∙◌}
use Rattle.std.specs.Prelude.{unwrap_or}
use Rattle.cg_cli.proofs.Budgets.{few_frames}
use Rattle.cg_cli.proofs.budget.budget_for.Goals as goal

pub returns-clause-few : goal.returns-clause-few
returns-clause-few c =
    few_frames c.args.given c.args.script.now c.unwrap_or-2.result c.requires.given c.requires.spelled
    (c.unwrap_or-2.ensures ∙ ap (unwrap_or c.args.given) (c.unwrap_or.ensures ∙ ap (λ o. unwrap_or o 10000) c.budget.ensures))
