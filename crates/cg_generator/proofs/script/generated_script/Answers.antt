use Rattle.std.proofs.Common.{◌∙◌}
use Rattle.cg_generator.proofs.Blocks.{spelled_script, known_script}
use Rattle.cg_generator.proofs.script.generated_script.Goals as goal

pub returns-clause-spelled : goal.returns-clause-spelled
returns-clause-spelled c = spelled_script c.in_ok-names.names c.in_ok-items.items c.args.blocks c.requires c.in_ok-names.ensures (c.in_ok-items.ensures ∙ c.in_ok-all_items.ensures)

pub returns-clause-known : goal.returns-clause-known
returns-clause-known c = known_script c.in_ok-names.names c.in_ok-items.items c.args.blocks c.in_ok-names.ensures (c.in_ok-items.ensures ∙ c.in_ok-all_items.ensures)
