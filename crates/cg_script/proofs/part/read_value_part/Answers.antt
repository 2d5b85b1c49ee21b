use Rattle.std.proofs.Common.{sym, ◌∙◌}
use Rattle.cg_script.specs.declared.part.Part.TheVariants.{Value}
use Rattle.cg_script.specs.Words.{is_value}
use Rattle.cg_script.proofs.ReadWords.{read_as, not_read_as}
use Rattle.cg_script.proofs.part.read_value_part.Goals as goal

pub returns-in-Some-clause-part : goal.returns-in-Some-clause-part
returns-in-Some-clause-part c = read_as Value (is_value c.args.word.now) c.in-Some.operand _ (sym c.in-Some.is ∙ c.in_ok-operand.ensures.operand)

pub returns-in-None-clause-part : goal.returns-in-None-clause-part
returns-in-None-clause-part c = not_read_as (is_value c.args.word.now) _ _ (sym c.in-None.is ∙ c.in_ok-operand.ensures.operand)
