use Rattle.std.proofs.Common.{refl, inr}
use Rattle.std.proofs.lemmas.Result.{err_from_is_err_and}
use Rattle.cg_script.specs.declared.command.Operand.TheVariants as operand
use Rattle.cg_commands.proofs.Inspecting.{not_inspected, no_memory_for, tells_reason}
use Rattle.cg_commands.proofs.inspections.why.Goals as goal

pub returns-in_err-target : goal.returns-in_err-target
returns-in_err-target g c =
    let p = err_from_is_err_and c.from_residual.result c.from_residual.ensures.1 in rw (p.1, p.2) (not_inspected _ _ _ (operand.Name c.args.name) _ _ c.in_err-target.ensures.err)

pub returns-in_default : goal.returns-in_default
returns-in_default g c = no_memory_for _ _ _ _ _ _ c.in_ok-target.ensures.ok (λ w s. inr (_, refl))

pub returns-in_default-explanation : goal.returns-in_default-explanation
returns-in_default-explanation g c = no_memory_for _ _ _ _ _ _ c.in_ok-target.ensures.ok (λ w s. inr (_, refl))

pub returns : goal.returns
returns g c = tells_reason _ _ _ _ _ _ c.in_ok-target.ensures.ok (λ w. refl) _ c.in-Ok.ensures _ c.in-Ok-explanation.ensures
