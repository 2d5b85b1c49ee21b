use Rattle.std.proofs.lemmas.Result.{err_from_is_err_and}
use Rattle.cg_commands.proofs.FirstRefusal.{stops, goes_on}
use Rattle.cg_commands.specs.Answers.{gives}
use Rattle.cg_commands.proofs.bindings.bind.Goals as goal

pub returns-in_err-val : goal.returns-in_err-val
returns-in_err-val g c =
    let p = err_from_is_err_and c.from_residual.result c.from_residual.ensures.1 in rw (p.1, p.2) (stops _ _ _ _ _ c.in_err-val.ensures.err)

pub returns : goal.returns
returns g c = goes_on _ _ _ _ _ _ (gives c.bind_to.result) c.in_ok-val.ensures.ok c.bind_to.ensures
