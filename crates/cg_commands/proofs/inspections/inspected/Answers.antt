use Rattle.std.proofs.lemmas.Result.{err_from_is_err_and}
use Rattle.cg_commands.proofs.Inspecting.{not_found, in_collection_now, is_inspected}
use Rattle.cg_commands.proofs.inspections.inspected.Goals as goal

pub returns-in_err-target-clause-err : goal.returns-in_err-target-clause-err
returns-in_err-target-clause-err g c =
    let p = err_from_is_err_and c.from_residual.result c.from_residual.ensures.1 in rw (p.1, p.2) (not_found _ _ _ _ _ c.in_err-target.ensures.err)

pub returns-then-running-clause-err : goal.returns-then-running-clause-err
returns-then-running-clause-err g c = in_collection_now _ _ _ _ _ c.in_ok-target.ensures.ok _ c.in_ok-target.ensures.there c.if-running.true

pub returns-clause-ok : goal.returns-clause-ok
returns-clause-ok g c = is_inspected _ _ _ _ _ c.in_ok-target.ensures.ok _ c.in_ok-target.ensures.there c.if-running.false
