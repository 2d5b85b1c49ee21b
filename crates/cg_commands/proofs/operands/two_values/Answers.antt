use Rattle.std.proofs.lemmas.Result.{err_from_is_err_and}
use Rattle.cg_commands.proofs.FirstRefusal.{declines_then, declines_after}
use Rattle.cg_commands.proofs.operands.two_values.Goals as goal

pub returns-in_err-val-clause-err : goal.returns-in_err-val-clause-err
returns-in_err-val-clause-err g c =
    let p = err_from_is_err_and c.from_residual.result c.from_residual.ensures.1 in rw (p.1, p.2) (λ w s. declines_then _ _ _ (c.in_err-val.ensures.err w s))

pub returns-in_err-next-clause-err : goal.returns-in_err-next-clause-err
returns-in_err-next-clause-err g c =
    let p = err_from_is_err_and c.from_residual-in_err-next.result c.from_residual-in_err-next.ensures.1 in rw (p.1, p.2)
    (λ w s. declines_after _ _ _ _ (c.in_ok-val.ensures.ok w s) (c.in_err-next.ensures.err w s))
