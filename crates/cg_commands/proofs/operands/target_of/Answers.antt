use Rattle.std.proofs.Common.{refl, ◌∙◌, ap, Ok}
use Rattle.std.proofs.lemmas.Result.{err_from_is_err_and, IfOk-weaker, IfErr-weaker}
use Rattle.cg_commands.proofs.FirstRefusal.{declines_then, declines_after}
use Rattle.cg_commands.proofs.operands.target_of.Goals as goal

pub returns-in_err-val-clause-err : goal.returns-in_err-val-clause-err
returns-in_err-val-clause-err g c =
    let p = err_from_is_err_and c.from_residual.result c.from_residual.ensures.1 in rw (p.1, p.2) (λ w s. declines_then _ _ _ (c.in_err-val.ensures.err w s))

pub returns-clause-ok : goal.returns-clause-ok
returns-clause-ok g c = IfOk-weaker c.object_near.result _ _ (λ o there w s. c.in_ok-val.ensures.ok w s ∙ ap (λ v. Ok v) there.refers) c.object_near.ensures.ok

pub returns-clause-there : goal.returns-clause-there
returns-clause-there g c = IfOk-weaker c.object_near.result _ _ (λ o there. record { node = there.node; refers = refl; found = there.found; passes = there.passes }) c.object_near.ensures.ok

pub returns-clause-err : goal.returns-clause-err
returns-clause-err g c = IfErr-weaker c.object_near.result _ _ (λ r declines w s. declines_after _ _ _ _ (c.in_ok-val.ensures.ok w s) (declines w s.represents)) c.object_near.ensures.err
