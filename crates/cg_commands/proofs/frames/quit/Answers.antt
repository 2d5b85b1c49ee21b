use Rattle.std.proofs.Common.{Ok}
use Rattle.std.proofs.lemmas.Result.{err_from_is_err_and}
use Rattle.cg_commands.specs.declared.done.Done.TheVariants as done
use Rattle.cg_commands.proofs.FirstRefusal.{stops, goes_on}
use Rattle.cg_commands.proofs.QueryLemmas.{quits-performs, stays-performs}
use Rattle.cg_commands.proofs.frames.quit.Goals as goal

pub returns-in_err-val : goal.returns-in_err-val
returns-in_err-val g c =
    let p = err_from_is_err_and c.from_residual.result c.from_residual.ensures.1 in rw (p.1, p.2) (stops _ _ _ _ _ c.in_err-val.ensures.err)

pub returns-in-None : goal.returns-in-None
returns-in-None g c = goes_on _ _ _ _ _ _ (Ok done.Quits) c.in_ok-val.ensures.ok (quits-performs _ _ _ c.in-None.is)

pub returns-in_default : goal.returns-in_default
returns-in_default g c = goes_on _ _ _ _ _ _ (Ok c.told.result) c.in_ok-val.ensures.ok (stays-performs _ _ _ c.in_default.not-None _ c.told.ensures)
