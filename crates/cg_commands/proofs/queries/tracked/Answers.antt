use Rattle.std.proofs.Common.{Ok}
use Rattle.std.proofs.lemmas.Result.{err_from_is_err_and}
use Rattle.cg_machine.specs.declared.event.Event.TheVariants as event
use Rattle.cg_graph.specs.Object.{is_tracked}
use Rattle.cg_commands.proofs.FirstRefusal.{stops, goes_on}
use Rattle.cg_commands.proofs.QueryLemmas.{prints-told}
use Rattle.cg_commands.proofs.queries.tracked.Goals as goal

pub returns-in_err-val : goal.returns-in_err-val
returns-in_err-val g c =
    let p = err_from_is_err_and c.from_residual.result c.from_residual.ensures.1 in rw (p.1, p.2) (stops _ _ _ _ _ c.in_err-val.ensures.err)

pub returns : goal.returns
returns g c = goes_on _ _ _ _ _ _ (Ok c.told.result) c.in_ok-val.ensures.ok (prints-told _ _ event.Tracked is_tracked _ _ c.is_tracked-answer.ensures _ c.told.ensures)
