use Rattle.std.proofs.Common.{Ok}
use Rattle.std.proofs.lemmas.Result.{err_from_is_err_and}
use Rattle.cg_commands.specs.declared.done.Done.TheVariants as done
use Rattle.cg_commands.proofs.FirstRefusal.{stops_second, goes_on}
use Rattle.cg_commands.proofs.Steps.{at_object}
use Rattle.cg_commands.proofs.QueryLemmas.{calls-performs}
use Rattle.cg_commands.proofs.frames.call.Goals as goal

pub returns-in_err-target : goal.returns-in_err-target
returns-in_err-target g c =
    let p = err_from_is_err_and c.from_residual.result c.from_residual.ensures.1 in rw (p.1, p.2) (stops_second _ _ _ _ _ _ c.in_err-target.ensures.err)

pub returns : goal.returns
returns g c =
    goes_on _ _ _ _ _ _ (Ok (done.Calls c.in_ok-target.target)) c.in_ok-target.ensures.ok
    (at_object _ _ _ _ _ c.in_ok-target.ensures.there _ _ _ (Ok (done.Calls c.in_ok-target.target)) (calls-performs c.args.heap.now c.args.locals.now c.in_ok-target.target))
