use Rattle.std.proofs.lemmas.Result.{err_from_is_err_and}
use Rattle.cg_commands.specs.Answers.{gives}
use Rattle.cg_commands.proofs.FirstRefusal.{stops_second, goes_on_two}
use Rattle.cg_commands.proofs.entries.set_attr.Goals as goal

pub returns-in_err-holder : goal.returns-in_err-holder
returns-in_err-holder g c =
    let p = err_from_is_err_and c.from_residual.result c.from_residual.ensures.1 in rw (p.1, p.2) (stops_second _ _ _ _ _ _ c.in_err-holder.ensures.err)

pub returns : goal.returns
returns g c =
    goes_on_two _ _ _ _ _ _ _ _ (gives c.put_under.result) c.in_ok-holder.ensures.first c.in_ok-holder.ensures.second (c.put_under.ensures c.args.locals.now)
