use Rattle.std.proofs.lemmas.Result.{err_from_is_err_and}
use Rattle.cg_commands.specs.Answers.{gives}
use Rattle.cg_commands.proofs.FirstRefusal.{stops_second, goes_on}
use Rattle.cg_commands.proofs.Steps.{at_object}
use Rattle.cg_commands.proofs.LookupLemmas.{deref-live, bound-referent}
use Rattle.cg_commands.proofs.lookups.deref.Goals as goal

pub returns-in_err-target : goal.returns-in_err-target
returns-in_err-target g c =
    let p = err_from_is_err_and c.from_residual.result c.from_residual.ensures.1 in rw (p.1, p.2) (stops_second _ _ _ _ _ _ c.in_err-target.ensures.err)

pub bind_to-requires-clause-live : goal.bind_to-requires-clause-live
bind_to-requires-clause-live g c = deref-live _ c.sound.ensures _ _ c.in-Some.ensures

pub returns-in-Some : goal.returns-in-Some
returns-in-Some g c =
    goes_on _ _ _ _ _ _ (gives c.bind_to.result) c.in_ok-target.ensures.ok
    (at_object _ _ _ _ _ c.in_ok-target.ensures.there _ _ _ (gives c.bind_to.result)
    (bound-referent _ _ _ _ _ _ (gives c.bind_to.result) c.in-Some.ensures c.bind_to.ensures))

pub returns-in-None : goal.returns-in-None
returns-in-None g c =
    goes_on _ _ _ _ _ _ (gives c.bind_to-in-None.result) c.in_ok-target.ensures.ok
    (at_object _ _ _ _ _ c.in_ok-target.ensures.there _ _ _ (gives c.bind_to-in-None.result)
    (bound-referent _ _ _ _ _ _ (gives c.bind_to-in-None.result) c.in-None.ensures c.bind_to-in-None.ensures))
