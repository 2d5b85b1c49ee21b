use Rattle.std.proofs.Common.{refl, None, Ok, Err}
use Rattle.std.proofs.lemmas.Result.{err_from_is_err_and}
use Rattle.cg_commands.specs.declared.done.Done.TheVariants as done
use Rattle.cg_commands.specs.Refusals.{refusal_by}
use Rattle.cg_commands.proofs.FirstRefusal.{stops, stops_second, goes_on_two}
use Rattle.cg_commands.proofs.Steps.{at_object}
use Rattle.cg_commands.proofs.EntryLemmas.{appends, has_script_list, not_garbage}
use Rattle.cg_commands.proofs.Limits.{fault-refused}
use Rattle.cg_commands.proofs.entries.append.Goals as goal

pub returns-in_err-list : goal.returns-in_err-list
returns-in_err-list g c =
    let p = err_from_is_err_and c.from_residual.result c.from_residual.ensures.1 in rw (p.1, p.2) (stops_second _ _ _ _ _ _ c.in_err-list.ensures.err)

pub returns-in_err-target : goal.returns-in_err-target
returns-in_err-target g c =
    let p = err_from_is_err_and c.from_residual-in_err-target.result c.from_residual-in_err-target.ensures.1 in rw (p.1, p.2)
    (goes_on_two _ _ _ _ _ _ _ _ (Err c.in_err-target.field-0.0) c.in_ok-list.ensures.first c.in_ok-list.ensures.second
    (stops _ _ _ _ _ (λ w s. c.in_err-target.ensures.err w s.represents)))

pub append_near-requires-clause-list : goal.append_near-requires-clause-list
append_near-requires-clause-list g c = has_script_list _ _ _ c.in_ok-target.ensures.ok

pub append_near-requires-clause-other : goal.append_near-requires-clause-other
append_near-requires-clause-other g c = not_garbage _ _ _ c.in_ok-target.ensures.ok

pub returns-in-Ok : goal.returns-in-Ok
returns-in-Ok g c =
    goes_on_two _ _ _ _ _ _ _ _ (Ok (done.Changed None c.given_up.result)) c.in_ok-list.ensures.first c.in_ok-list.ensures.second
    (at_object _ _ _ _ _ c.in_ok-target.ensures.ok _ _ _ (Ok (done.Changed None c.given_up.result))
    (appends _ c.sound.ensures _ _ _ _ c.in_ok-target.ensures.ok _ _ _ _ c.in-Ok.ensures.ok c.given_up.ensures c.in-Ok.ensures.limit))

pub returns-in-Err : goal.returns-in-Err
returns-in-Err g c =
    rw c.refusal_by.ensures (goes_on_two _ _ _ _ _ _ _ _ (Err (refusal_by c.in-Err.fault)) c.in_ok-list.ensures.first c.in_ok-list.ensures.second
    (at_object _ _ _ _ _ c.in_ok-target.ensures.ok _ _ _ (Err (refusal_by c.in-Err.fault))
    (fault-refused _ _ _ _ _ _ (Err c.in-Err.fault) refl c.in-Err.ensures.limit c.in-Err.ensures.objects _ c.in-Err.ensures.err)))
