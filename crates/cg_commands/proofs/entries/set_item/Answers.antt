use Rattle.std.proofs.Common.{None, Ok, Err}
use Rattle.std.proofs.Math.Facts.{to_z-of_z}
use Rattle.std.proofs.lemmas.Option.{slice_get-get_or}
use Rattle.std.proofs.lemmas.Result.{err_from_is_err_and, IfOk-at_ok}
use Rattle.cg_graph.specs.Store.{entries_of}
use Rattle.cg_graph.specs.Value.{item}
use Rattle.cg_commands.specs.declared.done.Done.TheVariants as done
use Rattle.cg_commands.proofs.FirstRefusal.{stops, stops_second, goes_on_two}
use Rattle.cg_commands.proofs.Steps.{at_index, past_index}
use Rattle.cg_commands.proofs.EntryLemmas.{is_list_there, has_script_list, not_garbage, can_put_item}
use Rattle.cg_commands.proofs.PutLemmas.{never_ok, index_is, sets, sets-there}
use Rattle.cg_commands.proofs.entries.set_item.Goals as goal

pub returns-in_err-list : goal.returns-in_err-list
returns-in_err-list g c =
    let p = err_from_is_err_and c.from_residual.result c.from_residual.ensures.1 in rw (p.1, p.2) (stops_second _ _ _ _ _ _ c.in_err-list.ensures.err)

pub returns-in_err-target : goal.returns-in_err-target
returns-in_err-target g c =
    let p = err_from_is_err_and c.from_residual-in_err-target.result c.from_residual-in_err-target.ensures.1 in rw (p.1, p.2)
    (goes_on_two _ _ _ _ _ _ _ _ (Err c.in_err-target.field-0.0) c.in_ok-list.ensures.first c.in_ok-list.ensures.second
    (stops _ _ _ _ _ (λ w s. c.in_err-target.ensures.err w s.represents)))

pub returns-in_err-_i : goal.returns-in_err-_i
returns-in_err-_i g c =
    let p = err_from_is_err_and c.from_residual-in_err-_i.result c.from_residual-in_err-_i.ensures.1 in rw (p.1, p.2)
    (goes_on_two _ _ _ _ _ _ _ _ (Err c.in_err-_i.field-0.0) c.in_ok-list.ensures.first c.in_ok-list.ensures.second
    (past_index _ _ _ _ _ c.in_ok-target.ensures.ok _ _ _ (to_z-of_z c.ranges.index) _ c.in_err-_i.ensures.err c.in_err-_i.ensures.none _))

pub put_if-requires-clause-other : goal.put_if-requires-clause-other
put_if-requires-clause-other g c = λ has. not_garbage _ _ _ c.in_ok-target.ensures.ok

pub put_if-requires-clause-can : goal.put_if-requires-clause-can
put_if-requires-clause-can g c = λ has. can_put_item _ _ _ c.in_ok-target.ensures.ok _ _ ((index_is _ _ _ c.in_ok-_i.ensures.ok).0) c.in_ok-_i.ensures.below

pub returns-in-Some-Ok : goal.returns-in-Some-Ok
returns-in-Some-Ok g c =
    let here = slice_get-get_or (entries_of c.args.heap.now c.in_ok-target.target) c.in_ok-_i._i (item c.in_ok-list.val) c.in_ok-_i.ensures.below in
    goes_on_two _ _ _ _ _ _ _ _ (Ok (done.Changed None c.given_up.result)) c.in_ok-list.ensures.first c.in_ok-list.ensures.second
    (at_index _ _ _ _ _ c.in_ok-target.ensures.ok _ _ _ (to_z-of_z c.ranges.index) _ c.in_ok-_i.ensures.ok _ here _ _ (Ok (done.Changed None c.given_up.result))
    (sets _ c.sound.ensures _ _ _ _ c.in_ok-target.ensures.ok (is_list_there _ _ _ c.in_ok-target.ensures.ok) _ _ _ ((index_is _ _ _ c.in_ok-_i.ensures.ok).0) here _ _ _ _ c.in_ok-_i.ensures.below
    (IfOk-at_ok _ c.in-Some-Ok.field-0-is c.in-Some-Ok.ensures.ok) (IfOk-at_ok _ c.in-Some-Ok.field-0-is c.in-Some-Ok.ensures.replaced) c.given_up.ensures))

pub returns-in-Some-Err : goal.returns-in-Some-Err
returns-in-Some-Err g c =
    let here = slice_get-get_or (entries_of c.args.heap.now c.in_ok-target.target) c.in_ok-_i._i (item c.in_ok-list.val) c.in_ok-_i.ensures.below in
    absurd (never_ok _ _ c.in-Some-Err.field-0-is
    (c.in-Some-Err.ensures.present (sets-there _ c.sound.ensures c.args.locals.now _ _ _ c.in_ok-target.ensures.ok (is_list_there _ _ _ c.in_ok-target.ensures.ok) _ _ _
    ((index_is _ _ _ c.in_ok-_i.ensures.ok).0) here)))

pub unreachable-requires : goal.unreachable-requires
unreachable-requires g c =
    absurd (c.in-None.ensures.other.0 (has_script_list _ _ _ c.in_ok-target.ensures.ok))
