use Rattle.std.proofs.Common.{None, Ok, Err}
use Rattle.std.proofs.Math.Facts.{to_z-of_z}
use Rattle.std.proofs.lemmas.Result.{err_from_is_err_and}
use Rattle.cg_commands.specs.declared.done.Done.TheVariants as done
use Rattle.cg_commands.proofs.FirstRefusal.{stops_second, goes_on}
use Rattle.cg_commands.proofs.Steps.{at_index, past_index}
use Rattle.cg_commands.proofs.EntryLemmas.{takes, can_take, has_list}
use Rattle.cg_commands.proofs.entries.del_item.Goals as goal

pub returns-in_err-target : goal.returns-in_err-target
returns-in_err-target g c =
    let p = err_from_is_err_and c.from_residual.result c.from_residual.ensures.1 in rw (p.1, p.2) (stops_second _ _ _ _ _ _ c.in_err-target.ensures.err)

pub returns-in_err-i : goal.returns-in_err-i
returns-in_err-i g c =
    let p = err_from_is_err_and c.from_residual-in_err-i.result c.from_residual-in_err-i.ensures.1 in rw (p.1, p.2)
    (goes_on _ _ _ _ _ _ (Err c.in_err-i.field-0.0) c.in_ok-target.ensures.ok
    (past_index _ _ _ _ _ c.in_ok-target.ensures.there _ _ _ (to_z-of_z c.ranges.index) _ c.in_err-i.ensures.err c.in_err-i.ensures.none _))

pub take_near-entry-requires-clause-can : goal.take_near-entry-requires-clause-can
take_near-entry-requires-clause-can g c = can_take c.args.heap.now _ (has_list _ _ _ c.in_ok-target.ensures.there)

pub returns : goal.returns
returns g c =
    goes_on _ _ _ _ _ _ (Ok (done.Changed None c.take_near-entry.result)) c.in_ok-target.ensures.ok
    (at_index _ _ _ _ _ c.in_ok-target.ensures.there _ _ _ (to_z-of_z c.ranges.index) _ c.in_ok-i.ensures.ok _ c.take_near-entry.ensures.entry _ _ (Ok (done.Changed None c.take_near-entry.result))
    (takes _ c.sound.ensures _ _ _ _ c.in_ok-target.ensures.there _ _ _ c.take_near-entry.ensures.entry c.take_near-entry.ensures.rest))
