use Rattle.std.proofs.Common.{Err}
use Rattle.std.proofs.Math.Facts.{to_z-of_z}
use Rattle.std.proofs.lemmas.Result.{err_from_is_err_and}
use Rattle.cg_commands.specs.Answers.{gives}
use Rattle.cg_commands.proofs.FirstRefusal.{stops_second, goes_on}
use Rattle.cg_commands.proofs.Reading.{live-value_in}
use Rattle.cg_commands.proofs.Steps.{at_index, past_index}
use Rattle.cg_commands.proofs.lookups.item.Goals as goal

pub returns-in_err-target : goal.returns-in_err-target
returns-in_err-target g c =
    let p = err_from_is_err_and c.from_residual.result c.from_residual.ensures.1 in rw (p.1, p.2) (stops_second _ _ _ _ _ _ c.in_err-target.ensures.err)

pub returns-in_err-found : goal.returns-in_err-found
returns-in_err-found g c =
    let p = err_from_is_err_and c.from_residual-in_err-found.result c.from_residual-in_err-found.ensures.1 in rw (p.1, p.2)
    (goes_on _ _ _ _ _ _ (Err c.in_err-found.field-0.0) c.in_ok-target.ensures.ok
    (past_index _ _ _ _ _ c.in_ok-target.ensures.there _ _ _ (to_z-of_z c.ranges.index) _ c.in_err-found.ensures.err c.in_err-found.ensures.none _))

pub bind_to-requires-clause-live : goal.bind_to-requires-clause-live
bind_to-requires-clause-live g c = live-value_in _ c.sound.ensures _ _ _ c.in_ok-found.ensures.entry

pub returns : goal.returns
returns g c =
    goes_on _ _ _ _ _ _ (gives c.bind_to.result) c.in_ok-target.ensures.ok
    (at_index _ _ _ _ _ c.in_ok-target.ensures.there _ _ _ (to_z-of_z c.ranges.index) _ c.in_ok-found.ensures.ok _ c.in_ok-found.ensures.entry _ _ (gives c.bind_to.result) c.bind_to.ensures)
