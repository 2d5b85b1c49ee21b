use Rattle.std.proofs.Common.{None, Ok, Err}
use Rattle.std.proofs.lemmas.Result.{IfErr-at_err}
use Rattle.cg_commands.specs.declared.done.Done.TheVariants.{Changed}
use Rattle.cg_commands.specs.Refusals.{refusal_by}
use Rattle.cg_commands.proofs.Steps.{at_object}
use Rattle.cg_commands.proofs.EntryLemmas.{keyed_there, refuses_value, refuses_other, keyed_not_garbage, can_put}
use Rattle.cg_commands.proofs.PutLemmas.{puts-performs, puts-refused}
use Rattle.cg_commands.proofs.keys.put_under.Goals as goal

pub returns-in_default : goal.returns-in_default
returns-in_default g c = λ locals. refuses_value _ _ _ locals _ c.in_default.not-Ref

pub put_if-requires-clause-other : goal.put_if-requires-clause-other
put_if-requires-clause-other g c = λ has. keyed_not_garbage _ _ _ _ c.in-Ref.is _ c.code.ensures has c.sound.ensures

pub put_if-requires-clause-can : goal.put_if-requires-clause-can
put_if-requires-clause-can g c = λ has. can_put c.args.heap.now _ _ _ c.in-Ref.is _ c.code.ensures has _

pub returns-in-Some-Ok : goal.returns-in-Some-Ok
returns-in-Some-Ok g c = λ locals.
    at_object _ _ _ _ _ (keyed_there _ _ _ _ c.in-Ref.is _ c.code.ensures c.in-Some-Ok.ensures.kind) _ _ _ (Ok (Changed None c.given_up.result))
    (puts-performs _ c.sound.ensures _ _ _ _ c.code.ensures c.in-Some-Ok.ensures.kind _ _ _ _ c.in-Some-Ok.field-0-is c.in-Some-Ok.ensures.limit _
    c.in-Some-Ok.ensures.ok c.in-Some-Ok.ensures.replaced _ c.given_up.ensures)

pub returns-in-Some-Err : goal.returns-in-Some-Err
returns-in-Some-Err g c = λ locals.
    rw c.refusal_by.ensures (at_object _ _ _ _ _ (keyed_there _ _ _ _ c.in-Ref.is _ c.code.ensures c.in-Some-Err.ensures.kind) _ _ _ (Err (refusal_by c.in-Some-Err.fault))
    (puts-refused _ c.sound.ensures _ _ _ _ c.code.ensures c.in-Some-Err.ensures.kind _ _ _ _ c.in-Some-Err.field-0-is c.in-Some-Err.ensures.limit
    c.in-Some-Err.ensures.objects c.in-Some-Err.ensures.present _ (IfErr-at_err _ c.in-Some-Err.field-0-is c.in-Some-Err.ensures.err)))

pub returns-in-None : goal.returns-in-None
returns-in-None g c = λ locals. rw (c.in-None.ensures.other.1) (refuses_other _ _ _ _ c.in-Ref.is _ c.code.ensures locals _ c.requires.live c.in-None.ensures.other.0)
