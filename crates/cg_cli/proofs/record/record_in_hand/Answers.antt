use Rattle.std.proofs.Common.{inl, inr}
use Rattle.cg_cli.specs.Recordings.{records_front, bad_front}
use Rattle.cg_cli.proofs.record.record_in_hand.Goals as goal

pub returns-in-Ok-clause-write : goal.returns-in-Ok-clause-write
returns-in-Ok-clause-write g c = λ e. records_front (record { few = c.requires.few; script = c.in-Ok.script; spelled = c.in-Ok.ensures.ok; wrote = c.record_parsed.ensures.part e })

pub returns-in-Ok-clause-memory : goal.returns-in-Ok-clause-memory
returns-in-Ok-clause-memory g c = λ e. elim (c.record_parsed.ensures.memory e) [
  | inl kept ↦ inl kept
  | inr part ↦ inr (record { few = c.requires.few; script = c.in-Ok.script; spelled = c.in-Ok.ensures.ok; wrote = part })
]

pub returns-in-Err-Bad-clause-bad_script : goal.returns-in-Err-Bad-clause-bad_script
returns-in-Err-Bad-clause-bad_script g c =
    let l = c.in-Err-Bad.line-is in
    let k = c.in-Err-Bad.code-is in
    λ e. record {
      few = c.requires.few;
      number = c.in-Err-Bad.line;
      code = c.in-Err-Bad.code;
      fault = (rw c.in-Err-Bad.field-0-is at c.in-Err-Bad.ensures.fault);
      wrote = rw (l, k) at (c.tell_bad_script.ensures.bad e);
    }

pub returns-in-Err-Bad-clause-write : goal.returns-in-Err-Bad-clause-write
returns-in-Err-Bad-clause-write g c =
    let l = c.in-Err-Bad.line-is in
    let k = c.in-Err-Bad.code-is in
    λ e. bad_front c.in-Err-Bad.line c.in-Err-Bad.code c.requires.few (rw c.in-Err-Bad.field-0-is at c.in-Err-Bad.ensures.fault) (rw (l, k) at (c.tell_bad_script.ensures.write e))
