use Rattle.cg_cli.specs.Statuses.{run_text, bad_text}
use Rattle.cg_cli.proofs.run.run_in_hand.Goals as goal

pub returns-in-Ok-clause-write : goal.returns-in-Ok-clause-write
returns-in-Ok-clause-write g c = λ e.
    let p = c.run_parsed.ensures.part e in
    record { text = _; row = run_text c.in-Ok.script p.outcome p.steps c.requires.few c.in-Ok.ensures.ok p.whole; wrote = p.written }

pub returns-in-Err-Bad-clause-bad_script : goal.returns-in-Err-Bad-clause-bad_script
returns-in-Err-Bad-clause-bad_script g c =
    let l = c.in-Err-Bad.line-is in
    let k = c.in-Err-Bad.code-is in
    λ e. record {
      few = c.requires.few;
      number = c.in-Err-Bad.line;
      code = c.in-Err-Bad.code;
      fault = (rw c.in-Err-Bad.field-0-is at c.in-Err-Bad.ensures.fault);
      wrote = rw (l, k) at (c.tell_bad_script.ensures.bad e);
    }

pub returns-in-Err-Bad-clause-write : goal.returns-in-Err-Bad-clause-write
returns-in-Err-Bad-clause-write g c =
    let l = c.in-Err-Bad.line-is in
    let k = c.in-Err-Bad.code-is in
    λ e. record {
      text = _;
      row = bad_text c.in-Err-Bad.line c.in-Err-Bad.code c.requires.few (rw c.in-Err-Bad.field-0-is at c.in-Err-Bad.ensures.fault);
      wrote = rw (l, k) at (c.tell_bad_script.ensures.write e);
    }
