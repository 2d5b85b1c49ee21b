use Rattle.std.proofs.Common.{subst, List, ℕ, ◌∙◌}
use Rattle.cg_io.specs.Causes.{AppendsFront}
use Rattle.cg_weakcoll.specs.Expansion.{expansion}
use Rattle.cg_cli.specs.Expansions.{expansion_text, first_bad_text}
use Rattle.cg_cli.proofs.expand.expand_in_hand.Goals as goal

pub returns-in-Ok-clause-write : goal.returns-in-Ok-clause-write
returns-in-Ok-clause-write g c = λ e. record {
  text = expansion c.args.bytes.now;
  row = expansion_text c.requires.few c.in-Ok.ensures.good;
  wrote = subst (λ (t : List ℕ). AppendsFront (g.K.Sink.written c.args.sink.now) (g.K.Sink.written c.tell_text.new.sink) t) (c.as_slice.ensures.value
      ∙ c.in-Ok.ensures.ok) (c.tell_text.ensures.write e);
}

pub returns-in-Err-Bad-clause-bad_script : goal.returns-in-Err-Bad-clause-bad_script
returns-in-Err-Bad-clause-bad_script g c =
    let l = c.in-Err-Bad.line-is in
    let k = c.in-Err-Bad.code-is in
    λ e. record {
      few = c.requires.few;
      number = c.in-Err-Bad.line;
      code = c.in-Err-Bad.code;
      fault = (rw c.in-Err-Bad.field-0-is at c.in-Err-Bad.ensures.fault);
      wrote = rw (l, k) at (c.tell_bad_script.ensures.bad e);
    }

pub returns-in-Err-Bad-clause-write : goal.returns-in-Err-Bad-clause-write
returns-in-Err-Bad-clause-write g c =
    let l = c.in-Err-Bad.line-is in
    let k = c.in-Err-Bad.code-is in
    λ e. record {
      text = _;
      row = first_bad_text c.in-Err-Bad.line c.in-Err-Bad.code c.requires.few (rw c.in-Err-Bad.field-0-is at c.in-Err-Bad.ensures.fault);
      wrote = rw (l, k) at (c.tell_bad_script.ensures.write e);
    }
