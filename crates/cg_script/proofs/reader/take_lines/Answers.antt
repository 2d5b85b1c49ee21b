use Rattle.std.proofs.Common.{sym, ap, subst, ◌∙◌, arith}
use Rattle.cg_script.specs.Pieces.{lines_of}
use Rattle.cg_script.specs.Faults.{IsFault}
use Rattle.cg_script.specs.Reading.{Reading}
use Rattle.cg_script.specs.Views.{reading_after}
use Rattle.cg_script.proofs.Lines.{no_line}
use Rattle.cg_script.proofs.reader.take_lines.Goals as goal

pub lines-preserved : goal.lines-preserved
lines-preserved c = record {
  same = c.in-Ok-take_line.ensures.ok (lines_of c.cut_line-printable.result.1.now)
      ∙ sym (ap (reading_after c.lines.draft c.lines.number) c.cut_line-printable.ensures.lines)
      ∙ c.lines.invariant.same;
  room = omega (arith, c.cut_line-printable.ensures.room, c.clear.ensures.capacity, c.lines.invariant.room);
  small = c.in-Ok-take_line.ensures.small;
}

pub returns-in-Err-clause-fault : goal.returns-in-Err-clause-fault
returns-in-Err-clause-fault c =
    subst (λ (w : Reading). IsFault c.in-Err.fault w)
    (sym (ap (reading_after c.lines.draft c.lines.number) c.cut_line-printable.ensures.lines) ∙ c.lines.invariant.same)
    (c.in-Err.ensures.fault (lines_of c.cut_line-printable.result.1.now))

pub returns-clause-ok : goal.returns-clause-ok
returns-clause-ok c = ap (reading_after c.lines.draft c.lines.number) (sym (no_line c.lines.rest.now (sym c.lines-test.false ∙ c.is_empty.ensures))) ∙ c.lines.invariant.same
