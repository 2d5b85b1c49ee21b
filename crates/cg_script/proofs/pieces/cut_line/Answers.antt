use Rattle.std.proofs.Common.{sym}
use Rattle.cg_script.proofs.Cuts.{line_at, line_is_printable, last_line, last_is_printable, odd_line}
use Rattle.cg_script.proofs.pieces.cut_line.Goals as goal

pub returns-then-bytes-i-eq10-clause-lines : goal.returns-then-bytes-i-eq10-clause-lines
returns-then-bytes-i-eq10-clause-lines c = line_at c.in-Some.i c.args.bytes.now (sym c.in-Some.ensures.place) c.if-bytes-i-eq10.true

pub returns-then-bytes-i-eq10-clause-printable : goal.returns-then-bytes-i-eq10-clause-printable
returns-then-bytes-i-eq10-clause-printable c = sym (line_is_printable c.in-Some.i c.args.bytes.now (sym c.in-Some.ensures.place))

pub returns-else-bytes-i-eq10-clause-printable : goal.returns-else-bytes-i-eq10-clause-printable
returns-else-bytes-i-eq10-clause-printable c = sym (odd_line c.in-Some.i c.args.bytes.now c.cut.result.0.now _ (sym c.in-Some.ensures.place) c.if-bytes-i-eq10.false c.cut.ensures.pieces)

pub returns-in-None-clause-lines : goal.returns-in-None-clause-lines
returns-in-None-clause-lines c = last_line c.args.bytes.now c.requires.some (sym c.in-None.ensures.place)

pub returns-in-None-clause-printable : goal.returns-in-None-clause-printable
returns-in-None-clause-printable c = sym (last_is_printable c.args.bytes.now (sym c.in-None.ensures.place))
