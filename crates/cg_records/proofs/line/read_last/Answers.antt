use Rattle.cg_records.proofs.Lines.{too_large}
use Rattle.cg_records.proofs.line.read_last.Goals as goal

pub returns-then-most-number-clause-none : goal.returns-then-most-number-clause-none
returns-then-most-number-clause-none c = too_large c.args.bytes.now c.in_ok-number.rest.now c.in_ok-number.number c.args.most c.in_ok-number.ensures.fits
    c.in_ok-number.ensures.found c.if-most-number.true
