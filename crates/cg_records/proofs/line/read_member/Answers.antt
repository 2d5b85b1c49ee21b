use Rattle.cg_records.proofs.Lines.{no_degree, no_mark}
use Rattle.cg_records.proofs.Options.{if_none}
use Rattle.cg_records.proofs.line.read_member.Goals as goal

pub returns-in_err-degree-clause-none : goal.returns-in_err-degree-clause-none
returns-in_err-degree-clause-none c =
    if_none _ _ (no_degree c.args.bytes.now c.in_ok-serial.rest.now c.in_ok-serial.serial c.in_ok-serial.ensures.fits c.in_ok-serial.ensures.found c.in_err-degree.ensures.none)

pub returns-in_err-mark-clause-none : goal.returns-in_err-mark-clause-none
returns-in_err-mark-clause-none c =
    if_none _ _
    (no_mark c.args.bytes.now c.in_ok-serial.rest.now c.in_ok-serial.serial c.in_ok-serial.ensures.fits c.in_ok-serial.ensures.found c.in_ok-degree.rest.now
    c.in_ok-degree.degree c.in_ok-degree.ensures.fits
    c.in_ok-degree.ensures.found c.in_err-mark.ensures.none)
