use Rattle.cg_interp.proofs.GraphText.{given_err, on_err}
use Rattle.cg_interp.proofs.LineByLine.{after_front, longer_front}
use Rattle.cg_interp.proofs.recording.write_begun.Goals as goal

pub returns-in_err-write_heading-clause-err : goal.returns-in_err-write_heading-clause-err
returns-in_err-write_heading-clause-err g c = given_err _ _ (longer_front _ _ _ _ c.in_err-write_heading.ensures.err)

pub returns-clause-err : goal.returns-clause-err
returns-clause-err g c = on_err _ _ _ (λ part. after_front _ _ _ _ _ c.in_ok-write_heading.ensures.ok part) c.write_members.ensures.err
