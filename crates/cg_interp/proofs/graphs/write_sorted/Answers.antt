use Rattle.cg_interp.proofs.GraphText.{given_err, on_err}
use Rattle.cg_interp.proofs.LineByLine.{after_front, longer_front}
use Rattle.cg_interp.proofs.graphs.write_sorted.Goals as goal

pub returns-in_err-write_all_at-clause-err : goal.returns-in_err-write_all_at-clause-err
returns-in_err-write_all_at-clause-err g c = given_err _ _ (longer_front _ _ _ _ c.in_err-write_all_at.ensures.err)

pub returns-in_err-write_all_at-2-clause-err : goal.returns-in_err-write_all_at-2-clause-err
returns-in_err-write_all_at-2-clause-err g c = given_err _ _ (after_front _ _ _ _ _ c.in_ok-write_all_at.ensures.ok (longer_front _ _ _ _ c.in_err-write_all_at-2.ensures.err))

pub returns-clause-err : goal.returns-clause-err
returns-clause-err g c = on_err _ _ _ (λ part. after_front _ _ _ _ _ c.in_ok-write_all_at.ensures.ok (after_front _ _ _ _ _ c.in_ok-write_all_at-2.ensures.ok part)) c.write_all_at-3.ensures.err
