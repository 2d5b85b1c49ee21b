use Rattle.std.proofs.lemmas.Result.{on_ok_weaker, on_err_weaker}
use Rattle.cg_interp.proofs.LineByLine.{gathers_all, cut_all}
use Rattle.cg_interp.proofs.writing.write_turn.Goals as goal

pub returns-clause-ok : goal.returns-clause-ok
returns-clause-ok g c = on_ok_weaker _ (gathers_all _ _ _ _ _ c.in_ok-gather_turn.ensures.ok _ _ c.write_text.ensures.all) c.write_text.ensures.ok

pub returns-clause-err : goal.returns-clause-err
returns-clause-err g c = on_err_weaker _ (cut_all _ _ _ _ _ c.in_ok-gather_turn.ensures.ok _) c.write_text.ensures.err
