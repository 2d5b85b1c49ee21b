use Rattle.std.proofs.Common.{sym, append-nil}
use Rattle.std.proofs.lemmas.Result.{on_ok_weaker}
use Rattle.cg_interp.proofs.LineByLine.{put_behind, gathers_all}
use Rattle.cg_interp.proofs.writing.make_room.Goals as goal

pub returns-then-remaining_capacity-ge-LONGEST_LINE-clause-ok : goal.returns-then-remaining_capacity-ge-LONGEST_LINE-clause-ok
returns-then-remaining_capacity-ge-LONGEST_LINE-clause-ok g c = put_behind _ _ _ _ (sym (append-nil c.args.text.now.bytes))

pub returns-clause-ok : goal.returns-clause-ok
returns-clause-ok g c = on_ok_weaker _ (gathers_all _ _ _ _ _ (put_behind _ _ _ _ (sym (append-nil c.args.text.now.bytes))) _ _ c.write_text.ensures.all) c.write_text.ensures.ok
