use Rattle.std.proofs.Common.{sym}
use Rattle.cg_heap.proofs.RowLemmas.{refers_live}
use Rattle.cg_collect.proofs.weak.first_to_look_at.Goals as goal

pub loses_alone-requires-clause-referent_live : goal.loses_alone-requires-clause-referent_live
loses_alone-requires-clause-referent_live g c = (refers_live c.args.heap.now c.sound.ensures.rows c.args.object c.in-Some.referent (sym c.in-Some.ensures.referent)).1

pub newest_looking-requires : goal.newest_looking-requires
newest_looking-requires g c = (refers_live c.args.heap.now c.sound.ensures.rows c.args.object c.in-Some.referent (sym c.in-Some.ensures.referent)).1
