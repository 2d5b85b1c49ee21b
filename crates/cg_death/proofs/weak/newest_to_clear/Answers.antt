use Rattle.std.proofs.Common.{◌∙◌}
use Rattle.cg_machine.specs.Weak.{has_weak_references}
use Rattle.cg_death.proofs.Querying.{those-if, none-if, newest-is, supports-at, not-supports-at}
use Rattle.cg_death.proofs.weak.newest_to_clear.Goals as goal

pub returns-in-Inst-clause-newest : goal.returns-in-Inst-clause-newest
returns-in-Inst-clause-newest g c =
    c.newest_of.ensures
    ∙ those-if c.args.heap.now c.args.object c.sound.ensures.rows has_weak_references (supports-at c.args.heap.now c.args.object c.kind_of.result c.requires c.kind_of.ensures c.in-Inst.is)

pub returns-in-Inst-clause-refers : goal.returns-in-Inst-clause-refers
returns-in-Inst-clause-refers g c = (newest-is c.args.heap.now c.args.object c.sound.ensures.rows c.newest_of.result c.newest_of.ensures).0

pub returns-in-Inst-clause-live : goal.returns-in-Inst-clause-live
returns-in-Inst-clause-live g c = (newest-is c.args.heap.now c.args.object c.sound.ensures.rows c.newest_of.result c.newest_of.ensures).1

pub returns-in_default : goal.returns-in_default
returns-in_default g c = record {
  newest = none-if c.args.heap.now c.args.object c.sound.ensures.rows has_weak_references (not-supports-at c.args.heap.now c.args.object c.kind_of.result
      c.requires c.kind_of.ensures c.in_default.not-Inst c.in_default.not-Func);
  refers = tt;
  live = tt;
}
