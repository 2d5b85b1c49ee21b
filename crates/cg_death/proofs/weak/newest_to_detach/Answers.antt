use Rattle.std.proofs.Common.{◌∙◌, sym}
use Rattle.cg_machine.specs.Dying.{has_finalizers}
use Rattle.cg_death.proofs.Querying.{those-if, none-if, newest-is}
use Rattle.cg_death.proofs.weak.newest_to_detach.Goals as goal

pub returns-then-has_finalizers-clause-newest : goal.returns-then-has_finalizers-clause-newest
returns-then-has_finalizers-clause-newest g c =
    c.newest_of.ensures ∙ those-if c.args.heap.now c.args.object c.sound.ensures.rows (has_finalizers c.args.script.now) (sym c.has_finalizers.ensures ∙ c.if-has_finalizers.true)

pub returns-then-has_finalizers-clause-refers : goal.returns-then-has_finalizers-clause-refers
returns-then-has_finalizers-clause-refers g c = (newest-is c.args.heap.now c.args.object c.sound.ensures.rows c.newest_of.result c.newest_of.ensures).0

pub returns-then-has_finalizers-clause-live : goal.returns-then-has_finalizers-clause-live
returns-then-has_finalizers-clause-live g c = (newest-is c.args.heap.now c.args.object c.sound.ensures.rows c.newest_of.result c.newest_of.ensures).1

pub returns-else-has_finalizers-clause-newest : goal.returns-else-has_finalizers-clause-newest
returns-else-has_finalizers-clause-newest g c =
    none-if c.args.heap.now c.args.object c.sound.ensures.rows (has_finalizers c.args.script.now) (sym c.has_finalizers.ensures ∙ c.if-has_finalizers.false)
