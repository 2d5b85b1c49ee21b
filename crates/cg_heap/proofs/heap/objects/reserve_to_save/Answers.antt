use Rattle.cg_heap.proofs.Saves.{can_already}
use Rattle.cg_heap.proofs.heap.objects.reserve_to_save.Goals as goal

pub returns-then-objects-clause-ok : goal.returns-then-objects-clause-ok
returns-then-objects-clause-ok g c = can_already _ c.args.boxes.now c.args.objects c.if-objects.true c.requires.can
