use Rattle.cg_heap.specs.Calls.{becomes_tracked}
use Rattle.cg_heap_tests.proofs.Scenes.{backed_put}
use Rattle.cg_heap_tests.proofs.scene.Scene.put.Goals as goal

pub invariant_of-self-2 : goal.invariant_of-self-2
invariant_of-self-2 g c =
    backed_put c.self.inside.heap c.put.new.self c.self.inside.held.items c.self.inside.count c.self.inside.names c.self.invariant
    c.args.object c.args.key c.args.val (becomes_tracked c.self.inside.heap c.args.object c.args.key c.args.val) c.in_ok-replaced.ensures.ok
