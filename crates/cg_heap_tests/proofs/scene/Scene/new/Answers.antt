use Rattle.cg_heap_tests.proofs.Scenes.{backed_first}
use Rattle.cg_heap_tests.proofs.scene.Scene.new.Goals as goal

pub invariant_of-result : goal.invariant_of-result
invariant_of-result g c = backed_first c.in_ok-heap.heap c.new-2.result.items c.args.names c.in_ok-heap.ensures c.new-2.ensures.items
