use Rattle.cg_heap_tests.proofs.Scenes.{backed_gone}
use Rattle.cg_heap_tests.proofs.scene.Scene.free.Goals as goal

pub invariant_of-self : goal.invariant_of-self
invariant_of-self g c = backed_gone c.self.inside.heap c.free.new.self c.self.inside.held.items c.self.inside.count c.self.inside.names c.self.invariant
    c.args.object c.assert_unheld.ensures c.free.ensures
