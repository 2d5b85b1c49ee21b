use Rattle.cg_heap_tests.proofs.Scenes.{backed_moved}
use Rattle.cg_heap_tests.proofs.scene.Scene.move_to.Goals as goal

pub invariant_of-self : goal.invariant_of-self
invariant_of-self g c = backed_moved c.self.inside.heap c.move_to.new.self c.self.inside.held.items c.self.inside.count c.self.inside.names c.self.invariant
    c.args.object c.args.place c.move_to.ensures
