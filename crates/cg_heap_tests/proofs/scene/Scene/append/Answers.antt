use Rattle.cg_heap_tests.proofs.Scenes.{backed_appended}
use Rattle.cg_heap_tests.proofs.scene.Scene.append.Goals as goal

pub invariant_of-self : goal.invariant_of-self
invariant_of-self g c = backed_appended c.self.inside.heap c.append.new.self c.self.inside.held.items c.self.inside.count c.self.inside.names c.self.invariant
    c.append.result c.args.list _ c.append.ensures.ok c.append.ensures.err
