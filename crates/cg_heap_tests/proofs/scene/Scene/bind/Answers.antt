use Rattle.cg_heap_tests.proofs.Scenes.{backed_named}
use Rattle.cg_heap_tests.proofs.scene.Scene.bind.Goals as goal

pub invariant_of-self : goal.invariant_of-self
invariant_of-self g c = backed_named c.self.inside.heap c.bind.new.self c.self.inside.held.items c.self.inside.count c.self.inside.names c.self.invariant
    c.args.name c.bind.result _ c.bind.ensures.rest
