use Rattle.cg_heap_tests.proofs.Scenes.{backed_take}
use Rattle.cg_heap_tests.proofs.scene.Scene.take.Goals as goal

pub invariant_of-self : goal.invariant_of-self
invariant_of-self g c = backed_take c.self.inside.heap c.take-entry.new.self c.self.inside.held.items c.self.inside.count c.self.inside.names c.self.invariant
    c.keep.new.held.items c.args.object c.args.i c.take-entry.result c.sound.ensures.live c.take-entry.ensures.entry c.take-entry.ensures.rest c.keep.ensures

pub invariant_of-self-2 : goal.invariant_of-self-2
invariant_of-self-2 g c = backed_take c.self.inside.heap c.take-entry.new.self c.self.inside.held.items c.self.inside.count c.self.inside.names c.self.invariant
    c.keep.new.held.items c.args.object c.args.i c.take-entry.result c.sound.ensures.live c.take-entry.ensures.entry c.take-entry.ensures.rest c.keep.ensures
