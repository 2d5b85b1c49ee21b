use Rattle.cg_heap_tests.proofs.Scenes.{backed_detach}
use Rattle.cg_heap_tests.proofs.scene.Scene.detach.Goals as goal

pub invariant_of-self : goal.invariant_of-self
invariant_of-self g c = backed_detach c.self.inside.heap c.detach.new.self c.self.inside.held.items c.self.inside.count c.self.inside.names c.self.invariant
    c.keep.new.held.items c.args.object c.in-Some.entry c.sound.ensures.live c.in-Some.ensures.last c.in-Some.ensures.rest c.keep.ensures

pub invariant_of-self-in-Some : goal.invariant_of-self-in-Some
invariant_of-self-in-Some g c = backed_detach c.self.inside.heap c.detach.new.self c.self.inside.held.items c.self.inside.count c.self.inside.names
    c.self.invariant c.keep.new.held.items c.args.object c.in-Some.entry c.sound.ensures.live c.in-Some.ensures.last c.in-Some.ensures.rest c.keep.ensures
