use Rattle.cg_heap_tests.proofs.Scenes.{backed_take_key}
use Rattle.cg_heap_tests.proofs.scene.Scene.take_key.Goals as goal

pub invariant_of-self : goal.invariant_of-self
invariant_of-self g c = backed_take_key c.self.inside.heap c.take_key.new.self c.self.inside.held.items c.self.inside.count c.self.inside.names c.self.invariant
    c.keep.new.held.items c.args.object c.args.key c.in-Some.entry c.sound.ensures.live c.in-Some.ensures.entry c.in-Some.ensures.rest c.keep.ensures

pub invariant_of-self-in-Some : goal.invariant_of-self-in-Some
invariant_of-self-in-Some g c = backed_take_key c.self.inside.heap c.take_key.new.self c.self.inside.held.items c.self.inside.count c.self.inside.names
    c.self.invariant c.keep.new.held.items c.args.object c.args.key c.in-Some.entry c.sound.ensures.live c.in-Some.ensures.entry c.in-Some.ensures.rest
    c.keep.ensures
