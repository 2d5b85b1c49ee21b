use Rattle.std.specs.Prelude.{is_ok, None}
use Rattle.cg_heap_tests.proofs.Scenes.{pushed, backed_made}
use Rattle.cg_heap_tests.proofs.scene.Scene.make_of.Goals as goal

pub invariant_of-self-2 : goal.invariant_of-self-2
invariant_of-self-2 g c =
    backed_made c.self.inside.heap c.make.new.self c.self.inside.held.items c.self.inside.count c.self.inside.names c.self.invariant
    c.push.new.self.items c.in_ok-made.made c.args.code c.args.class _ None c.sound.ensures.below c.in_ok-made.ensures.ok c.in_ok-made.ensures.serial
    (pushed (is_ok c.push.result) c.self.inside.held.items c.push.new.self.items c.in_ok-made.made c.push.ensures.items)
