use Rattle.cg_heap_tests.proofs.Scenes.{newest_waiting_lives}
use Rattle.cg_heap_tests.proofs.scene.Scene.forget_newest.Goals as goal

pub forget_weak-requires-clause-live : goal.forget_weak-requires-clause-live
forget_weak-requires-clause-live g c = (newest_waiting_lives c.self.inside.heap c.sound.ensures c.args.object c.in_ok-weak.weak c.in_ok-weak.ensures).0

pub forget_weak-requires-clause-waits : goal.forget_weak-requires-clause-waits
forget_weak-requires-clause-waits g c = (newest_waiting_lives c.self.inside.heap c.sound.ensures c.args.object c.in_ok-weak.weak c.in_ok-weak.ensures).1
