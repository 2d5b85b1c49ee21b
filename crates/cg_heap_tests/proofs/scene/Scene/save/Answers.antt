use Rattle.cg_value.specs.declared.KindCode.TheVariants.{List as ListKind}
use Rattle.cg_heap.proofs.CallerLemmas.{live_of_kind}
use Rattle.cg_heap_tests.proofs.Scenes.{backed_rewritten}
use Rattle.cg_heap_tests.proofs.scene.Scene.save.Goals as goal

pub len-requires : goal.len-requires
len-requires g c = live_of_kind c.self.inside.heap 1 ListKind c.sound.ensures.root

pub invariant_of-self : goal.invariant_of-self
invariant_of-self g c = backed_rewritten c.self.inside.heap c.save.new.self c.self.inside.held.items c.self.inside.count c.self.inside.names c.self.invariant 1 _ c.save.ensures
