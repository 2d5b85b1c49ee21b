use Rattle.std.proofs.Common.{sym, ap, ◌∙◌, slice_get}
use Rattle.cg_heap_tests.proofs.Scenes.{has_hold, backed_unheld}
use Rattle.cg_heap_tests.proofs.scene.Scene.release.Goals as goal

pub unhold-requires : goal.unhold-requires
unhold-requires g c = has_hold c.self.inside.heap c.self.inside.held.items c.self.inside.count c.self.inside.names c.in-Some.i c.args.object c.self.invariant
    (ap (λ xs. slice_get xs c.in-Some.i) (sym c.deref.ensures.value) ∙ c.in-Some.ensures)

pub invariant_of-self : goal.invariant_of-self
invariant_of-self g c =
    backed_unheld c.self.inside.heap c.unhold.new.self c.self.inside.held.items c.self.inside.count c.self.inside.names c.self.invariant
    c.remove.new.self.items c.in-Some.i c.args.object (ap (λ xs. slice_get xs c.in-Some.i) (sym c.deref.ensures.value) ∙ c.in-Some.ensures) c.remove.ensures.items c.unhold.ensures.less
