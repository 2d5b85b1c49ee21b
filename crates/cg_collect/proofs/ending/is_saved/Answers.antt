use Rattle.std.proofs.Common.{sym, ap, ◌∙◌, ◌||◌, is_some}
use Rattle.std.specs.Prelude.{option_and_then}
use Rattle.cg_graph.specs.Object.{object_at}
use Rattle.cg_graph.specs.Store.{objects_of}
use Rattle.cg_machine.specs.Program.{legacy_of}
use Rattle.cg_collect.proofs.ending.is_saved.Goals as goal

pub returns-then-intersects : goal.returns-then-intersects
returns-then-intersects g c = ap (λ b. b || is_some (option_and_then (legacy_of c.args.script.now) (object_at (objects_of c.args.heap.now) c.args.object)))
    (sym (sym (c.intersects.ensures tt) ∙ c.if-intersects.true))

pub returns : goal.returns
returns g c =
    c.is_some.ensures ∙ ap is_some c.finalizers_of.ensures.legacy
    ∙ ap (λ b. b || is_some (option_and_then (legacy_of c.args.script.now) (object_at (objects_of c.args.heap.now) c.args.object))) (sym (sym (c.intersects.ensures tt) ∙ c.if-intersects.false))
