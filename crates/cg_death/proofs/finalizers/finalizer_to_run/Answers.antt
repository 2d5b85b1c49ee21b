use Rattle.std.proofs.Common.{◌∙◌, sym, ap, None}
use Rattle.std.specs.Prelude.{if◌then◌else◌, option_and_then}
use Rattle.cg_graph.specs.Object.{object_at}
use Rattle.cg_graph.specs.Store.{objects_of}
use Rattle.cg_machine.specs.Program.{finalizer_of}
use Rattle.cg_death.proofs.Classes.{to_run-at}
use Rattle.cg_death.proofs.PhaseChanges.{none_to_run}
use Rattle.cg_death.proofs.finalizers.finalizer_to_run.Goals as goal

pub returns-in_err-proc : goal.returns-in_err-proc
returns-in_err-proc g c =
    c.from_residual.ensures ∙ sym (none_to_run c.args.script.now (object_at (objects_of c.args.heap.now) c.args.object) (sym c.finalizers_of.ensures.del ∙ c.in_err-proc.was))

pub returns-then-is_finalized : goal.returns-then-is_finalized
returns-then-is_finalized g c =
    sym (to_run-at c.args.script.now c.args.heap.now c.args.object c.requires c.is_finalized.result c.is_finalized.ensures
    ∙ ap (λ b. if b then None else option_and_then (finalizer_of c.args.script.now) (object_at (objects_of c.args.heap.now) c.args.object)) c.if-is_finalized.true)

pub returns-else-is_finalized : goal.returns-else-is_finalized
returns-else-is_finalized g c =
    sym c.in_ok-proc.was ∙ c.finalizers_of.ensures.del
    ∙ sym (to_run-at c.args.script.now c.args.heap.now c.args.object c.requires c.is_finalized.result c.is_finalized.ensures
    ∙ ap (λ b. if b then None else option_and_then (finalizer_of c.args.script.now) (object_at (objects_of c.args.heap.now) c.args.object)) c.if-is_finalized.false)
