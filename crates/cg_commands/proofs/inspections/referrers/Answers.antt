use Rattle.std.proofs.Common.{◌∙◌, ap}
use Rattle.std.specs.Prelude.{filter}
use Rattle.std.proofs.lemmas.Result.{err_from_is_err_and}
use Rattle.cg_graph.specs.Object.{serials}
use Rattle.cg_graph.specs.Path.{refers_to}
use Rattle.cg_commands.proofs.Inspecting.{not_inspected, no_memory_for, lists_memory, lists_lines, lists_these}
use Rattle.cg_commands.proofs.inspections.referrers.Goals as goal

pub returns-in_err-target : goal.returns-in_err-target
returns-in_err-target g c =
    let p = err_from_is_err_and c.from_residual.result c.from_residual.ensures.1 in rw (p.1, p.2) (not_inspected _ _ _ _ _ _ c.in_err-target.ensures.err)

pub returns-in_default : goal.returns-in_default
returns-in_default g c = no_memory_for _ _ _ _ _ _ c.in_ok-target.ensures.ok (λ w s. lists_memory _ _ _)

pub returns-in_default-listing : goal.returns-in_default-listing
returns-in_default-listing g c = no_memory_for _ _ _ _ _ _ c.in_ok-target.ensures.ok (λ w s. lists_memory _ _ _)

pub returns : goal.returns
returns g c =
    lists_lines _ _ _ _ _ _ c.in_ok-target.ensures.ok _
    (λ w s. lists_these _ _ _ _ (c.deref.ensures.value ∙ c.in-Ok.ensures
    ∙ ap (λ objects. serials (filter (refers_to c.in_ok-target.target) objects)) s.represents.objects) _ c.in-Ok-listing.ensures)
