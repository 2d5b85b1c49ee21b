-- What is known of a boxed kind by its place in the table of boxed types. The check finds it for the four kinds whose contents differ.
use Rattle.std.proofs.Common.{refl, ◌∙◌}
use denote.Param.Object.{read_made}
use Rattle.gcrun.proofs.kinds.run_over_kinds.OwnLists.{own-1, at-1-3, at-1-4}
use Rattle.gcrun.proofs.kinds.run_over_kinds.Goals as goal

pub run_over-requires-clause-no_dict : goal.run_over-requires-clause-no_dict
run_over-requires-clause-no_dict g c =
    read_made own-1 (own-1.entry at-1-3) at-1-3 refl _ (λ j v. j.1.bodies v) c.into_dyn_box-3.result.vtable c.into_dyn_box-3.result.value c.in_ok-dicts.dicts.value c.into_dyn_box-3.ensures.1
    ∙ (c.in_ok-dicts.ensures.bodies ∙ c.new-3.ensures.empty)

pub run_over-requires-clause-no_instance : goal.run_over-requires-clause-no_instance
run_over-requires-clause-no_instance g c =
    read_made own-1 (own-1.entry at-1-4) at-1-4 refl _ (λ j v. j.1.bodies v) c.into_dyn_box-4.result.vtable c.into_dyn_box-4.result.value c.in_ok-instances.instances.value c.into_dyn_box-4.ensures.1
    ∙ (c.in_ok-instances.ensures.bodies ∙ c.new-4.ensures.empty)
