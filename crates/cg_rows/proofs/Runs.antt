-- Each worked script prints its text. By computation: the plain executor takes the steps of a whole run.
use Rattle.std.proofs.Common.{refl, List}
use Rattle.std.specs.Fmt.{digits}
use Rattle.cg_machine.specs.World.{opening}
use Rattle.cg_machine.specs.Run.{StepTaken}
use Rattle.cg_machine.specs.Refusals.{◌>>=◌}
use Rattle.cg_laws.proofs.Deterministic.{first_steps, first_steps_run}
use Rattle.cg_rows.specs.Worked.{WorkedScript, Prints, EachPrints, worked_scripts, an_empty_script, made_and_freed, a_list_that_holds_itself, brought_back_by_its_finalizer, a_name_bound_twice, deaths_in_depth, refused_kinds, key_and_value_of_a_dying_dictionary, printed_values, brought_back_from_a_death_by_count, callbacks_newest_first, condemned_weak_references_call_nothing_back, a_cycle_through_a_tuple, a_cycle_that_survived, a_legacy_cycle, saved_cycles, an_automatic_collection, the_quarter_rule, tracking, a_weak_reference_made_by_a_finalizer, dereferenced_before_it_is_made, brought_back_by_a_weak_reference, a_collection_inside_a_death, re_entrance_and_refusal_in_a_callback, counted_twice, a_tree_with_weak_parents, a_tree_with_strong_parents, refusals, a_weak_reference_that_dies_after_its_callback, cells, held_twice_by_itself, a_call_inside_a_finalizer, a_weak_reference_that_dies_first, a_weak_reference_that_the_finalizer_makes, debug_lines_of_legacy_garbage, freezing, switched_off_and_on, a_referent_that_the_weak_phase_cleared, a_spent_budget, replaced_items_and_attributes, keys_of_a_dictionary, a_legacy_finalizer_by_count, brought_back_by_a_legacy_finalizer, late_weak_references, debug_lines_of_collectable_garbage, stopped_at_the_top, locals_of_frames, a_refusal_ends_a_frame, kept_by_a_late_weak_reference, lost_by_an_early_weak_reference, a_condemned_weak_reference_is_cleared_late, shut_down, a_name_is_bound_while_it_shuts_down, what_the_last_collection_binds_is_left, referrers_and_referents, no_inspection_in_a_collection}

-- the steps that the executor takes, at most 200
abbrev steps_of : WorkedScript → List StepTaken
steps_of worked = first_steps worked.script 200 (opening worked.script worked.budget)

an_empty_script_prints : Prints an_empty_script
unfolding digits ◌>>=◌
an_empty_script_prints = record {
  steps = steps_of an_empty_script;
  run = record { run = first_steps_run an_empty_script.script 200 (opening an_empty_script.script an_empty_script.budget) tt; whole = λ e. cc; ends = refl };
  text = refl;
}

made_and_freed_prints : Prints made_and_freed
unfolding digits ◌>>=◌
made_and_freed_prints = record {
  steps = steps_of made_and_freed;
  run = record { run = first_steps_run made_and_freed.script 200 (opening made_and_freed.script made_and_freed.budget) tt; whole = λ e. cc; ends = refl };
  text = refl;
}

a_list_that_holds_itself_prints : Prints a_list_that_holds_itself
unfolding digits ◌>>=◌
a_list_that_holds_itself_prints = record {
  steps = steps_of a_list_that_holds_itself;
  run = record { run = first_steps_run a_list_that_holds_itself.script 200 (opening a_list_that_holds_itself.script a_list_that_holds_itself.budget) tt; whole = λ e. cc; ends = refl };
  text = refl;
}

brought_back_by_its_finalizer_prints : Prints brought_back_by_its_finalizer
unfolding digits ◌>>=◌
brought_back_by_its_finalizer_prints = record {
  steps = steps_of brought_back_by_its_finalizer;
  run = record { run = first_steps_run brought_back_by_its_finalizer.script 200 (opening brought_back_by_its_finalizer.script brought_back_by_its_finalizer.budget) tt; whole = λ e. cc; ends = refl };
  text = refl;
}

a_name_bound_twice_prints : Prints a_name_bound_twice
unfolding digits ◌>>=◌
a_name_bound_twice_prints = record {
  steps = steps_of a_name_bound_twice;
  run = record { run = first_steps_run a_name_bound_twice.script 200 (opening a_name_bound_twice.script a_name_bound_twice.budget) tt; whole = λ e. cc; ends = refl };
  text = refl;
}

deaths_in_depth_prints : Prints deaths_in_depth
unfolding digits ◌>>=◌
deaths_in_depth_prints = record {
  steps = steps_of deaths_in_depth;
  run = record { run = first_steps_run deaths_in_depth.script 200 (opening deaths_in_depth.script deaths_in_depth.budget) tt; whole = λ e. cc; ends = refl };
  text = refl;
}

refused_kinds_prints : Prints refused_kinds
unfolding digits ◌>>=◌
refused_kinds_prints = record {
  steps = steps_of refused_kinds;
  run = record { run = first_steps_run refused_kinds.script 200 (opening refused_kinds.script refused_kinds.budget) tt; whole = λ e. cc; ends = refl };
  text = refl;
}

key_and_value_of_a_dying_dictionary_prints : Prints key_and_value_of_a_dying_dictionary
unfolding digits ◌>>=◌
key_and_value_of_a_dying_dictionary_prints = record {
  steps = steps_of key_and_value_of_a_dying_dictionary;
  run = record {
    run = first_steps_run key_and_value_of_a_dying_dictionary.script 200 (opening key_and_value_of_a_dying_dictionary.script
        key_and_value_of_a_dying_dictionary.budget) tt;
    whole = λ e. cc;
    ends = refl;
  };
  text = refl;
}

printed_values_prints : Prints printed_values
unfolding digits ◌>>=◌
printed_values_prints = record {
  steps = steps_of printed_values;
  run = record { run = first_steps_run printed_values.script 200 (opening printed_values.script printed_values.budget) tt; whole = λ e. cc; ends = refl };
  text = refl;
}

brought_back_from_a_death_by_count_prints : Prints brought_back_from_a_death_by_count
unfolding digits ◌>>=◌
brought_back_from_a_death_by_count_prints = record {
  steps = steps_of brought_back_from_a_death_by_count;
  run = record {
    run = first_steps_run brought_back_from_a_death_by_count.script 200 (opening brought_back_from_a_death_by_count.script
        brought_back_from_a_death_by_count.budget) tt;
    whole = λ e. cc;
    ends = refl;
  };
  text = refl;
}

callbacks_newest_first_prints : Prints callbacks_newest_first
unfolding digits ◌>>=◌
callbacks_newest_first_prints = record {
  steps = steps_of callbacks_newest_first;
  run = record { run = first_steps_run callbacks_newest_first.script 200 (opening callbacks_newest_first.script callbacks_newest_first.budget) tt; whole = λ e. cc; ends = refl };
  text = refl;
}

condemned_weak_references_call_nothing_back_prints : Prints condemned_weak_references_call_nothing_back
unfolding digits ◌>>=◌
condemned_weak_references_call_nothing_back_prints = record {
  steps = steps_of condemned_weak_references_call_nothing_back;
  run = record {
    run = first_steps_run condemned_weak_references_call_nothing_back.script 200 (opening condemned_weak_references_call_nothing_back.script
        condemned_weak_references_call_nothing_back.budget) tt;
    whole = λ e. cc;
    ends = refl;
  };
  text = refl;
}

a_cycle_through_a_tuple_prints : Prints a_cycle_through_a_tuple
unfolding digits ◌>>=◌
a_cycle_through_a_tuple_prints = record {
  steps = steps_of a_cycle_through_a_tuple;
  run = record { run = first_steps_run a_cycle_through_a_tuple.script 200 (opening a_cycle_through_a_tuple.script a_cycle_through_a_tuple.budget) tt; whole = λ e. cc; ends = refl };
  text = refl;
}

a_cycle_that_survived_prints : Prints a_cycle_that_survived
unfolding digits ◌>>=◌
a_cycle_that_survived_prints = record {
  steps = steps_of a_cycle_that_survived;
  run = record { run = first_steps_run a_cycle_that_survived.script 200 (opening a_cycle_that_survived.script a_cycle_that_survived.budget) tt; whole = λ e. cc; ends = refl };
  text = refl;
}

a_legacy_cycle_prints : Prints a_legacy_cycle
unfolding digits ◌>>=◌
a_legacy_cycle_prints = record {
  steps = steps_of a_legacy_cycle;
  run = record { run = first_steps_run a_legacy_cycle.script 200 (opening a_legacy_cycle.script a_legacy_cycle.budget) tt; whole = λ e. cc; ends = refl };
  text = refl;
}

saved_cycles_prints : Prints saved_cycles
unfolding digits ◌>>=◌
saved_cycles_prints = record {
  steps = steps_of saved_cycles;
  run = record { run = first_steps_run saved_cycles.script 200 (opening saved_cycles.script saved_cycles.budget) tt; whole = λ e. cc; ends = refl };
  text = refl;
}

an_automatic_collection_prints : Prints an_automatic_collection
unfolding digits ◌>>=◌
an_automatic_collection_prints = record {
  steps = steps_of an_automatic_collection;
  run = record { run = first_steps_run an_automatic_collection.script 200 (opening an_automatic_collection.script an_automatic_collection.budget) tt; whole = λ e. cc; ends = refl };
  text = refl;
}

the_quarter_rule_prints : Prints the_quarter_rule
unfolding digits ◌>>=◌
the_quarter_rule_prints = record {
  steps = steps_of the_quarter_rule;
  run = record { run = first_steps_run the_quarter_rule.script 200 (opening the_quarter_rule.script the_quarter_rule.budget) tt; whole = λ e. cc; ends = refl };
  text = refl;
}

tracking_prints : Prints tracking
unfolding digits ◌>>=◌
tracking_prints = record {
  steps = steps_of tracking;
  run = record { run = first_steps_run tracking.script 200 (opening tracking.script tracking.budget) tt; whole = λ e. cc; ends = refl };
  text = refl;
}

a_weak_reference_made_by_a_finalizer_prints : Prints a_weak_reference_made_by_a_finalizer
unfolding digits ◌>>=◌
a_weak_reference_made_by_a_finalizer_prints = record {
  steps = steps_of a_weak_reference_made_by_a_finalizer;
  run = record {
    run = first_steps_run a_weak_reference_made_by_a_finalizer.script 200 (opening a_weak_reference_made_by_a_finalizer.script
        a_weak_reference_made_by_a_finalizer.budget) tt;
    whole = λ e. cc;
    ends = refl;
  };
  text = refl;
}

dereferenced_before_it_is_made_prints : Prints dereferenced_before_it_is_made
unfolding digits ◌>>=◌
dereferenced_before_it_is_made_prints = record {
  steps = steps_of dereferenced_before_it_is_made;
  run = record {
    run = first_steps_run dereferenced_before_it_is_made.script 200 (opening dereferenced_before_it_is_made.script
        dereferenced_before_it_is_made.budget) tt;
    whole = λ e. cc;
    ends = refl;
  };
  text = refl;
}

brought_back_by_a_weak_reference_prints : Prints brought_back_by_a_weak_reference
unfolding digits ◌>>=◌
brought_back_by_a_weak_reference_prints = record {
  steps = steps_of brought_back_by_a_weak_reference;
  run = record {
    run = first_steps_run brought_back_by_a_weak_reference.script 200 (opening brought_back_by_a_weak_reference.script
        brought_back_by_a_weak_reference.budget) tt;
    whole = λ e. cc;
    ends = refl;
  };
  text = refl;
}

a_collection_inside_a_death_prints : Prints a_collection_inside_a_death
unfolding digits ◌>>=◌
a_collection_inside_a_death_prints = record {
  steps = steps_of a_collection_inside_a_death;
  run = record { run = first_steps_run a_collection_inside_a_death.script 200 (opening a_collection_inside_a_death.script a_collection_inside_a_death.budget) tt; whole = λ e. cc; ends = refl };
  text = refl;
}

re_entrance_and_refusal_in_a_callback_prints : Prints re_entrance_and_refusal_in_a_callback
unfolding digits ◌>>=◌
re_entrance_and_refusal_in_a_callback_prints = record {
  steps = steps_of re_entrance_and_refusal_in_a_callback;
  run = record {
    run = first_steps_run re_entrance_and_refusal_in_a_callback.script 200 (opening re_entrance_and_refusal_in_a_callback.script
        re_entrance_and_refusal_in_a_callback.budget) tt;
    whole = λ e. cc;
    ends = refl;
  };
  text = refl;
}

counted_twice_prints : Prints counted_twice
unfolding digits ◌>>=◌
counted_twice_prints = record {
  steps = steps_of counted_twice;
  run = record { run = first_steps_run counted_twice.script 200 (opening counted_twice.script counted_twice.budget) tt; whole = λ e. cc; ends = refl };
  text = refl;
}

a_tree_with_weak_parents_prints : Prints a_tree_with_weak_parents
unfolding digits ◌>>=◌
a_tree_with_weak_parents_prints = record {
  steps = steps_of a_tree_with_weak_parents;
  run = record { run = first_steps_run a_tree_with_weak_parents.script 200 (opening a_tree_with_weak_parents.script a_tree_with_weak_parents.budget) tt; whole = λ e. cc; ends = refl };
  text = refl;
}

a_tree_with_strong_parents_prints : Prints a_tree_with_strong_parents
unfolding digits ◌>>=◌
a_tree_with_strong_parents_prints = record {
  steps = steps_of a_tree_with_strong_parents;
  run = record { run = first_steps_run a_tree_with_strong_parents.script 200 (opening a_tree_with_strong_parents.script a_tree_with_strong_parents.budget) tt; whole = λ e. cc; ends = refl };
  text = refl;
}

refusals_prints : Prints refusals
unfolding digits ◌>>=◌
refusals_prints = record {
  steps = steps_of refusals;
  run = record { run = first_steps_run refusals.script 200 (opening refusals.script refusals.budget) tt; whole = λ e. cc; ends = refl };
  text = refl;
}

a_weak_reference_that_dies_after_its_callback_prints : Prints a_weak_reference_that_dies_after_its_callback
unfolding digits ◌>>=◌
a_weak_reference_that_dies_after_its_callback_prints = record {
  steps = steps_of a_weak_reference_that_dies_after_its_callback;
  run = record {
    run = first_steps_run a_weak_reference_that_dies_after_its_callback.script 200 (opening a_weak_reference_that_dies_after_its_callback.script
        a_weak_reference_that_dies_after_its_callback.budget) tt;
    whole = λ e. cc;
    ends = refl;
  };
  text = refl;
}

cells_prints : Prints cells
unfolding digits ◌>>=◌
cells_prints = record {
  steps = steps_of cells;
  run = record { run = first_steps_run cells.script 200 (opening cells.script cells.budget) tt; whole = λ e. cc; ends = refl };
  text = refl;
}

held_twice_by_itself_prints : Prints held_twice_by_itself
unfolding digits ◌>>=◌
held_twice_by_itself_prints = record {
  steps = steps_of held_twice_by_itself;
  run = record { run = first_steps_run held_twice_by_itself.script 200 (opening held_twice_by_itself.script held_twice_by_itself.budget) tt; whole = λ e. cc; ends = refl };
  text = refl;
}

a_call_inside_a_finalizer_prints : Prints a_call_inside_a_finalizer
unfolding digits ◌>>=◌
a_call_inside_a_finalizer_prints = record {
  steps = steps_of a_call_inside_a_finalizer;
  run = record { run = first_steps_run a_call_inside_a_finalizer.script 200 (opening a_call_inside_a_finalizer.script a_call_inside_a_finalizer.budget) tt; whole = λ e. cc; ends = refl };
  text = refl;
}

a_weak_reference_that_dies_first_prints : Prints a_weak_reference_that_dies_first
unfolding digits ◌>>=◌
a_weak_reference_that_dies_first_prints = record {
  steps = steps_of a_weak_reference_that_dies_first;
  run = record {
    run = first_steps_run a_weak_reference_that_dies_first.script 200 (opening a_weak_reference_that_dies_first.script
        a_weak_reference_that_dies_first.budget) tt;
    whole = λ e. cc;
    ends = refl;
  };
  text = refl;
}

a_weak_reference_that_the_finalizer_makes_prints : Prints a_weak_reference_that_the_finalizer_makes
unfolding digits ◌>>=◌
a_weak_reference_that_the_finalizer_makes_prints = record {
  steps = steps_of a_weak_reference_that_the_finalizer_makes;
  run = record {
    run = first_steps_run a_weak_reference_that_the_finalizer_makes.script 200 (opening a_weak_reference_that_the_finalizer_makes.script
        a_weak_reference_that_the_finalizer_makes.budget) tt;
    whole = λ e. cc;
    ends = refl;
  };
  text = refl;
}

debug_lines_of_legacy_garbage_prints : Prints debug_lines_of_legacy_garbage
unfolding digits ◌>>=◌
debug_lines_of_legacy_garbage_prints = record {
  steps = steps_of debug_lines_of_legacy_garbage;
  run = record { run = first_steps_run debug_lines_of_legacy_garbage.script 200 (opening debug_lines_of_legacy_garbage.script debug_lines_of_legacy_garbage.budget) tt; whole = λ e. cc; ends = refl };
  text = refl;
}

freezing_prints : Prints freezing
unfolding digits ◌>>=◌
freezing_prints = record {
  steps = steps_of freezing;
  run = record { run = first_steps_run freezing.script 200 (opening freezing.script freezing.budget) tt; whole = λ e. cc; ends = refl };
  text = refl;
}

switched_off_and_on_prints : Prints switched_off_and_on
unfolding digits ◌>>=◌
switched_off_and_on_prints = record {
  steps = steps_of switched_off_and_on;
  run = record { run = first_steps_run switched_off_and_on.script 200 (opening switched_off_and_on.script switched_off_and_on.budget) tt; whole = λ e. cc; ends = refl };
  text = refl;
}

a_referent_that_the_weak_phase_cleared_prints : Prints a_referent_that_the_weak_phase_cleared
unfolding digits ◌>>=◌
a_referent_that_the_weak_phase_cleared_prints = record {
  steps = steps_of a_referent_that_the_weak_phase_cleared;
  run = record {
    run = first_steps_run a_referent_that_the_weak_phase_cleared.script 200 (opening a_referent_that_the_weak_phase_cleared.script
        a_referent_that_the_weak_phase_cleared.budget) tt;
    whole = λ e. cc;
    ends = refl;
  };
  text = refl;
}

a_spent_budget_prints : Prints a_spent_budget
unfolding digits ◌>>=◌
a_spent_budget_prints = record {
  steps = steps_of a_spent_budget;
  run = record { run = first_steps_run a_spent_budget.script 200 (opening a_spent_budget.script a_spent_budget.budget) tt; whole = λ e. cc; ends = refl };
  text = refl;
}

replaced_items_and_attributes_prints : Prints replaced_items_and_attributes
unfolding digits ◌>>=◌
replaced_items_and_attributes_prints = record {
  steps = steps_of replaced_items_and_attributes;
  run = record { run = first_steps_run replaced_items_and_attributes.script 200 (opening replaced_items_and_attributes.script replaced_items_and_attributes.budget) tt; whole = λ e. cc; ends = refl };
  text = refl;
}

keys_of_a_dictionary_prints : Prints keys_of_a_dictionary
unfolding digits ◌>>=◌
keys_of_a_dictionary_prints = record {
  steps = steps_of keys_of_a_dictionary;
  run = record { run = first_steps_run keys_of_a_dictionary.script 200 (opening keys_of_a_dictionary.script keys_of_a_dictionary.budget) tt; whole = λ e. cc; ends = refl };
  text = refl;
}

a_legacy_finalizer_by_count_prints : Prints a_legacy_finalizer_by_count
unfolding digits ◌>>=◌
a_legacy_finalizer_by_count_prints = record {
  steps = steps_of a_legacy_finalizer_by_count;
  run = record { run = first_steps_run a_legacy_finalizer_by_count.script 200 (opening a_legacy_finalizer_by_count.script a_legacy_finalizer_by_count.budget) tt; whole = λ e. cc; ends = refl };
  text = refl;
}

brought_back_by_a_legacy_finalizer_prints : Prints brought_back_by_a_legacy_finalizer
unfolding digits ◌>>=◌
brought_back_by_a_legacy_finalizer_prints = record {
  steps = steps_of brought_back_by_a_legacy_finalizer;
  run = record {
    run = first_steps_run brought_back_by_a_legacy_finalizer.script 200 (opening brought_back_by_a_legacy_finalizer.script
        brought_back_by_a_legacy_finalizer.budget) tt;
    whole = λ e. cc;
    ends = refl;
  };
  text = refl;
}

late_weak_references_prints : Prints late_weak_references
unfolding digits ◌>>=◌
late_weak_references_prints = record {
  steps = steps_of late_weak_references;
  run = record { run = first_steps_run late_weak_references.script 200 (opening late_weak_references.script late_weak_references.budget) tt; whole = λ e. cc; ends = refl };
  text = refl;
}

debug_lines_of_collectable_garbage_prints : Prints debug_lines_of_collectable_garbage
unfolding digits ◌>>=◌
debug_lines_of_collectable_garbage_prints = record {
  steps = steps_of debug_lines_of_collectable_garbage;
  run = record {
    run = first_steps_run debug_lines_of_collectable_garbage.script 200 (opening debug_lines_of_collectable_garbage.script
        debug_lines_of_collectable_garbage.budget) tt;
    whole = λ e. cc;
    ends = refl;
  };
  text = refl;
}

stopped_at_the_top_prints : Prints stopped_at_the_top
unfolding digits ◌>>=◌
stopped_at_the_top_prints = record {
  steps = steps_of stopped_at_the_top;
  run = record { run = first_steps_run stopped_at_the_top.script 200 (opening stopped_at_the_top.script stopped_at_the_top.budget) tt; whole = λ e. cc; ends = refl };
  text = refl;
}

locals_of_frames_prints : Prints locals_of_frames
unfolding digits ◌>>=◌
locals_of_frames_prints = record {
  steps = steps_of locals_of_frames;
  run = record { run = first_steps_run locals_of_frames.script 200 (opening locals_of_frames.script locals_of_frames.budget) tt; whole = λ e. cc; ends = refl };
  text = refl;
}

a_refusal_ends_a_frame_prints : Prints a_refusal_ends_a_frame
unfolding digits ◌>>=◌
a_refusal_ends_a_frame_prints = record {
  steps = steps_of a_refusal_ends_a_frame;
  run = record { run = first_steps_run a_refusal_ends_a_frame.script 200 (opening a_refusal_ends_a_frame.script a_refusal_ends_a_frame.budget) tt; whole = λ e. cc; ends = refl };
  text = refl;
}

kept_by_a_late_weak_reference_prints : Prints kept_by_a_late_weak_reference
unfolding digits ◌>>=◌
kept_by_a_late_weak_reference_prints = record {
  steps = steps_of kept_by_a_late_weak_reference;
  run = record { run = first_steps_run kept_by_a_late_weak_reference.script 200 (opening kept_by_a_late_weak_reference.script kept_by_a_late_weak_reference.budget) tt; whole = λ e. cc; ends = refl };
  text = refl;
}

lost_by_an_early_weak_reference_prints : Prints lost_by_an_early_weak_reference
unfolding digits ◌>>=◌
lost_by_an_early_weak_reference_prints = record {
  steps = steps_of lost_by_an_early_weak_reference;
  run = record {
    run = first_steps_run lost_by_an_early_weak_reference.script 200 (opening lost_by_an_early_weak_reference.script
        lost_by_an_early_weak_reference.budget) tt;
    whole = λ e. cc;
    ends = refl;
  };
  text = refl;
}

a_condemned_weak_reference_is_cleared_late_prints : Prints a_condemned_weak_reference_is_cleared_late
unfolding digits ◌>>=◌
a_condemned_weak_reference_is_cleared_late_prints = record {
  steps = steps_of a_condemned_weak_reference_is_cleared_late;
  run = record {
    run = first_steps_run a_condemned_weak_reference_is_cleared_late.script 200 (opening a_condemned_weak_reference_is_cleared_late.script
        a_condemned_weak_reference_is_cleared_late.budget) tt;
    whole = λ e. cc;
    ends = refl;
  };
  text = refl;
}

shut_down_prints : Prints shut_down
unfolding digits ◌>>=◌
shut_down_prints = record {
  steps = steps_of shut_down;
  run = record { run = first_steps_run shut_down.script 200 (opening shut_down.script shut_down.budget) tt; whole = λ e. cc; ends = refl };
  text = refl;
}

a_name_is_bound_while_it_shuts_down_prints : Prints a_name_is_bound_while_it_shuts_down
unfolding digits ◌>>=◌
a_name_is_bound_while_it_shuts_down_prints = record {
  steps = steps_of a_name_is_bound_while_it_shuts_down;
  run = record {
    run = first_steps_run a_name_is_bound_while_it_shuts_down.script 200 (opening a_name_is_bound_while_it_shuts_down.script
        a_name_is_bound_while_it_shuts_down.budget) tt;
    whole = λ e. cc;
    ends = refl;
  };
  text = refl;
}

what_the_last_collection_binds_is_left_prints : Prints what_the_last_collection_binds_is_left
unfolding digits ◌>>=◌
what_the_last_collection_binds_is_left_prints = record {
  steps = steps_of what_the_last_collection_binds_is_left;
  run = record {
    run = first_steps_run what_the_last_collection_binds_is_left.script 200 (opening what_the_last_collection_binds_is_left.script
        what_the_last_collection_binds_is_left.budget) tt;
    whole = λ e. cc;
    ends = refl;
  };
  text = refl;
}

referrers_and_referents_prints : Prints referrers_and_referents
unfolding digits ◌>>=◌
referrers_and_referents_prints = record {
  steps = steps_of referrers_and_referents;
  run = record { run = first_steps_run referrers_and_referents.script 200 (opening referrers_and_referents.script referrers_and_referents.budget) tt; whole = λ e. cc; ends = refl };
  text = refl;
}

no_inspection_in_a_collection_prints : Prints no_inspection_in_a_collection
unfolding digits ◌>>=◌
no_inspection_in_a_collection_prints = record {
  steps = steps_of no_inspection_in_a_collection;
  run = record { run = first_steps_run no_inspection_in_a_collection.script 200 (opening no_inspection_in_a_collection.script no_inspection_in_a_collection.budget) tt; whole = λ e. cc; ends = refl };
  text = refl;
}

pub all_print : EachPrints worked_scripts
all_print = (
  an_empty_script_prints,
  (
    made_and_freed_prints,
    (
      a_list_that_holds_itself_prints,
      (
        brought_back_by_its_finalizer_prints,
        (
          a_name_bound_twice_prints,
          (
            deaths_in_depth_prints,
            (
              refused_kinds_prints,
              (
                key_and_value_of_a_dying_dictionary_prints,
                (
                  printed_values_prints,
                  (
                    brought_back_from_a_death_by_count_prints,
                    (
                      callbacks_newest_first_prints,
                      (
                        condemned_weak_references_call_nothing_back_prints,
                        (
                          a_cycle_through_a_tuple_prints,
                          (
                            a_cycle_that_survived_prints,
                            (
                              a_legacy_cycle_prints,
                              (
                                saved_cycles_prints,
                                (
                                  an_automatic_collection_prints,
                                  (
                                    the_quarter_rule_prints,
                                    (
                                      tracking_prints,
                                      (
                                        a_weak_reference_made_by_a_finalizer_prints,
                                        (
                                          dereferenced_before_it_is_made_prints,
                                          (
                                            brought_back_by_a_weak_reference_prints,
                                            (
                                              a_collection_inside_a_death_prints,
                                              (
                                                re_entrance_and_refusal_in_a_callback_prints,
                                                (
                                                  counted_twice_prints,
                                                  (
                                                    a_tree_with_weak_parents_prints,
                                                    (
                                                      a_tree_with_strong_parents_prints,
                                                      (
                                                        refusals_prints,
                                                        (
                                                          a_weak_reference_that_dies_after_its_callback_prints,
                                                          (
                                                            cells_prints,
                                                            (
                                                              held_twice_by_itself_prints,
                                                              (
                                                                a_call_inside_a_finalizer_prints,
                                                                (
                                                                  a_weak_reference_that_dies_first_prints,
                                                                  (
                                                                    a_weak_reference_that_the_finalizer_makes_prints,
                                                                    (
                                                                      debug_lines_of_legacy_garbage_prints,
                                                                      (
                                                                        freezing_prints,
                                                                        (
                                                                          switched_off_and_on_prints,
                                                                          (
                                                                            a_referent_that_the_weak_phase_cleared_prints,
                                                                            (
                                                                              a_spent_budget_prints,
                                                                              (
                                                                                replaced_items_and_attributes_prints,
                                                                                (
                                                                                  keys_of_a_dictionary_prints,
                                                                                  (
                                                                                    a_legacy_finalizer_by_count_prints,
                                                                                    (
                                                                                      brought_back_by_a_legacy_finalizer_prints,
                                                                                      (
                                                                                        late_weak_references_prints,
                                                                                        (
                                                                                          debug_lines_of_collectable_garbage_prints,
                                                                                          (
                                                                                            stopped_at_the_top_prints,
                                                                                            (
                                                                                              locals_of_frames_prints,
                                                                                              (
                                                                                                a_refusal_ends_a_frame_prints,
                                                                                                (
                                                                                                  kept_by_a_late_weak_reference_prints,
                                                                                                  (
                                                                                                    lost_by_an_early_weak_reference_prints,
                                                                                                    (
                                                                                                      a_condemned_weak_reference_is_cleared_late_prints,
                                                                                                      (
                                                                                                        shut_down_prints,
                                                                                                        (
                                                                                                          a_name_is_bound_while_it_shuts_down_prints,
                                                                                                          (
                                                                                                            what_the_last_collection_binds_is_left_prints,
                                                                                                            (referrers_and_referents_prints, (no_inspection_in_a_collection_prints, tt)),
                                                                                                          ),
                                                                                                        ),
                                                                                                      ),
                                                                                                    ),
                                                                                                  ),
                                                                                                ),
                                                                                              ),
                                                                                            ),
                                                                                          ),
                                                                                        ),
                                                                                      ),
                                                                                    ),
                                                                                  ),
                                                                                ),
                                                                              ),
                                                                            ),
                                                                          ),
                                                                        ),
                                                                      ),
                                                                    ),
                                                                  ),
                                                                ),
                                                              ),
                                                            ),
                                                          ),
                                                        ),
                                                      ),
                                                    ),
                                                  ),
                                                ),
                                              ),
                                            ),
                                          ),
                                        ),
                                      ),
                                    ),
                                  ),
                                ),
                              ),
                            ),
                          ),
                        ),
                      ),
                    ),
                  ),
                ),
              ),
            ),
          ),
        ),
      ),
    ),
  ),
)
