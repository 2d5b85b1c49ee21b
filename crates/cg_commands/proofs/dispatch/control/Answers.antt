-- What each command requires of the script is part of the command's spelling, and what was done is its effect.
use Rattle.std.proofs.Common.{refl, sym, ◌∙◌, ap, subst, true, false}
use Rattle.cg_machine.specs.declared.event.Event.TheVariants as event
use Rattle.cg_machine.specs.Effects.{frozen, unfrozen, gens_line}
use Rattle.cg_policy.specs.Policy.{Policy, with_numbers, with_enabled, with_flags, with_thresholds, with_zero_counts}
use Rattle.cg_commands.specs.Controls.{IsAsked}
use Rattle.cg_commands.proofs.CollectorCommands.{asks, sets, tells, replaces}
use Rattle.cg_commands.proofs.Reading.{read_back}
use Rattle.cg_commands.proofs.dispatch.control.Goals as goal

pub returns-in-Collect : goal.returns-in-Collect
returns-in-Collect g c = λ locals room.
    let asked = subst (λ z. IsAsked z c.collect.result) (read_back c.number.result c.number.type_inv ∙ c.number.ensures) c.collect.ensures in
    asks c.args.heap.now c.args.policy.now locals c.in-Collect.generation room c.args.command.now c.in-Collect.is c.collect.result asked

pub returns-in-Enable : goal.returns-in-Enable
returns-in-Enable g c = λ locals room.
    sets _ _ _ _ _ _ c.in-Enable.is (λ own. own) refl (with_enabled true) (λ w. refl) _ c.set_enabled.ensures _ c.told.ensures

pub returns-in-Disable : goal.returns-in-Disable
returns-in-Disable g c = λ locals room.
    sets _ _ _ _ _ _ c.in-Disable.is (λ own. own) refl (with_enabled false) (λ w. refl) _ c.set_enabled-in-Disable.ensures _ c.told-in-Disable.ensures

pub returns-in-Threshold : goal.returns-in-Threshold
returns-in-Threshold g c = λ locals room.
    sets _ _ _ _ _ _ c.in-Threshold.is (λ own. own) refl (with_thresholds c.in-Threshold.first c.in-Threshold.second c.in-Threshold.third) (λ w. refl) _ c.set_threshold.ensures _
    c.told-in-Threshold.ensures

pub returns-in-Flags : goal.returns-in-Flags
returns-in-Flags g c = λ locals room.
    sets _ _ _ _ _ _ c.in-Flags.is (λ own. own) refl (with_flags c.in-Flags.bits) (λ w. refl) _ (c.set_flags.ensures ∙ ap
    (λ bits. with_numbers (with_flags bits c.args.policy.now.numbers) c.args.policy.now) (c.from_bits_retain.ensures tt)) _ c.told-in-Flags.ensures

pub returns-in-Freeze : goal.returns-in-Freeze
returns-in-Freeze g c = λ locals room.
    replaces _ _ _ _ _ _ c.in-Freeze.is (λ own. own) refl frozen with_zero_counts (λ w. refl) _ c.freeze.ensures _ c.zero_counts.ensures _ c.told-in-Freeze.ensures

pub returns-in-Unfreeze : goal.returns-in-Unfreeze
returns-in-Unfreeze g c = λ locals room.
    replaces _ _ _ _ _ _ c.in-Unfreeze.is (λ own. own) refl unfrozen (λ n. n) (λ w. refl) _ c.unfreeze.ensures c.args.policy.now refl _ c.told-in-Unfreeze.ensures

pub returns-in-Count : goal.returns-in-Count
returns-in-Count g c = λ locals room.
    tells _ _ _ _ _ _ c.in-Count.is (λ own. own) refl (λ w. event.Count w.numbers.zero_count w.numbers.one_count w.numbers.two_count) (λ w. refl) _
    (λ w r same. ap (λ (p : Policy). event.Count p.numbers.zero_count p.numbers.one_count p.numbers.two_count) (sym same) ∙ sym c.counts.ensures) _ c.told-in-Count.ensures

pub returns-in-Gens : goal.returns-in-Gens
returns-in-Gens g c = λ locals room.
    tells _ _ _ _ _ _ c.in-Gens.is (λ own. own) refl (λ w. gens_line w.objects) (λ w. refl) _ (λ w r same. ap gens_line (sym r.objects) ∙ sym c.sizes.ensures) _ c.told-in-Gens.ensures
