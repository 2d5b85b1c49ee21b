-- A death, phase by phase, with no choices. (PEP 442, "disposal of regular objects"; the developer guide. The order of
-- the phases and emptying last entry first are CPython's for lists and tuples, and ours for the rest.)
use Rattle.std.specs.Prelude.{ℕ, ◌-◌, ◌==◌, List, [], ◌∷◌, ◌++◌, Option, Some, None, if◌then◌else◌, option_and_then, unwrap_or, Bool, ◌||◌, is_some}
use Rattle.cg_value.specs.declared.Entry.{Entry}
use Rattle.cg_value.specs.declared.Place.TheVariants.{Untracked, Gen}
use Rattle.cg_script.specs.declared.Script.{Script}
use Rattle.cg_graph.specs.Value.{last_entry, without_last, entry_references}
use Rattle.cg_graph.specs.Object.{Object, object_at, entries_of, with_place, with_entries, marked, without}
use Rattle.cg_machine.specs.declared.event.Event.{Event}
use Rattle.cg_machine.specs.declared.event.Event.TheVariants.{Cleared, Free, Alive}
use Rattle.cg_machine.specs.declared.event.FrameSort.TheVariants.{Del, Legacy, Callback}
use Rattle.cg_machine.specs.Program.{finalizer_of, legacy_of}
use Rattle.cg_machine.specs.World.{World, Activity, Releasing, Dying, DyingPhase, Finalizer, AfterFinalizer, Clearing, Calling, AfterCall, LegacyFinalizer, AfterLegacy, Detaching, Emptying, Death, push, with_stack, with_change}
use Rattle.cg_machine.specs.Holdings.{in_degree}
use Rattle.cg_machine.specs.Frame.{procedure_of, Transition, Yields, start_frame}
use Rattle.cg_machine.specs.Weak.{weak_references_if, has_weak_references, loses_referent, callback_of}

-- the finalizer, if it has not run (PEP 442: a finalizer is called once)
abbrev pub finalizer_to_run : Script → Object → Option ℕ
finalizer_to_run script x = if x.finalized then None else finalizer_of script x

-- the world with the death of o at a phase
abbrev pub death_at : ℕ → DyingPhase → List Activity → World → World
death_at o phase below w = with_stack (Dying (record { object = o; phase = phase }) ∷ below) w

-- The finalizer runs once: the object is tracked, marked and held. Only instances have one.
abbrev pub run_finalizer : Script → ℕ → List Activity → World → Option ℕ → Transition
run_finalizer script o below w None = ([], death_at o (Clearing []) below w)
run_finalizer script o below w (Some p) =
    start_frame script (record { sort = Del; proc = p; subject = o; func = None })
    (death_at o AfterFinalizer below (with_change (λ x. marked (with_place (Gen 0) x)) o w))

-- the legacy finalizer runs at each death: the object is tracked and held
abbrev pub run_legacy : Script → ℕ → List Activity → World → Option ℕ → Transition
run_legacy script o below w None = ([], death_at o Detaching below w)
run_legacy script o below w (Some p) =
    start_frame script (record { sort = Legacy; proc = p; subject = o; func = None })
    (death_at o AfterLegacy below (with_change (with_place (Gen 0)) o w))

-- The death gives up its own hold. If the object is held, it was resurrected and the death ends; else the death goes
-- on.
abbrev pub after_frame : ℕ → DyingPhase → List Activity → World → Transition
after_frame o next below w =
    let v = death_at o next below w in
    if in_degree v o == 0 then ([], with_change (with_place Untracked) o v) else (Alive o ∷ [], with_stack below w)

-- Weak references to the object are cleared, newest first. Those with a callback wait.
abbrev pub clear_one : ℕ → List ℕ → List Activity → World → List ℕ → Transition
clear_one o waiting below w [] = ([], death_at o (Calling waiting) below w)
clear_one o waiting below w (weak ∷ weaks) =
    (Cleared weak ∷ [], death_at o (Clearing (waiting ++ (if is_some (callback_of w.objects weak) then weak ∷ [] else []))) below (record w { objects = loses_referent weak w.objects }))

-- For each waiting one, its callback is removed and called. Then both are given up.
abbrev pub call_back : Script → ℕ → ℕ → ℕ → List ℕ → List Activity → World → Transition
call_back script o weak callback waiting below w =
    start_frame script (record { sort = Callback; proc = procedure_of w callback; subject = weak; func = Some callback })
    (death_at o (AfterCall weak callback waiting) below (with_change (with_entries []) weak w))

-- when none waits, the legacy finalizer follows
abbrev pub call_one : Script → ℕ → List Activity → World → List ℕ → Transition
call_one script o below w [] = ([], death_at o LegacyFinalizer below w)
call_one script o below w (weak ∷ waiting) = call_back script o weak (unwrap_or (callback_of w.objects weak) 0) waiting below w

-- its class has a finalizer or a legacy finalizer, so code of the object may have run
abbrev pub has_finalizers : Script → Object → Bool
has_finalizers script x = is_some (finalizer_of script x) || is_some (legacy_of script x)

-- Weak references that those frames made are cleared, newest first, without callback.
abbrev pub detach_one : ℕ → List Activity → World → List ℕ → Transition
detach_one o below w [] = ([], death_at o Emptying below w)
detach_one o below w (weak ∷ weaks) = (Cleared weak ∷ [], death_at o Detaching below (record w { objects = loses_referent weak w.objects }))

-- The last entry is removed and given up; an object without entries is freed.
abbrev pub empty_one : ℕ → List Activity → World → Option Entry → Transition
empty_one o below w None =
    (Free o ∷ [], with_stack below (record w { objects = without o w.objects; numbers = record w.numbers { zero_count = w.numbers.zero_count - 1 } }))
empty_one o below w (Some e) =
    ([], push (Releasing (entry_references e)) (death_at o Emptying below (with_change (with_entries (without_last (entries_of w.objects o))) o w)))

-- what a death does at each phase
abbrev pub dying : Script → ℕ → DyingPhase → List Activity → World → Transition
dying script o Finalizer below w = run_finalizer script o below w (option_and_then (finalizer_to_run script) (object_at w.objects o))
dying script o AfterFinalizer below w = after_frame o (Clearing []) below w
dying script o (Clearing waiting) below w = clear_one o waiting below w (weak_references_if has_weak_references w.objects o)
dying script o (Calling waiting) below w = call_one script o below w waiting
dying script o (AfterCall weak callback waiting) below w = ([], push (Releasing (callback ∷ weak ∷ [])) (death_at o (Calling waiting) below w))
dying script o LegacyFinalizer below w = run_legacy script o below w (option_and_then (legacy_of script) (object_at w.objects o))
dying script o AfterLegacy below w = after_frame o Detaching below w
dying script o Detaching below w = detach_one o below w (weak_references_if (has_finalizers script) w.objects o)
dying script o Emptying below w = empty_one o below w (last_entry (entries_of w.objects o))

-- the step when a death is on top
abbrev pub DyingStep : Script → World → Death → List Activity → List Event → World → Type 0
DyingStep script w d below events after = Yields (dying script d.object d.phase below w) events after
