-- A deterministic executor whose steps are steps of the machine. So no running world is stuck.
use Rattle.std.proofs.Common.{◌≡◌, refl, ℕ, zero, suc, List, [], ◌∷◌, Option, Some, None, Result, Ok, Err, Bool, true, false, inl, if◌then◌else◌, T, ◌&&◌, inr}
use Rattle.cg_script.specs.declared.Script.{Script}
use Rattle.cg_script.specs.declared.Command.{Command}
use Rattle.cg_machine.specs.declared.event.Event.TheVariants.{Collected}
use Rattle.cg_machine.specs.declared.event.FrameSort.TheVariants.{Call as CallFrame}
use Rattle.cg_machine.specs.World.{World, Activity, TopLevel, Framed, Releasing, Dying, Collecting, Frame, Outcome, Running, push, with_stack, ShuttingDown}
use Rattle.cg_machine.specs.Holdings.{is_collecting}
use Rattle.cg_machine.specs.Frame.{Transition, frame_end, released, start_frame, procedure_of}
use Rattle.cg_machine.specs.Dying.{dying}
use Rattle.cg_machine.specs.Effects.{Effect, Changes, Calls, Collects, Explains, Quits}
use Rattle.cg_machine.specs.Commands.{effect, refused, DoesEffect, new_collection, without_commands}
use Rattle.cg_machine.specs.Due.{due}
use Rattle.cg_laws.proofs.DeterministicCollections.{plain_phase, plain_phase_steps}
use Rattle.cg_machine.specs.Run.{StepTaken, StepOf, Run, TopLevelStep, CommandInFrame, FrameStep}
use Rattle.cg_machine.specs.Program.{declares_shutdown}
use Rattle.cg_machine.specs.Shutdown.{greatest_bound, shut_down, after_commands}
use Rattle.cg_machine.specs.Refusals.{no_memory}

-- memory is never refused
abbrev pub taken : Script → World → Result Effect ℕ → Transition
taken script w (Err refusal) = refused refusal w
taken script w (Ok (Changes wants_memory lines given_up with_change)) = (lines, push (Releasing given_up) with_change)
taken script w (Ok (Calls f)) = start_frame script (record { sort = CallFrame; proc = procedure_of w f; subject = f; func = Some f }) w
taken script w (Ok (Collects g)) = if is_collecting w then (Collected 0 ∷ [], w) else ([], push (new_collection g true w) w)
taken script w (Ok (Explains o)) = refused no_memory w
taken script w (Ok Quits) = ([], with_stack (without_commands w.stack) w)

pub taken_does : (script : Script) (w : World) (r : Result Effect ℕ) → DoesEffect script w r (taken script w r).0 (taken script w r).1
taken_does script w (Ok (Changes wants_memory lines given_up with_change)) = inl (refl, refl)
taken_does script w (Ok (Explains o)) = inr (refl, refl)
taken_does script w other = (refl, refl)

abbrev pub top_level : Script → World → Option ℕ → List Command → List Activity → Transition
top_level script w (Some g) commands below = ([], push (new_collection g false w) w)
top_level script w None [] below = after_commands (declares_shutdown script.items) below w
top_level script w None (command ∷ commands) below = taken script (with_stack (TopLevel commands ∷ below) w) (effect (with_stack (TopLevel commands ∷ below) w) command)

pub top_level_steps : (script : Script) (w : World) (d : Option ℕ) (commands : List Command) (below : List Activity) → TopLevelStep script w d commands below
    (top_level script w d commands below).0 (top_level script w d commands below).1
top_level_steps script w None (command ∷ commands) below = taken_does script (with_stack (TopLevel commands ∷ below) w) (effect (with_stack (TopLevel commands ∷ below) w) command)
top_level_steps script w m commands below = (refl, refl)

abbrev pub in_frame : Script → World → Option ℕ → Frame → Command → List Command → List Activity → Transition
in_frame script w (Some g) f command commands below = ([], push (new_collection g false w) w)
in_frame script w None f command commands below = taken script (with_stack (Framed (record f { commands = commands }) ∷ below) w)
    (effect (with_stack (Framed (record f { commands = commands }) ∷ below) w) command)

pub in_frame_steps : (script : Script) (w : World) (d : Option ℕ) (f : Frame) (command : Command) (commands : List Command) (below : List Activity)
    → CommandInFrame script w d f command commands below (in_frame script w d f command commands below).0 (in_frame script w d f command commands below).1
in_frame_steps script w (Some g) f command commands below = (refl, refl)
in_frame_steps script w None f command commands below = taken_does script (with_stack (Framed (record f { commands = commands }) ∷ below) w)
    (effect (with_stack (Framed (record f { commands = commands }) ∷ below) w) command)

abbrev pub framed : Script → World → Frame → List Command → List Activity → Transition
framed script w f [] below = frame_end f (with_stack below w)
framed script w f (command ∷ commands) below = in_frame script w (due w) f command commands below

pub framed_steps : (script : Script) (w : World) (f : Frame) (commands : List Command) (below : List Activity) → FrameStep script w f commands below
    (framed script w f commands below).0 (framed script w f commands below).1
framed_steps script w f [] below = (refl, refl)
framed_steps script w f (command ∷ commands) below = in_frame_steps script w (due w) f command commands below

abbrev pub next_on : Script → World → List Activity → Transition
next_on script w [] = ([], w)
next_on script w (TopLevel commands ∷ below) = top_level script w (due w) commands below
next_on script w (Framed f ∷ below) = framed script w f f.commands below
next_on script w (Releasing references ∷ below) = released references below w
next_on script w (Dying d ∷ below) = dying script d.object d.phase below w
next_on script w (Collecting c ∷ below) = plain_phase script c c.phase below w
next_on script w (ShuttingDown started ∷ below) = shut_down started (greatest_bound w) below w

abbrev pub HasTop : List Activity → Type 0
HasTop [] = ⊥
HasTop (a ∷ below) = Unit {0}

pub next_steps : (script : Script) (w : World) (stack : List Activity) → HasTop stack → StepOf script w stack (next_on script w stack).0 (next_on script w stack).1
next_steps script w [] h = absurd h
next_steps script w (TopLevel commands ∷ below) h = top_level_steps script w (due w) commands below
next_steps script w (Framed f ∷ below) h = framed_steps script w f f.commands below
next_steps script w (Collecting c ∷ below) h = plain_phase_steps script c c.phase below w
next_steps script w a h = (refl, refl)

abbrev pub next : Script → World → StepTaken
next script w = record { events = (next_on script w w.stack).0; world = (next_on script w w.stack).1 }

-- at most n steps, up to the end
abbrev pub up_to_end : Outcome → List StepTaken → List StepTaken
up_to_end Running steps = steps
up_to_end other steps = []

abbrev pub first_steps : Script → ℕ → World → List StepTaken
first_steps script zero w = []
first_steps script (suc n) w = up_to_end w.outcome (next script w ∷ first_steps script n (next script w).world)

abbrev pub has_top : List Activity → Bool
has_top [] = false
has_top (a ∷ below) = true

has_top_means : (stack : List Activity) → T (has_top stack) → HasTop stack
has_top_means [] h = absurd h
has_top_means (a ∷ below) h = tt

abbrev pub to_end : Outcome → Bool → Bool
to_end Running b = b
to_end other b = true

abbrev pub are_steps : Script → ℕ → World → Bool
are_steps script zero w = true
are_steps script (suc n) w = to_end w.outcome (has_top w.stack && are_steps script n (next script w).world)

both : (a b : Bool) → T (a && b) → T a × T b
both true true h = (tt, tt)
both b bit h = absurd h

goes_on : (script : Script) (w : World) (steps : List StepTaken) (b : Bool) (o : Outcome) → (w.outcome ≡ Running → T b → Run script w steps) → w.outcome ≡ o
    → T (to_end o b) → Run script w (up_to_end o steps)
goes_on script w steps b Running go e h = go e h
goes_on script w steps b other go e h = tt

pub first_steps_run : (script : Script) (n : ℕ) (w : World) → T (are_steps script n w) → Run script w (first_steps script n w)
first_steps_run script zero w h = tt
first_steps_run script (suc n) w h =
    goes_on script w _ _ w.outcome (λ e t.
    (record { running = e; step = next_steps script w w.stack (has_top_means w.stack (both _ _ t).0) }, first_steps_run script n (next script w).world (both _ _ t).1)) refl h
