-- How a frame starts and ends, and how a reference is given up. (Frames and the budget are ours; that an object dies at count 0
-- is the developer guide's "reference counting".)
use Rattle.std.specs.Prelude.{◌≡◌, ℕ, ◌-◌, not, ◌&&◌, ◌==◌, List, [], ◌∷◌, Option, None, if◌then◌else◌, option_to_list, option_and_then, unwrap_or}
use Rattle.cg_value.specs.declared.Place.TheVariants.{Untracked}
use Rattle.cg_script.specs.declared.Script.{Script}
use Rattle.cg_graph.specs.Object.{object_at, with_place, with_referent}
use Rattle.cg_machine.specs.declared.event.Event.{Event}
use Rattle.cg_machine.specs.declared.event.Event.TheVariants.{Enter, Leave, BudgetSpent}
use Rattle.cg_machine.specs.declared.event.FrameSort.{FrameSort}
use Rattle.cg_machine.specs.declared.event.FrameSort.TheVariants.{Del, Legacy, Callback, Call}
use Rattle.cg_machine.specs.declared.event.FrameSpec.{FrameSpec}
use Rattle.cg_machine.specs.Program.{body_of}
use Rattle.cg_machine.specs.World.{World, Activity, Framed, Releasing, Dying, Frame, Finalizer, BudgetIsSpent, push, with_stack, with_change}
use Rattle.cg_machine.specs.Holdings.{in_degree, is_dying}

-- what a step prints, and the world after it
abbrev pub Transition : Type 0
Transition = List Event × World

-- a step that has no choice
abbrev pub Yields : Transition → List Event → World → Type 0
Yields transition events after = (events ≡ transition.0) × (after ≡ transition.1)

-- A frame costs one of the budget. With none left, the run ends.
abbrev pub start_frame : Script → FrameSpec → World → Transition
start_frame script spec w =
    if w.budget == 0
    then (BudgetSpent ∷ [], record w { outcome = BudgetIsSpent })
    else (
      Enter spec.sort spec.subject ∷ [],
      record w {
        budget = w.budget - 1;
        stack = Framed (record { sort = spec.sort; subject = spec.subject; function = spec.func; commands = body_of script spec.proc }) ∷ w.stack;
      },
    )

-- the procedure of a function
abbrev pub procedure_of : World → ℕ → ℕ
procedure_of w f = unwrap_or (option_and_then (λ x. x.class) (object_at w.objects f)) 0

-- A frame without commands ends. If a command called its function, the function is given up.
abbrev pub gives_up_function : FrameSort → Option ℕ → World → World
gives_up_function Del function w = w
gives_up_function Legacy function w = w
gives_up_function Callback function w = w
gives_up_function Call function w = push (Releasing (option_to_list function)) w

-- it prints `leave`
abbrev pub frame_end : Frame → World → Transition
frame_end f w = (Leave ∷ [], gives_up_function f.sort f.function w)

-- An object begins to die: it is untracked. A weak reference is also cleared, without a line, so that its callback is
-- never called (`weakref` manual).
abbrev pub begin_death : ℕ → World → World
begin_death o w = push (Dying (record { object = o; phase = Finalizer })) (with_change (λ x. with_referent None (with_place Untracked x)) o w)

-- Gives up the first reference. Its object begins to die if nothing else holds it and it is not dying. An empty
-- release ends.
abbrev pub released : List ℕ → List Activity → World → Transition
released [] below w = ([], with_stack below w)
released (o ∷ references) below w =
    let v = with_stack (Releasing references ∷ below) w in
    if not (is_dying v o) && (in_degree v o == 0) then ([], begin_death o v) else ([], v)

-- the step when a release is on top
abbrev pub ReleaseStep : World → List ℕ → List Activity → List Event → World → Type 0
ReleaseStep w references below events after = Yields (released references below w) events after
