-- What is known of each world of a run, and what each step does, stated once.
use Rattle.std.proofs.Common.{◌≡◌, refl, subst, ℕ, Bool, true, false, inl, inr, ◌⊎◌, List, [], ◌∷◌, length, Option, Some, None}
use Rattle.cg_script.specs.declared.Script.{Script}
use Rattle.cg_script.specs.declared.Command.{Command}
use Rattle.cg_script.specs.Texts.{TextsAreKnown}
use Rattle.cg_graph.specs.Object.{Object}
use Rattle.cg_machine.specs.declared.event.Event.{Event}
use Rattle.cg_machine.specs.declared.event.FrameSort.TheVariants.{Call as CallFrame}
use Rattle.cg_machine.specs.World.{World, Activity, TopLevel, Framed, Releasing, ShuttingDown, Ended, opening, push, with_stack}
use Rattle.cg_machine.specs.Frame.{Yields, procedure_of, start_frame}
use Rattle.cg_machine.specs.Weak.{is_function}
use Rattle.cg_machine.specs.Due.{due}
use Rattle.cg_machine.specs.Effects.{Changes, bound, given_up_by}
use Rattle.cg_machine.specs.Commands.{CommandStep, new_collection}
use Rattle.cg_laws.specs.Lawful.{IsLawful}
use Rattle.cg_machine.specs.Run.{CommandInFrame, FrameStep, IsRun, Step, StepTaken, TopLevelStep, world_after}
use Rattle.cg_laws.proofs.Invariants.{AreAnswers, AreLast, CommandSteps, FromFrame, FromTop, HasCommands, Steps, Takes, any_step, emptied, on}
use Rattle.cg_laws.proofs.LawsOfWorlds.{lawful_after}
use Rattle.cg_laws.proofs.OriginsOfRuns.{opening_origin}
use Rattle.cg_represents.proofs.Serials.{Rises}
use Rattle.cg_represents.proofs.Shapes.{HasObject, Shape}
use Rattle.cg_laws.specs.Apart.{IsApart}
use Rattle.cg_laws.proofs.RunsApart.{runs_apart}
use Rattle.cg_promises.proofs.HoldersMove.{IsMinded}
use Rattle.cg_promises.proofs.HoldersMoveRuns.{minded_after, opening_minded}
use Rattle.cg_promises.proofs.FinalizerOnceRuns.{Fit, opening_fit, run_fit}
use Rattle.cg_weakcoll.proofs.ActivitySteps.{Acts}
use Rattle.cg_weakcoll.proofs.ActivityStepsDeaths.{dying_acts, frame_end_acts, released_acts}
use Rattle.cg_weakcoll.proofs.ActivityStepsCollections.{phase_acts}

-- what is known of a world of a run
pub record Known (script : Script) (budget : ℕ) (w : World) : Type 0 where
  pub fit : Fit script w
  pub minded : IsMinded (length script.names) w
  pub lawful : IsLawful script budget w
  pub apart : IsApart w

pub known_after : (script : Script) (budget : ℕ) (steps : List StepTaken) → TextsAreKnown script → IsRun script budget steps → Known script budget (world_after script budget steps)
known_after script budget steps texts run = record {
  fit = run_fit script (opening script budget) steps run (opening_fit script budget);
  minded = minded_after script texts (opening script budget) steps run (opening_fit script budget) (opening_origin script budget) (opening_minded script texts budget);
  lawful = lawful_after script budget steps run;
  apart = runs_apart script budget steps run;
}

-- a command was taken, and is done in u
pub data Done (script : Script) (command : Command) (u : World) (b : Activity) (below : List Activity) (events : List Event) (after : World) : Type 0 where
  Stood : AreAnswers events → after ≡ u → Done script command u b below events after
  Stopped : AreAnswers events → after ≡ on (emptied b) below u → Done script command u b below events after
  Changed : (wants_memory : Bool) (given_up : List ℕ) (next : World) → after ≡ push (Releasing given_up) next
      → Shape u command (Changes wants_memory events given_up next) → Done script command u b below events after
  Began : (f : Object) → HasObject u command is_function f
      → Yields (start_frame script (record { sort = CallFrame; proc = procedure_of u f.serial; subject = f.serial; func = Some f.serial }) u) events after
      → Done script command u b below events after
  Asked : (g : ℕ) → events ≡ [] → after ≡ push (new_collection g true u) u → Done script command u b below events after

pub data Went (script : Script) (w : World) (events : List Event) (after : World) : Type 0 where
  Acted : (a : Activity) (below : List Activity) → w.stack ≡ a ∷ below → Acts script w below events after → Went script w events after
  Due : (g : ℕ) → due w ≡ Some g → events ≡ [] → after ≡ push (new_collection g false w) w → Went script w events after
  Over : (a : Activity) (below : List Activity) → w.stack ≡ a ∷ below → AreLast w a events → after ≡ record w { outcome = Ended } → Went script w events after
  Bottomed : (below : List Activity) → w.stack ≡ TopLevel [] ∷ below → events ≡ [] → after ≡ with_stack (ShuttingDown false ∷ below) w → Went script w events after
  GaveUp : (name : ℕ) (below : List Activity) → w.stack ≡ ShuttingDown false ∷ below → events ≡ [] → after ≡ push (Releasing (given_up_by w name)) (bound w name None) → Went script w events after
  Lasted : (below : List Activity) → w.stack ≡ ShuttingDown false ∷ below → events ≡ [] → after ≡ push (new_collection 2 false w)
      (with_stack (ShuttingDown true ∷ below) w) → Went script w events after
  Commanded : (command : Command) (a b : Activity) (below : List Activity) (v : World) → w ≡ on a below v → Takes command a b → HasCommands b
      → Done script command (on b below v) b below events after → Went script w events after

commanded : (script : Script) (command : Command) (a b : Activity) (below : List Activity) (v : World) → Takes command a b → HasCommands b
    → CommandSteps script (Went script) (on a below v) command (on b below v) b below
commanded script command a b below v takes hb = record {
  stays = λ lines answers. Commanded command a b below v refl takes hb (Stood answers refl);
  stops = λ lines answers. Commanded command a b below v refl takes hb (Stopped answers refl);
  changes = λ wants_memory lines given_up after shape. Commanded command a b below v refl takes hb (Changed wants_memory given_up after refl shape);
  calls = λ f k. Commanded command a b below v refl takes hb (Began f k (refl, refl));
  asks = λ g low e. Commanded command a b below v refl takes hb (Asked g refl refl);
}

goes_steps : (script : Script) → Steps script (λ w. Rises 1 w.next_serial w.objects) (Went script)
goes_steps script = record {
  starts_due = λ a below v ha g e k. Due g e refl refl;
  ends = λ a lines below v last k. Over a below refl last refl;
  shuts_down = λ below v k. Bottomed below refl refl refl;
  gives_up = λ name below v e k. GaveUp name below refl refl refl;
  collects_last = λ below v k. Lasted below refl refl refl;
  commands = λ command a b below v takes hb k. commanded script command a b below v takes hb;
  frame_ends = λ f below v left k. Acted (Framed f) below refl (frame_end_acts script f below v);
  releases = λ references below v k. Acted (Releasing references) below refl (released_acts script references below v);
  dies = λ d below v k. Acted _ below refl (dying_acts script d.object below v k d.phase);
  collects = λ c below v events after step k. Acted _ below refl (phase_acts script c below v k c.phase events after step);
}

pub went : (script : Script) (w : World) (events : List Event) (after : World) → Rises 1 w.next_serial w.objects → Step script w events after → Went script w events after
went script w events after rises step = any_step script (λ w. Rises 1 w.next_serial w.objects) (Went script) (goes_steps script) w events after step rises

-- the step of a command, exactly: a due collection starts, or the command is done
abbrev pub Exactly : Script → World → Activity → List Activity → World → Command → List Event → World → Type 0
Exactly script w b below v command events after = ((g : ℕ) × (events ≡ []) × (after ≡ push (new_collection g false w) w)) ⊎ CommandStep script (on b below v) command events after

pub exactly : (script : Script) (a b : Activity) (below : List Activity) (v : World) (command : Command) (events : List Event) (after : World)
    → Takes command a b → Step script (on a below v) events after → Exactly script (on a below v) b below v command events after
exactly script a b below v command events after (FromTop commands) step = go (due (on (TopLevel (command ∷ commands)) below v)) step.step
  where
    go : (d : Option ℕ) → TopLevelStep script (on (TopLevel (command ∷ commands)) below v) d (command ∷ commands) below events after
        → Exactly script (on (TopLevel (command ∷ commands)) below v) (TopLevel commands) below v command events after
    go (Some g) s = inl (g, s.0, s.1)
    go None s = inr s
exactly script a b below v command events after (FromFrame f commands left) step = framed f.commands left step.step
  where
    go : (d : Option ℕ) → CommandInFrame script (on (Framed f) below v) d f command commands below events after → Exactly script (on (Framed f) below v)
        (Framed (record f { commands = commands })) below v command events after
    go (Some g) s = inl (g, s.0, s.1)
    go None s = inr s

    framed : (cs : List Command) → cs ≡ command ∷ commands → FrameStep script (on (Framed f) below v) f cs below events after
        → Exactly script (on (Framed f) below v) (Framed (record f { commands = commands })) below v command events after
    framed [] e s = absurd (let no : [] ≡ command ∷ commands = e in cc)
    framed (c ∷ cs) e s =
        let one : c ≡ command = cc in
        let rest : cs ≡ commands = cc in
        go (due (on (Framed f) below v)) (subst (λ (x : Command). CommandInFrame script (on (Framed f) below v) (due (on (Framed f) below v)) f x commands below
        events after) one (subst (λ (xs : List Command). CommandInFrame script (on (Framed f) below v) (due (on (Framed f) below v)) f c xs below events
        after) rest s))
