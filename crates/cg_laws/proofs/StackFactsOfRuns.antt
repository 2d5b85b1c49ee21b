-- In every world of a run, the locals of frames live, and weak references to a dying object are cleared newest first.
use Rattle.std.proofs.Common.{◌≡◌, ◌≢◌, refl, sym, ◌∙◌, ap, subst, ℕ, true, inl, inr, List, [], ◌∷◌, Option, Some}
use Rattle.std.specs.Prelude.{flat_map}
use Rattle.cg_script.specs.declared.Script.{Script}
use Rattle.cg_script.specs.declared.Command.{Command}
use Rattle.cg_graph.specs.Member.{Includes}
use Rattle.cg_graph.specs.Object.{Object, serials}
use Rattle.cg_graph.proofs.Members.{Includes-append_right, Includes-map_cases}
use Rattle.cg_machine.specs.declared.event.Event.{Event}
use Rattle.cg_machine.specs.declared.event.FrameSort.{FrameSort}
use Rattle.cg_machine.specs.declared.event.FrameSort.TheVariants.{Call}
use Rattle.cg_machine.specs.World.{World, Activity, TopLevel, Framed, Releasing, Dying, Collecting, Frame, Death, opening, ShuttingDown}
use Rattle.cg_machine.specs.Holdings.{holds}
use Rattle.cg_machine.specs.Frame.{procedure_of, start_frame}
use Rattle.cg_machine.specs.Run.{StepTaken, Step, Run, last_world}
use Rattle.cg_machine.specs.Weak.{is_function}
use Rattle.cg_represents.specs.Orderly.{HasFunction, IsOrderly}
use Rattle.cg_laws.specs.Locals.{LocalsLive}
use Rattle.cg_laws.specs.Newest.{DeathsClearNewestFirst}
use Rattle.cg_represents.proofs.Serials.{Rises}
use Rattle.cg_laws.proofs.InvariantOfRuns.{Sound, opening_sound}
use Rattle.cg_laws.proofs.Ending.{sound_after}
use Rattle.cg_laws.proofs.ShapeLaws.{changes_leave}
use Rattle.cg_laws.proofs.Invariants.{HasCommands, Takes, FromTop, FromFrame, emptied, on, CommandSteps, Steps, InEachWorld, by_runs_and_steps, last_has}
use Rattle.cg_laws.proofs.Lookups.{same_object}
use Rattle.cg_laws.proofs.Unheld.{IsStack, Calm}
use Rattle.cg_laws.proofs.HeldLivesDeaths.{HasOrder}
use Rattle.cg_laws.proofs.UnheldRuns.{no_death, calm_after, opening_calm}
use Rattle.cg_laws.proofs.HeldLivesRuns.{opening_orderly, worlds_orderly, orderly_after}
use Rattle.cg_laws.proofs.LeftBelowRuns.{LeavesUnder, step_leaves, leaves_below}
use Rattle.cg_laws.proofs.StackFacts.{AreFunctions, KnowsFunction, ClearsInOrder, IsKnown, AreKnown, IsAllKnown, function_lives, below_kept, top_kept}
use Rattle.cg_laws.proofs.Advancing.{frame_end_advances, released_advances, dying_advances, phase_advances}
use Rattle.cg_laws.proofs.StackFactsOfSteps.{starts_known, advance_known}

abbrev Kept : List Object → List Activity → Type 0
Kept objects [] = Unit {0}
Kept objects (a ∷ below) = (HasCommands a → IsKnown objects a below) × AreKnown objects below

kept_on : (script : Script) (w : World) (stack : List Activity) (after : World) → w.stack ≡ stack → Rises 1 w.next_serial w.objects → IsStack script w stack
    → HasOrder w → LeavesUnder w stack after → AreKnown w.objects stack → Kept after.objects stack
kept_on script w [] after top rises rest h l k = tt
kept_on script w (a ∷ below) after top rises rest h l k =
    let b = leaves_below script w a below after top rises rest.1 h l in
    (λ ha. top_kept script w a below after top rises h l b (no_death a ha) k.0, below_kept script w a below after top rises h l b rest.1 k.1)

-- a taken command may be the last one
taken : (command : Command) (a b : Activity) (below : List Activity) (objects : List Object) → Takes command a b → Kept objects (a ∷ below) → AreKnown objects (b ∷ below)
taken command a b below objects (FromTop commands) k = (tt, k.1)
taken command a b below objects (FromFrame f commands left) k = (k.0 tt, k.1)

stopped : (a : Activity) (below : List Activity) (objects : List Object) → HasCommands a → AreKnown objects (a ∷ below) → AreKnown objects (emptied a ∷ below)
stopped (TopLevel commands) below objects ha k = k
stopped (Framed f) below objects ha k = k
stopped (ShuttingDown started) below objects ha k = k
stopped a below objects ha k = absurd ha

functions : (v : World) (f : Object) → Rises 1 v.next_serial v.objects → Includes v.objects f → is_function f ≡ true → AreFunctions v.objects f.serial
functions v f rises m passes x k e = ap is_function (same_object 1 v.next_serial v.objects x f rises k m e) ∙ passes

abbrev Keeps : World → List Event → World → Type 0
Keeps w events after = Kept after.objects w.stack → IsAllKnown after

module _ (script : Script) where
  abbrev Holds : World → Type 0
  Holds w = (Sound w × Calm script w × HasOrder w) × IsAllKnown w

  command_known : (command : Command) (a b : Activity) (below : List Activity) (v : World) → Takes command a b → HasCommands b → Rises 1 v.next_serial v.objects
      → CommandSteps script Keeps (on a below v) command (on b below v) b below
  command_known command a b below v takes hb rises = record {
    stays = λ lines answers kept. taken command a b below v.objects takes kept;
    stops = λ lines answers kept. stopped b below v.objects hb (taken command a b below v.objects takes kept);
    changes = λ wants_memory lines given_up after shape kept. (
      tt,
      subst (AreKnown after.objects)
          (sym (changes_leave (on b below v) command wants_memory lines given_up after shape).stack) (taken command a b below after.objects takes kept),
    );
    calls = λ f h kept. starts_known script (record { sort = Call; proc = procedure_of (on b below v) f.serial; subject = f.serial; func = Some f.serial })
        (on b below v) (b ∷ below) (refl, functions v f rises h.member h.passes) (λ r. r)
        (taken command a b below (start_frame script (record {
          sort = Call;
          proc = procedure_of (on b below v) f.serial;
          subject = f.serial;
          func = Some f.serial;
        }) (on b below v)).1.objects takes kept);
    asks = λ g low e kept. (tt, taken command a b below v.objects takes kept);
  }

  keeps_known : Steps script Holds Keeps
  keeps_known = record {
    starts_due = λ a below v ha g e k kept. (tt, (kept.0 ha, kept.1));
    ends = λ a lines below v last k kept. (kept.0 (last_has (on a below v) a lines last), kept.1);
    shuts_down = λ below v k kept. (tt, kept.1);
    gives_up = λ name below v e k kept. (tt, (tt, kept.1));
    collects_last = λ below v k kept. (tt, (tt, kept.1));
    commands = λ command a b below v takes hb k. command_known command a b below v takes hb k.0.0.rises;
    frame_ends = λ f below v left k kept. advance_known script below v k.0.0.rises (Framed f) _ _ (frame_end_advances script f below v) k.0.2 k.1.0 kept.1;
    releases = λ references below v k kept. advance_known script below v k.0.0.rises (Releasing references) _ _ (released_advances script references below v) k.0.2 k.1.0 kept.1;
    dies = λ d below v k kept. advance_known script below v k.0.0.rises (Dying d) _ _ (dying_advances script d.object below v d.phase) k.0.2 k.1.0 kept.1;
    collects = λ c below v events after step k kept. advance_known script below v k.0.0.rises (Collecting c) events after
        (phase_advances script c below v c.phase events after step) k.0.2 k.1.0 kept.1;
  }

  step_kept : (w : World) (events : List Event) (after : World) → Step script w events after → Sound w × Calm script w × HasOrder w → IsAllKnown w → Kept after.objects w.stack
  step_kept w events after step k known = kept_on script w w.stack after refl k.0.rises k.1.stack k.2 (step_leaves script w events after step k.0 k.1 k.2) known

  lawful : (budget : ℕ) → InEachWorld script budget (λ w. Sound w × Calm script w × HasOrder w)
  lawful budget steps run = (
    sound_after script (opening script budget) steps (opening_sound script budget) run,
    calm_after script (opening script budget) steps (opening_sound script budget) (opening_calm script budget) run,
    (orderly_after script (opening script budget) steps (opening_sound script budget) (opening_calm script budget) (opening_orderly script budget) run).1,
  )

  all_known : (budget : ℕ) → InEachWorld script budget IsAllKnown
  all_known budget = by_runs_and_steps script budget (λ w. Sound w × Calm script w × HasOrder w) IsAllKnown (λ w events after. Kept after.objects w.stack)
      (tt, tt) keeps_known step_kept (lawful budget)

module _ (script : Script) (budget : ℕ) (steps : List StepTaken) (run : Run script (opening script budget) steps) where
  abbrev last : World
  last = last_world (opening script budget) steps

  pub known : IsAllKnown last
  known = all_known script budget steps run

  order : HasOrder last
  order = (orderly_after script (opening script budget) steps (opening_sound script budget) (opening_calm script budget) (opening_orderly script budget) run).1

  frame_function : (stack : List Activity) → ((s : ℕ) → Includes (flat_map holds stack) s → Includes (flat_map holds last.stack) s)
      → AreKnown last.objects stack → (f : Frame) → Includes stack (Framed f) → (g : ℕ) → f.function ≡ Some g → AreFunctions last.objects g
      × Includes (serials last.objects) g
  frame_function [] held k f m g e = absurd m
  frame_function (a ∷ below) held k f (inl i) g e = here a i held k.0
    where
      here : (b : Activity) → b ≡ Framed f → ((s : ℕ) → Includes (flat_map holds (b ∷ below)) s → Includes (flat_map holds last.stack) s)
          → IsKnown last.objects b below → AreFunctions last.objects g × Includes (serials last.objects) g
      here b i held k = function_lives last order f.sort f.subject f.function below (subst (λ (c : Activity). (s : ℕ) → Includes (flat_map holds (c ∷ below)) s
          → Includes (flat_map holds last.stack) s) i held) (subst (λ (c : Activity). IsKnown last.objects c below) i k) g e
  frame_function (a ∷ below) held k f (inr m) g e = frame_function below (λ s n. held s (Includes-append_right (holds a) (flat_map holds below) s n)) k.1 f m g e

  has_function : (f : Frame) → Includes last.stack (Framed f) → (g : ℕ) → f.function ≡ Some g → HasFunction last.objects g
  has_function f m g e =
      let both = frame_function last.stack (λ s n. n) known f m g e in
      let x = Includes-map_cases (λ (z : Object). z.serial) last.objects g both.1 in
      (x.0, x.1, x.2, both.0 x.0 x.1 x.2)

  -- the subject of a called frame is its function
  called_subject : (sort : FrameSort) (o : ℕ) (function : Option ℕ) (below : List Activity) → KnowsFunction last.objects sort o function below
      → (sort ≢ Call → Includes (serials last.objects) o) → ((g : ℕ) → function ≡ Some g → Includes (serials last.objects) g) → Includes (serials last.objects)
      o
  called_subject Call o function below k other lives = lives o k.0
  called_subject sort o function below k other lives = other (λ e. cc)

  subject : (stack : List Activity) → AreKnown last.objects stack → (f : Frame) → Includes stack (Framed f)
      → (f.sort ≢ Call → Includes (serials last.objects) f.subject) → ((g : ℕ) → f.function ≡ Some g → Includes (serials last.objects) g)
      → Includes (serials last.objects) f.subject
  subject [] k f m other lives = absurd m
  subject (a ∷ below) k f (inl i) other lives = called_subject f.sort f.subject f.function below (subst (λ (c : Activity). IsKnown last.objects c below) i k.0) other lives
  subject (a ∷ below) k f (inr m) other lives = subject below k.1 f m other lives

  newest : (stack : List Activity) → AreKnown last.objects stack → (d : Death) → Includes stack (Dying d) → ClearsInOrder last.objects d.object d.phase
  newest [] k d m = absurd m
  newest (a ∷ below) k d (inl i) = subst (λ (c : Activity). IsKnown last.objects c below) i k.0
  newest (a ∷ below) k d (inr m) = newest below k.1 d m

pub locals_live : LocalsLive
locals_live script budget steps run =
    let w = last_world (opening script budget) steps in
    let h : IsOrderly w = worlds_orderly script budget steps run in record {
      subjects = λ f m. subject script budget steps run w.stack (known script budget steps run) f m (h.locals f m)
          (λ g e. (frame_function script budget steps run w.stack (λ s n. n) (known script budget steps run) f m g e).1);
      functions = has_function script budget steps run;
    }

pub newest_first : DeathsClearNewestFirst
newest_first script budget steps run d m waiting phase v q waits refers =
    subst (ClearsInOrder (last_world (opening script budget) steps).objects d.object) phase
    (newest script budget steps run (last_world (opening script budget) steps).stack (known script budget steps run) d m) v q waits refers
