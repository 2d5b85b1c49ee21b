-- Every step of a run prints in this way, and the invariants of runs are carried along.
use Rattle.std.proofs.Common.{refl, ℕ, true, false, inl, List, [], ◌∷◌, ◌++◌, Some, arith, None, subst}
use Rattle.std.specs.Prelude.{flat_map}
use Rattle.cg_script.specs.declared.Script.{Script}
use Rattle.cg_script.specs.declared.Command.{Command}
use Rattle.cg_graph.specs.Member.{Includes}
use Rattle.cg_graph.proofs.Members.{Includes-append_left, either}
use Rattle.cg_machine.specs.declared.event.Event.{Event}
use Rattle.cg_machine.specs.declared.event.Event.TheVariants.{Collected, End, Refused}
use Rattle.cg_machine.specs.declared.event.FrameSort.TheVariants.{Call as CallFrame}
use Rattle.cg_machine.specs.World.{World, Activity, TopLevel, Framed, Dying, Collecting, Ended, opening, push, ShuttingDown, Releasing}
use Rattle.cg_machine.specs.Holdings.{holds}
use Rattle.cg_machine.specs.Frame.{procedure_of}
use Rattle.cg_machine.specs.Effects.{Changes, Calls, Effect, bound, given_up_by}
use Rattle.cg_machine.specs.Commands.{new_collection}
use Rattle.cg_machine.specs.Run.{Run, Step, StepTaken, last_world}
use Rattle.cg_represents.proofs.Serials.{Rises}
use Rattle.cg_laws.proofs.Unheld.{Calm}
use Rattle.cg_laws.proofs.HeldLivesDeaths.{HasOrder}
use Rattle.cg_laws.proofs.InvariantOfRuns.{Sound, opening_sound}
use Rattle.cg_laws.proofs.MeasureNumber.{step_falls}
use Rattle.cg_laws.proofs.UnheldRuns.{step_calm, opening_calm, taken_calm}
use Rattle.cg_laws.proofs.HeldLivesRuns.{gone_forgotten, step_orderly, opening_orderly, taken_orderly}
use Rattle.cg_represents.proofs.Shapes.{Shape, StartsFrame}
use Rattle.cg_laws.proofs.Invariants.{AreAnswers, CommandSteps, Steps, any_step, emptied, on, AreLast}
use Rattle.cg_promises.proofs.FinalizerOnce.{KeepsFinalizers, IsTold, same_old, quiet, one_told, tells, starts_told}
use Rattle.cg_promises.proofs.FinalizerOnceSteps.{advance_told}
use Rattle.cg_promises.proofs.FinalizerOnceCommands.{DoesTell, shape_tells}
use Rattle.cg_graph.specs.Object.{Object, serials}
use Rattle.cg_laws.proofs.Advancing.{frame_end_advances, released_advances, dying_advances, phase_advances}

-- what holds of each world of a run
pub record Fit (script : Script) (w : World) : Type 0 where
  pub sound : Sound w
  pub calm : Calm script w
  pub order : HasOrder w

-- what a step prints of the objects before it
abbrev pub StepTells : World → List Event → World → Type 0
StepTells w events after = KeepsFinalizers w.objects w.next_serial events after

module _ (script : Script) (below : List Activity) (v : World) where
  unchanged : (b : Activity) (lines : List Event) → ((event : Event) → Includes lines event → IsTold v.objects v.next_serial event) → KeepsFinalizers v.objects v.next_serial lines (on b below v)
  unchanged b lines told = tells v.objects v.next_serial lines (on b below v) told (same_old v.objects) (omega arith)

  answers_told : (lines : List Event) → AreAnswers lines → (event : Event) → Includes lines event → IsTold v.objects v.next_serial event
  answers_told [] k event m = absurd m
  answers_told (Refused n ∷ []) k event m = one_told v.objects v.next_serial (Refused n) (tt, λ o i. absurd i) event m
  answers_told (Collected n ∷ []) k event m = one_told v.objects v.next_serial (Collected n) (tt, λ o i. absurd i) event m
  answers_told lines k event m = absurd k

  command_told : (b : Activity) (command : Command) (a : Activity) → Rises 1 v.next_serial v.objects → Calm script (on a below v) → HasOrder (on a below v)
      → CommandSteps script StepTells (on b below v) command (on a below v) a below
  command_told b command a rises c h = record {
    stays = λ lines answers. unchanged a lines (answers_told lines answers);
    stops = λ lines answers. unchanged (emptied a) lines (answers_told lines answers);
    changes = λ wants_memory lines given_up after shape. let t = does (Changes wants_memory lines given_up after) shape
        in record { follows = t.follows; serial = t.serial; told = t.told; lasts = t.lasts };
    calls = λ f k. starts_told v.objects v.next_serial script (record {
      sort = CallFrame;
      proc = procedure_of (on a below v) f.serial;
      subject = f.serial;
      func = Some f.serial;
    }) (on a below v) (same_old v.objects) (omega arith) (does (Calls f.serial) (StartsFrame f k));
    asks = λ g low e. quiet v.objects v.next_serial (push (new_collection g true (on a below v)) (on a below v)) (same_old v.objects) (omega arith);
  }
    where
      does : (e : Effect) → Shape (on a below v) command e → DoesTell (on a below v) e
      does e s = shape_tells script (on a below v) rises c.over (gone_forgotten (on a below v) h c.referred) command e s

pub opening_fit : (script : Script) (budget : ℕ) → Fit script (opening script budget)
opening_fit script budget = record { sound = opening_sound script budget; calm = opening_calm script budget; order = opening_orderly script budget }

-- the last lines name nothing
last_told : (objects : List Object) (next : ℕ) (w : World) (a : Activity) (lines : List Event) → AreLast w a lines → (event : Event) → Includes lines event → IsTold objects next event
last_told objects next w (TopLevel []) lines e event m = one_told objects next End (tt, λ n i. absurd i) event (subst (λ (ls : List Event). Includes ls event) e m)
last_told objects next w (ShuttingDown true) lines e event m =
    either (subst (λ (ls : List Event). Includes ls event) e m) (λ i. subst (IsTold objects next) i (tt, λ n k. absurd k)) (λ k. one_told objects next End (tt, λ n i. absurd i) event k)
last_told objects next w a lines e event m = absurd e

-- what the top activity holds lives
held : {script : Script} (a : Activity) (below : List Activity) (v : World) → Fit script (on a below v) → (n : ℕ) → Includes (holds a) n → Includes (serials v.objects) n
held a below v k n m = k.order.stack_lives n (Includes-append_left (holds a) (flat_map holds below) n m)

tells_steps : (script : Script) → Steps script (Fit script) StepTells
tells_steps script = record {
  starts_due = λ a below v ha g e k. quiet v.objects v.next_serial (push (new_collection g false (on a below v)) (on a below v)) (same_old v.objects) (omega arith);
  ends = λ a lines below v last k. tells v.objects v.next_serial lines (record (on a below v) { outcome = Ended }) (last_told v.objects v.next_serial
      (on a below v) a lines last) (same_old v.objects) (omega arith);
  shuts_down = λ below v k. quiet v.objects v.next_serial (on (ShuttingDown false) below v) (same_old v.objects) (omega arith);
  gives_up = λ name below v e k. let w : World = on (ShuttingDown false) below v in quiet v.objects v.next_serial (push (Releasing (given_up_by w name))
      (bound w name None)) (same_old v.objects) (omega arith);
  collects_last = λ below v k. quiet v.objects v.next_serial (push (new_collection 2 false (on (ShuttingDown false) below v)) (on (ShuttingDown true) below v)) (same_old v.objects) (omega arith);
  commands = λ command a b below v takes hb k. command_told script below v a command b k.sound.rises (taken_calm script below v command a b takes k.calm)
      (taken_orderly command a b below v takes k.order);
  frame_ends = λ f below v left k. advance_told script v (Framed f) (λ n d. absurd d) (held (Framed f) below v k) below _ _ (frame_end_advances script f below v);
  releases = λ references below v k. advance_told script v (Releasing references) (λ n d. absurd d) (held (Releasing references) below v k) below _ _ (released_advances script references below v);
  dies = λ d below v k. advance_told script v (Dying d) (λ n e. subst (Includes (serials v.objects)) e (k.order.deaths_live d (inl refl)))
      (held (Dying d) below v k) below _ _ (dying_advances script d.object below v d.phase);
  collects = λ c below v events after step k. advance_told script v (Collecting c) (λ n d. absurd d) (held (Collecting c) below v k) below events after
      (phase_advances script c below v c.phase events after step);
}

pub step_goes : (script : Script) (w : World) (events : List Event) (after : World) → Step script w events after → Fit script w → KeepsFinalizers w.objects w.next_serial events after
step_goes script w events after step fit = any_step script (Fit script) StepTells (tells_steps script) w events after step fit

pub step_fit : (script : Script) (w : World) (events : List Event) (after : World) → Step script w events after → Fit script w → Fit script after
step_fit script w events after step fit = record {
  sound = (step_falls script w events after step fit.sound).0;
  calm = step_calm script w events after step fit.sound fit.calm;
  order = step_orderly script w events after step fit.sound fit.calm fit.order;
}

pub run_fit : (script : Script) (w : World) (steps : List StepTaken) → Run script w steps → Fit script w → Fit script (last_world w steps)
run_fit script w [] run fit = fit
run_fit script w (step ∷ steps) run fit = run_fit script step.world steps run.1 (step_fit script w step.events step.world run.0 fit)

-- a run splits into its first steps and the others
pub run_front : (script : Script) (w : World) (front back : List StepTaken) → Run script w (front ++ back) → Run script w front
run_front script w [] back run = tt
run_front script w (step ∷ front) back run = (run.0, run_front script step.world front back run.1)

pub run_back : (script : Script) (w : World) (front back : List StepTaken) → Run script w (front ++ back) → Run script (last_world w front) back
run_back script w [] back run = run
run_back script w (step ∷ front) back run = run_back script step.world front back run.1
