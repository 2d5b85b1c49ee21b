-- Every world of a run has the invariant of dying objects, so a dying object is unheld.
use Rattle.std.proofs.Common.{◌≡◌, ◌≢◌, refl, sym, ◌∙◌, ap, subst, ℕ, Bool, true, false, inl, inr, List, [], ◌∷◌, Some, None}
use Rattle.cg_script.specs.declared.Script.{Script}
use Rattle.cg_script.specs.declared.Command.{Command}
use Rattle.cg_graph.specs.Member.{Includes}
use Rattle.cg_graph.specs.Object.{Object}
use Rattle.cg_graph.proofs.Members.{either}
use Rattle.cg_machine.specs.declared.event.Event.{Event}
use Rattle.cg_machine.specs.declared.event.FrameSort.TheVariants.{Call as CallFrame}
use Rattle.cg_machine.specs.World.{World, Activity, TopLevel, Framed, Releasing, Dying, Death, DyingPhase, Finalizer, AfterFinalizer, Calling, AfterCall, LegacyFinalizer, AfterLegacy, Emptying, Ended, opening, garbage_list, push, with_stack, ShuttingDown}
use Rattle.cg_machine.specs.Holdings.{holds, holdings}
use Rattle.cg_machine.specs.Frame.{procedure_of}
use Rattle.cg_machine.specs.Effects.{Changes, Calls}
use Rattle.cg_machine.specs.Commands.{new_collection}
use Rattle.cg_machine.specs.Run.{StepTaken, Step, Run, last_world}
use Rattle.cg_laws.specs.Laws.{DyingIsUnheld}
use Rattle.cg_represents.specs.Orderly.{IsHeldInItsFramesAlone}
use Rattle.cg_represents.proofs.Serials.{Rises}
use Rattle.cg_laws.proofs.InvariantOfRuns.{Sound, opening_sound}
use Rattle.cg_laws.proofs.MeasureNumber.{step_falls}
use Rattle.cg_represents.proofs.CommandLaws.{Leaves}
use Rattle.cg_laws.proofs.ShapeLaws.{changes_leave}
use Rattle.cg_represents.proofs.Shapes.{StartsFrame}
use Rattle.cg_laws.proofs.Unreferred.{alters_refl, still_forgotten}
use Rattle.cg_laws.proofs.Unheld.{IsOver, AreOver, AreResting, IsOnTop, IsStack, Stands, Calm, Keeps, stands, resting_after, same_objects, pushed_free, turned_free, held_by_member}
use Rattle.cg_laws.proofs.Releasing.{none_holds, unheld_degree, starts_calm, released_calm, frame_end_calm}
use Rattle.cg_laws.proofs.UnheldDeaths.{dying_calm}
use Rattle.cg_laws.proofs.UnheldCollections.{phase_calm}
use Rattle.cg_laws.proofs.Invariants.{HasCommands, Takes, FromTop, FromFrame, emptied, on, del_shaped, last_has, CommandSteps, Steps, any_step}
use Rattle.cg_laws.proofs.UnheldCommands.{Mild, shape_mild}
use Rattle.cg_script.specs.declared.Command.TheVariants.{Del}

-- an activity with commands is on top, and may have fewer left
pub no_death : (a : Activity) → HasCommands a → (d : Death) → a ≢ Dying d
no_death (TopLevel commands) h d e = cc
no_death (Framed f) h d e = cc
no_death (ShuttingDown started) h d e = cc
no_death a h d e = absurd h

all_rest : (script : Script) (w : World) (a : Activity) (below : List Activity) → HasCommands a → AreResting script w below → AreResting script w (a ∷ below)
all_rest script w a below h resting d m = either m (λ e. absurd (no_death a h d e)) (λ k. resting d k)

on_top : (script : Script) (w : World) (a : Activity) → HasCommands a → IsOnTop script w a
on_top script w (TopLevel commands) h = tt
on_top script w (Framed f) h = tt
on_top script w (ShuttingDown started) h = tt
on_top script w a h = absurd h

module _ (script : Script) (below : List Activity) (v : World) where
  pub turned : (a b : Activity) → HasCommands b → (IsOver a below → IsOver b below) → ((o : ℕ) → ¬ Includes (holds a) o → ¬ Includes (holds b) o)
      → Calm script (with_stack (a ∷ below) v) → Calm script (with_stack (b ∷ below) v)
  turned a b h over free c = record {
    referred = c.referred;
    over = (over c.over.0, c.over.1);
    stack = (
      on_top script (with_stack (b ∷ below) v) b h,
      resting_after script (with_stack (a ∷ below) v) (with_stack (b ∷ below) v) below
          (λ d m. same_objects script (with_stack (a ∷ below) v) (with_stack (b ∷ below) v) d.object refl refl (turned_free a b below d.object (free d.object)))
          c.stack.1,
    );
  }

  collects : (a : Activity) (g : ℕ) (asked : Bool) → HasCommands a → Calm script (with_stack (a ∷ below) v)
      → Calm script (push (new_collection g asked (with_stack (a ∷ below) v)) (with_stack (a ∷ below) v))
  collects a g asked h c = record {
    referred = c.referred;
    over = (tt, c.over);
    stack = (
      tt,
      resting_after script (with_stack (a ∷ below) v) (push (new_collection g asked (with_stack (a ∷ below) v)) (with_stack (a ∷ below) v)) (a ∷ below)
          (λ d m. same_objects script (with_stack (a ∷ below) v) (push (new_collection g asked (with_stack (a ∷ below) v)) (with_stack (a ∷ below) v)) d.object
          refl refl (pushed_free (new_collection g asked (with_stack (a ∷ below) v)) (a ∷ below) d.object (λ k. k)))
          (all_rest script (with_stack (a ∷ below) v) a below h c.stack.1),
    );
  }

  emptied_calm : (a : Activity) → HasCommands a → Calm script (on a below v) → Calm script (on (emptied a) below v)
  emptied_calm (TopLevel commands) h c = turned (TopLevel commands) (TopLevel []) tt (λ k. k) (λ o k. k) c
  emptied_calm (Framed f) h c = turned (Framed f) (Framed (record f { commands = [] })) tt (λ k. k) (λ o k. k) c
  emptied_calm (ShuttingDown started) h c = c
  emptied_calm a h c = absurd h

  pub taken_calm : (command : Command) (a b : Activity) → Takes command a b → Calm script (on a below v) → Calm script (on b below v)
  taken_calm command a b (FromTop commands) c = turned (TopLevel (command ∷ commands)) (TopLevel commands) tt (λ k. k) (λ o k. k) c
  taken_calm command a b (FromFrame f commands left) c = turned (Framed f) (Framed (record f { commands = commands })) tt (λ k. k) (λ o k. k) c

module _ (script : Script) (a : Activity) (below : List Activity) (v : World) (h : HasCommands a) (rises : Rises 1 v.next_serial v.objects) (c : Calm script (on a below v)) where
  resting : AreResting script (on a below v) (a ∷ below)
  resting = all_rest script (on a below v) a below h c.stack.1

  changes : (after : World) (given_up : List ℕ) → Leaves (on a below v) after → Mild script (on a below v) rises c.over after given_up → Calm script (push (Releasing given_up) after)
  changes after given_up l m = record {
    referred = m.referred c.referred;
    over = (tt, subst AreOver (sym l.stack) c.over);
    stack = (tt, subst (AreResting script pushed) (sym l.stack) (resting_after script (on a below v) pushed (a ∷ below) (λ d k. kept d.object) resting));
  }
    where
      pushed : World
      pushed = push (Releasing given_up) after

      kept : (o : ℕ) → Keeps script (on a below v) pushed o
      kept o = record {
        mortal = m.mortal o;
        finalizers = m.finalizers o;
        forgotten = λ l f. still_forgotten after pushed o refl (alters_refl after.objects) (λ q. q) (pushed_free (Releasing given_up) after.stack o (m.given o f)) (m.forgotten o (inr l) f);
      }

  command_calm : (w : World) (command : Command) → CommandSteps script (λ w events. Calm script) w command (on a below v) a below
  command_calm w command = record {
    stays = λ lines answers. c;
    stops = λ lines answers. emptied_calm script below v a h c;
    changes = λ wants_memory lines given_up after shape. changes after given_up (changes_leave (on a below v) command wants_memory lines given_up after shape)
        (shape_mild script (on a below v) rises c.over command (Changes wants_memory lines given_up after) shape);
    calls = λ f k. starts_calm script (record { sort = CallFrame; proc = procedure_of (on a below v) f.serial; subject = f.serial; func = Some f.serial }) (on a below v) c.referred c.over resting tt
        (λ o l g i. either i (shape_mild script (on a below v) rises c.over command (Calls f.serial) (StartsFrame f k) o g) (λ n. n));
    asks = λ g low e. collects script below v a g true h c;
  }

keeps_calm : (script : Script) → Steps script (λ w. Sound w × Calm script w) (λ w events. Calm script)
keeps_calm script = record {
  starts_due = λ a below v ha g e k. collects script below v a g false ha k.1;
  ends = λ a lines below v last k. record {
    referred = k.1.referred;
    over = k.1.over;
    stack = (
      on_top script _ a (last_has (on a below v) a lines last),
      resting_after script (on a below v) (record (on a below v) { outcome = Ended }) below
          (λ d m. same_objects script (on a below v) (record (on a below v) { outcome = Ended }) d.object refl refl (λ i. i)) k.1.stack.1,
    );
  };
  shuts_down = λ below v k. turned script below v (TopLevel []) (ShuttingDown false) tt (λ i. i) (λ o i. i) k.1;
  gives_up = λ name below v e k. (command_calm script (ShuttingDown false) below v tt k.0.rises k.1 (on (ShuttingDown false) below v) (Del name)).changes false
      [] _ _ (del_shaped (on (ShuttingDown false) below v) name);
  collects_last = λ below v k. collects script below v (ShuttingDown true) 2 false tt (turned script below v (ShuttingDown false) (ShuttingDown true) tt (λ i. i) (λ o i. i) k.1);
  commands = λ command a b below v takes hb k. command_calm script b below v hb k.0.rises (taken_calm script below v command a b takes k.1) (on a below v) command;
  frame_ends = λ f below v left k. frame_end_calm script f below v k.1;
  releases = λ references below v k. released_calm script references below v k.1;
  dies = λ d below v k. dying_calm script d.object below v k.0.rises d.phase k.1;
  collects = λ c below v events after step k. phase_calm script c below v c.phase events after step k.1;
}

pub step_calm : (script : Script) (w : World) (events : List Event) (after : World) → Step script w events after → Sound w → Calm script w → Calm script after
step_calm script w events after step sound c = any_step script (λ u. Sound u × Calm script u) (λ u events. Calm script) (keeps_calm script) w events after step (sound, c)

pub opening_calm : (script : Script) (budget : ℕ) → Calm script (opening script budget)
opening_calm script budget = record {
  referred = λ x m r e. either m (λ i. let same : garbage_list ≡ x = i in let no : None ≡ Some r = ap (λ (z : Object). z.referent) same ∙ e in absurd (cc)) (λ n. absurd n);
  over = (tt, tt);
  stack = (tt, λ d m. absurd m);
}

pub calm_after : (script : Script) (w : World) (steps : List StepTaken) → Sound w → Calm script w → Run script w steps → Calm script (last_world w steps)
calm_after script w [] sound calm run = calm
calm_after script w (step ∷ steps) sound calm run =
    calm_after script step.world steps (step_falls script w step.events step.world run.0 sound).0 (step_calm script w step.events step.world run.0 sound calm) run.1

-- a death in a world with the invariant
stands_unheld : (script : Script) (w : World) (o : ℕ) (phase : DyingPhase) → Includes w.stack (Dying (record { object = o; phase = phase }))
    → Stands script w o phase → IsHeldInItsFramesAlone o phase (holdings w)
stands_unheld script w o Finalizer m h = unheld_degree w o h
stands_unheld script w o AfterFinalizer m h = λ e. (none_holds w o e).stack (held_by_member w.stack (Dying (record { object = o; phase = AfterFinalizer })) o m (inl refl))
stands_unheld script w o (Calling waiting) m h = unheld_degree w o h.0.unheld
stands_unheld script w o (AfterCall weak callback waiting) m h = unheld_degree w o h.1.unheld
stands_unheld script w o LegacyFinalizer m h = unheld_degree w o h.unheld
stands_unheld script w o AfterLegacy m h = λ e. (none_holds w o e).stack (held_by_member w.stack (Dying (record { object = o; phase = AfterLegacy })) o m (inl refl))
stands_unheld script w o Emptying m h = unheld_degree w o h.unheld
stands_unheld script w o phase m h = unheld_degree w o h.0

pub death_stands : (script : Script) (w : World) (stack : List Activity) → IsStack script w stack → (d : Death) → Includes stack (Dying d) → Stands script w d.object d.phase
death_stands script w [] h d m = absurd m
death_stands script w (a ∷ below) h d (inl e) = subst (IsOnTop script w) e h.0
death_stands script w (a ∷ below) h d (inr m) = stands script w d.object d.phase (h.1 d m)

pub dying_unheld : DyingIsUnheld
dying_unheld script budget steps run d m =
    let w = last_world (opening script budget) steps in
    let calm = calm_after script (opening script budget) steps (opening_sound script budget) (opening_calm script budget) run in
    stands_unheld script w d.object d.phase m (death_stands script w w.stack calm.stack d m)
