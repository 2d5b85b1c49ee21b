-- In every world of a run untracked objects are slack.
use Rattle.std.proofs.Common.{◌≡◌, refl, sym, ◌∙◌, subst, ℕ, Bool, true, false, inl, inr, List, [], ◌∷◌, Some}
use Rattle.std.specs.List.{list_any}
use Rattle.std.proofs.lemmas.Bool.{eq-eqb}
use Rattle.cg_script.specs.declared.Script.{Script}
use Rattle.cg_script.specs.declared.Command.{Command}
use Rattle.cg_graph.specs.Member.{Includes}
use Rattle.cg_graph.specs.Object.{Object, serials}
use Rattle.cg_graph.proofs.Members.{either, or_left, or_right, Includes-map_cases}
use Rattle.cg_machine.specs.declared.event.FrameSort.TheVariants.{Call as CallFrame}
use Rattle.cg_machine.specs.World.{World, Activity, TopLevel, Framed, Releasing, Dying, Death, Collecting, Collection, Start, opening, push, ShuttingDown}
use Rattle.cg_machine.specs.Holdings.{is_death_of, is_dying}
use Rattle.cg_machine.specs.Frame.{procedure_of}
use Rattle.cg_machine.specs.Effects.{Changes}
use Rattle.cg_machine.specs.Commands.{new_collection}
use Rattle.cg_machine.specs.Run.{Run, StepTaken, last_world}
use Rattle.cg_laws.proofs.HeldLivesDeaths.{HasOrder}
use Rattle.cg_laws.proofs.Invariants.{CommandSteps, FromFrame, FromTop, HasCommands, Steps, Takes, any_step, emptied, on, del_shaped}
use Rattle.cg_laws.proofs.HeldLivesRuns.{taken_orderly}
use Rattle.cg_represents.proofs.Serials.{Rises}
use Rattle.cg_laws.proofs.ShapeLaws.{changes_leave}
use Rattle.cg_laws.specs.Apart.{handles}
use Rattle.cg_promises.specs.Slack.{IsLooseTuple, IsSlack, UntrackedAreSlack}
use Rattle.cg_promises.proofs.UntrackedStay.{AreNoTuples, Excused, IsLoose, IsSlackWorld, Never, Slack, push_slack, starts_slack, still_same, turn_slack}
use Rattle.cg_promises.proofs.UntrackedStayDeaths.{dying_slack, frame_end_slack, released_slack}
use Rattle.cg_promises.proofs.UntrackedStayCollections.{phase_slack}
use Rattle.cg_promises.proofs.UntrackedStayCommands.{shape_slack}
use Rattle.cg_promises.proofs.FinalizerOnceRuns.{Fit, opening_fit, run_fit, step_fit}
use Rattle.cg_script.specs.declared.Command.TheVariants.{Del}

module _ (script : Script) (below : List Activity) (v : World) where
  abbrev SlackOn : Activity → Type 0
  SlackOn a = Slack v.next_serial v.objects (a ∷ below)

  emptied_slack : (a : Activity) → HasCommands a → SlackOn a → SlackOn (emptied a)
  emptied_slack (TopLevel commands) ha h = turn_slack Never v.next_serial (TopLevel commands) (TopLevel []) below v.objects v.objects
      (still_same Never v.objects) (λ n no. absurd no) (λ d e. cc) (λ c e. cc) h
  emptied_slack (Framed f) ha h = turn_slack Never v.next_serial (Framed f) (Framed (record f { commands = [] })) below v.objects v.objects
      (still_same Never v.objects) (λ n no. absurd no) (λ d e. cc) (λ c e. cc) h
  emptied_slack (ShuttingDown started) ha h = h
  emptied_slack a ha h = absurd ha

  taken_slack : (command : Command) (a b : Activity) → Takes command a b → SlackOn a → SlackOn b
  taken_slack command a b (FromTop commands) h = turn_slack Never v.next_serial (TopLevel (command ∷ commands)) (TopLevel commands) below v.objects v.objects
      (still_same Never v.objects) (λ n no. absurd no) (λ d e. cc) (λ c e. cc) h
  taken_slack command a b (FromFrame f commands left) h = turn_slack Never v.next_serial (Framed f) (Framed (record f { commands = commands })) below v.objects
      v.objects (still_same Never v.objects) (λ n no. absurd no) (λ d e. cc) (λ c e. cc) h

  begun_slack : (a : Activity) (g : ℕ) (asked : Bool) → SlackOn a → IsSlackWorld (push (new_collection g asked (on a below v)) (on a below v))
  begun_slack a g asked h = push_slack v.next_serial (new_collection g asked (on a below v)) (a ∷ below) v.objects (λ c e. start_none c e) h
    where
      start_none : (c : Collection) → new_collection g asked (on a below v) ≡ Collecting c → AreNoTuples v.next_serial v.objects c
      start_none c e o m = let same : Start ≡ c.phase = cc in absurd (subst (λ p. Includes (handles p) o) (sym same) m)

  command_slack : (w : World) (command : Command) (a : Activity) → HasCommands a → Rises 1 v.next_serial v.objects → HasOrder (on a below v) → SlackOn a
      → CommandSteps script (λ w events. IsSlackWorld) w command (on a below v) a below
  command_slack w command a ha rises order h = record {
    stays = λ lines answers. h;
    stops = λ lines answers. emptied_slack a ha h;
    changes = λ wants_memory lines given_up after shape. push_slack after.next_serial (Releasing given_up) after.stack after.objects (λ c e. cc)
        (subst (Slack after.next_serial after.objects) (sym (changes_leave (on a below v) command wants_memory lines given_up after shape).stack)
        (shape_slack (on a below v) rises order.entries_live h command (Changes wants_memory lines given_up after) shape));
    calls = λ f k. starts_slack script (record { sort = CallFrame; proc = procedure_of (on a below v) f.serial; subject = f.serial; func = Some f.serial }) (on a below v) h;
    asks = λ g low e. begun_slack a g true h;
  }

abbrev Holds : Script → World → Type 0
Holds script w = Fit script w × IsSlackWorld w

slack_steps : (script : Script) → Steps script (Holds script) (λ w events. IsSlackWorld)
slack_steps script = record {
  starts_due = λ a below v ha g e k. begun_slack script below v a g false k.1;
  ends = λ a lines below v last k. record { slack = k.1.slack; handled = k.1.handled };
  shuts_down = λ below v k. turn_slack Never v.next_serial (TopLevel []) (ShuttingDown false) below v.objects v.objects (still_same Never v.objects) (λ n no. absurd no) (λ d e. cc) (λ c e. cc) k.1;
  gives_up = λ name below v e k. (command_slack script below v (on (ShuttingDown false) below v) (Del name) (ShuttingDown false) tt k.0.sound.rises k.0.order
      k.1).changes false [] _ _ (del_shaped (on (ShuttingDown false) below v) name);
  collects_last = λ below v k. begun_slack script below v (ShuttingDown true) 2 false (turn_slack Never v.next_serial (ShuttingDown false) (ShuttingDown true)
      below v.objects v.objects (still_same Never v.objects) (λ n no. absurd no) (λ d e. cc) (λ c e. cc) k.1);
  commands = λ command a b below v takes hb k. command_slack script below v (on a below v) command b hb k.0.sound.rises (taken_orderly command a b below v takes
      k.0.order) (taken_slack script below v command a b takes k.1);
  frame_ends = λ f below v left k. frame_end_slack f below v k.1;
  releases = λ references below v k. released_slack references below v k.1;
  dies = λ d below v k. dying_slack script d.object below v k.0.sound.rises d.phase k.1;
  collects = λ c below v events after step k. phase_slack script c below v k.0.sound.rises c.phase events after k.0.order step k.1;
}

pub slack_after : (script : Script) (w : World) (steps : List StepTaken) → Run script w steps → Fit script w → IsSlackWorld w → IsSlackWorld (last_world w steps)
slack_after script w [] run fit h = h
slack_after script w (step ∷ steps) run fit h = slack_after script step.world steps run.1 (step_fit script w step.events step.world run.0 fit)
    (any_step script (Holds script) (λ w events. IsSlackWorld) (slack_steps script) w step.events step.world run.0 (fit, h))

pub opening_slack : (script : Script) (budget : ℕ) → IsSlackWorld (opening script budget)
opening_slack script budget = record {
  slack = λ x m u. inl (inl (either m (λ e. subst (λ (z : Object). z.serial ≡ 1) e refl) (λ no. absurd no)));
  handled = λ c m. either m (λ e. cc) (λ no. absurd no);
}

pub death_found : (n : ℕ) (d : Death) (stack : List Activity) → Includes stack (Dying d) → d.object ≡ n → list_any (is_death_of n) stack ≡ true
death_found n d [] m e = absurd m
death_found n d (a ∷ stack) (inl i) e = or_left (is_death_of n a) (list_any (is_death_of n) stack) (subst (λ b. is_death_of n b ≡ true) (sym i) (eq-eqb d.object n e))
death_found n d (a ∷ stack) (inr m) e = or_right (is_death_of n a) (list_any (is_death_of n) stack) (death_found n d stack m e)

pub untracked_slack : UntrackedAreSlack
untracked_slack script budget steps run x m u root live = told (last_world (opening script budget) steps) (run_fit script (opening script budget) steps run (opening_fit script budget)) m live
    (slack_after script (opening script budget) steps run (opening_fit script budget) (opening_slack script budget))
  where
    none : (w : World) → is_dying w x.serial ≡ false → ¬ Excused w.stack x.serial
    none w f (inl e) = root e
    none w f (inr d) = let no : true ≡ false = sym (death_found x.serial d.0 w.stack d.1 d.2) ∙ f in cc

    told : (w : World) → Fit script w → Includes w.objects x → is_dying w x.serial ≡ false → IsSlackWorld w → IsSlack w.objects x
    told w fit i f h = either (h.slack x i u) (λ e. absurd (none w f e)) (λ k. record { kind = k.0; refers = λ o r. loose o (fit.order.entries_live x i o r) (k.1 o r) })
      where
        loose : (o : ℕ) → Includes (serials w.objects) o → IsLoose w.objects o → IsLooseTuple w.objects o
        loose o l k = let z = Includes-map_cases (λ (y : Object). y.serial) w.objects o l in record {
          object = z.0;
          member = z.1;
          serial = z.2;
          tuple = (k z.0 z.1 z.2).0;
          untracked = (k z.0 z.1 z.2).1;
        }
