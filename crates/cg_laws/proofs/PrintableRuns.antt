-- In a run of a script that uses only its own texts, each of them short, every line can be printed.
use Rattle.std.proofs.Common.{◌≡◌, sym, refl, subst, ℕ, ◌≤◌, inl, List, [], ◌∷◌, length, Some, None, true}
use Rattle.std.specs.Prelude.{flat_map}
use Rattle.std.specs.List.{All}
use Rattle.cg_script.specs.declared.Script.{Script}
use Rattle.cg_script.specs.declared.Command.{Command}
use Rattle.cg_script.specs.Texts.{TextsAreKnown}
use Rattle.cg_graph.specs.Member.{Includes}
use Rattle.cg_graph.specs.Object.{Object}
use Rattle.cg_graph.proofs.Members.{either, Includes-append_left, Includes-append_cases}
use Rattle.cg_machine.specs.declared.event.Event.{Event}
use Rattle.cg_machine.specs.declared.event.Event.TheVariants.{Collected, End, Refused}
use Rattle.cg_machine.specs.declared.event.FrameSort.TheVariants.{Call as CallFrame}
use Rattle.cg_machine.specs.World.{World, Activity, Framed, Releasing, Dying, Collecting, opening, TopLevel, ShuttingDown}
use Rattle.cg_machine.specs.Frame.{procedure_of}
use Rattle.cg_machine.specs.Effects.{Changes}
use Rattle.cg_machine.specs.Run.{StepTaken, Run, events_of}
use Rattle.cg_machine.specs.Lines.{IsPrintable}
use Rattle.cg_laws.specs.Origins.{commands_on}
use Rattle.cg_laws.specs.Printing.{LinesArePrintable}
use Rattle.cg_laws.proofs.Origins.{IsAllOfScript}
use Rattle.cg_laws.proofs.OriginsOfRuns.{step_origin, opening_origin}
use Rattle.cg_laws.proofs.PrintableTexts.{HaveTexts, WorldHasTexts, NamesTexts, commands_name_texts, replicated_member}
use Rattle.cg_represents.proofs.Lists.{set_member}
use Rattle.cg_laws.proofs.Advancing.{frame_end_advances, released_advances, dying_advances, phase_advances}
use Rattle.cg_laws.proofs.PrintableSteps.{Prints, silent, says, starts_prints, advance_prints}
use Rattle.cg_laws.proofs.PrintableCommands.{shape_prints}
use Rattle.cg_laws.proofs.Invariants.{Takes, FromTop, FromFrame, emptied, on, AreAnswers, CommandSteps, Steps, any_step, AreLast}

module _ (script : Script) (known : TextsAreKnown script) (short : All (λ text. length text ≤ 1024) script.names) where
  answers_print : (lines : List Event) → AreAnswers lines → (after : World) → WorldHasTexts (length script.names) after → Prints script.names lines after
  answers_print [] k after h = silent script.names after h
  answers_print (Refused n ∷ []) k after h = says script.names (Refused n) after tt h
  answers_print (Collected n ∷ []) k after h = says script.names (Collected n) after tt h
  answers_print lines k after h = absurd k

  command_prints : (w : World) (command : Command) (a : Activity) (below : List Activity) (v : World) → WorldHasTexts (length script.names) v
      → NamesTexts (length script.names) command → CommandSteps script (λ w. Prints script.names) w command (on a below v) a below
  command_prints w command a below v h named = record {
    stays = λ lines answers. answers_print lines answers (on a below v) h;
    stops = λ lines answers. answers_print lines answers (on (emptied a) below v) h;
    changes = λ wants_memory lines given_up after shape. let p = shape_prints script.names short (on a below v) h command named
        (Changes wants_memory lines given_up after) shape in record { lines = p.lines; known = p.known };
    calls = λ f k. starts_prints script.names script (record { sort = CallFrame; proc = procedure_of (on a below v) f.serial; subject = f.serial; func = Some f.serial }) (on a below v) h;
    asks = λ g low e. silent script.names _ h;
  }

  last_prints : (w : World) (a : Activity) (lines : List Event) (after : World) → AreLast w a lines → WorldHasTexts (length script.names) after → Prints script.names lines after
  last_prints w (TopLevel []) lines after e h = subst (λ (ls : List Event). Prints script.names ls after) (sym e) (says script.names End after tt h)
  last_prints w (ShuttingDown true) lines after e h = subst (λ (ls : List Event). Prints script.names ls after) (sym e) (record {
    lines = λ line m. either m (λ i. subst (IsPrintable script.names) i tt) (λ n. either n (λ i. subst (IsPrintable script.names) i tt) (λ no. absurd no));
    known = h;
  })
  last_prints w a lines after e h = absurd e

  taken_names : (command : Command) (a b : Activity) (below : List Activity) → Takes command a b → ((c : Command) → Includes (flat_map commands_on (a ∷ below))
      c → NamesTexts (length script.names) c) → NamesTexts (length script.names) command
  taken_names command a b below (FromTop commands) named = named command (inl refl)
  taken_names command a b below (FromFrame f commands left) named = named command (Includes-append_left f.commands (flat_map commands_on below) command
      (subst (λ (cs : List Command). Includes cs command) (sym left) (inl refl)))

  -- the commands of a world name texts of the script, and its own texts are known
  abbrev Named : World → Type 0
  Named w = ((c : Command) → Includes (flat_map commands_on w.stack) c → NamesTexts (length script.names) c) × WorldHasTexts (length script.names) w

  steps_print : Steps script Named (λ w. Prints script.names)
  steps_print = record {
    starts_due = λ a below v ha g e k. silent script.names _ k.1;
    ends = λ a lines below v last k. last_prints (on a below v) a lines _ last k.1;
    shuts_down = λ below v k. silent script.names _ k.1;
    gives_up = λ name below v e k. silent script.names _ (record {
      names = λ u m. either (set_member v.names name None (Some u) m) (λ i. k.1.names u i)
          (λ n. absurd (let no : None ≡ Some u = n in cc));
      objects = k.1.objects;
    });
    collects_last = λ below v k. silent script.names _ k.1;
    commands = λ command a b below v takes hb k. command_prints (on a below v) command b below v k.1 (taken_names command a b below takes k.0);
    frame_ends = λ f below v left k. advance_prints script.names script (Framed f) below v _ _ (frame_end_advances script f below v) k.1;
    releases = λ references below v k. advance_prints script.names script (Releasing references) below v _ _ (released_advances script references below v) k.1;
    dies = λ d below v k. advance_prints script.names script (Dying d) below v _ _ (dying_advances script d.object below v d.phase) k.1;
    collects = λ c below v events after step k. advance_prints script.names script (Collecting c) below v events after (phase_advances script c below v c.phase events after step) k.1;
  }

  run_prints : (w : World) (steps : List StepTaken) → Run script w steps → IsAllOfScript script w → WorldHasTexts (length script.names) w → (event : Event)
      → Includes (events_of steps) event → IsPrintable script.names event
  run_prints w [] run origin h event m = absurd m
  run_prints w (step ∷ steps) run origin h event m =
      let p = any_step script Named (λ w. Prints script.names) steps_print w step.events step.world run.0 (λ c k. commands_name_texts script known c (origin.commands c k), h) in
      either (Includes-append_cases step.events (events_of steps) event m) (p.lines event) (run_prints step.world steps run.1 (step_origin script w step.events step.world run.0 origin) p.known event)

opening_texts : (script : Script) (budget : ℕ) → WorldHasTexts (length script.names) (opening script budget)
opening_texts script budget = record {
  names = λ v m. absurd (let no : None ≡ Some v = replicated_member (length script.names) None (Some v) m in cc);
  objects = λ x m. either m (λ e. subst (λ (y : Object). HaveTexts (length script.names) y.entries) e (λ entry k. absurd k)) (λ none. absurd none);
}

pub lines_printable : LinesArePrintable
lines_printable script budget steps known short run event m = run_prints script known short (opening script budget) steps run (opening_origin script budget) (opening_texts script budget) event m
