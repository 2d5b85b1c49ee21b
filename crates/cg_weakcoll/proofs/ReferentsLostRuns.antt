-- What every step of a run does to weak references, and so what a weak reference refers to by the lines since it was made.
use Rattle.std.proofs.Common.{◌≡◌, refl, sym, ◌∙◌, ap, subst, ℕ, ◌<◌, Bool, true, false, inl, inr, ◌⊎◌, List, [], ◌∷◌, ◌++◌, Option, Some, None, arith}
use Rattle.std.specs.Prelude.{◌==◌, not, ◌&&◌, ◌||◌, if◌then◌else◌}
use Rattle.std.proofs.lemmas.List.{append-nil, append_assoc}
use Rattle.cg_value.specs.declared.Val.{Val}
use Rattle.cg_value.specs.declared.Val.TheVariants.{Ref}
use Rattle.cg_value.specs.declared.Entry.{Entry}
use Rattle.cg_value.specs.declared.Place.{Place}
use Rattle.cg_value.specs.declared.Place.TheVariants.{Gen}
use Rattle.cg_value.specs.declared.KindCode.{KindCode}
use Rattle.cg_script.specs.declared.Script.{Script}
use Rattle.cg_script.specs.declared.Command.{Command}
use Rattle.cg_graph.specs.Member.{Includes}
use Rattle.cg_graph.specs.Value.{put}
use Rattle.cg_graph.specs.Object.{Object, first_place, is_tracked, serials, with_entries, with_place}
use Rattle.cg_graph.proofs.Members.{either, Includes-append_cases, Includes-append_left, Includes-append_right, Includes-map}
use Rattle.cg_machine.specs.declared.event.Event.{Event}
use Rattle.cg_machine.specs.declared.event.Event.TheVariants.{Made, Value, RefCount, Tracked as TrackedLine, Finalized as FinalizedLine, Count as CountLine, Gens as GensLine, Referent, Referrer, Held, Via, Listed, Unreachable, Cleared, Collected, End, Left, Refused}
use Rattle.cg_machine.specs.declared.event.FrameSort.TheVariants.{Call as CallFrame}
use Rattle.cg_machine.specs.World.{World, Activity, TopLevel, Framed, Dying, Collecting, ShuttingDown, Releasing, Numbers, Ended, push, with_change}
use Rattle.cg_machine.specs.Operands.{is_dict}
use Rattle.cg_machine.specs.Frame.{procedure_of}
use Rattle.cg_machine.specs.Effects.{Effect, Changes, bound, frozen, given_up_by, live, may_track, replaced, tracked_by, unfrozen, with_new}
use Rattle.cg_machine.specs.Commands.{new_collection}
use Rattle.cg_machine.specs.Run.{StepTaken, Step, Run, events_of, last_world}
use Rattle.cg_represents.proofs.Inspecting.{TellsThere}
use Rattle.cg_represents.proofs.Shapes.{Shape, Binds, Makes, Edits, Puts, Shows, Tells, Stays, Sets, Freezes, Unfreezes, Inspects, TellsNumbers}
use Rattle.cg_laws.proofs.Invariants.{AreAnswers, AreLast, CommandSteps, Steps, any_step, emptied, on}
use Rattle.cg_laws.proofs.LinesNameLive.{HasNoReferent}
use Rattle.cg_laws.proofs.Advancing.{frame_end_advances, released_advances, dying_advances, phase_advances}
use Rattle.cg_laws.proofs.LeftBelowRuns.{step_leaves}
use Rattle.cg_laws.proofs.Unheld.{not_dying}
use Rattle.cg_promises.proofs.FinalizerOnce.{KeepsFinalizers as TellsSo}
use Rattle.cg_promises.proofs.FinalizerOnceRuns.{Fit, step_fit, step_goes}
use Rattle.cg_weakcoll.specs.Maps.{RefersBy}
use Rattle.cg_weakcoll.proofs.ReferentsLost.{ClearNone, IsFading, IsLost, IsOther, Waned, Wanes, Never, LosesReferents, advance_wanes, wanes_for, same_waned, map_waned, if_waned, entries_waned, other_line, none_cleared, others_more, steady, starts_going}
use Rattle.cg_weakcoll.proofs.ReferentsLostDeaths.{IsWeak, step_fades}

abbrev DoesGo : World → Effect → Type 0
DoesGo w (Changes wants_memory lines given_up after) = LosesReferents w.objects w.next_serial lines after
DoesGo w effect = Unit {0}

numbers_other : (line : Event) → TellsNumbers line → IsOther line
numbers_other (RefCount n) k = tt
numbers_other (TrackedLine b) k = tt
numbers_other (FinalizedLine b) k = tt
numbers_other (CountLine first second third) k = tt
numbers_other (GensLine first second third fourth) k = tt
numbers_other line k = absurd k

module _ (w : World) where
  there_other : (line : Event) → TellsThere w line → IsOther line
  there_other (Referent n) t = tt
  there_other (Referrer n) t = tt
  there_other (Held n) t = tt
  there_other (Via n) t = tt
  there_other (Listed n) t = tt
  there_other Unreachable t = tt
  there_other line t = absurd t

  same : (names : List (Option Val)) (numbers : Numbers) → LosesReferents w.objects w.next_serial [] (record w { names = names; numbers = numbers })
  same names numbers = steady w.objects w.next_serial [] (record w { names = names; numbers = numbers }) none_cleared (same_waned Never w.objects)

  prints : (lines : List Event) → ClearNone lines → LosesReferents w.objects w.next_serial lines w
  prints lines none = steady w.objects w.next_serial lines w none (same_waned Never w.objects)

  places : (f : Place → Place) (numbers : Numbers) → LosesReferents w.objects w.next_serial [] (record w { objects = replaced f w; numbers = numbers })
  places f numbers = steady w.objects w.next_serial [] (record w { objects = replaced f w; numbers = numbers }) none_cleared
      (map_waned Never (λ x. with_place (f x.place) x) (λ x. record { serial = refl; code = refl; referent = inl refl }) w.objects)

  puts : (x : Object) (key v : Val) → LosesReferents w.objects w.next_serial [] (with_change (λ y. tracked_by w key v (with_entries (put x.entries key v) y)) x.serial w)
  puts x key v = steady w.objects w.next_serial [] (with_change put_in x.serial w) none_cleared (if_waned Never put_in (λ y. y.serial == x.serial)
      (λ y e. one (is_dict y && not (is_tracked y) && (may_track w key || may_track w v)) y) w.objects)
    where
      put_in : Object → Object
      put_in y = tracked_by w key v (with_entries (put x.entries key v) y)

      one : (b : Bool) (y : Object) → Wanes Never y (if b then with_place (Gen 0) (with_entries (put x.entries key v) y) else with_entries (put x.entries key v) y)
      one true y = record { serial = refl; code = refl; referent = inl refl }
      one false y = record { serial = refl; code = refl; referent = inl refl }

  makes : (name : ℕ) (kind : KindCode) (class : Option ℕ) (entries : List Entry) (referent : Option ℕ) → LosesReferents w.objects w.next_serial (Made kind w.next_serial
      ∷ []) (bound (with_new w kind class entries referent) name (Some (Ref w.next_serial)))
  makes name kind class entries referent = record {
    was = λ y m. either (Includes-append_cases w.objects (fresh ∷ []) y m) (λ k. inl (y, k, record { serial = refl; code = refl; referent = inl refl }))
        (λ k. either k (λ e. inr (ap (λ (z : Object). z.serial) (sym e))) (λ n. absurd n));
    cleared = λ n m. absurd (other_line (Made kind w.next_serial) tt n m);
  }
    where
      fresh : Object
      fresh = record { serial = w.next_serial; code = kind; class = class; entries = entries; place = first_place kind; finalized = false; referent = referent }

  shape_goes : (command : Command) (e : Effect) → Shape w command e → DoesGo w e
  shape_goes command e (Binds name v own hand) = same _ _
  shape_goes command e (Makes name kind class entries referent own parts) = makes name kind class entries referent
  shape_goes command e (Edits wants x entries given h mutable edit) = steady w.objects w.next_serial [] (with_change (with_entries entries) x.serial w) none_cleared (entries_waned entries x.serial w.objects)
  shape_goes command e (Puts x key v h mutable hand_key hand room) = puts x key v
  shape_goes command e (Shows v hand) = prints (Value v ∷ []) (other_line (Value v) tt)
  shape_goes command e (Tells line tells) = prints (line ∷ []) (other_line line (numbers_other line tells))
  shape_goes command e Stays = prints [] none_cleared
  shape_goes command e (Sets numbers own keeps) = same _ _
  shape_goes command e (Freezes is) = places frozen _
  shape_goes command e (Unfreezes is) = places unfrozen _
  shape_goes command e (Inspects lines calm there) = prints lines (λ n m. there_other (Cleared n) (there (Cleared n) m))
  shape_goes command e shape = tt

abbrev pub StepGoes : World → List Event → World → Type 0
StepGoes w events after = LosesReferents w.objects w.next_serial events after

module _ (script : Script) (below : List Activity) (v : World) where
  unchanged : (after : World) (lines : List Event) → ClearNone lines → after.objects ≡ v.objects → LosesReferents v.objects v.next_serial lines after
  unchanged after lines none e = steady v.objects v.next_serial lines after none (subst (Waned Never v.objects) (sym e) (same_waned Never v.objects))

  answers_none : (lines : List Event) → AreAnswers lines → ClearNone lines
  answers_none [] k = none_cleared
  answers_none (Refused n ∷ []) k = other_line (Refused n) tt
  answers_none (Collected n ∷ []) k = other_line (Collected n) tt
  answers_none lines k = absurd k

  command_goes : (b : Activity) (command : Command) (a : Activity) → CommandSteps script StepGoes (on b below v) command (on a below v) a below
  command_goes b command a = record {
    stays = λ lines answers. unchanged (on a below v) lines (answers_none lines answers) refl;
    stops = λ lines answers. unchanged (on (emptied a) below v) lines (answers_none lines answers) refl;
    changes = λ wants_memory lines given_up after shape. let t = shape_goes (on a below v) command (Changes wants_memory lines given_up after) shape in giving lines given_up after t;
    calls = λ f k. starts_going v.objects v.next_serial script (record {
      sort = CallFrame;
      proc = procedure_of (on a below v) f.serial;
      subject = f.serial;
      func = Some f.serial;
    }) (on a below v) (same_waned Never v.objects);
    asks = λ g low e. unchanged (push (new_collection g true (on a below v)) (on a below v)) [] none_cleared refl;
  }
    where
      giving : (lines : List Event) (given_up : List ℕ) (after : World) → LosesReferents v.objects v.next_serial lines after → LosesReferents v.objects v.next_serial lines (push (Releasing given_up) after)
      giving lines given_up after g = record {
        was = λ y m. either (g.was y m) (λ x. inl (
          x.0,
          x.1,
          wanes_for (IsLost lines after.stack) (IsLost lines (Releasing given_up ∷ after.stack))
              (λ n k. either k (λ c. inl c) (λ f. inr (record { death = f.death; member = inr f.member; object = f.object; frameless = f.frameless }))) x.0 y
              x.2,
        )) (λ e. inr e);
        cleared = g.cleared;
      }

last_none : (w : World) (a : Activity) (lines : List Event) → AreLast w a lines → ClearNone lines
last_none w (TopLevel []) lines e = subst ClearNone (sym e) (other_line End tt)
last_none w (ShuttingDown true) lines e = subst ClearNone (sym e) (others_more (Left (live w)) (End ∷ []) tt (other_line End tt))
last_none w a lines e = absurd e

goes_steps : (script : Script) → Steps script (λ w. Unit {0}) StepGoes
goes_steps script = record {
  starts_due = λ a below v ha g e k. unchanged script below v (push (new_collection g false (on a below v)) (on a below v)) [] none_cleared refl;
  ends = λ a lines below v last k. unchanged script below v (record (on a below v) { outcome = Ended }) lines (last_none (on a below v) a lines last) refl;
  shuts_down = λ below v k. unchanged script below v (on (ShuttingDown false) below v) [] none_cleared refl;
  gives_up = λ name below v e k. let w : World = on (ShuttingDown false) below v in unchanged script below v (push (Releasing (given_up_by w name)) (bound w name None)) [] none_cleared refl;
  collects_last = λ below v k. unchanged script below v (push (new_collection 2 false (on (ShuttingDown false) below v)) (on (ShuttingDown true) below v)) [] none_cleared refl;
  commands = λ command a b below v takes hb k. command_goes script below v a command b;
  frame_ends = λ f below v left k. advance_wanes script v (Framed f) below _ _ (frame_end_advances script f below v);
  releases = λ references below v k. advance_wanes script v (Releasing references) below _ _ (released_advances script references below v);
  dies = λ d below v k. advance_wanes script v (Dying d) below _ _ (dying_advances script d.object below v d.phase);
  collects = λ c below v events after step k. advance_wanes script v (Collecting c) below events after (phase_advances script c below v c.phase events after step);
}

pub step_wanes : (script : Script) (w : World) (events : List Event) (after : World) → Step script w events after → LosesReferents w.objects w.next_serial events after
step_wanes script w events after step = any_step script (λ u. Unit {0}) StepGoes (goes_steps script) w events after step tt

-- the state of a weak reference to an object, by the lines since it was made
pub record Keeps (since : List Event) (weak object : ℕ) (w : World) : Type 0 where
  pub made : weak < w.next_serial
  pub code : IsWeak w.objects weak
  pub uncleared : ¬ Includes since (Cleared weak) → (y : Object) → Includes w.objects y → y.serial ≡ weak → (y.referent ≡ Some object) ⊎ IsFading w.stack weak
  pub cleared : Includes since (Cleared weak) → HasNoReferent weak w.objects

module _ (script : Script) (weak object : ℕ) where
  step_keeps : (since : List Event) (w : World) (events : List Event) (after : World) → Step script w events after → Fit script w → Keeps since weak object w
      → Keeps (since ++ events) weak object after
  step_keeps since w events after step fit k = record {
    made = omega (arith, k.made, told.serial);
    code = λ y m e. either (goes.was y m) (λ x. x.2.code ∙ k.code x.0 x.1 (sym x.2.serial ∙ e)) (λ new. absurd (omega (arith, k.made, new, e)));
    uncleared = λ none y m e. either (goes.was y m)
        (λ x. either (k.uncleared (λ c. none (Includes-append_left since events (Cleared weak) c)) x.0 x.1 (sym x.2.serial ∙ e))
        (λ refers. either x.2.referent (λ same. inl (same ∙ refers))
        (λ lost. either lost.1 (λ c. absurd (none (Includes-append_right since events (Cleared weak) (subst (λ n. Includes events (Cleared n)) e c)))) (λ f. inr (subst (IsFading after.stack) e f))))
        (λ fading. either (step_fades script w events after weak k.code step (step_leaves script w events after step fit.sound fit.calm fit.order) fading) (λ f. inr f)
        (λ gone. absurd (gone (subst (Includes (serials after.objects)) e (Includes-map (λ (z : Object). z.serial) after.objects y m))))))
        (λ new. absurd (omega (arith, k.made, new, e)));
    cleared = λ c y m e. either (Includes-append_cases since events (Cleared weak) c)
        (λ before. either (goes.was y m) (λ x. either x.2.referent (λ same. same ∙ k.cleared before x.0 x.1 (sym x.2.serial ∙ e)) (λ lost. lost.0)) (λ new. absurd (omega (arith, k.made, new, e))))
        (λ now. goes.cleared weak now y m e);
  }
    where
      goes : LosesReferents w.objects w.next_serial events after
      goes = step_wanes script w events after step

      told : TellsSo w.objects w.next_serial events after
      told = step_goes script w events after step fit

  pub run_keeps : (since : List Event) (w : World) (steps : List StepTaken) → Run script w steps → Fit script w → Keeps since weak object w
      → Keeps (since ++ events_of steps) weak object (last_world w steps)
  run_keeps since w [] run fit k = subst (λ es. Keeps es weak object w) (sym (append-nil since)) k
  run_keeps since w (step ∷ steps) run fit k = subst (λ es. Keeps es weak object (last_world step.world steps)) (append_assoc since step.events (events_of steps))
      (run_keeps (since ++ step.events) step.world steps run.1 (step_fit script w step.events step.world run.0 fit) (step_keeps since w step.events step.world run.0 fit k))

pub keeps_refers : (since : List Event) (weak object : ℕ) (w : World) → Keeps since weak object w → RefersBy since weak object w
keeps_refers since weak object w k = record {
  uncleared = λ none alive y m e. either (k.uncleared none y m e) (λ r. r) (λ f. absurd (not_dying weak w.stack f.death alive f.member f.object));
  cleared = k.cleared;
}
