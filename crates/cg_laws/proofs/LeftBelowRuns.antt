-- Every step of a run leaves alone what lies below its activity.
use Rattle.std.proofs.Common.{◌≡◌, refl, sym, ap, subst, ℕ, true, false, inl, inr, ◌⊎◌, List, [], ◌∷◌, ◌++◌, Some, arith}
use Rattle.cg_script.specs.declared.Script.{Script}
use Rattle.cg_script.specs.declared.Command.{Command}
use Rattle.cg_graph.specs.Member.{Includes}
use Rattle.cg_graph.specs.Object.{Object, serials}
use Rattle.cg_graph.proofs.Members.{either, Includes-append_right}
use Rattle.cg_machine.specs.declared.event.Event.{Event}
use Rattle.cg_machine.specs.declared.event.FrameSort.TheVariants.{Call as CallFrame}
use Rattle.cg_machine.specs.World.{World, Activity, TopLevel, Framed, Releasing, Dying, Collecting, DyingPhase, AfterFinalizer, Calling, AfterCall, AfterLegacy, Emptying, Ended, opening, push, with_stack, ShuttingDown}
use Rattle.cg_machine.specs.Holdings.{holds, is_collection}
use Rattle.cg_machine.specs.Frame.{procedure_of}
use Rattle.cg_machine.specs.Effects.{Changes}
use Rattle.cg_machine.specs.Commands.{new_collection}
use Rattle.cg_machine.specs.Run.{StepTaken, Step, Run, last_world}
use Rattle.cg_represents.specs.Orderly.{waits_of, all_waits, is_cleared}
use Rattle.cg_laws.specs.Laws.{HadItsEntries, HadItsPlace, IsOfCollection, LeavesBelow, StepsLeaveWhatIsBelow}
use Rattle.cg_represents.proofs.Serials.{Rises}
use Rattle.cg_laws.proofs.InvariantOfRuns.{Sound, opening_sound}
use Rattle.cg_laws.proofs.Ending.{sound_after}
use Rattle.cg_laws.proofs.ShapeLaws.{changes_leave}
use Rattle.cg_laws.proofs.Unreferred.{Forgotten, alters_refl, still_forgotten, lives_within}
use Rattle.cg_laws.proofs.Unheld.{Rests, AreResting, IsStack, Calm, turned_free}
use Rattle.cg_laws.proofs.UnheldCommands.{Comes, was_there, is_new, shape_mild}
use Rattle.cg_laws.proofs.HeldLives.{waits_held}
use Rattle.cg_laws.proofs.HeldLivesDeaths.{HasOrder}
use Rattle.cg_laws.proofs.UnheldRuns.{taken_calm, opening_calm}
use Rattle.cg_laws.proofs.Invariants.{HasCommands, Takes, FromTop, FromFrame, emptied, on, CommandSteps, Steps, any_step, del_shaped}
use Rattle.cg_laws.proofs.HeldLivesRuns.{taken_orderly, opening_orderly, orderly_after}
use Rattle.cg_laws.proofs.LeftBelow.{MayChange, ComesFrom, IsCollectionOnTop, from_refl, LeavesIt, leaves_from}
use Rattle.cg_laws.proofs.Advancing.{frame_end_advances, released_advances, dying_advances, phase_advances}
use Rattle.cg_laws.proofs.LeftBelowSteps.{starts_leaves, advance_leaves}
use Rattle.cg_script.specs.declared.Command.TheVariants.{Del}

-- what a step leaves, if an activity takes it
abbrev pub LeavesUnder : World → List Activity → World → Type 0
LeavesUnder w [] after = Unit {0}
LeavesUnder w (a ∷ below) after = LeavesIt w below after

-- The command of w leaves u, where it is done.
module _ (script : Script) (b a : Activity) (below : List Activity) (v : World) (ha : HasCommands a) (held : (o : ℕ) → ¬ Includes (holds b) o → ¬ Includes (holds a) o)
    (rises : Rises 1 v.next_serial v.objects) (c : Calm script (with_stack (a ∷ below) v)) (h : HasOrder (with_stack (a ∷ below) v)) where
  abbrev w : World
  w = with_stack (b ∷ below) v

  abbrev u : World
  u = with_stack (a ∷ below) v

  forgotten : (o : ℕ) → Forgotten w o → Forgotten u o
  forgotten o f = still_forgotten w u o refl (alters_refl v.objects) (λ q. q) (turned_free b a below o (held o)) f

  from : (y : Object) → Comes script u rises c.over y → ComesFrom w below v.objects y ⊎ (y.serial ≡ v.next_serial) × (¬ IsOfCollection y.place)
  from y (was_there x m later (inl same) condemned placed) = inl (record { was = x; member = m; later = later; entries = inl same; place = λ k. inl (placed k) })
  from y (was_there x m later (inr changed) condemned placed) = inl (record {
    was = x;
    member = m;
    later = later;
    entries = inr (record {
      dying = λ d k f. changed.1 d.object (forgotten d.object f);
      waiting = λ k. changed.0 (h.waiting x.serial (Includes-append_right (waits_of a) (all_waits below) x.serial k) x m refl).code;
    });
    place = λ k. inl (placed k);
  })
  from y (is_new serial condemned apart weak_alone functions) = inr (serial, apart)

  unchanged : (top : Activity) → LeavesIt w below (with_stack (top ∷ below) v)
  unchanged top = leaves_from w below (with_stack (top ∷ below) v) (top ∷ []) refl (from_refl w below v.objects)

  emptied_leaves : (top : Activity) → HasCommands top → LeavesIt w below (on (emptied top) below v)
  emptied_leaves (TopLevel commands) k = unchanged (TopLevel [])
  emptied_leaves (Framed f) k = unchanged (Framed (record f { commands = [] }))
  emptied_leaves (ShuttingDown started) k = unchanged (ShuttingDown started)
  emptied_leaves top k = absurd k

  command_leaves : (command : Command) → CommandSteps script (λ x events after. LeavesUnder x x.stack after) w command u a below
  command_leaves command = record {
    stays = λ lines answers. unchanged a;
    stops = λ lines answers. emptied_leaves a ha;
    changes = λ wants_memory lines given_up after shape. record {
      tops = Releasing given_up ∷ a ∷ [];
      stack = ap (λ st. Releasing given_up ∷ st) (changes_leave u command wants_memory lines given_up after shape).stack;
      from = λ y k. from y ((shape_mild script u rises c.over command (Changes wants_memory lines given_up after) shape).comes y k);
    };
    calls = λ f k. starts_leaves script (record { sort = CallFrame; proc = procedure_of u f.serial; subject = f.serial; func = Some f.serial }) w below u (unchanged a);
    asks = λ g low e. leaves_from w below (push (new_collection g true u) u) (new_collection g true u ∷ a ∷ []) refl (from_refl w below v.objects);
  }

-- taking a command adds no holds
taken_held : (command : Command) (a b : Activity) → Takes command a b → (o : ℕ) → ¬ Includes (holds a) o → ¬ Includes (holds b) o
taken_held command a b (FromTop commands) o k = k
taken_held command a b (FromFrame f commands left) o k = k

steps_leave_it : (script : Script) → Steps script (λ w. (Sound w × Calm script w) × HasOrder w) (λ w events after. LeavesUnder w w.stack after)
steps_leave_it script = record {
  starts_due = λ a below v ha g e k. leaves_from (on a below v) below (push (new_collection g false (on a below v)) (on a below v))
      (new_collection g false (on a below v) ∷ a ∷ []) refl (from_refl (on a below v) below v.objects);
  ends = λ a lines below v last k. leaves_from (on a below v) below (record v { stack = a ∷ below; outcome = Ended }) (a ∷ []) refl (from_refl (on a below v) below v.objects);
  shuts_down = λ below v k. leaves_from (on (TopLevel []) below v) below (on (ShuttingDown false) below v) (ShuttingDown false ∷ []) refl (from_refl (on (TopLevel []) below v) below v.objects);
  gives_up = λ name below v e k. (command_leaves script (ShuttingDown false) (ShuttingDown false) below v tt (λ o i. i) k.0.0.rises k.0.1 k.1
      (Del name)).changes false [] _ _ (del_shaped (on (ShuttingDown false) below v) name);
  collects_last = λ below v k. let w : World = on (ShuttingDown false) below v
      in leaves_from w below (push (new_collection 2 false w) (on (ShuttingDown true) below v)) (new_collection 2 false w ∷ ShuttingDown true ∷ []) refl
      (from_refl w below v.objects);
  commands = λ command a b below v takes hb k. command_leaves script a b below v hb (taken_held command a b takes) k.0.0.rises
      (taken_calm script below v command a b takes k.0.1) (taken_orderly command a b below v takes k.1) command;
  frame_ends = λ f below v left k. advance_leaves script below v (Framed f) k.0.1 k.1 _ _ (frame_end_advances script f below v);
  releases = λ references below v k. advance_leaves script below v (Releasing references) k.0.1 k.1 _ _ (released_advances script references below v);
  dies = λ d below v k. advance_leaves script below v (Dying d) k.0.1 k.1 _ _ (dying_advances script d.object below v d.phase);
  collects = λ c below v events after step k. advance_leaves script below v (Collecting c) k.0.1 k.1 events after (phase_advances script c below v c.phase events after step);
}

pub step_leaves : (script : Script) (w : World) (events : List Event) (after : World) → Step script w events after → Sound w → Calm script w → HasOrder w → LeavesUnder w w.stack after
step_leaves script w events after step sound c h = any_step script (λ u. (Sound u × Calm script u) × HasOrder u) (λ u events after. LeavesUnder u u.stack after)
    (steps_leave_it script) w events after step ((sound, c), h)

-- what that says of objects that are dying or waiting below
cleared_forgotten : (script : Script) (w : World) (o : ℕ) (phase : DyingPhase) → Rests script w o phase → is_cleared phase ≡ true → Forgotten w o
cleared_forgotten script w o AfterFinalizer h e = absurd (let no : false ≡ true = e in cc)
cleared_forgotten script w o (Calling waiting) h e = h.1
cleared_forgotten script w o (AfterCall weak callback waiting) h e = h.1
cleared_forgotten script w o AfterLegacy h e = absurd (let no : false ≡ true = e in cc)
cleared_forgotten script w o Emptying h e = h.1
cleared_forgotten script w o phase h e = absurd h

module _ (script : Script) (w : World) (a : Activity) (below : List Activity) (after : World) (top : w.stack ≡ a ∷ below)
    (rises : Rises 1 w.next_serial w.objects) (resting : AreResting script w below) (h : HasOrder w) (l : LeavesIt w below after) where
  had : (y : Object) → Includes after.objects y → Includes (serials w.objects) y.serial → ¬ MayChange w below y.serial → HadItsEntries w.objects y
  had y m lives still = either (l.from y m)
      (λ k. (k.was, k.member, sym k.later.serial, either k.entries (λ e. e) (λ t. absurd (still (subst (MayChange w below) (sym k.later.serial) t)))))
      (λ e. absurd (let within = lives_within 1 w.next_serial w.objects y.serial rises lives in let same : y.serial ≡ w.next_serial = e.0 in omega (arith, within.1, same)))

  on_top : (b : Activity) (st : List Activity) → is_collection b ≡ false → IsCollectionOnTop (b ∷ st) → ⊥
  on_top (Collecting g) st e k = let no : true ≡ false = e in cc
  on_top b st e k = k

  placed : is_collection a ≡ false → (y : Object) → Includes after.objects y → IsOfCollection y.place → HadItsPlace w.objects y
  placed none y m c = either (l.from y m)
      (λ k. (k.was, k.member, sym k.later.serial, either (k.place c) (λ e. sym e) (λ t. absurd (on_top a below none (subst IsCollectionOnTop top t)))))
      (λ k. absurd (k.1 c))

  pub leaves_below : LeavesBelow w a below after
  leaves_below = record {
    tops = l.tops;
    stack = l.stack;
    places = λ none y m c. placed none y m c;
    dying = λ d k e y m s. had y m (subst (Includes (serials w.objects)) (sym s) (h.deaths_live d (subst (λ st. Includes st (Dying d)) (sym top) (inr k))))
        (λ t. t.dying d k (cleared_forgotten script w d.object d.phase (resting d k) e) s);
    waiting = λ weak k y m s.
        let waits : Includes (all_waits below) y.serial = subst (Includes (all_waits below)) (sym s) k in
        had y m (h.stack_lives y.serial (waits_held w.stack y.serial (subst (λ st. Includes (all_waits st) y.serial) (sym top)
        (Includes-append_right (waits_of a) (all_waits below) y.serial waits)))) (λ t. t.waiting waits);
  }

run_split : (script : Script) (w : World) (steps : List StepTaken) (step : StepTaken) → Run script w (steps ++ step ∷ []) → Run script w steps × Step script (last_world w steps) step.events step.world
run_split script w [] step run = (tt, run.0)
run_split script w (s ∷ steps) step run = let rest = run_split script s.world steps step run.1 in ((run.0, rest.0), rest.1)

pub steps_leave : StepsLeaveWhatIsBelow
steps_leave script budget steps step run a below top =
    let w = last_world (opening script budget) steps in
    let split = run_split script (opening script budget) steps step run in
    let sound : Sound w = sound_after script (opening script budget) steps (opening_sound script budget) split.0 in
    let both = orderly_after script (opening script budget) steps (opening_sound script budget) (opening_calm script budget) (opening_orderly script budget) split.0 in
    let stack : IsStack script w (a ∷ below) = subst (IsStack script w) top both.0.stack in
    let left : LeavesUnder w (a ∷ below) step.world = subst (λ st. LeavesUnder w st step.world) top (step_leaves script w step.events step.world split.1 sound both.0 both.1) in
    leaves_below script w a below step.world top sound.rises stack.1 both.1 left
