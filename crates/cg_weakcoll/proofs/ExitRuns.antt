-- In every run, the function of an exit finalizer begins at most once.
use Rattle.std.proofs.Common.{◌≡◌, ◌≢◌, refl, sym, ◌∙◌, ap, subst, ℕ, ◌+◌, ◌<◌, ◌≤◌, false, cond, inl, inr, ◌⊎◌, List, [], ◌∷◌, ◌++◌, Option, Some, None, arith}
use Rattle.std.specs.Prelude.{count_by, if◌then◌else◌, option_and_then, slice_get}
use Rattle.std.proofs.lemmas.List.{append_assoc}
use Rattle.std.proofs.lemmas.List.Sums.{sum_by-append}
use Rattle.std.proofs.lemmas.Option.{same_Some}
use Rattle.cg_value.specs.declared.KindCode.TheVariants.{List as ListKind, Func, Weak}
use Rattle.cg_value.specs.declared.Val.{Val}
use Rattle.cg_value.specs.declared.Val.TheVariants.{Ref}
use Rattle.cg_script.specs.declared.Script.{Script}
use Rattle.cg_script.specs.declared.Command.{Command}
use Rattle.cg_script.specs.declared.Command.TheVariants.{Call}
use Rattle.cg_script.specs.declared.Operand.TheVariants.{Name}
use Rattle.cg_script.specs.Texts.{TextsAreKnown}
use Rattle.cg_graph.specs.Member.{Includes}
use Rattle.cg_graph.specs.Object.{Object, serials}
use Rattle.cg_graph.specs.Value.{item, references, references_of_value}
use Rattle.cg_graph.proofs.Members.{either, Includes-append_cases}
use Rattle.cg_machine.specs.declared.event.Event.{Event}
use Rattle.cg_machine.specs.declared.event.Event.TheVariants.{Enter, Made}
use Rattle.cg_machine.specs.declared.event.FrameSort.TheVariants.{Callback}
use Rattle.cg_machine.specs.Program.{commands_of}
use Rattle.cg_machine.specs.World.{World, Activity, TopLevel, Framed, Releasing, ShuttingDown, opening, with_stack}
use Rattle.cg_machine.specs.Effects.{given_up_by}
use Rattle.cg_laws.specs.Laws.{is_enter}
use Rattle.cg_machine.specs.Operands.{value_of}
use Rattle.cg_laws.specs.Origins.{commands_on}
use Rattle.cg_machine.specs.Run.{IsRun, Run, Step, StepTaken, events_of, last_world, world_after}
use Rattle.cg_laws.proofs.Ending.{Run-append, last_world-append}
use Rattle.cg_laws.proofs.Unreferred.{lives_within}
use Rattle.cg_laws.proofs.PrefixesOfRuns.{events_of-append}
use Rattle.cg_laws.proofs.Invariants.{FromTop, on}
use Rattle.cg_promises.proofs.FinalizerOnce.{Says}
use Rattle.cg_promises.proofs.FinalizerOnceRuns.{run_back, run_front, step_goes}
use Rattle.cg_weakcoll.specs.Exits.{AllOther, Exit, ExitsBeginOnce, IsExit, IsOther, MakesWatch, calls_from, first_of, is_call, is_callback_of, names_of, next_command, watch_command}
use Rattle.cg_weakcoll.proofs.NewObjects.{Unborn, member_below, named_below, new_hidden, unborn, unborn_taken}
use Rattle.cg_weakcoll.proofs.HiddenKept.{hidden_kept}
use Rattle.cg_weakcoll.proofs.ExitNamesKept.{done_names, set_got}
use Rattle.cg_weakcoll.proofs.CallbacksOnce.{Tells}
use Rattle.cg_weakcoll.proofs.OwnCommands.{IsRef, ref_step}
use Rattle.cg_weakcoll.proofs.HiddenObjects.{Hidden}
use Rattle.cg_weakcoll.proofs.ExitStages.{After, AreTame, AtDeref, Before, During, InFirst, InLast, InOther, InSecond, InThird, IsTail, Position, Stage, high_tame, positioned, stage_told, top_is}
use Rattle.cg_weakcoll.proofs.ExitStageSteps.{Rests, stage_step}
use Rattle.cg_weakcoll.proofs.OtherCommands.{AreHidden, IsHigh, high_taken, same_top}
use Rattle.cg_weakcoll.proofs.WeakReferenceSteps.{went_tells}
use Rattle.cg_weakcoll.proofs.WatchedReference.{Standing, StandsDeref, Watching, callbacks, none_counted, standing_rests}
use Rattle.cg_weakcoll.proofs.WatchedReferenceKept.{object_there, watching_step}
use Rattle.cg_weakcoll.proofs.WatchedReferenceSteps.{standing_advances}
use Rattle.cg_weakcoll.proofs.KnownOfRuns.{Acted, Bottomed, Commanded, Due, GaveUp, Known, Lasted, Over, Went, exactly, known_after, went}

pub sum_moved : (a b c : ℕ) → (a + b) + c ≡ a + (b + c)
sum_moved a b c = omega arith

-- calls of two consecutive runs
calls_from-append : (name : ℕ) (w : World) (steps more : List StepTaken) → calls_from name w (steps ++ more) ≡ calls_from name w steps + calls_from name (last_world w steps) more
calls_from-append name w [] more = omega arith
calls_from-append name w (step ∷ steps) more =
    let rest = calls_from-append name step.world steps more in
    ap (λ n. (if is_call name (next_command w.stack) then count_by is_enter step.events else 0) + n) rest
    ∙ sym (sum_moved (if is_call name (next_command w.stack) then count_by is_enter step.events else 0) (calls_from name step.world steps)
    (calls_from name (last_world step.world steps) more))

stage_few : (script : Script) (e : Exit) (Q : List Command → Type 0) (calls : ℕ) (stack : List Activity) → Stage script e Q calls stack → calls ≤ 1
stage_few script e Q calls stack (Before tops done commands is high at none) = omega (arith, none)
stage_few script e Q calls stack (During tops f commands is high tail other q none) = omega (arith, none)
stage_few script e Q calls stack (After tame few) = few

-- the subject of a callback existed before
enters_old : (script : Script) (budget : ℕ) (w : World) (events : List Event) (after : World) (s : ℕ) → Known script budget w → Step script w events after
    → Includes events (Enter Callback s) → s < w.next_serial
enters_old script budget w events after s k step m = either (step_goes script w events after step k.fit).told (λ all. absurd (all (Enter Callback s) m).0)
    (λ one. (lives_within 1 w.next_serial w.objects s k.fit.sound.rises (lives one.0 (either (subst (λ es. Includes es (Enter Callback s)) one.1 m) (λ i. i) (λ none. absurd none)) one.2)).1)
  where
    lives : (event : Event) → event ≡ Enter Callback s → Says w.objects after.objects event → Includes (serials w.objects) s
    lives event is says = subst (Says w.objects after.objects) is says

abbrev pub AllKnown : Script → ℕ → World → Type 0
AllKnown script budget w = (front : List StepTaken) → Run script w front → Known script budget (last_world w front)

pub next_known : (script : Script) (budget : ℕ) (w : World) (step : StepTaken) → Step script w step.events step.world → AllKnown script budget w → AllKnown script budget step.world
next_known script budget w step taken known front run = known (step ∷ front) (taken, run)

-- serials rise during a run
serials_rise : (script : Script) (budget : ℕ) (w : World) (steps : List StepTaken) → Run script w steps → AllKnown script budget w → w.next_serial ≤ (last_world w steps).next_serial
serials_rise script budget w [] run known = omega arith
serials_rise script budget w (step ∷ steps) run known =
    let here = (step_goes script w step.events step.world run.0 (known [] tt).fit).serial in
    let rest = serials_rise script budget step.world steps run.1 (next_known script budget w step run.0 known) in omega (arith, here, rest)

-- so no callback begins before the object is made
quiet_before : (script : Script) (budget s : ℕ) (w : World) (steps : List StepTaken) → Run script w steps → AllKnown script budget w
    → (last_world w steps).next_serial ≤ s → callbacks s (events_of steps) ≡ 0
quiet_before script budget s w [] run known low = refl
quiet_before script budget s w (step ∷ steps) run known low =
    let later = next_known script budget w step run.0 known in
    let rest = quiet_before script budget s step.world steps run.1 later low in
    let rise = serials_rise script budget w (step ∷ steps) run known in
    let here = none_counted s step.events (λ m. let old = enters_old script budget w step.events step.world s (known [] tt) run.0 m in absurd (omega (arith, old, rise, low))) in
    let sum = sum_by-append (λ x. cond (is_callback_of s x) 1 0) step.events (events_of steps) in omega (arith, sum, here, rest)

module _ (script : Script) (budget : ℕ) (e : Exit) (ex : IsExit script e) where
  abbrev Nothing_known : List Command → Type 0
  Nothing_known commands = Unit {0}

  -- before the weak reference is made
  pub record Early (calls : ℕ) (w : World) : Type 0 where
    pub hidden : AreHidden e w
    pub stage : Stage script e Nothing_known calls w.stack

  pub early_step : (calls : ℕ) (w : World) (events : List Event) (after : World) → Known script budget w → Step script w events after → Early calls w
      → Early (calls + (if is_call e.function (next_command w.stack) then count_by is_enter events else 0)) after
  early_step calls w events after k step h = record {
    hidden = hidden_kept script budget e w events after k h.hidden (λ c a b below top takes. stage_told script budget e ex Nothing_known calls w.stack c a b
        below h.stage top takes) step (went script w events after k.fit.sound.rises step);
    stage = stage_step script budget e ex Nothing_known tt w events after k h.hidden step Nothing_known (λ cs t q r. tt) (λ cs t a q. tt) calls h.stage
        (went script w events after k.fit.sound.rises step);
  }

  pub early_run : (calls : ℕ) (w : World) (steps : List StepTaken) → Run script w steps → AllKnown script budget w → Early calls w → Early (calls + calls_from e.function w steps) (last_world w steps)
  early_run calls w [] run known h = let same : calls ≡ calls + 0 = omega arith in subst (λ n. Early n w) same h
  early_run calls w (step ∷ steps) run known h =
      let next = early_run (calls + (if is_call e.function (next_command w.stack) then count_by is_enter step.events else 0)) step.world steps run.1
      (next_known script budget w step run.0 known) (early_step calls w step.events step.world (known [] tt) run.0 h) in
      subst (λ n. Early n (last_world step.world steps)) (sum_moved calls (if is_call e.function (next_command w.stack) then count_by is_enter step.events
      else 0) (calls_from e.function step.world steps)) next

  pub early_opening : Early 0 (opening script budget)
  early_opening = record {
    hidden = λ x m code. absurd (either m (λ i. let no : ListKind ≡ Func = ap (λ (z : Object). z.code) i ∙ code in cc) (λ none. none));
    stage = Before [] [] (commands_of script.items) refl (λ a m. absurd m) refl refl;
  }

  -- names that others leave alone
  pub rests_names : (w : World) (events : List Event) (after : World) (n : ℕ) → Includes (names_of e) n → Went script w events after → Rests e w after → slice_get after.names n ≡ slice_get w.names n
  rests_names w events after n own x (inr same) = ap (λ ns. slice_get ns n) same.1
  rests_names w events after n own x (inl h) = go x
    where
      go : Went script w events after → slice_get after.names n ≡ slice_get w.names n
      go (Acted a below top acts) = ap (λ ns. slice_get ns n) acts.names
      go (Due g set none is) = ap (λ (z : World). slice_get z.names n) is
      go (Over a under place last is) = ap (λ (z : World). slice_get z.names n) is
      go (Bottomed below top none is) = ap (λ (z : World). slice_get z.names n) is
      go (GaveUp name below top none is) = absurd (subst (IsHigh e) (same_top script budget e ex h.0 (ShuttingDown false) h.1 below w.stack h.2 top).0 h.3)
      go (Lasted below top none is) = ap (λ (z : World). slice_get z.names n) is
      go (Commanded command a b below v is takes hb done) =
          let t = high_taken script budget e ex command a b takes (subst (IsHigh e) (same_top script budget e ex h.0 a h.1 below w.stack h.2 (ap (λ (z : World). z.stack) is)).0 h.3) in
          done_names script n command b below v events after (λ m. t.0.names n m own) done ∙ ap (λ (z : World). slice_get z.names n) (sym is)

  -- after it was made
  record Late (s n calls : ℕ) (w : World) : Type 0 where
    hidden : AreHidden e w
    stage : Stage script e (Standing e s n w) calls w.stack
    watching : Watching e s n calls w

  late_step : (s n calls : ℕ) (w : World) (events : List Event) (after : World) → Known script budget w → Step script w events after → Late s n calls w
      → Late s (n + callbacks s events) (calls + (if is_call e.function (next_command w.stack) then count_by is_enter events else 0)) after
  late_step s n calls w events after k step h = record {
    hidden = hidden_kept script budget e w events after k h.hidden (λ c a b below top takes. stage_told script budget e ex (Standing e s n w) calls w.stack c a b below h.stage top takes) step x;
    stage = stage_step script budget e ex (Standing e s (n + callbacks s events) after) StandsDeref w events after k h.hidden step (Standing e s n w)
        (λ cs t q r. standing_rests script budget e s n w events after k tells cs (rests_names w events after e.object (inl refl) x r)
        (rests_names w events after e.watch (inr (inr (inr (inl refl)))) x r) q)
        (λ cs t a q. standing_advances script budget e ex s n calls w events after k step tells h.watching cs t a q) calls h.stage x;
    watching = watching_step script budget e ex s n calls w events after k step x h.watching h.stage;
  }
    where
      x : Went script w events after
      x = went script w events after k.fit.sound.rises step

      tells : Tells s w events after
      tells = went_tells script budget s w events after k h.watching.made x

  late_run : (s n calls : ℕ) (w : World) (steps : List StepTaken) → Run script w steps → AllKnown script budget w → Late s n calls w
      → Late s (n + callbacks s (events_of steps)) (calls + calls_from e.function w steps) (last_world w steps)
  late_run s n calls w [] run known h = let a : n ≡ n + callbacks s [] = omega arith in let b : calls ≡ calls + 0 = omega arith in subst (λ i. Late s i (calls + 0) w) a (subst (λ i. Late s n i w) b h)
  late_run s n calls w (step ∷ steps) run known h =
      let next = late_run s (n + callbacks s step.events) (calls + (if is_call e.function (next_command w.stack) then count_by is_enter step.events else 0))
      step.world steps run.1 (next_known script budget w step run.0 known) (late_step s n calls w step.events step.world (known [] tt) run.0 h) in
      let sum = sum_by-append (λ x. cond (is_callback_of s x) 1 0) step.events (events_of steps) in
      let moved : (n + callbacks s step.events) + callbacks s (events_of steps) ≡ n + callbacks s (step.events ++ events_of steps) = omega (arith, sum) in
      subst (λ i. Late s i (calls + calls_from e.function w (step ∷ steps)) (last_world step.world steps)) moved
      (subst (λ i. Late s ((n + callbacks s step.events) + callbacks s (events_of steps)) i (last_world step.world steps))
      (sum_moved calls (if is_call e.function (next_command w.stack) then count_by is_enter step.events else 0) (calls_from e.function step.world steps))
      next)

  -- where the weak reference is made
  not_other : IsOther e (watch_command e) → ⊥
  not_other h = h.names e.watch (inl refl) (inr (inr (inr (inl refl))))

  first_includes : (commands : List Command) (c : Command) → first_of commands ≡ Some c → Includes commands c
  first_includes [] c is = absurd (cc)
  first_includes (d ∷ commands) c is = inl (let same : d ≡ c = cc in same)

  tame_first : (t : Activity) (below : List Activity) → AllOther e (commands_on t) → next_command (t ∷ below) ≡ Some (watch_command e) → ⊥
  tame_first (TopLevel commands) below h is = not_other (h (watch_command e) (first_includes commands (watch_command e) is))
  tame_first (Framed f) below h is = not_other (h (watch_command e) (first_includes f.commands (watch_command e) is))
  tame_first a below h is = cc

  tail_first : (fs : List Command) → IsTail e fs → first_of fs ≡ Some (watch_command e) → ⊥
  tail_first fs AtDeref is = cc
  tail_first fs other is = cc

  record AtMaking (calls : ℕ) (stack : List Activity) : Type 0 where
    done : List Command
    left : List Command
    is : stack ≡ TopLevel (watch_command e ∷ left) ∷ []
    at : commands_of script.items ≡ done ++ watch_command e ∷ left
    none : calls ≡ 0

  made_first : (calls : ℕ) (stack : List Activity) → Stage script e Nothing_known calls stack → next_command stack ≡ Some (watch_command e) → AtMaking calls stack
  made_first calls stack (Before [] done commands is high at none) first = go commands is at (sym (ap next_command is) ∙ first)
    where
      go : (cs : List Command) → stack ≡ TopLevel cs ∷ [] → commands_of script.items ≡ done ++ cs → first_of cs ≡ Some (watch_command e) → AtMaking calls stack
      go [] st a f = absurd (cc)
      go (c ∷ cs) st a f = let same : c ≡ watch_command e = cc in
          record { done = done; left = cs; is = subst (λ x. stack ≡ TopLevel (x ∷ cs) ∷ []) same st; at = subst (λ x. commands_of script.items ≡ done ++ x ∷ cs) same a; none = none }
  made_first calls stack (Before (t ∷ tops) done commands is high at none) first =
      absurd (tame_first t (tops ++ TopLevel commands ∷ []) (high_tame e t (high t (inl refl))) (sym (ap next_command is) ∙ first))
  made_first calls stack (During [] f commands is high tail other q none) first = absurd (tail_first f.commands tail (sym (ap next_command is) ∙ first))
  made_first calls stack (During (t ∷ tops) f commands is high tail other q none) first = absurd (tame_first t (tops ++ Framed f ∷ TopLevel commands ∷ [])
      (high_tame e t (high t (inl refl))) (sym (ap next_command is) ∙ first))
  made_first calls stack (After tame few) first = go stack tame first
    where
      go : (st : List Activity) → AreTame e st → next_command st ≡ Some (watch_command e) → AtMaking calls stack
      go [] h f = absurd (cc)
      go (t ∷ below) h f = absurd (tame_first t below (h t (inl refl)) f)

  left_own : (c : Command) (rest : List Command) → c ≡ watch_command e → Position script e ex c rest → (d : Command) → Includes rest d → IsOther e d ⊎ (d ≡ Call (Name e.exit))
  left_own c rest is (InOther h) d m = absurd (not_other (subst (IsOther e) is h))
  left_own c rest is (InFirst i) d m = absurd (let no = sym i ∙ is in cc)
  left_own c rest is (InSecond i) d m = absurd (let no = sym i ∙ is in cc)
  left_own c rest is (InThird i at) d m = either (Includes-append_cases ex.middle (Call (Name e.exit) ∷ ex.back) d (subst (λ xs. Includes xs d) at m))
      (λ j. inl (ex.middle_other d j)) (λ j. either j (λ q. inr (sym q)) (λ q. inl (ex.back_other d q)))
  left_own c rest is (InLast i at) d m = absurd (let no = sym i ∙ is in cc)

  module _ (calls : ℕ) (w : World) (events : List Event) (after : World) (k : Known script budget w) (step : Step script w events after) (h : Early calls w)
      (first : next_command w.stack ≡ Some (watch_command e)) where
    here : AtMaking calls w.stack
    here = made_first calls w.stack h.stage first

    abbrev u : World
    u = on (TopLevel here.left) [] w

    is_on : w ≡ on (TopLevel (watch_command e ∷ here.left)) [] w
    is_on = ap (λ st. with_stack st w) here.is

    hidden_now : AreHidden e after
    hidden_now = hidden_kept script budget e w events after k h.hidden (λ c a b below top takes. stage_told script budget e ex Nothing_known calls w.stack c a b
        below h.stage top takes) step (went script w events after k.fit.sound.rises step)

    made_late : IsRef script u events after e.watch e.target (Name e.function) → Late w.next_serial 0 0 after
    made_late d = record {
      hidden = hidden_now;
      stage = Before (Releasing (given_up_by u e.watch) ∷ []) (here.done ++ watch_command e ∷ []) here.left (ap (λ (z : World). z.stack) d.yields.1)
          (λ a m. either m (λ i. subst (IsHigh e) i tt) (λ none. absurd none))
          (here.at ∙ sym (append_assoc here.done (watch_command e ∷ []) here.left)) refl;
      watching = record {
        made = let r = ap (λ (z : World). z.next_serial) d.yields.1 in omega (arith, r);
        live = λ x m i r some. subst (Hidden e.watch w.next_serial) (sym d.yields.1) (new_hidden e.watch u Weak None d.entries (Some d.object.serial) (given_up_by u e.watch) (λ c. cc) free other
            (unborn_taken w.next_serial (watch_command e) (TopLevel (watch_command e ∷ here.left)) (TopLevel here.left) [] w (FromTop here.left)
            (subst (Unborn w.next_serial) is_on (unborn script budget w k))));
        calm = inl refl;
        named = λ q m. named_now q (slice_get after.names e.watch) refl m;
        own = λ cs m c i. either (subst (λ (z : World). Includes z.stack (TopLevel cs)) d.yields.1 m) (λ j. cc)
            (λ j. either j (λ same. left_own (watch_command e) here.left refl (positioned script e ex here.done here.left (watch_command e) here.at) c
            (subst (λ xs. Includes xs c) (sym (top_is here.left cs same)) i)) (λ none. absurd none));
        called = inl refl;
      };
    }
      where
        function_old : (v : Val) → value_of u (Name e.function) ≡ Some v → ¬ Includes (references (item v ∷ [])) w.next_serial
        function_old (Ref q) at m = either m (λ same. let low = named_below script budget w k e.function q (subst (λ o. Includes (references_of_value o) q)
            (sym at) (inl refl)) in absurd (omega (arith, low, same))) (λ none. none)
        function_old v at m = m

        free : ¬ Includes (references d.entries) w.next_serial
        free m = either d.entries_are (λ none. subst (λ es. Includes (references es) w.next_serial) none m) (λ one. function_old d.function d.calls
            (subst (λ es. Includes (references es) w.next_serial) one m))

        other : Some d.object.serial ≢ Some w.next_serial
        other same = let low = member_below script budget w k d.object (object_there u d.value d.object d.found) in let i = same_Some d.object.serial w.next_serial same in omega (arith, low, i)

        named_now : (q : ℕ) (m : Option (Option Val)) → slice_get after.names e.watch ≡ m → Includes (references_of_value (option_and_then (λ v. v) m)) q → q ≡ w.next_serial
        named_now q None at i = absurd i
        named_now q (Some v) at i =
            let is = set_got w.names e.watch (Some (Ref w.next_serial)) v (subst (λ (z : World). slice_get z.names e.watch ≡ Some v) d.yields.1 at) in
            either (subst (λ o. Includes (references_of_value o) q) is i) (λ same. sym same) (λ none. absurd none)

    made_is : (s : ℕ) → Includes events (Made Weak s) → (w.next_serial ≡ s) × Late w.next_serial 0 0 after
    made_is s m = either (exactly script (TopLevel (watch_command e ∷ here.left)) (TopLevel here.left) [] w (watch_command e) events after (FromTop here.left)
        (subst (λ (z : World). Step script z events after) is_on step))
        (λ due. absurd (subst (λ (es : List Event). Includes es (Made Weak s)) due.1 m))
        (λ c. either (ref_step script u events after e.watch e.target (Name e.function) c)
        (λ r. absurd (either (subst (λ (es : List Event). Includes es (Made Weak s)) r.1.0 m) (λ i. cc) (λ none. none)))
        (λ d. (either (subst (λ (es : List Event). Includes es (Made Weak s)) d.yields.0 m) (λ i. serial_is w.next_serial s i) (λ none. absurd none), made_late d)))
      where
        serial_is : (p q : ℕ) → Made Weak p ≡ Made Weak q → p ≡ q
        serial_is p q i = cc

  module _ (texts : TextsAreKnown script) where
    all_known : AllKnown script budget (opening script budget)
    all_known front run = known_after script budget front texts run

    few_calls : (steps : List StepTaken) → IsRun script budget steps → calls_from e.function (opening script budget) steps ≤ 1
    few_calls steps run = let early = early_run 0 (opening script budget) steps run all_known early_opening in let few = stage_few script e Nothing_known
        (0 + calls_from e.function (opening script budget) steps) (world_after script budget steps).stack early.stage in omega (arith, few)

    late_few : (s n calls : ℕ) (w : World) → Late s n calls w → n + calls ≤ 1
    late_few s n calls w h =
        let few = stage_few script e (Standing e s n w) calls w.stack h.stage in
        either h.watching.called (λ c. either h.watching.calm (λ z. omega (arith, c, z)) (λ o. let one = o.0 in omega (arith, c, one))) (λ p. let z = p.0 in omega (arith, few, z))

    few_together : (steps : List StepTaken) → IsRun script budget steps → (s : ℕ) → MakesWatch script budget steps e s → callbacks s (events_of steps) +
        calls_from e.function (opening script budget) steps ≤ 1
    few_together steps run s making = go making.before making.making making.after making.is making.line making.made
      where
        go : (before : List StepTaken) (making : StepTaken) (after : List StepTaken) → steps ≡ before ++ making ∷ after
            → next_command (world_after script budget before).stack ≡ Some (watch_command e) → Includes making.events (Made Weak s)
            → callbacks s (events_of steps) + calls_from e.function (opening script budget) steps ≤ 1
        go before making after is line made =
            let w = last_world (opening script budget) before in
            let whole : Run script (opening script budget) (before ++ making ∷ after) = subst (Run script (opening script budget)) is run in
            let front = run_front script (opening script budget) before (making ∷ after) whole in
            let back = run_back script (opening script budget) before (making ∷ after) whole in
            let k = all_known before front in
            let early = early_run 0 (opening script budget) before front all_known early_opening in
            let m = made_is (0 + calls_from e.function (opening script budget) before) w making.events making.world k back.0 early line s made in
            let none = (here (0 + calls_from e.function (opening script budget) before) w making.events making.world k back.0 early line).none in
            let known : AllKnown script budget making.world = λ more r. subst (Known script budget) (last_world-append (opening script budget) before
            (making ∷ more)) (all_known (before ++ making ∷ more) (Run-append script (opening script budget) before (making ∷ more) front (back.0, r))) in
            let late = late_run w.next_serial 0 0 making.world after back.1 known m.1 in
            let few = late_few w.next_serial _ _ (last_world making.world after) late in
            let early_quiet : callbacks w.next_serial (events_of before) ≡ 0 = quiet_before script budget w.next_serial (opening script budget) before front all_known (omega arith) in
            let making_quiet : callbacks w.next_serial making.events ≡ 0 = none_counted w.next_serial making.events (λ i. let old = enters_old script budget w
            making.events making.world w.next_serial k back.0 i in omega (arith, old)) in
            let calls_all = calls_from-append e.function (opening script budget) before (making ∷ after) in
            let no_call : is_call e.function (next_command w.stack) ≡ false = ap (is_call e.function) line in
            let making_calls : (if is_call e.function (next_command w.stack) then count_by is_enter making.events else 0) ≡ 0 = ap (λ b. if b then count_by is_enter making.events else 0) no_call in
            let a = sum_by-append (λ x. cond (is_callback_of w.next_serial x) 1 0) (events_of before) (making.events ++ events_of after) in
            let b = sum_by-append (λ x. cond (is_callback_of w.next_serial x) 1 0) making.events (events_of after) in
            let lines : callbacks w.next_serial (events_of steps) ≡ callbacks w.next_serial (events_of before ++ (making.events ++ events_of after)) =
            ap (λ st. callbacks w.next_serial (events_of st)) is ∙ ap (callbacks w.next_serial) (events_of-append before (making ∷ after)) in
            let counted : calls_from e.function (opening script budget) steps ≡ calls_from e.function (opening script budget) (before ++ making ∷ after) =
            ap (calls_from e.function (opening script budget)) is in
            subst (λ i. callbacks i (events_of steps) + calls_from e.function (opening script budget) steps ≤ 1) m.0
            (omega (arith, few, early_quiet, making_quiet, calls_all, making_calls, a, b, lines, counted, none))

pub exits_once : ExitsBeginOnce
exits_once script budget steps texts run e ex = record { calls = few_calls script budget e ex texts steps run; together = few_together script budget e ex texts steps run }
