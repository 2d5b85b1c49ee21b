-- If the procedure of an exit finalizer finds its object alive, the function is called.
use Rattle.std.proofs.Common.{◌≡◌, ◌≢◌, refl, sym, ◌∙◌, ap, subst, ℕ, zero, suc, ◌+◌, ◌-◌, ◌<◌, true, false, cond, inl, inr, ◌⊎◌, List, [], ◌∷◌, ◌++◌, length, Option, Some, None, arith}
use Rattle.std.specs.Prelude.{count_by, flat_map, if◌then◌else◌, option_and_then, slice_get, slice_set}
use Rattle.std.proofs.lemmas.Bool.{eq-eqb}
use Rattle.std.proofs.lemmas.List.Sums.{sum_by-cons}
use Rattle.std.proofs.lemmas.List.{append_assoc}
use Rattle.std.proofs.lemmas.Option.{same_Some}
use Rattle.cg_value.specs.declared.Val.{Val}
use Rattle.cg_value.specs.declared.Val.TheVariants.{Ref}
use Rattle.cg_script.specs.declared.Script.{Script}
use Rattle.cg_script.specs.declared.Command.{Command}
use Rattle.cg_script.specs.declared.Command.TheVariants.{Call, Del, Deref, Quit}
use Rattle.cg_script.specs.declared.Operand.TheVariants.{Name}
use Rattle.cg_script.specs.Texts.{TextsAreKnown}
use Rattle.cg_graph.specs.Member.{Includes}
use Rattle.cg_graph.specs.Object.{Object}
use Rattle.cg_graph.proofs.Members.{either, Includes-append_cases, Includes-append_left}
use Rattle.cg_machine.specs.declared.event.Event.{Event}
use Rattle.cg_machine.specs.declared.event.Event.TheVariants.{BudgetSpent, Enter, Refused}
use Rattle.cg_machine.specs.declared.event.FrameSort.TheVariants.{Call as CallFrame}
use Rattle.cg_machine.specs.World.{World, Activity, Framed, Releasing, Frame, opening, with_stack}
use Rattle.cg_machine.specs.Frame.{Yields, start_frame}
use Rattle.cg_machine.specs.Effects.{given_up_by}
use Rattle.cg_machine.specs.Commands.{CommandStep, new_collection}
use Rattle.cg_laws.specs.Laws.{is_enter}
use Rattle.cg_machine.specs.Operands.{object_of}
use Rattle.cg_laws.specs.Origins.{commands_on}
use Rattle.cg_machine.specs.Run.{CommandInFrame, FrameStep, IsRun, Run, Step, StepOf, StepTaken, last_world, world_after}
use Rattle.cg_laws.proofs.Ending.{Run-append, last_world-append}
use Rattle.cg_laws.proofs.Invariants.{FromFrame, on}
use Rattle.cg_represents.proofs.Lists.{found_at}
use Rattle.cg_laws.proofs.Lookups.{same_object}
use Rattle.cg_laws.proofs.PrintableTexts.{commands_name_texts}
use Rattle.cg_laws.proofs.Starting.{call_frame, called_either}
use Rattle.cg_promises.proofs.FinalizerOnceRuns.{run_back, run_front}
use Rattle.cg_weakcoll.specs.Exits.{Exit, ExitsBeginAlive, FindsAlive, IsExit, IsUnderway, NoneRefused, calls_from, exit_body, first_of, is_call, is_refusal, next_command}
use Rattle.cg_weakcoll.proofs.ExitRuns.{AllKnown, Early, early_opening, early_run, early_step, next_known, rests_names, sum_moved}
use Rattle.cg_weakcoll.proofs.ExitNamesKept.{set_away}
use Rattle.cg_weakcoll.proofs.OwnCommands.{IsDeref, Quitted, call_step, del_step, deref_step, quit_step, referent_value}
use Rattle.cg_weakcoll.proofs.ExitStages.{AtCall, AtDeref, AtObject, AtQuit, AtWatch, IsTail}
use Rattle.cg_weakcoll.proofs.OtherCommands.{AllHigh, AreHidden, IsHigh, high_step}
use Rattle.cg_weakcoll.proofs.WatchedReferenceSteps.{name_value}
use Rattle.cg_weakcoll.proofs.KnownOfRuns.{Known, exactly, known_after, went}

-- an existing name gets its value
set_there : (names : List (Option Val)) (x : ℕ) (v : Option Val) → x < length names → slice_get (slice_set names x v) x ≡ Some v
set_there [] x v low = absurd (omega (arith, low))
set_there (n ∷ names) zero v low = refl
set_there (n ∷ names) (suc x) v low = set_there names x v (omega (arith, low))

refusal_counted : (x : Event) → is_refusal x ≡ true → count_by is_refusal (x ∷ []) ≢ 0
refusal_counted x t none = let s = sum_by-cons (λ y. cond (is_refusal y) 1 0) x [] in let k : ◌≡◌ {A = ℕ} (cond (is_refusal x) 1 0) 1 = ap (λ b. cond b 1 0) t in omega (arith, s, k, none)

enter_counted : (n : ℕ) → count_by is_enter (Enter CallFrame n ∷ []) ≡ 1
enter_counted n = let s = sum_by-cons (λ y. cond (is_enter y) 1 0) (Enter CallFrame n) [] in let k : ◌≡◌ {A = ℕ} (cond (is_enter (Enter CallFrame n)) 1 0) 1 = refl in omega (arith, s, k)

module _ (script : Script) (budget : ℕ) (e : Exit) (ex : IsExit script e) (below : List Activity) where
  -- the procedure has its object, until its last call
  abbrev pub HasObject : World → List Command → Type 0
  HasObject w commands = (commands ≡ Call (Name e.function) ∷ []) ⊎ ((r : ℕ) × (slice_get w.names e.object ≡ Some (Some (Ref r))))

  pub data Alive (calls : ℕ) (w : World) : Type 0 where
    Underway : (tops : List Activity) (frame : Frame) → w.stack ≡ tops ++ Framed frame ∷ below → AllHigh e tops → IsTail e frame.commands
        → (frame.commands ≢ exit_body e) → HasObject w frame.commands → Alive calls w
    Begun : 0 < calls → Alive calls w

  abbrev counts : World → List Event → ℕ
  counts w events = if is_call e.function (next_command w.stack) then count_by is_enter events else 0

  one_high : (a : Activity) → IsHigh e a → AllHigh e (a ∷ [])
  one_high a h b (inl i) = subst (IsHigh e) i h
  one_high a h b (inr none) = absurd none

  module _ (w : World) (events : List Event) (after : World) (k : Known script budget w) (hidden : AreHidden e w) (step : Step script w events after) (calls : ℕ) where
    -- other activities on top
    over : (t : Activity) (tops : List Activity) (frame : Frame) → w.stack ≡ t ∷ (tops ++ Framed frame ∷ below) → AllHigh e (t ∷ tops) → IsTail e frame.commands
        → (frame.commands ≢ exit_body e) → HasObject w frame.commands → Alive (calls + counts w events) after
    over t tops frame is high tail later has =
        let x = went script w events after k.fit.sound.rises step in
        let s = high_step script budget e ex w t (tops ++ Framed frame ∷ below) events after k hidden is (high t (inl refl)) x in
        let names = rests_names script budget e ex w events after e.object (inl refl) x (inl (t, tops ++ Framed frame ∷ below, is, high t (inl refl))) in
        Underway (s.tops ++ tops) frame (s.is ∙ sym (append_assoc s.tops tops (Framed frame ∷ below))) (λ a m. either (Includes-append_cases s.tops tops a m)
        (s.high a) (λ i. high a (inr i))) tail later
        (either has (λ last. inl last) (λ r. inr (r.0, names ∙ r.1)))

    module _ (frame : Frame) (top : w.stack ≡ Framed frame ∷ below) (quiet : count_by is_refusal events ≡ 0) where
      refuses : (n : ℕ) → events ≡ Refused n ∷ [] → ⊥
      refuses n line = refusal_counted (Refused n) refl (sym (ap (count_by is_refusal) line) ∙ quiet)

      is_on : w ≡ on (Framed frame) below w
      is_on = ap (λ st. with_stack st w) top

      at_command : (c : Command) (cs : List Command) → frame.commands ≡ c ∷ cs → IsTail e frame.commands → (frame.commands ≢ exit_body e) → HasObject w frame.commands
          → (CommandStep script (on (Framed (record frame { commands = cs })) below w) c events after → Alive (calls + counts w events) after) → Alive (calls + counts w events) after
      at_command c cs left tail later has next = either (exactly script (Framed frame) (Framed (record frame { commands = cs })) below w c events after
          (FromFrame frame cs left) (subst (λ (z : World). Step script z events after) is_on step))
          (λ d. Underway (new_collection d.0 false (on (Framed frame) below w) ∷ []) frame (ap (λ (z : World). z.stack) d.2)
          (one_high (new_collection d.0 false (on (Framed frame) below w)) tt) tail later
          (either has (λ last. inl last) (λ r. inr (r.0, ap (λ (z : World). slice_get z.names e.object) d.2 ∙ r.1))))
          next

      begins : (u : World) (f : ℕ) → Yields (start_frame script (call_frame u f) u) events after → is_call e.function (next_command w.stack) ≡ true → 0 < calls + counts w events
      begins u f y called = called_either (λ lines z. count_by is_refusal lines ≡ 0 → 0 < calls + (if is_call e.function (next_command w.stack) then count_by is_enter lines else 0)) script u f events
          after y (λ none. absurd (refusal_counted BudgetSpent refl none)) (λ none. let one = ap (λ t. if t then count_by is_enter (Enter CallFrame f ∷ []) else 0) called ∙ enter_counted f in
          omega (arith, one)) quiet

      has_ref : (cs : List Command) → HasObject w cs → cs ≢ Call (Name e.function) ∷ [] → (r : ℕ) × (slice_get w.names e.object ≡ Some (Some (Ref r)))
      has_ref cs (inl last) apart = absurd (apart last)
      has_ref cs (inr r) apart = r

      own : (fs : List Command) → frame.commands ≡ fs → IsTail e fs → frame.commands ≢ exit_body e → HasObject w frame.commands → IsTail e frame.commands → Alive (calls + counts w events) after
      own fs is AtDeref later has tail = absurd (later is)
      own fs is AtQuit later has tail =
          let r = has_ref frame.commands has (λ same. let no : Quit (Name e.object) ∷ Del e.watch ∷ Del e.object ∷ Call (Name e.function) ∷ [] ≡ Call (Name e.function) ∷ [] = sym is ∙ same in cc) in
          let rest : List Command = Del e.watch ∷ Del e.object ∷ Call (Name e.function) ∷ [] in
          at_command (Quit (Name e.object)) rest is tail later has (λ s. either (quit_step script (on (Framed (record frame { commands = rest })) below w)
          events after (Name e.object) s) (λ q. absurd (refuses q.0 q.1.0)) (λ v. quits r v.0 (name_value w.names e.object v.0 v.1) v.2))
        where
          some_some : (a b : Val) → Some (Some a) ≡ Some (Some b) → a ≡ b
          some_some a b i = cc

          quits : ((r : ℕ) × (slice_get w.names e.object ≡ Some (Some (Ref r)))) → (v : Val) → slice_get w.names e.object ≡ Some (Some v)
              → Quitted script (on (Framed (record frame { commands = Del e.watch ∷ Del e.object ∷ Call (Name e.function) ∷ [] })) below w) events after v
              → Alive (calls + counts w events) after
          quits r (Ref i) at q = Underway (Releasing [] ∷ []) (record frame { commands = Del e.watch ∷ Del e.object ∷ Call (Name e.function) ∷ [] })
              (ap (λ (z : World). z.stack) q.1) (one_high (Releasing []) tt) AtWatch (λ j. cc) (inr (
                i,
                ap (λ (z : World). slice_get z.names e.object) q.1
                    ∙ at,
              ))
          quits r v at q = absurd (let no = some_some (Ref r.0) v (sym r.1 ∙ at) in cc)
      own fs is AtWatch later has tail =
          let r = has_ref frame.commands has (λ same. let no : Del e.watch ∷ Del e.object ∷ Call (Name e.function) ∷ [] ≡ Call (Name e.function) ∷ [] = sym is ∙ same in cc) in
          at_command (Del e.watch) (Del e.object ∷ Call (Name e.function) ∷ []) is tail later has
          (λ s. either (del_step script (on (Framed (record frame { commands = Del e.object ∷ Call (Name e.function) ∷ [] })) below w) events after e.watch
          s) (λ q. absurd (refuses q.0 q.1.0))
          (λ y. Underway (Releasing (given_up_by w e.watch) ∷ []) (record frame { commands = Del e.object ∷ Call (Name e.function) ∷ [] })
          (ap (λ (z : World). z.stack) y.1) (one_high (Releasing (given_up_by w e.watch)) tt) AtObject (λ j. cc)
          (inr (r.0, ap (λ (z : World). slice_get z.names e.object) y.1 ∙ set_away w.names e.watch e.object None (λ i. ex.watch_object (sym i)) ∙ r.1))))
      own fs is AtObject later has tail = at_command (Del e.object) (Call (Name e.function) ∷ []) is tail later has
          (λ s. either (del_step script (on (Framed (record frame { commands = Call (Name e.function) ∷ [] })) below w) events after e.object s)
          (λ q. absurd (refuses q.0 q.1.0))
          (λ y. Underway (Releasing (given_up_by w e.object) ∷ []) (record frame { commands = Call (Name e.function) ∷ [] }) (ap (λ (z : World). z.stack) y.1)
          (one_high (Releasing (given_up_by w e.object)) tt) AtCall (λ j. cc) (inl refl)))
      own fs is AtCall later has tail = at_command (Call (Name e.function)) [] is tail later has
          (λ s. either (call_step script (on (Framed (record frame { commands = [] })) below w) events after (Name e.function) s)
          (λ q. absurd (refuses q.0 q.1.0))
          (λ c. Begun (begins (on (Framed (record frame { commands = [] })) below w) c.object.serial c.begins (ap (λ st. is_call e.function (next_command st))
          top ∙ ap (λ xs. is_call e.function (first_of xs)) is ∙ eq-eqb e.function e.function refl))))

    alive_step : ((frame : Frame) → w.stack ≡ Framed frame ∷ below → count_by is_refusal events ≡ 0) → Alive calls w → Alive (calls + counts w events) after
    alive_step quiet (Underway [] frame is high tail later has) = own frame is (quiet frame is) frame.commands refl tail later has tail
    alive_step quiet (Underway (t ∷ tops) frame is high tail later has) = over t tops frame is high tail later has
    alive_step quiet (Begun more) = Begun (omega (arith, more))

  alive_run : (calls early : ℕ) (w : World) (steps : List StepTaken) → Run script w steps → AllKnown script budget w → Early script budget e ex early w
      → NoneRefused below w steps → Alive calls w → Alive (calls + calls_from e.function w steps) (last_world w steps)
  alive_run calls early w [] run known h quiet alive = let same : calls ≡ calls + 0 = omega arith in subst (λ n. Alive n w) same alive
  alive_run calls early w (step ∷ steps) run known h quiet alive =
      let next = alive_run (calls + counts w step.events) (early + counts w step.events) step.world steps run.1 (next_known script budget w step run.0 known)
      (early_step script budget e ex early w step.events step.world (known [] tt) run.0 h) quiet.1
      (alive_step w step.events step.world (known [] tt) h.hidden run.0 calls quiet.0 alive) in
      subst (λ n. Alive n (last_world step.world steps)) (sum_moved calls (counts w step.events) (calls_from e.function step.world steps)) next

  tail_left : (cs : List Command) → IsTail e cs → cs ≢ []
  tail_left cs AtDeref i = cc
  tail_left cs other i = cc

  pub told : (calls : ℕ) (w : World) → Alive calls w → IsUnderway below w.stack ⊎ (0 < calls)
  told calls w (Underway tops frame is high tail later has) = inl (record { tops = tops; frame = frame; is = is; left = tail_left frame.commands tail })
  told calls w (Begun more) = inr more

  module _ (texts : TextsAreKnown script) (w : World) (events : List Event) (after : World) (k : Known script budget w) (step : Step script w events after)
      (calls : ℕ) (frame : Frame) (finds : FindsAlive e w frame below) (quiet : count_by is_refusal events ≡ 0) where
    abbrev rest : List Command
    rest = Quit (Name e.object) ∷ Del e.watch ∷ Del e.object ∷ Call (Name e.function) ∷ []

    abbrev u : World
    u = on (Framed (record frame { commands = rest })) below w

    does : CommandStep script u (Deref e.object (Name e.watch)) events after
    does = subst (λ d. CommandInFrame script w d frame (Deref e.object (Name e.watch)) rest below events after) finds.no_collection
        (subst (λ cs. FrameStep script w frame cs below events after) finds.commands (subst (λ st. StepOf script w st events after) finds.stack step.step))

    low : e.object < length w.names
    low =
        let member : Includes (flat_map commands_on w.stack) (Deref e.object (Name e.watch)) = subst (λ st. Includes (flat_map commands_on st) (Deref e.object (Name e.watch))) (sym finds.stack)
        (Includes-append_left frame.commands (flat_map commands_on below) (Deref e.object (Name e.watch))
        (subst (λ cs. Includes cs (Deref e.object (Name e.watch))) (sym finds.commands) (inl refl))) in
        let known = commands_name_texts script texts (Deref e.object (Name e.watch)) (k.lawful.origins.commands (Deref e.object (Name e.watch)) member) e.object (inl refl) in
        let count = k.minded.count in omega (arith, known, count)

    gets : IsDeref script u events after e.object (Name e.watch) → (r : ℕ) → finds.weak.referent ≡ Some r → slice_get after.names e.object ≡ Some (Some (Ref r))
    gets d r some =
        let value : d.value ≡ Ref finds.weak.serial = same_Some d.value (Ref finds.weak.serial) (sym d.is ∙ ap (λ (m : Option (Option Val)). option_and_then (λ v. v) m) finds.named) in
        let there : object_of u (Ref finds.weak.serial) ≡ Some d.object = subst (λ v. object_of u v ≡ Some d.object) value d.found in
        let f = found_at w.objects finds.weak.serial d.object there in
        let same : d.object ≡ finds.weak = same_object 1 w.next_serial w.objects d.object finds.weak k.fit.sound.rises f.0 finds.member f.1 in
        let is : referent_value script u events after d.object.referent ≡ Ref r = ap (λ (x : Object). referent_value script u events after x.referent) same
        ∙ ap (referent_value script u events after) some in
        ap (λ (z : World). slice_get z.names e.object) d.yields.1 ∙ set_there w.names e.object (Some (referent_value script u events after d.object.referent)) low ∙ ap (λ v. Some (Some v)) is

    pub first_step : Alive (calls + counts w events) after
    first_step = either (deref_step script u events after e.object (Name e.watch) does)
        (λ q. absurd (refusal_counted (Refused q.0) refl (sym (ap (count_by is_refusal) q.1.0) ∙ quiet))) (λ d. go d finds.weak.referent refl)
      where
        go : IsDeref script u events after e.object (Name e.watch) → (m : Option ℕ) → finds.weak.referent ≡ m → Alive (calls + counts w events) after
        go d None none = absurd (finds.refers none)
        go d (Some r) some = Underway (Releasing (given_up_by u e.object) ∷ []) (record frame { commands = rest }) (ap (λ (z : World). z.stack) d.yields.1)
            (one_high (Releasing (given_up_by u e.object)) tt) AtQuit (λ i. cc) (inr (r, gets d r some))

-- the law, for every run
pub begins_alive : ExitsBeginAlive
begins_alive script budget before during texts run e ex frame below finds quiet = go during run quiet
  where
    all_known : AllKnown script budget (opening script budget)
    all_known front r = known_after script budget front texts r

    go : (steps : List StepTaken) → IsRun script budget (before ++ steps) → NoneRefused below (world_after script budget before) steps
        → IsUnderway below (last_world (world_after script budget before) steps).stack ⊎ (0 < calls_from e.function (world_after script budget before) steps)
    go [] r q = inl (record { tops = []; frame = frame; is = finds.stack; left = λ none. let no = sym finds.commands ∙ none in cc })
    go (step ∷ more) r q =
        let front = run_front script (opening script budget) before (step ∷ more) r in
        let back = run_back script (opening script budget) before (step ∷ more) r in
        let k = all_known before front in
        let known : AllKnown script budget (last_world (opening script budget) before) = λ steps s. subst (Known script budget)
        (last_world-append (opening script budget) before steps) (all_known (before ++ steps) (Run-append script (opening script budget) before steps front
        s)) in
        let early = early_run script budget e ex 0 (opening script budget) before front all_known (early_opening script budget e ex) in
        let first = first_step script budget e ex below texts (last_world (opening script budget) before) step.events step.world k back.0 0 frame finds (q.0 frame finds.stack) in
        let next = alive_run script budget e ex below _ _ step.world more back.1 (next_known script budget (last_world (opening script budget) before) step
        back.0 known) (early_step script budget e ex _ (last_world (opening script budget) before) step.events step.world k back.0 early) q.1 first in
        either (told script budget e ex below _ (last_world step.world more) next) (λ left. inl left) (λ more_calls. inr (omega (arith, more_calls)))
