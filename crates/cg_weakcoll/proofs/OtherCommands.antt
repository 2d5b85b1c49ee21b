-- What a script with an exit finalizer may do elsewhere: frames of other procedures, commands of other lines.
use Rattle.std.proofs.Common.{◌≡◌, ◌≢◌, refl, sym, ◌∙◌, ap, subst, ℕ, ◌-◌, true, false, inl, inr, ◌⊎◌, List, [], ◌∷◌, ◌++◌, Option, Some, None}
use Rattle.std.specs.Prelude.{flat_map, option_and_then, slice_get, unwrap_or}
use Rattle.std.proofs.lemmas.Bool.{ne_eqb}
use Rattle.cg_value.specs.declared.KindCode.{KindCode}
use Rattle.cg_value.specs.declared.KindCode.TheVariants.{Func, Weak}
use Rattle.cg_value.specs.declared.Val.TheVariants.{Ref}
use Rattle.cg_script.specs.declared.Script.{Script}
use Rattle.cg_script.specs.declared.ClassDef.{ClassDef}
use Rattle.cg_script.specs.declared.Command.{Command}
use Rattle.cg_script.specs.declared.Command.TheVariants.{Call}
use Rattle.cg_script.specs.declared.Operand.TheVariants.{Name}
use Rattle.cg_script.specs.Texts.{command_names}
use Rattle.cg_graph.specs.Member.{Includes}
use Rattle.cg_graph.specs.Object.{Object}
use Rattle.cg_graph.specs.Value.{references}
use Rattle.cg_graph.proofs.Members.{either, Includes-append_cases, Includes-append_right, Includes-map_cases}
use Rattle.cg_machine.specs.declared.event.Event.{Event}
use Rattle.cg_machine.specs.declared.event.FrameSort.{FrameSort}
use Rattle.cg_machine.specs.declared.event.FrameSort.TheVariants.{Del as DelFrame, Legacy as LegacyFrame, Callback, Call as CallFrame}
use Rattle.cg_machine.specs.Program.{class_number, classes}
use Rattle.cg_machine.specs.World.{World, Activity, TopLevel, Framed, Releasing, Dying, Collecting, ShuttingDown, DyingPhase, Clearing, Calling, AfterCall, CollectPhase, WeakClearing, WeakCalling, AfterCallback, AfterRelease}
use Rattle.cg_machine.specs.Holdings.{collect_holds, dying_holds, holds}
use Rattle.cg_machine.specs.Frame.{Yields, procedure_of, start_frame}
use Rattle.cg_machine.specs.Weak.{callback_in, callback_of, is_function}
use Rattle.cg_machine.specs.Commands.{new_collection}
use Rattle.cg_represents.specs.Orderly.{death_waits}
use Rattle.cg_laws.proofs.Invariants.{FromFrame, FromTop, Takes, emptied, on}
use Rattle.cg_laws.proofs.Lookups.{at_member, callback_at, callback_first}
use Rattle.cg_represents.proofs.Lists.{slice_get_member}
use Rattle.cg_laws.proofs.ShapeLaws.{changes_leave}
use Rattle.cg_laws.proofs.Starting.{begun_frame, call_frame, called_either}
use Rattle.cg_laws.proofs.Unheld.{held_by_member}
use Rattle.cg_weakcoll.specs.Exits.{AllOther, Exit, IsExit, IsOther, first_of, is_call, next_command}
use Rattle.cg_weakcoll.proofs.ActivitySteps.{BegunBy, IsRaised, all_to_call, to_call, to_call_in}
use Rattle.cg_weakcoll.proofs.CallbacksOnce.{lost_referent, to_call_of}
use Rattle.cg_weakcoll.proofs.HiddenObjects.{Hidden, hand_not}
use Rattle.cg_weakcoll.proofs.HiddenObjectSteps.{taken_hidden}
use Rattle.cg_weakcoll.proofs.KnownOfRuns.{Acted, Asked, Began, Bottomed, Changed, Commanded, Done, Due, GaveUp, Known, Lasted, Over, Stood, Stopped, Went}

-- an activity other than the script's own, with commands of other lines only
abbrev pub IsHigh : Exit → Activity → Type 0
IsHigh e (TopLevel commands) = ⊥
IsHigh e (Framed f) = AllOther e f.commands
IsHigh e (ShuttingDown started) = ⊥
IsHigh e a = Unit {0}

abbrev pub AllHigh : Exit → List Activity → Type 0
AllHigh e stack = (a : Activity) → Includes stack a → IsHigh e a

-- only its name holds the procedure's functions
abbrev pub AreHidden : Exit → World → Type 0
AreHidden e w = (x : Object) → Includes w.objects x → x.code ≡ Func → x.class ≡ Some e.proc → Hidden e.exit x.serial w

-- a weak reference to be called back is held
to_call_held : (a : Activity) (n : ℕ) → Includes (to_call a) n → Includes (holds a) n
to_call_held (Dying d) n m = by_phase d.phase m
  where
    by_phase : (phase : DyingPhase) → Includes (death_waits phase) n → Includes (dying_holds d.object phase) n
    by_phase (Clearing waiting) i = i
    by_phase (Calling waiting) i = i
    by_phase (AfterCall weak callback waiting) i = inr (inr i)
    by_phase phase i = absurd i
to_call_held (Collecting c) n m = by_phase c.phase m
  where
    by_phase : (phase : CollectPhase) → Includes (to_call_in phase) n → Includes (collect_holds phase) n
    by_phase (WeakClearing waiting) i = i
    by_phase (WeakCalling waiting) i = i
    by_phase (AfterCallback weak waiting) i = inr i
    by_phase (AfterRelease weak waiting) i = i
    by_phase phase i = absurd i
to_call_held a n m = absurd m

-- so it lives
pub to_call_lives : (script : Script) (budget : ℕ) (w : World) (n : ℕ) → Known script budget w → Includes (all_to_call w.stack) n → (x : Object) × Includes w.objects x × (x.serial ≡ n)
to_call_lives script budget w n k m =
    let a = to_call_of w.stack n m in
    Includes-map_cases (λ (z : Object). z.serial) w.objects n (k.lawful.orderly.held_live n (Includes-append_right _ (flat_map holds w.stack) n (held_by_member w.stack a.0 n a.1 (to_call_held a.0 n a.2))))

pub function_code : (x : Object) → is_function x ≡ true → x.code ≡ Func
function_code x t = go x.code refl
  where
    go : (k : KindCode) → x.code ≡ k → x.code ≡ Func
    go Func c = c
    go k c = absurd (let no : is_function x ≡ false = cc in let bad : true ≡ false = sym t ∙ no in cc)

module _ (script : Script) (budget : ℕ) (e : Exit) (ex : IsExit script e) where
  -- a function that is not hidden has another procedure
  pub other_proc : (w : World) (z : Object) → Known script budget w → AreHidden e w → Includes w.objects z → is_function z ≡ true → (Hidden e.exit z.serial w → ⊥) → procedure_of w z.serial ≢ e.proc
  other_proc w z k hidden m t shown is =
      let code = function_code z t in
      let q = (k.lawful.origins.objects z m).procedure code in
      let at : procedure_of w z.serial ≡ q.0 = ap (λ o. unwrap_or (option_and_then (λ (x : Object). x.class) o) 0) (at_member 1 w.next_serial w.objects z
      k.fit.sound.rises m) ∙ ap (λ c. unwrap_or c 0) q.1 in
      shown (hidden z m code (q.1 ∙ ap (λ p. Some p) (sym at ∙ is)))

  class_other : (pick : ClassDef → Option ℕ) → ((c : ClassDef) → Includes (classes script.items) c → pick c ≢ Some e.proc) → (m : Option ℕ) (p : ℕ)
      → option_and_then pick (option_and_then (λ c. slice_get (classes script.items) c) m) ≡ Some p → p ≢ e.proc
  class_other pick apart None p is same = let no : None ≡ Some p = is in cc
  class_other pick apart (Some n) p is same = go (slice_get (classes script.items) n) refl is
    where
      go : (c : Option ClassDef) → slice_get (classes script.items) n ≡ c → option_and_then pick c ≡ Some p → ⊥
      go None at i = let no : None ≡ Some p = i in cc
      go (Some c) at i = apart c (slice_get_member (classes script.items) n c at) (i ∙ ap (λ q. Some q) same)

  callback_other : (w : World) (weak p : ℕ) → Known script budget w → AreHidden e w → Includes (all_to_call w.stack) weak → p ≡ procedure_of w (unwrap_or (callback_of w.objects weak) 0) → p ≢ e.proc
  callback_other w weak p k hidden waits is same =
      let x = to_call_lives script budget w weak k waits in
      let h = lost_referent script budget w weak k waits x.0 x.1 x.2 in
      let at : callback_of w.objects weak ≡ callback_in x.0.entries = subst (λ n. callback_of w.objects n ≡ callback_in x.0.entries) x.2
      (callback_at 1 w.next_serial w.objects x.0 k.fit.sound.rises x.1) in
      go x.0 x.1 h.code (callback_in x.0.entries) refl h.callback (is ∙ ap (λ c. procedure_of w (unwrap_or c 0)) at)
    where
      go : (x : Object) → Includes w.objects x → x.code ≡ Weak → (m : Option ℕ) → callback_in x.entries ≡ m → m ≢ None → p ≡ procedure_of w (unwrap_or m 0) → ⊥
      go x i code None c some q = some refl
      go x i code (Some f) c some q =
          let r = callback_first x.entries f c in
          let z = k.lawful.orderly.callbacks x i code f r in
          other_proc w z.0 k hidden z.1 z.3 (λ h. h.entries x i (subst (Includes (references x.entries)) (sym z.2) r)) (ap (procedure_of w) z.2 ∙ sym q ∙ same)

  -- so the machine starts frames of other procedures only
  begun_other : (w : World) (sort : FrameSort) (subject p : ℕ) → Known script budget w → AreHidden e w → BegunBy script w sort subject p → p ≢ e.proc
  begun_other w DelFrame subject p k hidden by = class_other (λ (c : ClassDef). c.del) (λ c m. (ex.classes_other c m).0) (class_number by.0.code by.0.class) p by.3
  begun_other w LegacyFrame subject p k hidden by = class_other (λ (c : ClassDef). c.legacy) (λ c m. (ex.classes_other c m).1) (class_number by.0.code by.0.class) p by.3
  begun_other w Callback subject p k hidden by = callback_other w subject p k hidden by.0 by.1
  begun_other w CallFrame subject p k hidden by = absurd by

  pub raised_high : (w : World) (a : Activity) → Known script budget w → AreHidden e w → IsRaised script w a → IsHigh e a
  raised_high w (TopLevel commands) k hidden r = r
  raised_high w (Framed f) k hidden r = subst (AllOther e) (sym r.commands) (ex.bodies_other r.proc (begun_other w f.sort f.subject r.proc k hidden r.by))
  raised_high w (ShuttingDown started) k hidden r = r
  raised_high w a k hidden r = tt

  -- a command that does not use the name of the procedure's function leaves the stack alone
  pub data DoneStack (b : Activity) (below stack : List Activity) : Type 0 where
    GoesOn : (tops : List Activity) → stack ≡ tops ++ b ∷ below → AllHigh e tops → DoneStack b below stack
    IsEnded : stack ≡ emptied b ∷ below → DoneStack b below stack

  one_high : (a : Activity) → IsHigh e a → AllHigh e (a ∷ [])
  one_high a h b (inl i) = subst (IsHigh e) i h
  one_high a h b (inr none) = absurd none

  pub call_stack : (f : ℕ) (u : World) (events : List Event) (after : World) → Yields (start_frame script (call_frame u f) u) events after
      → (after.stack ≡ u.stack) ⊎ (after.stack ≡ begun_frame script (call_frame u f) ∷ u.stack)
  call_stack f u events after step = called_either (λ lines w. (w.stack ≡ u.stack) ⊎ (w.stack ≡ begun_frame script (call_frame u f) ∷ u.stack)) script u f events after step (inl refl) (inr refl)

  pub done_stack : (command : Command) (a b : Activity) (below : List Activity) (v : World) (events : List Event) (after : World) → Takes command a b
      → Known script budget (on a below v) → AreHidden e (on a below v) → ¬ Includes (command_names command) e.exit
      → Done script command (on b below v) b below events after → DoneStack b below after.stack
  done_stack command a b below v events after takes k hidden spoken (Stood answers is) = GoesOn [] (ap (λ (z : World). z.stack) is) (λ c m. absurd m)
  done_stack command a b below v events after takes k hidden spoken (Stopped answers is) = IsEnded (ap (λ (z : World). z.stack) is)
  done_stack command a b below v events after takes k hidden spoken (Changed wants given next is shape) =
      GoesOn (Releasing given ∷ []) (ap (λ (z : World). z.stack) is ∙ ap (λ st. Releasing given ∷ st) (changes_leave (on b below v) command wants events given
      next shape).stack) (one_high (Releasing given) tt)
  done_stack command a b below v events after takes k hidden spoken (Began f has step) =
      let shown : Hidden e.exit f.serial (on a below v) → ⊥ = λ h. hand_not e.exit f.serial (on b below v) (taken_hidden e.exit f.serial command a b below v
      takes h) command (Ref f.serial) spoken has.hand refl in
      either (call_stack f.serial (on b below v) events after step) (λ s. GoesOn [] s (λ c m. absurd m))
      (λ s. GoesOn (Framed _ ∷ []) s (one_high (Framed _) (ex.bodies_other (procedure_of (on b below v) f.serial) (other_proc (on a below v) f k hidden has.member has.passes shown))))
  done_stack command a b below v events after takes k hidden spoken (Asked g none is) = GoesOn (new_collection g true (on b below v) ∷ [])
      (ap (λ (z : World). z.stack) is) (one_high (new_collection g true (on b below v)) tt)

  -- another line's command calls none of these
  pub other_exit : (command : Command) → IsOther e command → ¬ Includes (command_names command) e.exit
  other_exit command h m = h.names e.exit m (inr (inl refl))

  pub other_call : (command : Command) → IsOther e command → is_call e.function (Some command) ≡ false
  other_call (Call (Name x)) h = ne_eqb x e.function (λ i. h.names x (inl refl) (inr (inr (inl (sym i)))))
  other_call command h = refl

  pub others_call : (commands : List Command) → AllOther e commands → is_call e.function (first_of commands) ≡ false
  others_call [] h = refl
  others_call (command ∷ commands) h = other_call command (h command (inl refl))

  pub high_call : (a : Activity) (below : List Activity) → IsHigh e a → is_call e.function (next_command (a ∷ below)) ≡ false
  high_call (TopLevel commands) below h = absurd h
  high_call (Framed f) below h = others_call f.commands h
  high_call (ShuttingDown started) below h = absurd h
  high_call a below h = refl

  -- a step with such an activity on top
  pub record HighStep (below stack : List Activity) : Type 0 where
    pub tops : List Activity
    pub is : stack ≡ tops ++ below
    pub high : AllHigh e tops

  two_high : (a b : Activity) → IsHigh e a → IsHigh e b → AllHigh e (a ∷ b ∷ [])
  two_high a b h k c (inl i) = subst (IsHigh e) i h
  two_high a b h k c (inr m) = one_high b k c m

  emptied_high : (a : Activity) → IsHigh e a → IsHigh e (emptied a)
  emptied_high (TopLevel commands) h = absurd h
  emptied_high (Framed f) h = λ c m. absurd m
  emptied_high (ShuttingDown started) h = absurd h
  emptied_high a h = tt

  appended_high : (tops : List Activity) (a : Activity) → AllHigh e tops → IsHigh e a → AllHigh e (tops ++ a ∷ [])
  appended_high tops a h k c m = either (Includes-append_cases tops (a ∷ []) c m) (h c) (one_high a k c)

  append_one : (tops : List Activity) (a : Activity) (below : List Activity) → tops ++ a ∷ below ≡ (tops ++ a ∷ []) ++ below
  append_one [] a below = refl
  append_one (t ∷ tops) a below = ap (λ st. t ∷ st) (append_one tops a below)

  pub same_top : (a b : Activity) (below under : List Activity) (stack : List Activity) → stack ≡ a ∷ below → stack ≡ b ∷ under → (a ≡ b) × (below ≡ under)
  same_top a b below under stack x y = let both : a ∷ below ≡ b ∷ under = sym x ∙ y in (let top : a ≡ b = cc in top, let rest : below ≡ under = cc in rest)

  pub high_taken : (command : Command) (a b : Activity) → Takes command a b → IsHigh e a → IsOther e command × IsHigh e b
  high_taken command a b (FromTop commands) h = absurd h
  high_taken command a b (FromFrame f commands left) h = (h command (subst (λ cs. Includes cs command) (sym left) (inl refl)), λ c m. h c (subst (λ cs. Includes cs c) (sym left) (inr m)))

  pub high_step : (w : World) (a : Activity) (below : List Activity) (events : List Event) (after : World) → Known script budget w → AreHidden e w → w.stack ≡ a
      ∷ below → IsHigh e a → Went script w events after → HighStep below after.stack
  high_step w a below events after k hidden top h (Acted b under is acts) = let s = same_top a b below under w.stack top is in
      record { tops = acts.tops; is = acts.stack ∙ ap (λ st. acts.tops ++ st) (sym s.1); high = λ c m. raised_high w c k hidden (acts.raised c m) }
  high_step w a below events after k hidden top h (Due g set none is) = record {
    tops = new_collection g false w ∷ a ∷ [];
    is = ap (λ (z : World). z.stack) is
        ∙ ap (λ st. new_collection g false w ∷ st) top;
    high = two_high (new_collection g false w) a tt h;
  }
  high_step w a below events after k hidden top h (Over b at_top place last is) = record { tops = a ∷ []; is = ap (λ (z : World). z.stack) is ∙ top; high = one_high a h }
  high_step w a below events after k hidden top h (Bottomed under is none q) = absurd (subst (IsHigh e) (same_top a (TopLevel []) below under w.stack top is).0 h)
  high_step w a below events after k hidden top h (GaveUp name under is none q) = absurd (subst (IsHigh e) (same_top a (ShuttingDown false) below under w.stack top is).0 h)
  high_step w a below events after k hidden top h (Lasted under is none q) = absurd (subst (IsHigh e) (same_top a (ShuttingDown false) below under w.stack top is).0 h)
  high_step w a below events after k hidden top h (Commanded command c b under v is takes hb done) =
      let s = same_top a c below under w.stack top (ap (λ (z : World). z.stack) is) in
      let t = high_taken command c b takes (subst (IsHigh e) s.0 h) in
      go (done_stack command c b under v events after takes (subst (Known script budget) is k) (subst (AreHidden e) is hidden) (other_exit command t.0) done) t.1 s.1
    where
      go : DoneStack b under after.stack → IsHigh e b → below ≡ under → HighStep below after.stack
      go (GoesOn tops st high) hb same = record { tops = tops ++ b ∷ []; is = st ∙ append_one tops b under ∙ ap (λ z. (tops ++ b ∷ []) ++ z) (sym same); high = appended_high tops b high hb }
      go (IsEnded st) hb same = record { tops = emptied b ∷ []; is = st ∙ ap (λ z. emptied b ∷ z) (sym same); high = one_high (emptied b) (emptied_high b hb) }
