-- Each step leads from a stage to a stage, and counts the calls.
use Rattle.std.proofs.Common.{◌≡◌, refl, sym, ◌∙◌, ap, subst, ℕ, ◌+◌, ◌-◌, ◌≤◌, Bool, true, false, inl, inr, ◌⊎◌, List, [], ◌∷◌, ◌++◌, Some, arith}
use Rattle.std.specs.Prelude.{◌==◌, cond, count_by, if◌then◌else◌}
use Rattle.std.proofs.lemmas.Bool.{eq-eqb, eqb-true, ne_eqb}
use Rattle.std.proofs.lemmas.List.{append_assoc}
use Rattle.std.proofs.lemmas.List.Sums.{sum_by-cons}
use Rattle.cg_script.specs.declared.Script.{Script}
use Rattle.cg_script.specs.declared.Command.{Command}
use Rattle.cg_script.specs.declared.Command.TheVariants.{Bind, Call, MakeFunc}
use Rattle.cg_script.specs.declared.Operand.TheVariants.{Name}
use Rattle.cg_script.specs.Texts.{command_names}
use Rattle.cg_graph.specs.Member.{Includes}
use Rattle.cg_graph.proofs.Members.{cases_of, either, Includes-append_cases}
use Rattle.cg_machine.specs.declared.event.Event.{Event}
use Rattle.cg_machine.specs.declared.event.Event.TheVariants.{BudgetSpent, End, Enter, Left, Refused}
use Rattle.cg_machine.specs.declared.event.FrameSort.TheVariants.{Call as CallFrame}
use Rattle.cg_machine.specs.Program.{body_of, commands_of}
use Rattle.cg_machine.specs.World.{World, Activity, TopLevel, Framed, Releasing, ShuttingDown, Frame, with_stack}
use Rattle.cg_machine.specs.Frame.{Yields, procedure_of, start_frame}
use Rattle.cg_machine.specs.Commands.{CommandStep, new_collection, refused, stopped_frame}
use Rattle.cg_machine.specs.Effects.{live}
use Rattle.cg_laws.specs.Laws.{is_enter}
use Rattle.cg_laws.specs.Origins.{commands_on}
use Rattle.cg_machine.specs.Run.{Step}
use Rattle.cg_laws.proofs.Invariants.{AreLast, FromFrame, FromTop, HasCommands, Takes, emptied, on}
use Rattle.cg_laws.proofs.Starting.{call_frame, called_either}
use Rattle.cg_weakcoll.specs.Exits.{AllOther, Exit, IsExit, IsOther, exit_body, first_of, is_call, next_command, watch_command}
use Rattle.cg_weakcoll.proofs.ActivitySteps.{all_to_call}
use Rattle.cg_weakcoll.proofs.OwnCommands.{call_step, func_step}
use Rattle.cg_weakcoll.proofs.ExitStages.{After, AreTame, AtCall, AtDeref, Before, CallsIt, During, InFirst, InLast, InOther, InSecond, InThird, IsTail, IsTold, MakesIt, Position, Quiet, Stage, counted, frame_is, heads, joined_tame, position_told, positioned, tail_quiet, top_is}
use Rattle.cg_weakcoll.proofs.OtherCommands.{AllHigh, AreHidden, DoneStack, GoesOn, IsEnded, IsHigh, done_stack, high_call, high_step, other_call, other_exit, others_call, raised_high, same_top}
use Rattle.cg_weakcoll.proofs.KnownOfRuns.{Acted, Bottomed, Commanded, Done, Due, GaveUp, Known, Lasted, Over, Went, exactly}

-- a step while another activity than the procedure's frame is on top, or one that does nothing
abbrev pub Rests : Exit → World → World → Type 0
Rests e w after = ((a : Activity) × (below : List Activity) × (w.stack ≡ a ∷ below) × IsHigh e a) ⊎ ((after.objects ≡ w.objects) × (after.names ≡ w.names)
    × (after.next_serial ≡ w.next_serial) × (all_to_call after.stack ≡ all_to_call w.stack))

-- the procedure's frame does a command and goes on
pub record Advances (w after : World) (cs : List Command) : Type 0 where
  pub frame : Frame
  pub below : List Command
  pub stack : w.stack ≡ Framed frame ∷ TopLevel below ∷ []
  pub command : Command
  pub left : frame.commands ≡ command ∷ cs
  pub tops : List Activity
  pub now : after.stack ≡ tops ++ Framed (record frame { commands = cs }) ∷ TopLevel below ∷ []

module _ (script : Script) (budget : ℕ) (e : Exit) (ex : IsExit script e) (P : List Command → Type 0) (begins : P (exit_body e)) where
  -- the calls in a step
  abbrev pub step_calls : World → List Event → ℕ
  step_calls w events = if is_call e.function (next_command w.stack) then count_by is_enter events else 0

  abbrev IsStage : ℕ → List Activity → Type 0
  IsStage calls stack = Stage script e P calls stack

  to_stack : {calls : ℕ} {stack to : List Activity} → to ≡ stack → IsStage calls stack → IsStage calls to
  to_stack {calls} is h = subst (IsStage calls) (sym is) h

  nothing_tame : AreTame e []
  nothing_tame a m = absurd m

  more_tame : (b : Activity) (below : List Activity) → AllOther e (commands_on b) → AreTame e below → AreTame e (b ∷ below)
  more_tame b below h k a m = either m (λ i. subst (λ (x : Activity). AllOther e (commands_on x)) i h) (k a)

  none_tame : (b : Activity) → AllOther e (commands_on b) → AreTame e (b ∷ [])
  none_tame b h = more_tame b [] h nothing_tame

  one_high : (b : Activity) → IsHigh e b → AllHigh e (b ∷ [])
  one_high b h a m = either m (λ i. subst (IsHigh e) i h) (λ none. absurd none)

  -- a step in which no call counts
  uncalled : (w : World) (events : List Event) {calls : ℕ} {stack : List Activity} → is_call e.function (next_command w.stack) ≡ false → IsStage calls stack → IsStage (calls + step_calls w events) stack
  uncalled w events {calls} {stack} calm h = subst (λ n. IsStage n stack) (sym (counted calls (count_by is_enter events) (is_call e.function (next_command w.stack)) calm)) h

  emptied_tame : (b : Activity) (below : List Activity) → HasCommands b → AreTame e below → AreTame e (emptied b ∷ below)
  emptied_tame (TopLevel commands) below hb h = more_tame (TopLevel []) below (λ c n. absurd n) h
  emptied_tame (Framed f) below hb h = more_tame (Framed (record f { commands = [] })) below (λ c n. absurd n) h
  emptied_tame (ShuttingDown started) below hb h = more_tame (ShuttingDown started) below (λ c n. absurd n) h
  emptied_tame b below hb h = absurd hb

  joined : (tops below more : List Activity) (stack : List Activity) → stack ≡ tops ++ (below ++ more) → stack ≡ (tops ++ below) ++ more
  joined tops below more stack is = is ∙ sym (append_assoc tops below more)

  high_joined : (tops below : List Activity) → AllHigh e tops → AllHigh e below → AllHigh e (tops ++ below)
  high_joined tops below h k a m = either (Includes-append_cases tops below a m) (h a) (k a)

  -- the script's own commands on top
  before_done : (calls : ℕ) (done commands : List Command) (c : Command) (stack : List Activity) → calls ≡ 0 → commands_of script.items ≡ done ++ c ∷ commands
      → DoneStack script budget e ex (TopLevel commands) [] stack → IsStage calls stack
  before_done calls done commands c stack none at (GoesOn tops is high) = Before tops (done ++ c ∷ []) commands is high (at ∙ sym (append_assoc done (c ∷ []) commands)) none
  before_done calls done commands c stack none at (IsEnded is) = to_stack is (After (none_tame (TopLevel []) (λ d m. absurd m)) (omega (arith, none)))

  called_before : (calls f : ℕ) (done commands : List Command) (c : Command) (u : World) (events : List Event) (after : World) → calls ≡ 0
      → commands_of script.items ≡ done ++ c ∷ commands → u.stack ≡ TopLevel commands ∷ [] → AllOther e commands
      → Yields (start_frame script (call_frame u f) u) events after → IsStage calls after.stack
  called_before calls f done commands c u events after none at stack other step = called_either (λ lines w. IsStage calls w.stack) script u f events after step
      (Before [] (done ++ c ∷ []) commands stack (λ a m. absurd m) all none) (go (cases_of (p == e.proc)))
    where
      p : ℕ
      p = procedure_of u f

      frame : Frame
      frame = record { sort = CallFrame; subject = f; function = Some f; commands = body_of script p }

      all : commands_of script.items ≡ (done ++ c ∷ []) ++ commands
      all = at ∙ sym (append_assoc done (c ∷ []) commands)

      go : (p == e.proc ≡ true) ⊎ (p == e.proc ≡ false) → IsStage calls (Framed frame ∷ u.stack)
      go (inl t) = let is = ap (body_of script) (eqb-true p e.proc t) ∙ ex.body in During [] frame commands (ap (λ st. Framed frame ∷ st) stack) (λ a m. absurd m)
          (subst (IsTail e) (sym is) AtDeref) other (subst P (sym is) begins) none
      go (inr g) = Before (Framed frame ∷ []) (done ++ c ∷ []) commands (ap (λ st. Framed frame ∷ st) stack)
          (λ a m. either m (λ i. subst (IsHigh e) i (ex.bodies_other p (λ i. let no : true ≡ false = sym (eq-eqb p e.proc i) ∙ g in cc))) (λ n. absurd n)) all none

  refused_before : (calls r : ℕ) (done commands : List Command) (c : Command) (u : World) (events : List Event) (after : World) → calls ≡ 0
      → commands_of script.items ≡ done ++ c ∷ commands → u.stack ≡ TopLevel commands ∷ [] → Yields (refused r u) events after → IsStage calls after.stack
  refused_before calls r done commands c u events after none at stack step =
      Before [] (done ++ c ∷ []) commands (ap (λ (z : World). z.stack) step.1 ∙ ap stopped_frame stack) (λ a m. absurd m) (at ∙ sym (append_assoc done (c ∷ []) commands)) none

  -- a command of the script's own
  top_command : (calls : ℕ) (done commands : List Command) (c : Command) (v : World) (events : List Event) (after : World) → calls ≡ 0
      → commands_of script.items ≡ done ++ c ∷ commands → Known script budget (on (TopLevel (c ∷ commands)) [] v)
      → AreHidden e (on (TopLevel (c ∷ commands)) [] v)
      → IsTold e c → Step script (on (TopLevel (c ∷ commands)) [] v) events after → Done script c (on (TopLevel commands) [] v) (TopLevel commands) [] events after → IsStage calls after.stack
  top_command calls done commands c v events after none at k h (Quiet spoken makes) step d = before_done calls done commands c after.stack none at
      (done_stack script budget e ex c (TopLevel (c ∷ commands)) (TopLevel commands) [] v events after (FromTop commands) k h spoken d)
  top_command calls done commands c v events after none at k h (MakesIt is) step d = either (exactly script (TopLevel (c ∷ commands)) (TopLevel commands) [] v c events after (FromTop commands) step)
      (λ s. Before (new_collection s.0 false (on (TopLevel (c ∷ commands)) [] v) ∷ []) done (c ∷ commands) (ap (λ (z : World). z.stack) s.2)
      (one_high _ tt) at none)
      (λ s. either (func_step script (on (TopLevel commands) [] v) events after e.exit e.proc (subst (λ (x : Command). CommandStep script (on (TopLevel commands) [] v) x events after) is s))
      (λ r. refused_before calls r.0 done commands c (on (TopLevel commands) [] v) events after none at refl r.1)
      (λ y. Before (Releasing _ ∷ []) (done ++ c ∷ []) commands (ap (λ (z : World). z.stack) y.1) (one_high _ tt)
      (at ∙ sym (append_assoc done (c ∷ []) commands)) none))
  top_command calls done commands c v events after none at k h (CallsIt is) step d = either (exactly script (TopLevel (c ∷ commands)) (TopLevel commands) [] v c events after (FromTop commands) step)
      (λ s. Before (new_collection s.0 false (on (TopLevel (c ∷ commands)) [] v) ∷ []) done (c ∷ commands) (ap (λ (z : World). z.stack) s.2)
      (one_high _ tt) at none)
      (λ s. either (call_step script (on (TopLevel commands) [] v) events after (Name e.exit) (subst (λ (x : Command). CommandStep script (on (TopLevel commands) [] v) x events after) is s))
      (λ r. refused_before calls r.0 done commands c (on (TopLevel commands) [] v) events after none at refl r.1)
      (λ y. called_before calls y.object.serial done commands c (on (TopLevel commands) [] v) events after none at refl (rest_other (positioned script e ex done commands c at)) y.begins))
    where
      rest_other : Position script e ex c commands → AllOther e commands
      rest_other (InOther o) = absurd (o.names e.exit (subst (λ (x : Command). Includes (command_names x) e.exit) (sym is) (inl refl)) (inr (inl refl)))
      rest_other (InFirst i) = absurd (let no : MakeFunc e.exit e.proc [] ≡ Call (Name e.exit) = sym i ∙ is in cc)
      rest_other (InSecond i) = absurd (let no : Bind e.function e.source ≡ Call (Name e.exit) = sym i ∙ is in cc)
      rest_other (InThird i at) = absurd (let no : watch_command e ≡ Call (Name e.exit) = sym i ∙ is in cc)
      rest_other (InLast i at) = subst (AllOther e) (sym at) ex.back_other

  taken_top : (calls : ℕ) (done commands : List Command) (command : Command) (a b : Activity) (below : List Activity) (v : World) (events : List Event)
      (after : World) → Takes command a b → TopLevel commands ≡ a → below ≡ [] → commands_of script.items ≡ done ++ commands → calls ≡ 0
      → Known script budget (on a below v) → AreHidden e (on a below v) → Step script (on a below v) events after → Done script command (on b below v) b below events after → IsStage calls after.stack
  taken_top calls done commands command a b below v events after (FromFrame f cs left) is_top bottom at none k h step d = absurd (cc)
  taken_top calls done commands command a b below v events after (FromTop cs) is_top bottom at none k h step d =
      subst (λ (under : List Activity). Known script budget (on (TopLevel (command ∷ cs)) under v) → AreHidden e (on (TopLevel (command ∷ cs)) under v)
      → Step script (on (TopLevel (command ∷ cs)) under v) events after → Done script command (on (TopLevel cs) under v) (TopLevel cs) under events after
      → IsStage calls after.stack) (sym bottom)
      (λ k h step d. top_command calls done cs command v events after none here k h (position_told script budget e ex command cs (positioned script e ex done cs command here)) step d) k h step d
    where
      here : commands_of script.items ≡ done ++ command ∷ cs
      here = at ∙ ap (λ xs. done ++ xs) (top_is commands (command ∷ cs) is_top)

  -- lines that start frames
  one_enters : (x : Event) → count_by is_enter (x ∷ []) ≤ 1
  one_enters x = go (is_enter x) (sum_by-cons (λ y. cond (is_enter y) 1 0) x [])
    where
      go : (b : Bool) → count_by is_enter (x ∷ []) ≡ cond b 1 0 + count_by is_enter [] → count_by is_enter (x ∷ []) ≤ 1
      go true s = omega (arith, s)
      go false s = omega (arith, s)

  none_enters : (x : Event) → is_enter x ≡ false → count_by is_enter (x ∷ []) ≡ 0
  none_enters x f = let s = sum_by-cons (λ y. cond (is_enter y) 1 0) x [] in let z : ◌≡◌ {A = ℕ} (cond (is_enter x) 1 0) 0 = ap (λ b. cond b 1 0) f in omega (arith, s, z)

  last_enters : (w : World) (a : Activity) (lines : List Event) → AreLast w a lines → count_by is_enter lines ≡ 0
  last_enters w (TopLevel []) lines is = ap (count_by is_enter) is ∙ none_enters End refl
  last_enters w (ShuttingDown true) lines is = let s = sum_by-cons (λ y. cond (is_enter y) 1 0) (Left (live w)) (End ∷ []) in let z = none_enters End refl
      in ap (count_by is_enter) is ∙ omega (arith, s, z)
  last_enters w a lines is = absurd is

  uncounted : (w : World) (events : List Event) (calls : ℕ) → calls ≡ 0 → count_by is_enter events ≡ 0 → calls + step_calls w events ≡ 0
  uncounted w events calls none zero = go (is_call e.function (next_command w.stack))
    where
      go : (b : Bool) → calls + (if b then count_by is_enter events else 0) ≡ 0
      go true = omega (arith, none, zero)
      go false = omega (arith, none)

  -- no call counts while more of the procedure is left
  early : (w : World) (events : List Event) (f : Frame) (commands : List Command) → w.stack ≡ Framed f ∷ TopLevel commands ∷ [] → (calls : ℕ) → calls ≡ 0
      → (cs : List Command) (c : Command) → IsTail e f.commands → f.commands ≡ c ∷ cs → IsTail e cs → calls + step_calls w events ≡ 0
  early w events f commands top calls none cs c tail left more = counted calls (count_by is_enter events) (is_call e.function (next_command w.stack))
      (ap (λ st. is_call e.function (next_command st)) top ∙ go f.commands tail left) ∙ none
    where
      go : (fs : List Command) → IsTail e fs → fs ≡ c ∷ cs → is_call e.function (first_of fs) ≡ false
      go fs AtCall i = let h = heads _ c _ cs i in absurd (no_tail cs more (sym h.1))
        where
          no_tail : (xs : List Command) → IsTail e xs → xs ≡ [] → ⊥
          no_tail xs AtDeref j = cc
          no_tail xs other j = cc
      go fs other i = refl

  -- the last command starts at most one frame
  few_calls : (w : World) (events : List Event) (after : World) (f : Frame) (commands : List Command) → w.stack ≡ Framed f ∷ TopLevel commands ∷ []
      → IsTail e f.commands → (calls : ℕ) → calls ≡ 0 → Step script w events after → calls + step_calls w events ≤ 1
  few_calls w events after f commands top tail calls none step = go f.commands refl tail
    where
      here : World
      here = on (Framed f) (TopLevel commands ∷ []) w

      here_step : Step script here events after
      here_step = subst (λ (z : World). Step script z events after) (ap (λ st. with_stack st w) top) step

      zero : (c : Command) (cs : List Command) → f.commands ≡ c ∷ cs → is_call e.function (Some c) ≡ false → calls + step_calls w events ≤ 1
      zero c cs is no_call = let z = counted calls (count_by is_enter events) (is_call e.function (next_command w.stack))
          (ap (λ st. is_call e.function (next_command st)) top ∙ ap (λ xs. is_call e.function (first_of xs)) is ∙ no_call) in omega (arith, z, none)

      capped : count_by is_enter events ≤ 1 → calls + step_calls w events ≤ 1
      capped few = cap (is_call e.function (next_command w.stack))
        where
          cap : (b : Bool) → calls + (if b then count_by is_enter events else 0) ≤ 1
          cap true = omega (arith, few, none)
          cap false = omega (arith, none)

      started : (g : ℕ) (u : World) → Yields (start_frame script (call_frame u g) u) events after → count_by is_enter events ≤ 1
      started g u y = called_either (λ lines w. count_by is_enter lines ≤ 1) script u g events after y (one_enters BudgetSpent) (one_enters (Enter CallFrame g))

      go : (fs : List Command) → f.commands ≡ fs → IsTail e fs → calls + step_calls w events ≤ 1
      go fs is AtCall = capped (either (exactly script (Framed f) (Framed (record f { commands = [] })) (TopLevel commands ∷ []) w (Call (Name e.function)) events after (FromFrame f [] is) here_step)
          (λ d. let i = ap (count_by is_enter) d.1 in omega (arith, i))
          (λ s. either (call_step script (on (Framed (record f { commands = [] })) (TopLevel commands ∷ []) w) events after (Name e.function) s)
          (λ r. let z = one_enters (Refused r.0) in let i = ap (count_by is_enter) r.1.0 in omega (arith, z, i))
          (λ c. started c.object.serial (on (Framed (record f { commands = [] })) (TopLevel commands ∷ []) w) c.begins)))
      go fs is other = zero _ _ is refl

  tame_taken : (command : Command) (a b : Activity) → Takes command a b → AllOther e (commands_on a) → IsOther e command × AllOther e (commands_on b)
  tame_taken command a b (FromTop commands) h = (h command (inl refl), λ c m. h c (inr m))
  tame_taken command a b (FromFrame f commands left) h = (h command (subst (λ cs. Includes cs command) (sym left) (inl refl)), λ c m. h c (subst (λ cs. Includes cs c) (sym left) (inr m)))

  pub tame_call : (stack : List Activity) → AreTame e stack → is_call e.function (next_command stack) ≡ false
  tame_call (TopLevel commands ∷ below) h = others_call script budget e ex commands (h (TopLevel commands) (inl refl))
  tame_call (Framed f ∷ below) h = others_call script budget e ex f.commands (h (Framed f) (inl refl))
  tame_call xs h = refl

  pub top_call : (done commands : List Command) → commands_of script.items ≡ done ++ commands → is_call e.function (first_of commands) ≡ false
  top_call done [] at = refl
  top_call done (c ∷ commands) at = go (positioned script e ex done commands c at)
    where
      go : Position script e ex c commands → is_call e.function (Some c) ≡ false
      go (InOther h) = other_call script budget e ex c h
      go (InFirst is) = ap (λ (x : Command). is_call e.function (Some x)) is
      go (InSecond is) = ap (λ (x : Command). is_call e.function (Some x)) is
      go (InThird is i) = ap (λ (x : Command). is_call e.function (Some x)) is
      go (InLast is i) = ap (λ (x : Command). is_call e.function (Some x)) is ∙ ne_eqb e.exit e.function ex.exit_function

  -- where the script's own commands are on top
  module _ (w : World) (events : List Event) (after : World) (k : Known script budget w) (h : AreHidden e w) (step : Step script w events after)
      (Q : List Command → Type 0) (rests : (cs : List Command) → IsTail e cs → Q cs → Rests e w after → P cs) (advances : (cs : List Command) → IsTail e cs
      → (a : Advances w after cs) → Q a.frame.commands → P cs) where
    top_step : (calls : ℕ) (done commands : List Command) → w.stack ≡ TopLevel commands ∷ [] → commands_of script.items ≡ done ++ commands → calls ≡ 0
        → Went script w events after → IsStage calls after.stack
    top_step calls done commands top at none (Acted a below is acts) =
        let s = same_top script budget e ex (TopLevel commands) a [] below w.stack top is in
        to_stack acts.stack
        (After (joined_tame e acts.tops below (λ c m. raised_high script budget e ex w c k h (acts.raised c m)) (subst (AreTame e) s.1 nothing_tame))
        (omega (arith, none)))
    top_step calls done commands top at none (Due g set no_line is) = Before (new_collection g false w ∷ []) done commands (ap (λ (z : World). z.stack) is
        ∙ ap (λ st. new_collection g false w ∷ st) top) (one_high _ tt) at none
    top_step calls done commands top at none (Over a under place last is) = Before [] done commands (ap (λ (z : World). z.stack) is ∙ top) (λ a m. absurd m) at none
    top_step calls done commands top at none (Bottomed below under no_line is) =
        let s = same_top script budget e ex (TopLevel commands) (TopLevel []) [] below w.stack top under in
        to_stack (ap (λ (z : World). z.stack) is)
        (After (subst (λ st. AreTame e (ShuttingDown false ∷ st)) s.1 (none_tame (ShuttingDown false) (λ c m. absurd m))) (omega (arith, none)))
    top_step calls done commands top at none (GaveUp name below under no_line is) = absurd (cc)
    top_step calls done commands top at none (Lasted below under no_line is) = absurd (cc)
    top_step calls done commands top at none (Commanded command a b below v is takes hb d) =
        let s = same_top script budget e ex (TopLevel commands) a [] below w.stack top (ap (λ (z : World). z.stack) is) in
        taken_top calls done commands command a b below v events after takes s.0 (sym s.1) at none (subst (Known script budget) is k) (subst (AreHidden e) is h)
        (subst (λ (z : World). Step script z events after) is step) d

    alike : {u : World} → after ≡ u → (after.objects ≡ u.objects) × (after.names ≡ u.names) × (after.next_serial ≡ u.next_serial)
        × (all_to_call after.stack ≡ all_to_call u.stack)
    alike is = (ap (λ (z : World). z.objects) is, ap (λ (z : World). z.names) is, ap (λ (z : World). z.next_serial) is, ap (λ (z : World). all_to_call z.stack) is)

    -- where the procedure's frame is on top
    frame_step : (calls : ℕ) (f : Frame) (commands : List Command) → w.stack ≡ Framed f ∷ TopLevel commands ∷ [] → IsTail e f.commands → AllOther e commands
        → Q f.commands → calls ≡ 0 → Went script w events after → IsStage (calls + step_calls w events) after.stack
    frame_step calls f commands top tail other q none (Acted a below is acts) =
        let s = same_top script budget e ex (Framed f) a (TopLevel commands ∷ []) below w.stack top is in
        to_stack acts.stack
        (After (joined_tame e acts.tops below (λ c m. raised_high script budget e ex w c k h (acts.raised c m))
        (subst (AreTame e) s.1 (none_tame (TopLevel commands) other))) (few_calls w events after f commands top tail calls none step))
    frame_step calls f commands top tail other q none (Due g set no_line is) = During (new_collection g false w ∷ []) f commands (ap (λ (z : World). z.stack) is
        ∙ ap (λ st. new_collection g false w ∷ st) top) (one_high _ tt) tail other (rests f.commands tail q (inr (alike is)))
        (uncounted w events calls none (ap (count_by is_enter) no_line))
    frame_step calls f commands top tail other q none (Over a under place last is) = During [] f commands (ap (λ (z : World). z.stack) is ∙ top)
        (λ a m. absurd m) tail other (rests f.commands tail q (inr (alike is))) (uncounted w events calls none (last_enters w a events last))
    frame_step calls f commands top tail other q none (Bottomed below under no_line is) = absurd (cc)
    frame_step calls f commands top tail other q none (GaveUp name below under no_line is) = absurd (cc)
    frame_step calls f commands top tail other q none (Lasted below under no_line is) = absurd (cc)
    frame_step calls f commands top tail other q none (Commanded command a b below v is takes hb d) =
        let s = same_top script budget e ex (Framed f) a (TopLevel commands ∷ []) below w.stack top (ap (λ (z : World). z.stack) is) in
        taken_frame command a b takes hb s.0 (λ spoken. done_stack script budget e ex command a b below v events after takes (subst (Known script budget) is k) (subst (AreHidden e) is h) spoken d)
      where
        -- the script's own commands are below
        own : AreTame e below
        own = let s = same_top script budget e ex (Framed f) a (TopLevel commands ∷ []) below w.stack top (ap (λ (z : World). z.stack) is)
            in subst (AreTame e) s.1 (none_tame (TopLevel commands) other)

        few : calls + step_calls w events ≤ 1
        few = few_calls w events after f commands top tail calls none step

        goes : (g : Frame) (c : Activity) → below ≡ TopLevel commands ∷ [] → c ≡ Framed g → HasCommands c → IsTail e g.commands ⊎ (g.commands ≡ [])
            → (IsTail e g.commands → calls + step_calls w events ≡ 0)
            → ((tops : List Activity) → IsTail e g.commands → after.stack ≡ tops ++ Framed g ∷ TopLevel commands ∷ [] → P g.commands) → DoneStack script budget
            e ex c below after.stack → IsStage (calls + step_calls w events) after.stack
        goes g c same is_frame hc (inl t) zero known (GoesOn tops st high) = let now = st ∙ ap (λ x. tops ++ x ∷ below) is_frame
            ∙ ap (λ x. tops ++ Framed g ∷ x) same in During tops g commands now high t other (known tops t now) (zero t)
        goes g c same is_frame hc (inr end) zero known (GoesOn tops st high) = to_stack st (After (joined_tame e tops (c ∷ below) high (more_tame c below
            (subst (λ (y : Activity). AllOther e (commands_on y)) (sym is_frame) (λ y n. absurd (subst (λ ys. Includes ys y) end n))) own)) few)
        goes g c same is_frame hc t zero known (IsEnded st) = to_stack st (After (emptied_tame c below hc own) few)

        taken_frame : (c : Command) (x y : Activity) → Takes c x y → HasCommands y → Framed f ≡ x → ((¬ Includes (command_names c) e.exit)
            → DoneStack script budget e ex y below after.stack) → IsStage (calls + step_calls w events) after.stack
        taken_frame c x y (FromTop cs) hy is_f dones = absurd (cc)
        taken_frame c x y (FromFrame g cs left) hy is_f dones =
            let s = same_top script budget e ex (Framed f) a (TopLevel commands ∷ []) below w.stack top (ap (λ (z : World). z.stack) is) in
            let left_f : f.commands ≡ c ∷ cs = ap (λ (q : Frame). q.commands) (frame_is f g is_f) ∙ left in
            let quiet = tail_quiet script budget e ex f.commands cs c tail left_f in
            goes (record g { commands = cs }) (Framed (record g { commands = cs })) (sym s.1) refl hy quiet.1 (λ t. early w events f commands top calls none cs c tail left_f t)
            (λ tops t now. advances cs t (record {
              frame = g;
              below = commands;
              stack = subst (λ (y : Frame). w.stack ≡ Framed y ∷ TopLevel commands ∷ [])
                  (frame_is f g is_f) top;
              command = c;
              left = left;
              tops = tops;
              now = now;
            }) (subst (λ (y : Frame). Q y.commands) (frame_is f g is_f) q)) (dones
            quiet.0.0)

    -- where only commands of other lines are left
    after_step : (calls : ℕ) → AreTame e w.stack → calls ≤ 1 → Went script w events after → IsStage calls after.stack
    after_step calls tame few (Acted a below is acts) = to_stack acts.stack
        (After (joined_tame e acts.tops below (λ c m. raised_high script budget e ex w c k h (acts.raised c m))
        (λ c m. tame c (subst (λ st. Includes st c) (sym is) (inr m)))) few)
    after_step calls tame few (Due g set no_line is) = to_stack (ap (λ (z : World). z.stack) is)
        (After (more_tame _ w.stack (λ c n. absurd n) tame) few)
    after_step calls tame few (Over a under place last is) = to_stack (ap (λ (z : World). z.stack) is) (After tame few)
    after_step calls tame few (Bottomed below under no_line is) = to_stack (ap (λ (z : World). z.stack) is)
        (After (more_tame _ below (λ c n. absurd n) (λ a i. tame a (subst (λ st. Includes st a) (sym under) (inr i)))) few)
    after_step calls tame few (GaveUp name below under no_line is) = to_stack (ap (λ (z : World). z.stack) is)
        (After (more_tame _ w.stack (λ c n. absurd n) tame) few)
    after_step calls tame few (Lasted below under no_line is) = to_stack
        (ap (λ (z : World). z.stack) is) (After (more_tame _ (ShuttingDown true ∷ below) (λ c n. absurd n) (more_tame _ below (λ c n. absurd n) (λ a i. tame a (subst (λ st. Includes st a) (sym under) (inr i))))) few)
    after_step calls tame few (Commanded command a b below v is takes hb d) =
        let t = tame_taken command a b takes (tame a (subst (λ st. Includes st a) (sym (ap (λ (z : World). z.stack) is)) (inl refl))) in
        go (done_stack script budget e ex command a b below v events after takes (subst (Known script budget) is k) (subst (AreHidden e) is h) (other_exit script budget e ex command t.0) d) t.1
      where
        under : AreTame e below
        under c m = tame c (subst (λ st. Includes st c) (sym (ap (λ (z : World). z.stack) is)) (inr m))

        go : DoneStack script budget e ex b below after.stack → AllOther e (commands_on b) → IsStage calls after.stack
        go (GoesOn tops st high) hc = to_stack st
            (After (joined_tame e tops (b ∷ below) high (more_tame b below hc under)) few)
        go (IsEnded st) hc = to_stack st (After (emptied_tame b below hb under) few)

    pub stage_step : (calls : ℕ) → Stage script e Q calls w.stack → Went script w events after → IsStage (calls + step_calls w events) after.stack
    stage_step calls (Before [] done commands is high at none) x = uncalled w events (ap (λ st. is_call e.function (next_command st)) is
        ∙ top_call done commands at) (top_step calls done commands is at none x)
    stage_step calls (Before (t ∷ tops) done commands is high at none) x =
        let s = high_step script budget e ex w t (tops ++ TopLevel commands ∷ []) events after k h is (high t (inl refl)) x in
        uncalled w events (ap (λ st. is_call e.function (next_command st)) is ∙ high_call script budget e ex t (tops ++ TopLevel commands ∷ []) (high t (inl refl)))
        (Before (s.tops ++ tops) done commands (joined s.tops tops (TopLevel commands ∷ []) after.stack s.is) (high_joined s.tops tops s.high (λ a m. high a (inr m))) at none)
    stage_step calls (During [] f commands is high tail other q none) x = frame_step calls f commands is tail other q none x
    stage_step calls (During (t ∷ tops) f commands is high tail other q none) x =
        let s = high_step script budget e ex w t (tops ++ Framed f ∷ TopLevel commands ∷ []) events after k h is (high t (inl refl)) x in
        uncalled w events (ap (λ st. is_call e.function (next_command st)) is ∙ high_call script budget e ex t (tops ++ Framed f ∷ TopLevel commands ∷ [])
        (high t (inl refl)))
        (During (s.tops ++ tops) f commands (joined s.tops tops (Framed f ∷ TopLevel commands ∷ []) after.stack s.is)
        (high_joined s.tops tops s.high (λ a m. high a (inr m))) tail other (rests f.commands tail q (inl (
          t,
          tops ++ Framed f ∷ TopLevel commands ∷ [],
          is,
          high t (inl refl),
        ))) none)
    stage_step calls (After tame few) x = uncalled w events (tame_call w.stack tame) (after_step calls tame few x)
