-- A property of the worlds of runs, by what each kind of step does. The kinds are listed once, here.
use Rattle.std.proofs.Common.{◌≡◌, refl, sym, subst, ℕ, ◌≤◌, Bool, true, false, inl, inr, List, [], ◌∷◌, Option, Some, None, Result, Ok, Err}
use Rattle.std.specs.Prelude.{if◌then◌else◌}
use Rattle.cg_script.specs.declared.Script.{Script}
use Rattle.cg_script.specs.declared.Command.{Command}
use Rattle.cg_script.specs.declared.Command.TheVariants.{Del}
use Rattle.cg_graph.specs.Object.{Object}
use Rattle.cg_machine.specs.declared.event.Event.{Event}
use Rattle.cg_machine.specs.declared.event.Event.TheVariants.{Left, End, Refused, Collected}
use Rattle.cg_machine.specs.declared.event.FrameSort.TheVariants.{Call as CallFrame}
use Rattle.cg_machine.specs.World.{World, Activity, TopLevel, Framed, Releasing, Dying, Collecting, ShuttingDown, Frame, Death, Collection, Ended, opening, push, with_stack}
use Rattle.cg_machine.specs.Holdings.{is_collecting}
use Rattle.cg_machine.specs.Frame.{Transition, Yields, procedure_of, start_frame, frame_end, released}
use Rattle.cg_machine.specs.Weak.{is_function}
use Rattle.cg_machine.specs.Dying.{dying}
use Rattle.cg_machine.specs.Collect.{PhaseStep}
use Rattle.cg_machine.specs.Due.{due}
use Rattle.cg_machine.specs.Program.{declares_shutdown}
use Rattle.cg_machine.specs.Shutdown.{greatest_bound, shut_down, after_commands}
use Rattle.cg_machine.specs.Refusals.{no_memory}
use Rattle.cg_machine.specs.Effects.{Effect, Changes, Calls, Collects, Explains, Quits, live, bound, given_up_by}
use Rattle.cg_machine.specs.Commands.{effect, refused, without_commands, new_collection, Explanation, DoesEffect}
use Rattle.cg_machine.specs.Run.{StepTaken, Step, StepOf, Run, IsRun, TopLevelStep, CommandInFrame, FrameStep, last_world, world_after}
use Rattle.cg_represents.proofs.CommandLaws.{Each}
use Rattle.cg_represents.proofs.Shapes.{Shape, Binds, StartsCollection, StartsFrame, Inspects, AsksWhy, HasObject, effect_shaped}
use Rattle.cg_represents.proofs.Inspecting.{explained}

-- commands are left; the shutdown gives up names as `del` does
abbrev pub HasCommands : Activity → Type 0
HasCommands (TopLevel commands) = Unit {0}
HasCommands (Framed f) = Unit {0}
HasCommands (ShuttingDown started) = Unit {0}
HasCommands a = ⊥

-- an activity on others
abbrev pub on : Activity → List Activity → World → World
on a below v = with_stack (a ∷ below) v

-- a command is taken from the top activity, which keeps the others
pub data Takes (command : Command) : Activity → Activity → Type 0 where
  FromTop : (commands : List Command) → Takes command (TopLevel (command ∷ commands)) (TopLevel commands)
  FromFrame : (f : Frame) (commands : List Command) → f.commands ≡ command ∷ commands → Takes command (Framed f) (Framed (record f { commands = commands }))

abbrev pub emptied : Activity → Activity
emptied (TopLevel commands) = TopLevel []
emptied (Framed f) = Framed (record f { commands = [] })
emptied a = a

-- giving up a name is what `del` does
pub del_shaped : (w : World) (name : ℕ) → Shape w (Del name) (Changes false [] (given_up_by w name) (bound w name None))
del_shaped w name = Binds name None (λ of t m. m) (λ u e. absurd (let no : None ≡ Some u = e in cc))

-- what is printed where a command changes nothing
abbrev pub AreAnswers : List Event → Type 0
AreAnswers [] = Unit {0}
AreAnswers (Refused n ∷ []) = Unit {0}
AreAnswers (Collected n ∷ []) = n ≡ 0
AreAnswers lines = ⊥

-- What a command does in u, where the step began in w.
pub record CommandSteps (script : Script) (R : World → List Event → World → Type 0) (w : World) (command : Command) (u : World) (a : Activity) (below : List Activity) : Type 0 where
  pub stays : (lines : List Event) → AreAnswers lines → R w lines u
  pub stops : (lines : List Event) → AreAnswers lines → R w lines (on (emptied a) below u)
  pub changes : (wants_memory : Bool) (lines : List Event) (given_up : List ℕ) (after : World) → Shape u command (Changes wants_memory lines given_up after)
      → R w lines (push (Releasing given_up) after)
  pub calls : (f : Object) → HasObject u command is_function f
      → (let t : Transition = start_frame script (record { sort = CallFrame; proc = procedure_of u f.serial; subject = f.serial; func = Some f.serial }) u
      in R w t.0 t.1)
  pub asks : (g : ℕ) → g ≤ 2 → is_collecting u ≡ false → R w [] (push (new_collection g true u) u)

-- the lines of a run's last step, by the activity that takes it: the script's own commands or its shutdown
abbrev pub AreLast : World → Activity → List Event → Type 0
AreLast w (TopLevel []) lines = lines ≡ End ∷ []
AreLast w (ShuttingDown true) lines = lines ≡ Left (live w) ∷ End ∷ []
AreLast w a lines = ⊥

pub last_has : (w : World) (a : Activity) (lines : List Event) → AreLast w a lines → HasCommands a
last_has w (TopLevel commands) lines h = tt
last_has w (Framed f) lines h = tt
last_has w (ShuttingDown started) lines h = tt
last_has w a lines h = absurd h

-- What each kind of step does; R relates the world before, the lines and the world after.
pub record Steps (script : Script) (Known : World → Type 0) (R : World → List Event → World → Type 0) : Type 0 where
  pub starts_due : (a : Activity) (below : List Activity) (v : World) → HasCommands a → (g : ℕ) → due (on a below v) ≡ Some g → Known (on a below v)
      → R (on a below v) [] (push (new_collection g false (on a below v)) (on a below v))
  pub ends : (a : Activity) (lines : List Event) (below : List Activity) (v : World) → AreLast (on a below v) a lines → Known (on a below v)
      → R (on a below v) lines (record (on a below v) { outcome = Ended })
  pub shuts_down : (below : List Activity) (v : World) → Known (on (TopLevel []) below v) → R (on (TopLevel []) below v) [] (on (ShuttingDown false) below v)
  pub gives_up : (name : ℕ) (below : List Activity) (v : World) → greatest_bound (on (ShuttingDown false) below v) ≡ Some name
      → Known (on (ShuttingDown false) below v) → (let w : World = on (ShuttingDown false) below v
      in R w [] (push (Releasing (given_up_by w name)) (bound w name None)))
  pub collects_last : (below : List Activity) (v : World) → Known (on (ShuttingDown false) below v) → (let w : World = on (ShuttingDown false) below v
      in R w [] (push (new_collection 2 false w) (on (ShuttingDown true) below v)))
  pub commands : (command : Command) (a b : Activity) (below : List Activity) (v : World) → Takes command a b → HasCommands b → Known (on a below v)
      → CommandSteps script R (on a below v) command (on b below v) b below
  pub frame_ends : (f : Frame) (below : List Activity) (v : World) → f.commands ≡ [] → Known (on (Framed f) below v) → R (on (Framed f) below v)
      (frame_end f (with_stack below v)).0 (frame_end f (with_stack below v)).1
  pub releases : (references : List ℕ) (below : List Activity) (v : World) → Known (on (Releasing references) below v)
      → (let t : Transition = released references below (on (Releasing references) below v) in R (on (Releasing references) below v) t.0 t.1)
  pub dies : (d : Death) (below : List Activity) (v : World) → Known (on (Dying d) below v) → (let t : Transition = dying script d.object d.phase below
      (on (Dying d) below v) in R (on (Dying d) below v) t.0 t.1)
  pub collects : (c : Collection) (below : List Activity) (v : World) (events : List Event) (after : World) → PhaseStep script c c.phase below
      (on (Collecting c) below v) events after → Known (on (Collecting c) below v) → R (on (Collecting c) below v) events after

called : (u : World) (command : Command) (e : Effect) → Shape u command e → (f : ℕ) → e ≡ Calls f → (x : Object) × HasObject u command is_function x × (x.serial ≡ f)
called u command e (StartsFrame x h) f is = (x, h, let same : x.serial ≡ f = cc in same)
called u command e s f is = absurd (cc)

-- an answer of `why` is an inspection
told : (u : World) (command : Command) (e : Effect) → Shape u command e → (o : ℕ) → e ≡ Explains o → (lines : List Event) → Explanation u o lines → Shape u command (Changes true lines [] u)
told u command e (AsksWhy x h calm) o is lines because = Inspects lines calm (explained u o lines because)
told u command e s o is lines because = absurd (cc)

-- the generation that a command asks for
asked : (u : World) (command : Command) (e : Effect) → Shape u command e → (g : ℕ) → e ≡ Collects g → g ≤ 2
asked u command e (StartsCollection n low) g is = let same : n ≡ g = cc in subst (λ m. m ≤ 2) same low
asked u command e s g is = absurd (cc)

module _ (script : Script) (Known : World → Type 0) (R : World → List Event → World → Type 0) (h : Steps script Known R) where
  to : (w : World) (t : Transition) (events : List Event) (after : World) → Yields t events after → R w t.0 t.1 → R w events after
  to w t events after y k = subst (λ (es : List Event). R w es after) (sym y.0) (subst (R w t.0) (sym y.1) k)

  refuses : (w u : World) (command : Command) (a : Activity) (below : List Activity) → HasCommands a → CommandSteps script R w command (on a below u) a below
      → (n : ℕ) → R w (refused n (on a below u)).0 (refused n (on a below u)).1
  refuses w u command (TopLevel commands) below ha k n = k.stays (Refused n ∷ []) tt
  refuses w u command (Framed f) below ha k n = k.stops (Refused n ∷ []) tt
  refuses w u command (ShuttingDown started) below ha k n = k.stays (Refused n ∷ []) tt
  refuses w u command a below ha k n = absurd ha

  quits : (w u : World) (command : Command) (a : Activity) (below : List Activity) → HasCommands a → CommandSteps script R w command (on a below u) a below
      → R w [] (with_stack (without_commands (a ∷ below)) u)
  quits w u command (TopLevel commands) below ha k = k.stops [] tt
  quits w u command (Framed f) below ha k = k.stops [] tt
  quits w u command (ShuttingDown started) below ha k = k.stays [] tt
  quits w u command a below ha k = absurd ha

  does : (w u : World) (command : Command) (a : Activity) (below : List Activity) → HasCommands a → CommandSteps script R w command (on a below u) a below
      → (r : Result Effect ℕ) → Each (Shape (on a below u) command) r → (events : List Event) (after : World) → DoesEffect script (on a below u) r events after → R w events after
  does w u command a below ha k (Err n) s events after step = to w _ events after step (refuses w u command a below ha k n)
  does w u command a below ha k (Ok (Changes wants_memory lines given_up next)) s events after (inl step) = to w _ events after step (k.changes wants_memory lines given_up next s)
  does w u command a below ha k (Ok (Changes wants_memory lines given_up next)) s events after (inr step) = to w _ events after step.1 (refuses w u command a below ha k no_memory)
  does w u command a below ha k (Ok (Calls f)) s events after step =
      let x = called (on a below u) command (Calls f) s f refl in
      to w (start (on a below u) f) events after step (subst (λ (n : ℕ). R w (start (on a below u) n).0 (start (on a below u) n).1) x.2 (k.calls x.0 x.1))
    where
      start : World → ℕ → Transition
      start z n = start_frame script (record { sort = CallFrame; proc = procedure_of z n; subject = n; func = Some n }) z
  does w u command a below ha k (Ok (Collects g)) s events after step = asks (is_collecting (on a below u)) refl step
    where
      asks : (b : Bool) → is_collecting (on a below u) ≡ b → Yields (if b then (Collected 0 ∷ [], on a below u)
          else ([], push (new_collection g true (on a below u)) (on a below u))) events after → R w events after
      asks true e y = to w _ events after y (k.stays (Collected 0 ∷ []) refl)
      asks false e y = to w _ events after y (k.asks g (asked (on a below u) command (Collects g) s g refl) e)
  does w u command a below ha k (Ok (Explains o)) s events after (inl step) = subst (R w events) (sym step.1) (k.changes true events [] (on a below u)
      (told (on a below u) command (Explains o) s o refl events step.0))
  does w u command a below ha k (Ok (Explains o)) s events after (inr step) = to w _ events after step (refuses w u command a below ha k no_memory)
  does w u command a below ha k (Ok Quits) s events after step = to w _ events after step (quits w u command a below ha k)

  module _ (below : List Activity) (v : World) (events : List Event) (after : World) where
    commands_end : (b : Bool) → Yields (after_commands b below (on (TopLevel []) below v)) events after → Known (on (TopLevel []) below v) → R (on (TopLevel []) below v) events after
    commands_end true step k = to _ _ events after step (h.shuts_down below v k)
    commands_end false step k = to _ _ events after step (h.ends (TopLevel []) (End ∷ []) below v refl k)

    shuts : (started : Bool) (name : Option ℕ) → greatest_bound (on (ShuttingDown started) below v) ≡ name
        → Yields (shut_down started name below (on (ShuttingDown started) below v)) events after → Known (on (ShuttingDown started) below v)
        → R (on (ShuttingDown started) below v) events after
    shuts false (Some name) e step k = to _ _ events after step (h.gives_up name below v e k)
    shuts false None e step k = to _ _ events after step (h.collects_last below v k)
    shuts true name e step k = to _ _ events after step (h.ends (ShuttingDown true) _ below v refl k)

    top_level : (commands : List Command) (d : Option ℕ) → due (on (TopLevel commands) below v) ≡ d → TopLevelStep script (on (TopLevel commands) below v) d
        commands below events after → Known (on (TopLevel commands) below v) → R (on (TopLevel commands) below v) events after
    top_level commands (Some g) e step k = to _ _ events after step (h.starts_due (TopLevel commands) below v tt g e k)
    top_level [] None e step k = commands_end (declares_shutdown script.items) step k
    top_level (command ∷ commands) None e step k = does _ v command (TopLevel commands) below tt (h.commands command (TopLevel (command ∷ commands))
        (TopLevel commands) below v (FromTop commands) tt k) (effect (on (TopLevel commands) below v) command) (effect_shaped (on (TopLevel commands) below v)
        command) events after step

    in_frame : (f : Frame) (command : Command) (commands : List Command) (d : Option ℕ) → due (on (Framed f) below v) ≡ d → f.commands ≡ command ∷ commands
        → CommandInFrame script (on (Framed f) below v) d f command commands below events after → Known (on (Framed f) below v) → R (on (Framed f) below v)
        events after
    in_frame f command commands (Some g) e left step k = to _ _ events after step (h.starts_due (Framed f) below v tt g e k)
    in_frame f command commands None e left step k =
        let turned : Activity = Framed (record f { commands = commands }) in
        does _ v command turned below tt (h.commands command (Framed f) turned below v (FromFrame f commands left) tt k) (effect (on turned below v) command)
        (effect_shaped (on turned below v) command) events after step

    framed : (f : Frame) (commands : List Command) → f.commands ≡ commands → FrameStep script (on (Framed f) below v) f commands below events after
        → Known (on (Framed f) below v) → R (on (Framed f) below v) events after
    framed f [] left step k = to _ _ events after step (h.frame_ends f below v left k)
    framed f (command ∷ commands) left step k = in_frame f command commands (due (on (Framed f) below v)) refl left step k

  step_is : (v : World) (stack : List Activity) (events : List Event) (after : World) → StepOf script (with_stack stack v) stack events after
      → Known (with_stack stack v) → R (with_stack stack v) events after
  step_is v [] events after step k = absurd step
  step_is v (TopLevel commands ∷ below) events after step k = top_level below v events after commands (due (on (TopLevel commands) below v)) refl step k
  step_is v (Framed f ∷ below) events after step k = framed below v events after f f.commands refl step k
  step_is v (Releasing references ∷ below) events after step k = to _ _ events after step (h.releases references below v k)
  step_is v (Dying d ∷ below) events after step k = to _ _ events after step (h.dies d below v k)
  step_is v (Collecting c ∷ below) events after step k = h.collects c below v events after step k
  step_is v (ShuttingDown started ∷ below) events after step k = shuts below v events after started (greatest_bound (on (ShuttingDown started) below v)) refl step k

  pub any_step : (w : World) (events : List Event) (after : World) → Step script w events after → Known w → R w events after
  any_step w events after step k = step_is w w.stack events after step.step k

-- a property of each world of each run of a script with a budget
abbrev pub InEachWorld : Script → ℕ → (World → Type 0) → Type 0
InEachWorld script budget P = (steps : List StepTaken) → IsRun script budget steps → P (world_after script budget steps)

-- A property that holds in the first world and that each kind of step keeps. The proof may use what is known of each
-- world.
pub record Invariant (script : Script) (budget : ℕ) (Known P : World → Type 0) : Type 0 where
  pub opens : P (opening script budget)
  pub keeps : Steps script (λ w. Known w × P w) (λ w events after. P after)

goes_on : (script : Script) (Known P : World → Type 0) → ((w : World) (events : List Event) (after : World) → Step script w events after → Known w → P w → P after)
    → (w : World) (steps : List StepTaken) → Run script w steps → ((front : List StepTaken) → Run script w front → Known (last_world w front)) → P w → P (last_world w steps)
goes_on script Known P keeps w [] run known p = p
goes_on script Known P keeps w (step ∷ steps) run known p = goes_on script Known P keeps step.world steps run.1 (λ front r. known (step ∷ front) (run.0, r))
    (keeps w step.events step.world run.0 (known [] tt) p)

pub by_runs : (script : Script) (budget : ℕ) (Known P : World → Type 0) → Invariant script budget Known P → InEachWorld script budget Known → InEachWorld script budget P
by_runs script budget Known P i known steps run = goes_on script Known P (λ w events after step k p. any_step script (λ u. Known u × P u)
    (λ u events after. P after) i.keeps w events after step (k, p)) (opening script budget) steps run known i.opens

-- The proof may also use a law on steps.
pub by_runs_and_steps : (script : Script) (budget : ℕ) (Known P : World → Type 0) (Also : World → List Event → World → Type 0) → P (opening script budget)
    → Steps script (λ w. Known w × P w) (λ w events after. Also w events after → P after)
    → ((w : World) (events : List Event) (after : World) → Step script w events after → Known w → P w → Also w events after) → InEachWorld script budget Known → InEachWorld script budget P
by_runs_and_steps script budget Known P Also opens keeps also known steps run =
    goes_on script Known P (λ w events after step k p. any_step script (λ u. Known u × P u) (λ u events after. Also u events after → P after) keeps w events
    after step (k, p) (also w events after step k p)) (opening script budget) steps run known opens
