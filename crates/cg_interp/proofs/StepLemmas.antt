-- A step of the script or of a frame: the next command, or a collection that is due before it.
use Rattle.std.proofs.Common.{◌≡◌, refl, sym, ◌∙◌, ap, subst, ℕ, true, false, List, [], ◌∷◌, ◌++◌, Option, None, Some, inl, take, drop, Bool, length, arith, ◌+◌, append-nil}
use Rattle.std.specs.Prelude.{option_to_list}
use Rattle.std.proofs.lemmas.List.{take-append-drop}
use Rattle.cg_script.specs.declared.Script.{Script}
use Rattle.cg_script.specs.declared.Command.{Command}
use Rattle.cg_graph.specs.Member.{Includes}
use Rattle.cg_graph.proofs.Members.{Includes-append_right, either}
use Rattle.cg_machine.specs.declared.event.Event.{Event}
use Rattle.cg_machine.specs.Program.{commands_of, body_of, declares_shutdown}
use Rattle.cg_machine.specs.World.{World, TopLevel, Framed, Frame, Running, push, with_stack, ShuttingDown}
use Rattle.cg_machine.specs.Frame.{Transition, Yields}
use Rattle.cg_machine.specs.Commands.{CommandStep, new_collection}
use Rattle.cg_machine.specs.Due.{due}
use Rattle.cg_machine.specs.Run.{StepOf, TopLevelStep, FrameStep, CommandInFrame}
use Rattle.cg_laws.specs.Lawful.{IsLawful}
use Rattle.cg_represents.specs.Represents.{Represents, detects}
use Rattle.cg_policy.specs.Policy.{due_of, Policy}
use Rattle.cg_laws.specs.Kept.{IsKept, StaysKept}
use Rattle.cg_script.specs.Spelled.{IsSpelled, IsSpelledCommand}
use Rattle.cg_heap.specs.Calls.{IsSound}
use Rattle.cg_collect.specs.Numbers.{AreSmall}
use Rattle.cg_commands.specs.declared.locals.Locals.{Locals}
use Rattle.cg_commands.specs.Stands.{HasLocals, LocalsLive}
use Rattle.cg_interp.specs.declared.activity.Activity.{Activity as Own}
use Rattle.cg_interp.specs.declared.activity.Activity.TheVariants as activity
use Rattle.cg_interp.specs.declared.turned.Turned.{Turned}
use Rattle.cg_interp.specs.declared.turned.Turned.TheVariants as turned
use Rattle.cg_interp.specs.Engines.{State, StandsFor, commands_from, frame_of, under, ShowsAll, any_collecting}
use Rattle.cg_interp.specs.declared.caller.Caller.{Caller}
use Rattle.cg_interp.specs.declared.caller.Runner.{Runner}
use Rattle.cg_interp.specs.declared.caller.Runner.TheVariants as runner_is
use Rattle.cg_interp.specs.Callers.{caller_activity, caller_locals, with_next, told, MayCommand, Does, StartsCollection, ChangesOn, TellsChange, DoesAny, RunsTo, StaysKeptAfter, IsAtCommand, ComesNext, StepsFrom, StepsOn, TellsTo, activity_at, locals_in, frame_caller}
use Rattle.cg_interp.specs.Quietly.{ComesTelling}
use Rattle.cg_interp.specs.Collecting.{StandsWith}
use Rattle.cg_interp.specs.Telling.{TurnsWith}
use Rattle.cg_interp.specs.Turns.{Makes, Turns, GoesTo, IsFit}
use Rattle.cg_interp.proofs.StackChanges.{plain_frame, plain_script, replaced, spelled, one_step, plain_shutdown}
use Rattle.cg_interp.proofs.AnswersOfTurns.{turns_plainly, reaches}
use Rattle.cg_interp.proofs.SilentTurns.{quietly, first_then, first_moves}
use Rattle.cg_interp.proofs.LawsOfEngines.{has_room, few_holds, few_objects}
use Rattle.cg_interp.proofs.CollectBegins.{idle_in}
use Rattle.cg_interp.proofs.SmallNumbers.{small_numbers}
use Rattle.cg_interp.proofs.SpelledLemmas.{script_doable, body_doable, low_serials, locals_are_live}
use Rattle.cg_interp.proofs.CollectionUnderWay.{policy_is}
use Rattle.cg_machine.specs.Shutdown.{after_commands}

-- What is due by the policy is due by the machine.
pub due_in : (script : Script) (e : State) (w : World) (answer : Option ℕ) → StandsFor script e w → answer ≡ due_of e.policy → due w ≡ answer
due_in script e w answer stands is = ap due_of (sym (policy_is script e w stands)) ∙ sym is

-- a transition that the machine may make answers a turn
pub turns : (script : Script) (w : World) (e : State) (t : Transition) (answer : Turned) → w.outcome ≡ Running → StepOf script w w.stack t.0 t.1 → Makes script t e answer → Turns script w e answer
turns script w e t answer running step makes = reaches script w e t (one_step script w t.0 t.1 running step) (λ n. absurd (cc)) answer makes

-- A step of the machine comes first.
module _ (script : Script) (w mid : World) (running : w.outcome ≡ Running) where
  -- what is kept stays kept after it
  pub kept_after : (budget : ℕ) (events : List Event) → StepOf script w w.stack events mid → StaysKept script budget w → StaysKept script budget mid
  kept_after budget events step kept steps run = kept (record { events = events; world = mid } ∷ steps) (record { running = running; step = step }, run)

  -- if it starts a collection, there is no line
  pub begins_collection : (e : State) → StepOf script w w.stack [] mid → StandsWith script e [] mid → TurnsWith script (λ still. ⊥) w [] e turned.Quiet
  begins_collection e step stands = record {
    events = [];
    after = mid;
    still = [];
    goes = one_step script w [] mid running step;
    lines = refl;
    moves = inl (λ none. absurd (cc));
    stands = stands;
  }

-- A command is done from the world without it: what the machine allows for the command is its step, without a reachability
-- pass.
module _ (script : Script) (w without : World) (c : Command) (running : w.outcome ≡ Running) (plain : detects w.stack ≡ false)
    (step : (events : List Event) (after : World) → CommandStep script without c events after → StepOf script w w.stack events after) where
  -- what it gives up is given up in the same turn
  goes_to : (lines : List Event) (e : State) → ChangesOn script without c lines e → GoesTo script w lines e
  goes_to lines e changes =
      let own = step lines changes.changed changes.may in
      record {
        after = changes.comes.after;
        goes = first_then script w changes.changed changes.comes.after lines running plain own changes.comes.goes;
        moves = first_moves script w changes.changed changes.comes.after lines running plain own changes.comes.goes;
        stands = changes.comes.stands;
      }

  told_turns : (line : Option Event) (e : State) → ChangesOn script without c (option_to_list line) e → Turns script w e (told line)
  told_turns None e changes = goes_to [] e changes
  told_turns (Some event) e changes = goes_to (event ∷ []) e changes

  pub command_turns : (e : State) (answer : Turned) → DoesAny script without c e answer → TurnsWith script (λ still. ⊥) w [] e answer
  command_turns e answer does = either does
      (λ (done : Does script without c e answer). turns_plainly script w e answer (turns script w e done.transition answer running (step done.transition.0 done.transition.1 done.may) done.makes))
      (λ rest. either rest
      (λ (starts : StartsCollection script without c e answer).
      let begun = push (new_collection starts.generation true without) without in
      subst (TurnsWith script (λ still. ⊥) w [] e) (sym starts.quiet) (begins_collection script w begun running e (step [] begun starts.may) starts.stands))
      (λ (tells : TellsChange script without c e answer).
      subst (TurnsWith script (λ still. ⊥) w [] e) (sym tells.is) (turns_plainly script w e (told tells.line) (told_turns tells.line e tells.changes))))

  -- where its caller is to go on
  pub command_comes : {lines : List Event} (e : State) → ChangesOn script without c lines e → ComesTelling script w lines e
  command_comes {lines} e changes = let to = goes_to lines e changes in record { after = to.after; goes = quietly script w to.after plain to.goes; stands = to.stands }

  pub command_keeps : (budget : ℕ) → StaysKept script budget w → StaysKeptAfter script budget without c
  command_keeps budget kept events after may = kept_after script w after running budget events (step events after may) kept

-- the rest was there before
still_there : {X : Type 0} (n : ℕ) (xs : List X) (x : X) → Includes (drop n xs) x → Includes xs x
still_there n xs x m = subst (λ l. Includes l x) (take-append-drop n xs) (Includes-append_right (take n xs) (drop n xs) x m)

pub is_there : (commands rest : List Command) (next : Option ℕ) (c : Command) → commands_from next commands ≡ c ∷ rest → Includes commands c
is_there commands rest None c is = absurd (cc)
is_there commands rest (Some n) c is = still_there n commands c (subst (λ l. Includes l c) (sym is) (inl refl))

-- the current command in the body of a procedure
pub comes_next : (script : Script) (locals : Locals) (procedure : ℕ) (next : Option ℕ) (c : Command) (after : ℕ) (body : List Command) → body
    ≡ body_of script procedure → commands_from next body ≡ c ∷ commands_from (Some after) body → ComesNext script (frame_caller locals procedure (Some after))
    next c
comes_next script locals procedure next c after body is turn = subst (λ l. commands_from next l ≡ c ∷ commands_from (Some after) l) is turn

-- the command that has the turn, and a caller that goes on behind it
pub comes_next_at : (script : Script) (locals : Locals) (procedure n : ℕ) (c : Command) (body : List Command) (caller : Caller) → caller
    ≡ frame_caller locals procedure (Some (n + 1)) → body ≡ body_of script procedure → commands_from (Some n) body ≡ c ∷ commands_from (Some (n + 1)) body
    → ComesNext script caller (Some n) c
comes_next_at script locals procedure n c body caller frame is there = subst (λ k. ComesNext script k (Some n) c) (sym frame) (comes_next script locals procedure (Some n) c (n + 1) body is there)

module _ (script : Script) (e : State) (next : Option ℕ) (w : World) (stands : StandsFor script (under (activity.Script next) e) w) where
  script_at : (commands : List Command) → commands_from next (commands_of script.items) ≡ commands → w.stack ≡ TopLevel commands ∷ stands.shows.below
  script_at commands is = stands.shows.is ∙ ap (λ l. l ++ stands.shows.below) stands.shows.shows ∙ ap (λ cs. TopLevel cs ∷ stands.shows.below) is

  pub script_collects : (g : ℕ) → due w ≡ Some g → StepOf script w w.stack [] (push (new_collection g false w) w)
  script_collects g is =
      subst (λ st. StepOf script w st [] (push (new_collection g false w) w)) (sym (script_at _ refl))
      (subst (λ d. TopLevelStep script w d (commands_from next (commands_of script.items)) stands.shows.below [] (push (new_collection g false w) w)) (sym is) (refl, refl))

  module _ (none : due w ≡ None) (is : commands_from next (commands_of script.items) ≡ []) (declared : Bool) (same : declares_shutdown script.items ≡ declared) where
    abbrev next_world : Transition
    next_world = after_commands declared stands.shows.below w

    steps_on : StepOf script w w.stack next_world.0 next_world.1
    steps_on =
        subst (λ st. StepOf script w st next_world.0 next_world.1) (sym (script_at [] is))
        (subst (λ d. TopLevelStep script w d [] stands.shows.below next_world.0 next_world.1) (sym none)
        (subst (λ b. Yields (after_commands b stands.shows.below w) next_world.0 next_world.1) (sym same) (refl, refl)))

    -- the run ends, or the shutdown replaces the script
    pub commands_end : (new : State) (answer : Turned) → Makes script next_world new answer → Turns script w new answer
    commands_end new answer makes = turns script w new next_world answer stands.running steps_on makes

  -- the engine with the shutdown on top
  pub shutdown_stands : (new : State) → commands_from next (commands_of script.items) ≡ [] → new.store ≡ e.store → new.policy ≡ e.policy → new.activities
      ≡ activity.Shutdown false ∷ e.activities → new.budget ≡ e.budget
      → StandsFor script new (with_stack (ShuttingDown false ∷ stands.shows.below) w)
  shutdown_stands new is store policy activities budget = record {
    represents = subst (λ st. Represents st (with_stack (ShuttingDown false ∷ stands.shows.below) w)) (sym store)
        (replaced e.store w (TopLevel []) (ShuttingDown false) stands.shows.below (plain_script _) (plain_shutdown false) refl
        (spelled (Represents e.store) w (TopLevel [] ∷ stands.shows.below) (script_at [] is) stands.represents));
    shows = subst (λ l. ShowsAll script l (ShuttingDown false ∷ stands.shows.below)) (sym activities)
        (record { tops = ShuttingDown false ∷ []; below = stands.shows.below; shows = refl; some = λ e. absurd (cc); over = stands.shows.over; is = refl });
    budget = stands.budget ∙ sym budget;
    running = stands.running;
    numbers = ap (λ (p : Policy). p.numbers) policy ∙ stands.numbers;
    collecting = ap (λ (p : Policy). p.running) policy ∙ stands.collecting ∙ sym (ap any_collecting activities);
  }

  module _ (after : Option ℕ) (c : Command) (is : commands_from next (commands_of script.items) ≡ c ∷ commands_from after (commands_of script.items)) where
    abbrev rest : List Command
    rest = commands_from after (commands_of script.items)

    pub script_goes_on : World
    script_goes_on = with_stack (TopLevel rest ∷ stands.shows.below) w

    pub script_stands : StandsFor script (under (activity.Script after) e) script_goes_on
    unfolding script_goes_on
    script_stands = record {
      represents = replaced e.store w (TopLevel (c ∷ rest)) (TopLevel rest) stands.shows.below (plain_script _) (plain_script _) refl
          (spelled (Represents e.store) w (TopLevel (c ∷ rest) ∷ stands.shows.below) (script_at (c ∷ rest) is) stands.represents);
      shows = record { tops = TopLevel rest ∷ []; below = stands.shows.below; shows = refl; some = λ e. absurd (cc); over = stands.shows.over; is = refl };
      budget = stands.budget;
      running = stands.running;
      numbers = stands.numbers;
      collecting = stands.collecting;
    }

    pub script_locals : HasLocals None script_goes_on
    unfolding script_goes_on
    script_locals = refl

    -- if no collection is due, it is done
    pub script_does : due w ≡ None → (events : List Event) (done : World) → CommandStep script script_goes_on c events done → StepOf script w w.stack events done
    unfolding script_goes_on
    script_does none events done may =
        subst (λ st. StepOf script w st events done) (sym (script_at (c ∷ rest) is)) (subst (λ d. TopLevelStep script w d (c ∷ rest) stands.shows.below events done) (sym none) may)

-- A frame is on top, with a known next command.
module _ (script : Script) (e : State) (locals : Locals) (procedure : ℕ) (next after : Option ℕ) (c : Command) (w : World)
    (stands : StandsFor script (under (activity.Frame locals procedure next) e) w) (is : commands_from next (body_of script procedure) ≡ c ∷ commands_from after (body_of script procedure)) where
  abbrev running_frame : Frame
  running_frame = frame_of script locals procedure next

  abbrev frame_after : Frame
  frame_after = frame_of script locals procedure after

  frame_at : w.stack ≡ Framed running_frame ∷ stands.shows.below
  frame_at = stands.shows.is ∙ ap (λ l. l ++ stands.shows.below) stands.shows.shows

  frame_steps : (found : Option ℕ) (events : List Event) (done : World) → due w ≡ found → CommandInFrame script w found running_frame c frame_after.commands
      stands.shows.below events done → StepOf script w w.stack events done
  frame_steps found events done same step =
      subst (λ st. StepOf script w st events done) (sym frame_at)
      (subst (λ cs. FrameStep script w running_frame cs stands.shows.below events done) (sym is)
      (subst (λ d. CommandInFrame script w d running_frame c frame_after.commands stands.shows.below events done) (sym same) step))

  pub frame_collects : (g : ℕ) → due w ≡ Some g → StepOf script w w.stack [] (push (new_collection g false w) w)
  frame_collects g same = frame_steps (Some g) [] (push (new_collection g false w) w) same (refl, refl)

  pub frame_goes_on : World
  frame_goes_on = with_stack (Framed frame_after ∷ stands.shows.below) w

  pub frame_stands : StandsFor script (under (activity.Frame locals procedure after) e) frame_goes_on
  unfolding frame_goes_on
  frame_stands = record {
    represents = replaced e.store w (Framed running_frame) (Framed frame_after) stands.shows.below (plain_frame _) (plain_frame _) refl
        (spelled (Represents e.store) w (Framed running_frame ∷ stands.shows.below) frame_at stands.represents);
    shows = record { tops = Framed frame_after ∷ []; below = stands.shows.below; shows = refl; some = λ e. absurd (cc); over = stands.shows.over; is = refl };
    budget = stands.budget;
    running = stands.running;
    numbers = stands.numbers;
    collecting = stands.collecting;
  }

  pub frame_locals : HasLocals (Some locals) frame_goes_on
  unfolding frame_goes_on
  frame_locals = refl

  -- if no collection is due, it is done
  pub frame_does : due w ≡ None → (events : List Event) (done : World) → CommandStep script frame_goes_on c events done → StepOf script w w.stack events done
  unfolding frame_goes_on
  frame_does none events done may = frame_steps None events done none may

-- The world without the command that a caller has advanced past. If no collection is due, doing it is the machine's step.
pub record Without (script : Script) (caller : Caller) (c : Command) (e : State) (w : World) : Type 0 where
  pub world : World
  pub stands : StandsFor script (under (caller_activity caller) e) world
  pub locals : HasLocals (caller_locals caller) world
  pub does : due w ≡ None → (events : List Event) (done : World) → CommandStep script world c events done → StepOf script w w.stack events done

module _ (script : Script) (e : State) (w : World) where
  pub runner_detects_none : (r : Runner) (next : Option ℕ) → StandsFor script (under (activity_at r next) e) w → detects w.stack ≡ false
  runner_detects_none runner_is.Script next stands = ap detects (stands.shows.is ∙ ap (λ l. l ++ stands.shows.below) stands.shows.shows)
  runner_detects_none (runner_is.Frame locals procedure) next stands = ap detects (stands.shows.is ∙ ap (λ l. l ++ stands.shows.below) stands.shows.shows)

  pub caller_detects_none : (caller : Caller) → StandsFor script (under (caller_activity caller) e) w → detects w.stack ≡ false
  caller_detects_none caller = runner_detects_none caller.runner caller.next

  -- its next command is known; it has advanced past it
  module _ (next : Option ℕ) (c : Command) where
    without_by : (r : Runner) (after : Option ℕ) → ComesNext script (record { runner = r; next = after }) next c
        → StandsFor script (under (activity_at r next) e) w → Without script (record { runner = r; next = after }) c e w
    without_by runner_is.Script after is stands = record {
      world = script_goes_on script e next w stands after c is;
      stands = script_stands script e next w stands after c is;
      locals = script_locals script e next w stands after c is;
      does = script_does script e next w stands after c is;
    }
    without_by (runner_is.Frame locals procedure) after is stands = record {
      world = frame_goes_on script e locals procedure next after c w stands is;
      stands = frame_stands script e locals procedure next after c w stands is;
      locals = frame_locals script e locals procedure next after c w stands is;
      does = frame_does script e locals procedure next after c w stands is;
    }

    pub without_command : (caller : Caller) → ComesNext script caller next c → StandsFor script (under (caller_activity (with_next next caller)) e) w → Without script caller c e w
    without_command caller = without_by caller.runner caller.next

    collects_by : (r : Runner) (after : Option ℕ) → ComesNext script (record { runner = r; next = after }) next c
        → StandsFor script (under (activity_at r next) e) w → (g : ℕ) → due w ≡ Some g → StepOf script w w.stack [] (push (new_collection g false w) w)
    collects_by runner_is.Script after is stands = script_collects script e next w stands
    collects_by (runner_is.Frame locals procedure) after is stands = frame_collects script e locals procedure next after c w stands is

    pub caller_collects : (caller : Caller) → ComesNext script caller next c → StandsFor script (under (caller_activity (with_next next caller)) e) w → (g : ℕ)
        → due w ≡ Some g → StepOf script w w.stack [] (push (new_collection g false w) w)
    caller_collects caller = collects_by caller.runner caller.next

    -- the command is one of a script that some bytes spell
    doable_by : IsSpelled script → (names : ℕ) → names ≡ length script.names → (r : Runner) (after : Option ℕ)
        → ComesNext script (record { runner = r; next = after }) next c → IsSpelledCommand names c
    doable_by spelled names same runner_is.Script after is = script_doable script spelled names same c (is_there (commands_of script.items) _ next c is)
    doable_by spelled names same (runner_is.Frame locals procedure) after is = body_doable script spelled names procedure same c (is_there (body_of script procedure) _ next c is)

    pub caller_doable : IsSpelled script → (names : ℕ) → names ≡ length script.names → (caller : Caller) → ComesNext script caller next c → IsSpelledCommand names c
    caller_doable spelled names same caller = doable_by spelled names same caller.runner caller.next

  -- its locals live
  live_by : (budget : ℕ) (next : Option ℕ) (r : Runner) → StandsFor script (under (activity_at r next) e) w → IsLawful script budget w → LocalsLive e.store (locals_in r)
  live_by budget next runner_is.Script stands lawful = tt
  live_by budget next (runner_is.Frame locals procedure) stands lawful = locals_are_live script budget e locals procedure next w stands lawful

  pub caller_live : (budget : ℕ) (next : Option ℕ) (caller : Caller) → StandsFor script (under (caller_activity (with_next next caller)) e) w
      → IsLawful script budget w → LocalsLive e.store (caller_locals caller)
  caller_live budget next caller = live_by budget next caller.runner

  -- what a command may assume
  pub may_command : (top : Own) → StandsFor script (under top e) w → IsKept script e.first_budget w → IsSound e.store → IsSpelled script → IsFit script e → MayCommand e
  may_command top stands kept sound spelled fit = record {
    few = few_holds script e.first_budget e.store w stands.represents kept.lawful fit.first_budget (few_objects e.store sound.objects);
    last = low_serials script spelled e.first_budget e.store w stands.represents kept.lawful fit.first_budget;
    small = subst AreSmall (sym stands.numbers) (small_numbers script e.first_budget w spelled kept.few fit.first_budget);
    idle = idle_in script e.first_budget top e w stands sound kept;
    room = omega (arith, has_room script top e w stands kept.lawful fit);
  }

-- The command that a caller has advanced past was done.
module _ (script : Script) (caller : Caller) (next : Option ℕ) (c : Command) (old new : State) (is : ComesNext script caller next c) (w : World)
    (stands : StandsFor script (under (caller_activity (with_next next caller)) old) w) (kept : StaysKept script old.first_budget w) (none : due w ≡ None) where
  without : Without script caller c old w
  without = without_command script old w next c caller is stands

  -- the world that it is done from
  pub at_command : (world : World) × IsAtCommand script caller old world c
  at_command = (
    without.world,
    record {
      stands = without.stands;
      locals = without.locals;
      kept = command_keeps script w without.world c stands.running (caller_detects_none script old w (with_next next caller) stands) (without.does none) old.first_budget kept;
    },
  )

  abbrev top_after : Own
  top_after = caller_activity caller

  -- its result is the result of its caller's step
  pub comes : {lines : List Event} → ChangesOn script at_command.0 c lines (under top_after new) → ComesTelling script w lines (under top_after new)
  unfolding without at_command
  comes changes = command_comes script w without.world c stands.running (caller_detects_none script old w (with_next next caller) stands) (without.does none) (under top_after new) changes

  pub answers : (answer : Turned) → DoesAny script at_command.0 c new answer → TurnsWith script (λ still. ⊥) w [] new answer
  unfolding without at_command
  answers answer does = command_turns script w without.world c stands.running (caller_detects_none script old w (with_next next caller) stands) (without.does none) new answer does

pub steps_from : (script : Script) (caller : Caller) (next : Option ℕ) (c : Command) (old new : State) → ComesNext script caller next c
    → ((w : World) → StandsFor script (under (caller_activity (with_next next caller)) old) w → due w ≡ None)
    → (result : Option Turned) → ((w : World) → IsAtCommand script caller old w c → RunsTo script w c (caller_activity caller) new [] result) → StepsFrom script caller next old new result
steps_from script caller next c old new is none None does = λ w stands kept.
    let at = at_command script caller next c old new is w stands kept (none w stands) in comes script caller next c old new is w stands kept (none w stands) (does at.0 at.1)
steps_from script caller next c old new is none (Some answer) does = λ w stands kept.
    let at = at_command script caller next c old new is w stands kept (none w stands) in answers script caller next c old new is w stands kept (none w stands) answer (does at.0 at.1)

pub steps_told : (script : Script) (caller : Caller) (next : Option ℕ) (c : Command) (old new : State) → ComesNext script caller next c
    → ((w : World) → StandsFor script (under (caller_activity (with_next next caller)) old) w → due w ≡ None) → (waits now : List Event)
    → (result : Option Turned) → ((w : World) → IsAtCommand script caller old w c → TellsTo script w c (caller_activity caller) new waits now result)
    → StepsOn script caller next old new waits now result
steps_told script caller next c old new is none waits now None does = λ w stands kept.
    let at = at_command script caller next c old new is w stands kept (none w stands) in
    let (lines, told, changes) = does at.0 at.1 in (lines, told, comes script caller next c old new is w stands kept (none w stands) changes)
steps_told script caller next c old new is none waits now (Some answer) does = steps_from script caller next c old new is none (Some answer) does

-- a quiet step tells nothing
pub quiet_step : (script : Script) (caller : Caller) (next : Option ℕ) (old new : State) (waits now : List Event) → now ≡ waits → (result : Option Turned)
    → StepsFrom script caller next old new result → StepsOn script caller next old new waits now result
quiet_step script caller next old new waits now is None steps = λ w stands kept. ([], is ∙ sym (append-nil waits), steps w stands kept)
quiet_step script caller next old new waits now is (Some answer) steps = steps
