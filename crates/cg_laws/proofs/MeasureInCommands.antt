-- Steps of commands, and that each step of the machine keeps the invariant and makes the measure smaller.
use Rattle.cg_laws.proofs.Growth.{Grows, shape_grows, name_one}
use Rattle.std.proofs.Common.{◌≡◌, refl, sym, ap, subst, ℕ, suc, ◌*◌, ◌<◌, ◌≤◌, Bool, true, false, not, ◌&&◌, length, List, [], ◌∷◌, Some, None, arith, zero, ◌+◌, Option}
use Rattle.std.specs.Prelude.{if◌then◌else◌, slice_set}
use Rattle.std.specs.List.{list_any}
use Rattle.cg_script.specs.declared.Script.{Script}
use Rattle.cg_script.specs.declared.Command.{Command}
use Rattle.cg_machine.specs.declared.event.Event.{Event}
use Rattle.cg_machine.specs.declared.event.FrameSort.TheVariants.{Call as CallFrame}
use Rattle.cg_machine.specs.World.{World, Activity, TopLevel, Framed, Releasing, Collecting, Running, push, with_stack, ShuttingDown}
use Rattle.cg_machine.specs.Holdings.{is_collection, is_collecting}
use Rattle.cg_machine.specs.Frame.{procedure_of}
use Rattle.cg_machine.specs.Effects.{Changes, given_up_by, bound}
use Rattle.cg_machine.specs.Commands.{new_collection}
use Rattle.cg_machine.specs.Due.{is_due, due, due_generation}
use Rattle.cg_machine.specs.Run.{Step}
use Rattle.cg_laws.proofs.Sums.{tally}
use Rattle.cg_represents.proofs.CommandLaws.{Leaves}
use Rattle.cg_laws.proofs.ShapeLaws.{changes_leave}
use Rattle.cg_laws.proofs.Invariants.{HasCommands, Takes, FromTop, FromFrame, emptied, on, CommandSteps, Steps, any_step}
use Rattle.cg_laws.proofs.Measure.{alive, commands_in, all_bodies, commands_left, is_starting, due_rank, by_commands, by_due, weight_in, bound_names}
use Rattle.cg_laws.proofs.InvariantOfRuns.{HasBottom, collections_in, Sound, Moves, starts, NoMore}
use Rattle.cg_laws.proofs.MeasureInDeaths.{dying_moves, released_moves, frame_end_moves}
use Rattle.cg_laws.proofs.MeasureInCollections.{none_underway, phase_moves}
use Rattle.cg_machine.specs.Shutdown.{greatest_bound, greatest_from, greatest_of}
use Rattle.cg_value.specs.declared.Val.{Val}

-- no collection is on the stack
none_collects : (stack : List Activity) → list_any is_collection stack ≡ false → tally collections_in stack ≡ 0
none_collects [] e = refl
none_collects (Collecting c ∷ stack) e = absurd (let no : true ≡ false = e in cc)
none_collects (_ ∷ stack) e = omega (arith, none_collects stack e)

-- commands are taken away
pub record Shortened (old new : List Activity) : Type 0 where
  pub commands : tally commands_in new ≤ tally commands_in old
  pub collections : tally collections_in new ≡ tally collections_in old
  pub bottom : HasBottom old → HasBottom new
  pub weight : tally weight_in new ≤ tally weight_in old

untouched : (stack : List Activity) → Shortened stack stack
untouched stack = record { commands = omega arith; collections = refl; bottom = λ b. b; weight = omega arith }

emptied_shortened : (a : Activity) (below : List Activity) → HasCommands a → Shortened (a ∷ below) (emptied a ∷ below)
emptied_shortened (TopLevel commands) below h = record { commands = omega arith; collections = refl; bottom = λ b. b; weight = omega arith }
emptied_shortened (Framed f) below h = record { commands = omega arith; collections = refl; bottom = λ b. b; weight = omega arith }
emptied_shortened (ShuttingDown started) below h = untouched (ShuttingDown started ∷ below)
emptied_shortened a below h = absurd h

-- A command is taken from w, which leaves u; then its effect happens.
module _ (script : Script) (w u : World) (sound : Sound u) (running : u.outcome ≡ Running) (taken : commands_left script u + 1 < commands_left script w) (less : NoMore script w u) where
  shortened_moves : (stack : List Activity) → Shortened u.stack stack → Moves script w (with_stack stack u)
  shortened_moves stack s = record {
    sound = record { rises = sound.rises; bottom = s.bottom sound.bottom; single = omega (arith, s.collections, sound.single) };
    lower = by_commands (omega (arith, s.commands, taken)) (omega (arith, s.commands, taken, less.size)) (omega (arith, less.entries))
        (omega (arith, less.referents)) (omega (arith, s.weight, less.weight));
  }

  changes_moves : (given_up : List ℕ) (after : World) → Leaves u after → Grows u after given_up → Moves script w (push (Releasing given_up) after)
  changes_moves given_up after l g = record {
    sound = record { rises = l.rises sound.rises; bottom = subst HasBottom (sym l.stack) sound.bottom; single = omega (arith, same_collections, sound.single) };
    lower = by_commands (omega (arith, fewer)) (omega (arith, fewer, g.size, less.size)) (omega (arith, g.entries, less.entries))
        (omega (arith, g.referents, less.referents)) (omega (arith, g.given, less.weight, same_weight));
  }
    where
      same_collections : tally collections_in after.stack ≡ tally collections_in u.stack
      same_collections = ap (tally collections_in) l.stack

      same_alive : alive after.outcome ≡ alive u.outcome
      same_alive = ap alive l.outcome

      same_budget : after.budget * suc (all_bodies script) ≡ u.budget * suc (all_bodies script)
      same_budget = ap (λ b. b * suc (all_bodies script)) l.budget

      same_stack : tally commands_in after.stack ≡ tally commands_in u.stack
      same_stack = ap (tally commands_in) l.stack

      same_weight : tally weight_in after.stack ≡ tally weight_in u.stack
      same_weight = ap (tally weight_in) l.stack

      fewer : commands_left script after < commands_left script w
      fewer = omega (arith, taken, same_alive, same_budget, same_stack, g.names)

  collects_moves : (g : ℕ) → is_collecting u ≡ false → Moves script w (push (new_collection g true u) u)
  collects_moves g e = record {
    sound = record { rises = sound.rises; bottom = sound.bottom; single = omega (arith, none_collects u.stack e) };
    lower = by_commands (omega (arith, taken)) (omega (arith, taken, less.size)) (omega (arith, less.entries)) (omega (arith, less.referents)) (omega (arith, less.weight));
  }

command_moves : (script : Script) (w : World) (command : Command) (a : Activity) (below : List Activity) (v : World) → HasCommands a → Sound (on a below v)
    → v.outcome ≡ Running → commands_left script (on a below v) + 1 < commands_left script w → NoMore script w (on a below v)
    → CommandSteps script (λ w events after. Moves script w after) w command (on a below v) a below
command_moves script w command a below v ha sound running taken less = record {
  stays = λ lines answers. shortened_moves script w (on a below v) sound running taken less (a ∷ below) (untouched (a ∷ below));
  stops = λ lines answers. shortened_moves script w (on a below v) sound running taken less (emptied a ∷ below) (emptied_shortened a below ha);
  changes = λ wants_memory lines given_up after shape. changes_moves script w (on a below v) sound running taken less given_up after
      (changes_leave (on a below v) command wants_memory lines given_up after shape) (shape_grows (on a below v) sound.rises command
      (Changes wants_memory lines given_up after) shape);
  calls = λ f k. starts script (record { sort = CallFrame; proc = procedure_of (on a below v) f.serial; subject = f.serial; func = Some f.serial }) w (on a below v) sound running less;
  asks = λ g low e. collects_moves script w (on a below v) sound running taken less g e;
}

-- A due collection is pushed.
due_cases : (a b : Bool) (g k : ℕ) → (if a && not b then Some g else None) ≡ Some k → (a ≡ true) × (b ≡ false)
due_cases true true g k e = absurd (let no : None ≡ Some k = e in cc)
due_cases true false g k e = (refl, refl)
due_cases false b g k e = absurd (let no : None ≡ Some k = e in cc)

due_moves : (script : Script) (w : World) (g : ℕ) → due w ≡ Some g → Sound w → Moves script w (push (new_collection g false w) w)
due_moves script w g e sound = record {
  sound = record { rises = sound.rises; bottom = sound.bottom; single = omega (arith, none) };
  lower = by_due (omega arith) (omega arith) (subst (λ b. due_rank b true < due_rank b (list_any is_starting w.stack)) (sym parts.0)
      (subst (λ b. 1 < due_rank true b) (sym (none_underway w.stack (omega (arith, none))).starting) (omega arith))) (omega arith) (omega arith) (omega arith);
}
  where
    parts : (is_due w.numbers ≡ true) × (is_collecting w ≡ false)
    parts = due_cases (is_due w.numbers) (is_collecting w) (due_generation w.numbers) g e

    none : tally collections_in w.stack ≡ 0
    none = none_collects w.stack parts.1

taken_moves : (script : Script) (command : Command) (a b : Activity) (below : List Activity) (v : World) → Takes command a b → HasCommands b
    → Sound (on a below v) → v.outcome ≡ Running → CommandSteps script (λ w events after. Moves script w after) (on a below v) command (on b below v) b below
taken_moves script command a b below v (FromTop commands) hb sound running = command_moves script (on (TopLevel (command ∷ commands)) below v) command
    (TopLevel commands) below v tt (record { rises = sound.rises; bottom = sound.bottom; single = sound.single }) running (omega arith)
    (record { commands = omega arith; size = omega arith; entries = omega arith; referents = omega arith; weight = omega arith })
taken_moves script command a b below v (FromFrame f commands left) hb sound running =
    let one : length f.commands ≡ length (command ∷ commands) = ap length left in
    command_moves script (on (Framed f) below v) command (Framed (record f { commands = commands })) below v tt
    (record { rises = sound.rises; bottom = sound.bottom; single = sound.single }) running (omega (arith, one))
    (record { commands = omega (arith, one); size = omega (arith, one); entries = omega arith; referents = omega arith; weight = omega arith })

-- the name that the shutdown gives up is bound
greatest_at : (n : ℕ) (names : List (Option Val)) (name : ℕ) → greatest_from n names ≡ Some name → (k : ℕ) × (name ≡ n + k) × (bound_names (slice_set names k None) < bound_names names)
greatest_at n [] name e = absurd (let no : None ≡ Some name = e in cc)
greatest_at n (v ∷ names) name e = go (greatest_from (n + 1) names) refl v e (λ other found. greatest_at (n + 1) names other found)
  where
    go : (m : Option ℕ) → greatest_from (n + 1) names ≡ m → (u : Option Val) → greatest_of m n u ≡ Some name → ((other : ℕ) → greatest_from (n + 1) names
        ≡ Some other → (k : ℕ) × (other ≡ n + 1 + k) × (bound_names (slice_set names k None) < bound_names names)) → (k : ℕ) × (name ≡ n + k)
        × (bound_names (slice_set (u ∷ names) k None) < bound_names (u ∷ names))
    go (Some other) found u is later =
        let rest = later other found in
        let same : other ≡ name = cc in (suc rest.0, omega (arith, same, rest.1), omega (arith, rest.2))
    go None found (Some u) is later = let same : n ≡ name = cc in (zero, omega (arith, same), omega arith)
    go None found None is later = absurd (let no : None ≡ Some name = is in cc)

fewer_bound : (names : List (Option Val)) (name : ℕ) → greatest_from 0 names ≡ Some name → bound_names (slice_set names name None) < bound_names names
fewer_bound names name e =
    let at = greatest_at 0 names name e in
    let same : at.0 ≡ name = omega (arith, at.1) in
    subst (λ k. bound_names (slice_set names k None) < bound_names names) same at.2

gives_name : (script : Script) (name : ℕ) (below : List Activity) (v : World) → greatest_bound (on (ShuttingDown false) below v) ≡ Some name
    → Sound (on (ShuttingDown false) below v) → (let w : World = on (ShuttingDown false) below v
    in Moves script w (push (Releasing (given_up_by w name)) (bound w name None)))
gives_name script name below v e sound =
    let fewer = fewer_bound v.names name e in record {
      sound = record { rises = sound.rises; bottom = sound.bottom; single = omega (arith, sound.single) };
      lower = by_commands (omega (arith, fewer)) (omega (arith, fewer)) (omega arith) (omega arith) (omega (arith, name_one (on (ShuttingDown false) below v) name));
    }

collects_at_end : (script : Script) (below : List Activity) (v : World) → Sound (on (ShuttingDown false) below v)
    → (let w : World = on (ShuttingDown false) below v in Moves script w (push (new_collection 2 false w) (on (ShuttingDown true) below v)))
collects_at_end script below v sound =
    let none : tally collections_in below ≡ 0 = ap (tally collections_in) sound.bottom in record {
      sound = record { rises = sound.rises; bottom = sound.bottom; single = omega (arith, none) };
      lower = by_commands (omega arith) (omega arith) (omega arith) (omega arith) (omega arith);
    }

steps_move : (script : Script) → Steps script (λ w. Sound w × (w.outcome ≡ Running)) (λ w events after. Moves script w after)
steps_move script = record {
  starts_due = λ a below v ha g e k. due_moves script (on a below v) g e k.0;
  ends = λ a lines below v last k. record {
    sound = record { rises = k.0.rises; bottom = k.0.bottom; single = k.0.single };
    lower = by_commands (omega (arith, ap alive k.1)) (omega arith) (omega arith) (omega arith) (omega arith);
  };
  shuts_down = λ below v k. record {
    sound = record { rises = k.0.rises; bottom = k.0.bottom; single = k.0.single };
    lower = by_commands (omega arith)
        (omega arith) (omega arith) (omega arith) (omega arith);
  };
  gives_up = λ name below v e k. gives_name script name below v e k.0;
  collects_last = λ below v k. collects_at_end script below v k.0;
  commands = λ command a b below v takes hb k. taken_moves script command a b below v takes hb k.0 k.1;
  frame_ends = λ f below v left k. frame_end_moves script f below v k.0;
  releases = λ references below v k. released_moves script references below v k.0;
  dies = λ d below v k. dying_moves script d.object below v d.phase k.0 k.1;
  collects = λ c below v events after step k. phase_moves script c below v c.phase events after step k.0 k.1;
}

pub step_moves : (script : Script) (w : World) (events : List Event) (after : World) → Step script w events after → Sound w → Moves script w after
step_moves script w events after step sound = any_step script (λ u. Sound u × (u.outcome ≡ Running)) (λ u events after. Moves script u after)
    (steps_move script) w events after step (sound, step.running)
