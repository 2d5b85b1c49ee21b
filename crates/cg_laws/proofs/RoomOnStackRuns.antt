-- Every step of a run keeps within bounds, commands too: a command gives up at most one entry.
use Rattle.std.proofs.Common.{◌≡◌, sym, subst, ℕ, ◌≤◌, List, ◌∷◌, length, Some, arith, [], false}
use Rattle.cg_script.specs.declared.Script.{Script}
use Rattle.cg_script.specs.declared.Command.{Command}
use Rattle.cg_machine.specs.declared.event.FrameSort.TheVariants.{Call as CallFrame}
use Rattle.cg_machine.specs.World.{World, Activity, TopLevel, Framed, Releasing, Dying, Collecting, ShuttingDown}
use Rattle.cg_machine.specs.Frame.{procedure_of}
use Rattle.cg_machine.specs.Effects.{Changes}
use Rattle.cg_laws.specs.Bounds.{HasNoRelease}
use Rattle.cg_laws.proofs.ShapeLaws.{changes_leave, shape_gives_few}
use Rattle.cg_laws.proofs.Invariants.{HasCommands, Takes, FromTop, FromFrame, emptied, on, CommandSteps, Steps, InEachWorld, by_runs, del_shaped}
use Rattle.cg_laws.proofs.Advancing.{frame_end_advances, released_advances, dying_advances, phase_advances}
use Rattle.cg_laws.proofs.RoomOnStack.{Room, HasRoom, starts_room, advance_room}
use Rattle.cg_script.specs.declared.Command.TheVariants.{Del}

-- an activity with commands is not a release
no_release : (a : Activity) (below : List Activity) → HasCommands a → HasNoRelease (a ∷ below)
no_release (TopLevel commands) below h = tt
no_release (Framed f) below h = tt
no_release (ShuttingDown started) below h = tt
no_release a below h = absurd h

taken : (b budget : ℕ) (command : Command) (a c : Activity) (below : List Activity) → Takes command a c → Room b budget (a ∷ below) → Room b budget (c ∷ below)
taken b budget command a c below (FromTop commands) h = record { frames = omega (arith, h.frames); apart = h.apart }
taken b budget command a c below (FromFrame f commands left) h = record { frames = omega (arith, h.frames); apart = h.apart }

stopped : (b budget : ℕ) (a : Activity) (below : List Activity) → HasCommands a → Room b budget (a ∷ below) → Room b budget (emptied a ∷ below)
stopped b budget (TopLevel commands) below ha h = record { frames = omega (arith, h.frames); apart = h.apart }
stopped b budget (Framed f) below ha h = record { frames = omega (arith, h.frames); apart = h.apart }
stopped b budget (ShuttingDown started) below ha h = h
stopped b budget a below ha h = absurd ha

gives_up : (b budget : ℕ) (a : Activity) (below : List Activity) (given_up : List ℕ) (stack : List Activity) (left : ℕ) → HasCommands a → length given_up ≤ 2
    → stack ≡ a ∷ below → left ≡ budget → Room b budget (a ∷ below) → Room b left (Releasing given_up ∷ stack)
gives_up b budget a below given_up stack left ha few e k h = subst (λ st. Room b left (Releasing given_up ∷ st)) (sym e)
    (record { frames = omega (arith, h.frames, k); apart = (few, no_release a below ha, h.apart) })

module _ (b : ℕ) (script : Script) where
  command_room : (w : World) (command : Command) (a : Activity) (below : List Activity) (v : World) → HasCommands a → Room b v.budget (a ∷ below)
      → CommandSteps script (λ w events. HasRoom b) w command (on a below v) a below
  command_room w command a below v ha h = record {
    stays = λ lines answers. h;
    stops = λ lines answers. stopped b v.budget a below ha h;
    changes = λ wants_memory lines given_up after shape.
        let l = changes_leave (on a below v) command wants_memory lines given_up after shape in
        gives_up b v.budget a below given_up after.stack after.budget ha (shape_gives_few (on a below v) command (Changes wants_memory lines given_up after) shape) l.stack l.budget h;
    calls = λ f k. starts_room b script (record { sort = CallFrame; proc = procedure_of (on a below v) f.serial; subject = f.serial; func = Some f.serial }) (on a below v) (no_release a below ha) h;
    asks = λ g low e. record { frames = omega (arith, h.frames); apart = (no_release a below ha, h.apart) };
  }

  keeps_room : Steps script (λ w. Unit {0} × HasRoom b w) (λ w events. HasRoom b)
  keeps_room = record {
    starts_due = λ a below v ha g e k. record { frames = omega (arith, k.1.frames); apart = (no_release a below ha, k.1.apart) };
    ends = λ a lines below v last k. k.1;
    shuts_down = λ below v k. record { frames = omega (arith, k.1.frames); apart = k.1.apart };
    gives_up = λ name below v e k. (command_room (on (ShuttingDown false) below v) (Del name) (ShuttingDown false) below v tt k.1).changes false [] _ _
        (del_shaped (on (ShuttingDown false) below v) name);
    collects_last = λ below v k. record { frames = omega (arith, k.1.frames); apart = (tt, k.1.apart) };
    commands = λ command a c below v takes hc k. command_room (on a below v) command c below v hc (taken b v.budget command a c below takes k.1);
    frame_ends = λ f below v left k. advance_room b script (Framed f) below v _ _ (frame_end_advances script f below v) k.1;
    releases = λ references below v k. advance_room b script (Releasing references) below v _ _ (released_advances script references below v) k.1;
    dies = λ d below v k. advance_room b script (Dying d) below v _ _ (dying_advances script d.object below v d.phase) k.1;
    collects = λ c below v events after step k. advance_room b script (Collecting c) below v events after (phase_advances script c below v c.phase events after step) k.1;
  }

pub runs_have_room : (script : Script) (budget : ℕ) → InEachWorld script budget (HasRoom budget)
runs_have_room script budget = by_runs script budget (λ w. Unit {0}) (HasRoom budget) (record {
  opens = record { frames = omega arith; apart = (tt, tt) };
  keeps = keeps_room budget script;
}) (λ steps run. tt)
