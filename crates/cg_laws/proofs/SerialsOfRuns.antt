-- Every world of a run has given few serials: a command makes at most one object and runs once.
use Rattle.std.proofs.Common.{◌≡◌, sym, ap, subst, ℕ, ◌+◌, ◌*◌, ◌≤◌, List, ◌∷◌, length, Some, arith}
use Rattle.cg_script.specs.declared.Script.{Script}
use Rattle.cg_script.specs.declared.Command.{Command}
use Rattle.cg_machine.specs.declared.event.FrameSort.TheVariants.{Call as CallFrame}
use Rattle.cg_machine.specs.World.{World, Activity, TopLevel, Framed, Releasing, Dying, Collecting, ShuttingDown}
use Rattle.cg_machine.specs.Program.{body_of, commands_of}
use Rattle.cg_machine.specs.Frame.{procedure_of}
use Rattle.cg_laws.specs.Made.{SerialsAreFew}
use Rattle.cg_laws.proofs.ShapeLaws.{changes_leave}
use Rattle.cg_laws.proofs.Invariants.{HasCommands, Takes, FromTop, FromFrame, emptied, on, CommandSteps, Steps, by_runs}
use Rattle.cg_laws.proofs.Advancing.{frame_end_advances, released_advances, dying_advances, phase_advances}
use Rattle.cg_laws.proofs.SerialsOfSteps.{Few, IsFew, starts_makes, advance_makes}

-- A command is taken, which may make an object.
taken : (most b serial budget : ℕ) (command : Command) (a c : Activity) (below : List Activity) → Takes command a c → Few most b serial budget (a ∷ below) → Few most b (serial + 1) budget (c ∷ below)
taken most b serial budget command a c below (FromTop commands) h = record { within = omega (arith, h.within) }
taken most b serial budget command a c below (FromFrame f commands left) h = let one : length f.commands ≡ length (command ∷ commands) = ap length left
    in record { within = omega (arith, h.within, one) }

stopped : (most b serial budget : ℕ) (a : Activity) (below : List Activity) → HasCommands a → Few most b (serial + 1) budget (a ∷ below) → Few most b serial budget (emptied a ∷ below)
stopped most b serial budget (TopLevel commands) below ha h = record { within = omega (arith, h.within) }
stopped most b serial budget (Framed f) below ha h = record { within = omega (arith, h.within) }
stopped most b serial budget (ShuttingDown started) below ha h = record { within = omega (arith, h.within) }
stopped most b serial budget a below ha h = absurd ha

gives_up : (most b serial budget next left : ℕ) (a : Activity) (below : List Activity) (given_up : List ℕ) (stack : List Activity) → next ≤ serial + 1 → stack
    ≡ a ∷ below → left ≡ budget → Few most b (serial + 1) budget (a ∷ below) → Few most b next left (Releasing given_up ∷ stack)
gives_up most b serial budget next left a below given_up stack s e k h = subst (λ st. Few most b next left (Releasing given_up ∷ st)) (sym e)
    (subst (λ n. Few most b next n (Releasing given_up ∷ a ∷ below)) (sym k) (record { within = omega (arith, h.within, s) }))

module _ (most b : ℕ) (script : Script) (short : (p : ℕ) → length (body_of script p) ≤ most) where
  command_makes : (w : World) (command : Command) (a : Activity) (below : List Activity) (v : World) → HasCommands a → Few most b (v.next_serial + 1) v.budget
      (a ∷ below) → CommandSteps script (λ w events. IsFew most b) w command (on a below v) a below
  command_makes w command a below v ha h = record {
    stays = λ lines answers. record { within = omega (arith, h.within) };
    stops = λ lines answers. stopped most b v.next_serial v.budget a below ha h;
    changes = λ wants_memory lines given_up after shape.
        let l = changes_leave (on a below v) command wants_memory lines given_up after shape in
        gives_up most b v.next_serial v.budget after.next_serial after.budget a below given_up after.stack l.serial l.stack l.budget h;
    calls = λ f k. starts_makes most b script (record {
      sort = CallFrame;
      proc = procedure_of (on a below v) f.serial;
      subject = f.serial;
      func = Some f.serial;
    }) (on a below v) (short (procedure_of (on a below v) f.serial)) (record { within = omega (arith, h.within) });
    asks = λ g low e. record { within = omega (arith, h.within) };
  }

  keeps_few : Steps script (λ w. Unit {0} × IsFew most b w) (λ w events. IsFew most b)
  keeps_few = record {
    starts_due = λ a below v ha g e k. record { within = omega (arith, k.1.within) };
    ends = λ a lines below v last k. k.1;
    shuts_down = λ below v k. record { within = omega (arith, k.1.within) };
    gives_up = λ name below v e k. record { within = omega (arith, k.1.within) };
    collects_last = λ below v k. record { within = omega (arith, k.1.within) };
    commands = λ command a c below v takes hc k. command_makes (on a below v) command c below v hc (taken most b v.next_serial v.budget command a c below takes k.1);
    frame_ends = λ f below v left k. advance_makes most b script (Framed f) below v short _ _ (frame_end_advances script f below v) k.1;
    releases = λ references below v k. advance_makes most b script (Releasing references) below v short _ _ (released_advances script references below v) k.1;
    dies = λ d below v k. advance_makes most b script (Dying d) below v short _ _ (dying_advances script d.object below v d.phase) k.1;
    collects = λ c below v events after step k. advance_makes most b script (Collecting c) below v short events after (phase_advances script c below v c.phase events after step) k.1;
  }

pub few_serials : SerialsAreFew
few_serials script budget steps run most short =
    let b : ℕ = 2 + length (commands_of script.items) + budget * most in
    let h = by_runs script budget (λ w. Unit {0}) (IsFew most b) (record { opens = record { within = omega arith }; keeps = keeps_few most b script short }) (λ steps run. tt) steps run in
    omega (arith, h.within)
