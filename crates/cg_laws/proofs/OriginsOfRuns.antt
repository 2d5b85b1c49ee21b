-- Every step of a run keeps the origins of a world: a command that makes an object names its class or procedure.
use Rattle.std.proofs.Common.{◌≡◌, refl, sym, subst, ℕ, inl, inr, List, [], ◌∷◌, ◌++◌, Some, ◌∙◌, Option}
use Rattle.std.specs.Prelude.{flat_map}
use Rattle.cg_value.specs.declared.KindCode.{KindCode}
use Rattle.cg_value.specs.declared.KindCode.TheVariants.{List as ListKind, Tuple, Dict, Inst, Func, Weak}
use Rattle.cg_script.specs.declared.Script.{Script}
use Rattle.cg_script.specs.declared.Command.{Command}
use Rattle.cg_graph.specs.Member.{Includes}
use Rattle.cg_graph.specs.Object.{Object}
use Rattle.cg_graph.proofs.Members.{either, Includes-append_left, Includes-append_cases}
use Rattle.cg_machine.specs.declared.event.Event.{Event}
use Rattle.cg_machine.specs.declared.event.FrameSort.TheVariants.{Call as CallFrame}
use Rattle.cg_machine.specs.Program.{commands_of, procedures}
use Rattle.cg_machine.specs.World.{World, Activity, TopLevel, Framed, Releasing, Dying, Collecting, opening, ShuttingDown}
use Rattle.cg_machine.specs.Frame.{procedure_of}
use Rattle.cg_machine.specs.Effects.{Changes}
use Rattle.cg_machine.specs.Run.{Step}
use Rattle.cg_laws.specs.Origins.{all_commands, commands_on, IsOfScript, WorldsHaveOrigins}
use Rattle.cg_represents.proofs.Shapes.{IsMadeBy, ByList, ByTuple, ByDict, ByInst, ByFunc, ByRef}
use Rattle.cg_laws.proofs.ShapeLaws.{changes_leave, shape_comes}
use Rattle.cg_laws.proofs.Invariants.{HasCommands, Takes, FromTop, FromFrame, emptied, on, CommandSteps, Steps, any_step, by_runs}
use Rattle.cg_laws.proofs.Advancing.{frame_end_advances, released_advances, dying_advances, phase_advances}
use Rattle.cg_laws.proofs.Origins.{AreOfScript, IsAllOfScript, later_of_script, starts_origin, popped_origin, advance_origin}

module _ (script : Script) where
  made_of_script : (command : Command) → Includes (all_commands script) command → (y : Object) (code : KindCode) (class : Option ℕ) → y.code ≡ code → y.class
      ≡ class → IsMadeBy command code class → IsOfScript script y
  made_of_script command m y code class c k (ByInst name number) = record { class = λ e. (number, k, (name, m)); procedure = λ e. absurd (let no : Inst ≡ Func = sym c ∙ e in cc) }
  made_of_script command m y code class c k (ByFunc name proc cells) = record { class = λ e. absurd (let no : Func ≡ Inst = sym c ∙ e in cc); procedure = λ e. (proc, k, (name, cells, m)) }
  made_of_script command m y code class c k (ByList name items) = record {
    class = λ e. absurd (let no : ListKind ≡ Inst = sym c ∙ e in cc);
    procedure = λ e. absurd (let no : ListKind ≡ Func = sym c ∙ e in cc);
  }
  made_of_script command m y code class c k (ByTuple name items) = record {
    class = λ e. absurd (let no : Tuple ≡ Inst = sym c ∙ e in cc);
    procedure = λ e. absurd (let no : Tuple ≡ Func = sym c ∙ e in cc);
  }
  made_of_script command m y code class c k (ByDict name) = record { class = λ e. absurd (let no : Dict ≡ Inst = sym c ∙ e in cc); procedure = λ e. absurd (let no : Dict ≡ Func = sym c ∙ e in cc) }
  made_of_script command m y code class c k (ByRef name target callback) = record {
    class = λ e. absurd (let no : Weak ≡ Inst = sym c ∙ e in cc);
    procedure = λ e. absurd (let no : Weak ≡ Func = sym c ∙ e in cc);
  }

  -- a taken command comes from the script
  taken : (command : Command) (a b : Activity) (below : List Activity) (objects : List Object) → Takes command a b → AreOfScript script objects (a ∷ below)
      → AreOfScript script objects (b ∷ below) × Includes (all_commands script) command
  taken command a b below objects (FromTop commands) h = (record { commands = λ c m. h.commands c (inr m); objects = h.objects }, h.commands command (inl refl))
  taken command a b below objects (FromFrame f commands left) h =
      let all : (c : Command) → Includes ((command ∷ commands) ++ flat_map commands_on below) c → Includes (all_commands script) c =
      λ c m. h.commands c (subst (λ (cs : List Command). Includes (cs ++ flat_map commands_on below) c) (sym left) m) in
      (record { commands = λ c m. all c (inr m); objects = h.objects }, all command (inl refl))

  stopped : (a : Activity) (below : List Activity) (objects : List Object) → HasCommands a → AreOfScript script objects (a ∷ below) → AreOfScript script objects (emptied a ∷ below)
  stopped (TopLevel commands) below objects ha h = let rest = popped_origin script objects (TopLevel commands) below h in record { commands = rest.commands; objects = rest.objects }
  stopped (Framed f) below objects ha h = let rest = popped_origin script objects (Framed f) below h in record { commands = rest.commands; objects = rest.objects }
  stopped (ShuttingDown started) below objects ha h = h
  stopped a below objects ha h = absurd ha

  command_origin : (w : World) (command : Command) (b : Activity) (below : List Activity) (v : World) → HasCommands b → AreOfScript script v.objects (b ∷ below)
      × Includes (all_commands script) command → CommandSteps script (λ w events. IsAllOfScript script) w command (on b below v) b below
  command_origin w command b below v hb k = record {
    stays = λ lines answers. k.0;
    stops = λ lines answers. stopped b below v.objects hb k.0;
    changes = λ wants_memory lines given_up after shape. record {
      commands = λ c m. k.0.commands c (subst (λ (st : List Activity). Includes (flat_map commands_on st) c) (changes_leave (on b below v) command wants_memory lines given_up after shape).stack m);
      objects = λ y m. either (shape_comes (on b below v) command (Changes wants_memory lines given_up after) shape y m) (λ x. later_of_script script x.0 y x.2
          (k.0.objects x.0 x.1)) (made_of_script command k.1 y y.code y.class refl refl);
    };
    calls = λ f h. starts_origin script (record { sort = CallFrame; proc = procedure_of (on b below v) f.serial; subject = f.serial; func = Some f.serial }) (on b below v) k.0;
    asks = λ g low e. record { commands = k.0.commands; objects = k.0.objects };
  }

  keeps_origin : Steps script (λ w. Unit {0} × IsAllOfScript script w) (λ w events. IsAllOfScript script)
  keeps_origin = record {
    starts_due = λ a below v ha g e k. record { commands = k.1.commands; objects = k.1.objects };
    ends = λ a lines below v last k. k.1;
    shuts_down = λ below v k. record { commands = k.1.commands; objects = k.1.objects };
    gives_up = λ name below v e k. record { commands = k.1.commands; objects = k.1.objects };
    collects_last = λ below v k. record { commands = k.1.commands; objects = k.1.objects };
    commands = λ command a b below v takes hb k. command_origin (on a below v) command b below v hb (taken command a b below v.objects takes k.1);
    frame_ends = λ f below v left k. advance_origin script (Framed f) below v _ _ (frame_end_advances script f below v) k.1;
    releases = λ references below v k. advance_origin script (Releasing references) below v _ _ (released_advances script references below v) k.1;
    dies = λ d below v k. advance_origin script (Dying d) below v _ _ (dying_advances script d.object below v d.phase) k.1;
    collects = λ c below v events after step k. advance_origin script (Collecting c) below v events after (phase_advances script c below v c.phase events after step) k.1;
  }

  pub step_origin : (w : World) (events : List Event) (after : World) → Step script w events after → IsAllOfScript script w → IsAllOfScript script after
  step_origin w events after step h = any_step script (λ u. Unit {0} × IsAllOfScript script u) (λ u events. IsAllOfScript script) keeps_origin w events after step (tt, h)

pub opening_origin : (script : Script) (budget : ℕ) → IsAllOfScript script (opening script budget)
opening_origin script budget = record {
  commands = λ command m. either (Includes-append_cases (commands_of script.items) [] command m) (λ k. Includes-append_left (commands_of script.items)
      (flat_map (λ p. p.body) (procedures script.items)) command k) (λ n. absurd n);
  objects = λ x m. either m (λ e. subst (IsOfScript script) e (record { class = λ k. absurd (cc); procedure = λ k. absurd (cc) })) (λ n. absurd n);
}

pub worlds_have_origins : WorldsHaveOrigins
worlds_have_origins script budget steps run =
    let h = by_runs script budget (λ w. Unit {0}) (IsAllOfScript script) (record { opens = opening_origin script budget; keeps = keeps_origin script }) (λ steps run. tt) steps run in
    record { commands = h.commands; objects = h.objects }
