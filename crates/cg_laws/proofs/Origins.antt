-- Releases, deaths and collections keep the origins of a world: they make no object, and a frame gets the body of a
-- procedure.
use Rattle.std.proofs.Common.{◌≡◌, refl, ◌∙◌, sym, ap, subst, ℕ, zero, suc, List, [], ◌∷◌, ◌++◌}
use Rattle.std.specs.Prelude.{flat_map, option_map, slice_get, unwrap_or}
use Rattle.cg_script.specs.declared.Script.{Script}
use Rattle.cg_script.specs.declared.Proc.{Proc}
use Rattle.cg_script.specs.declared.Command.{Command}
use Rattle.cg_graph.specs.Member.{Includes}
use Rattle.cg_graph.specs.Object.{Object}
use Rattle.cg_graph.proofs.Members.{either, Includes-append_left, Includes-append_right, Includes-append_cases}
use Rattle.cg_machine.specs.declared.event.Event.{Event}
use Rattle.cg_machine.specs.declared.event.FrameSpec.{FrameSpec}
use Rattle.cg_machine.specs.Program.{body_of, commands_of, procedures}
use Rattle.cg_machine.specs.World.{World, Activity}
use Rattle.cg_machine.specs.Frame.{start_frame}
use Rattle.cg_laws.specs.Origins.{all_commands, commands_on, IsOfScript}
use Rattle.cg_laws.proofs.Unreferred.{IsLater}
use Rattle.cg_laws.proofs.Advances.{Advance, Plainly, WithFrame, HasChanged, changed_origin, continues_idle, Tops, TopGoesOn, GivesReferences}
use Rattle.cg_laws.proofs.Starting.{starts_either}
use Rattle.cg_laws.proofs.Invariants.{on}

-- remaining commands and objects come from the script
pub record AreOfScript (script : Script) (present : List Object) (stack : List Activity) : Type 0 where
  pub commands : (command : Command) → Includes (flat_map commands_on stack) command → Includes (all_commands script) command
  pub objects : (x : Object) → Includes present x → IsOfScript script x

abbrev pub IsAllOfScript : Script → World → Type 0
IsAllOfScript script w = AreOfScript script w.objects w.stack

pub later_of_script : (script : Script) (x y : Object) → IsLater x y → IsOfScript script x → IsOfScript script y
later_of_script script x y later h = record {
  class = λ e. let k = h.class (sym later.code ∙ e) in (k.0, later.class ∙ k.1, k.2);
  procedure = λ e. let k = h.procedure (sym later.code ∙ e) in (k.0, later.class ∙ k.1, k.2);
}

-- the body of a procedure comes from the script
body_in : (procs : List Proc) (p : ℕ) (command : Command) → Includes (unwrap_or (option_map (λ x. x.body) (slice_get procs p)) []) command → Includes (flat_map (λ x. x.body) procs) command
body_in [] p command m = absurd m
body_in (x ∷ procs) zero command m = Includes-append_left x.body (flat_map (λ x. x.body) procs) command m
body_in (x ∷ procs) (suc p) command m = Includes-append_right x.body (flat_map (λ x. x.body) procs) command (body_in procs p command m)

pub starts_origin : (script : Script) (spec : FrameSpec) (u : World) → IsAllOfScript script u → IsAllOfScript script (start_frame script spec u).1
starts_origin script spec u h = starts_either (λ lines. IsAllOfScript script) script spec u (record { commands = h.commands; objects = h.objects }) (λ some. record {
  commands = λ command m. either (Includes-append_cases (body_of script spec.proc) (flat_map commands_on u.stack) command m)
      (λ k. Includes-append_right (commands_of script.items) (flat_map (λ p. p.body) (procedures script.items)) command (body_in (procedures script.items) spec.proc command k)) (h.commands command);
  objects = h.objects;
})

-- an activity without commands ends or goes on top
pub popped_origin : (script : Script) (objects : List Object) (a : Activity) (below : List Activity) → AreOfScript script objects (a ∷ below) → AreOfScript script objects below
popped_origin script objects a below h = record { commands = λ command m. h.commands command (Includes-append_right (commands_on a) (flat_map commands_on below) command m); objects = h.objects }

-- what replaces the top activity has no commands
tops_idle : (before after : List Object) (top : Activity) (tops below : List Activity) → Tops before after top tops → flat_map commands_on (tops ++ below) ≡ flat_map commands_on below
tops_idle before after top tops below (TopGoesOn a b c held) = ap (λ cs. cs ++ flat_map commands_on below) (continues_idle before after a b c)
tops_idle before after top tops below (GivesReferences a b references few c held) = ap (λ cs. cs ++ flat_map commands_on below) (continues_idle before after a b c)
tops_idle before after top tops below other = refl

changes_origin : (script : Script) (before after : List Object) (top : Activity) (tops below now : List Activity) (lines : List Event)
    → Tops before after top tops → HasChanged top now lines before after → AreOfScript script before (top ∷ below) → AreOfScript script after (tops ++ below)
changes_origin script before after top tops below now lines t c h = record {
  commands = λ command m. (popped_origin script before top below h).commands command (subst (λ cs. Includes cs command) (tops_idle before after top tops below t) m);
  objects = λ y m. let x = changed_origin top now lines before after c y m in later_of_script script x.0 y x.2 (h.objects x.0 x.1);
}

pub advance_origin : (script : Script) (top : Activity) (below : List Activity) (v : World) (lines : List Event) (after : World) → Advance script v top below
    lines after → IsAllOfScript script (on top below v) → IsAllOfScript script after
advance_origin script top below v lines after (Plainly tops objects numbers ls t c n none) h = changes_origin script v.objects objects top tops below tops ls t c h
advance_origin script top below v lines after (WithFrame spec a objects s c held m) h = starts_origin script spec
    (record v { objects = objects; stack = a ∷ below }) (changes_origin script v.objects objects top (a ∷ []) below [] [] (TopGoesOn top a c held) m h)
