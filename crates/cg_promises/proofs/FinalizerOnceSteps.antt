-- What a step of an activity without commands prints of objects.
use Rattle.std.proofs.Common.{◌≡◌, refl, sym, subst, ℕ, Bool, true, false, inl, inr, ◌⊎◌, List, [], ◌∷◌, ◌++◌, Option, Some, None, arith}
use Rattle.std.specs.Prelude.{if◌then◌else◌}
use Rattle.cg_script.specs.declared.Script.{Script}
use Rattle.cg_graph.specs.Member.{Includes}
use Rattle.cg_graph.specs.Object.{Object, serials}
use Rattle.cg_graph.proofs.Members.{either, Includes-map}
use Rattle.cg_machine.specs.declared.event.Event.{Event}
use Rattle.cg_machine.specs.declared.event.Event.TheVariants.{Enter, Free}
use Rattle.cg_machine.specs.declared.event.FrameSpec.{FrameSpec}
use Rattle.cg_machine.specs.Dying.{finalizer_to_run}
use Rattle.cg_machine.specs.Holdings.{holds}
use Rattle.cg_machine.specs.Program.{legacy_of}
use Rattle.cg_machine.specs.World.{World, Activity}
use Rattle.cg_laws.proofs.Advances.{Advance, Plainly, WithFrame, AreLinesOf, Shows, Frees, FrameOf, OfFinalizer, OfLegacy, OfCallback, HasChanged, IsDeathOf, IsLineOf, changed_becomes, changed_lasts}
use Rattle.cg_laws.proofs.HeldLives.{waits_are_held}
use Rattle.cg_promises.proofs.FinalizerOnce.{AreTold, Enters, KeepsFinalizers, IsPlain, Origin, starts_told}
use Rattle.cg_laws.proofs.LinesNameLive.{found_with, to_run}

plain_line : (after : List Object) (top : Activity) (event : Event) → IsLineOf after top event → IsPlain event
plain_line after top (Enter sort n) h = h
plain_line after top (Free n) h = h
plain_line after top event h = tt

module _ (script : Script) (v : World) (top : Activity) (lives : (n : ℕ) → IsDeathOf top n → Includes (serials v.objects) n) (held : (n : ℕ)
    → Includes (holds top) n → Includes (serials v.objects) n) where
  origin : (tops : List Activity) (lines : List Event) (objects : List Object) → HasChanged top tops lines v.objects objects → Origin v.objects objects
  origin tops lines objects c y m =
      let x = changed_becomes top tops lines v.objects objects c y m in
      (x.0, x.1, record { serial = x.2.later.serial; code = x.2.later.code; class = x.2.later.class; finalized = x.2.finalized })

  lines_told : (objects : List Object) (lines : List Event) → AreLinesOf v.objects objects top lines → AreTold v.objects v.next_serial objects lines
  lines_told objects lines (Shows ls h) = inl (λ event m. let k = h event m in (plain_line objects top event k.0, λ n i. inl (either (k.1 n i) (λ live. live) (lives n))))
  lines_told objects lines (Frees o dies gone) = inr (Free o, refl, (lives o dies, gone))

  frame_told : (objects : List Object) (a : Activity) (spec : FrameSpec) → FrameOf script v.objects objects top a spec → Enters spec.sort v.objects objects spec.subject
  frame_told objects a spec (OfFinalizer o p e marked) = let x = found_with (finalizer_to_run script) v.objects o p e in record {
    object = x.0;
    member = x.1;
    serial = x.2;
    unmarked = (to_run script x.0 p x.3).0;
    marked = marked;
  }
  frame_told objects a spec (OfLegacy o p e) = let x = found_with (legacy_of script) v.objects o p e in subst (Includes (serials v.objects)) x.2
      (Includes-map (λ (z : Object). z.serial) v.objects x.0 x.1)
  frame_told objects a spec (OfCallback weak p waits goes) = held weak (waits_are_held top weak waits)

  pub advance_told : (below : List Activity) (lines : List Event) (after : World) → Advance script v top below lines after → KeepsFinalizers v.objects v.next_serial lines after
  advance_told below lines after (Plainly tops objects numbers ls t c n shown) = record {
    follows = λ y m. inl (origin tops ls objects c y m);
    serial = omega arith;
    told = lines_told objects ls shown;
    lasts = changed_lasts top tops ls v.objects objects c;
  }
  advance_told below lines after (WithFrame spec a objects s g k c) = starts_told v.objects v.next_serial script spec (record v { objects = objects; stack = a ∷ below })
      (record { origin = origin [] [] objects c; lasts = λ n m. either (changed_lasts top [] [] v.objects objects c n m) (λ i. i) (λ none. absurd none) }) (omega arith) (frame_told objects a spec s)
