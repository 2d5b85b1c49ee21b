-- Releases, deaths and collections print no value and keep the texts of names and entries known: they remove entries,
-- and append references to the garbage list.
use Rattle.std.proofs.Common.{sym, subst, ℕ, not, List, [], ◌∷◌, length}
use Rattle.std.specs.Prelude.{◌==◌}
use Rattle.cg_value.specs.declared.Val.TheVariants.{Ref}
use Rattle.cg_script.specs.declared.Script.{Script}
use Rattle.cg_graph.specs.Member.{Includes}
use Rattle.cg_graph.specs.Object.{Object, with_entries}
use Rattle.cg_graph.proofs.Members.{either, Includes-filter_cases}
use Rattle.cg_machine.specs.declared.event.Event.{Event}
use Rattle.cg_machine.specs.declared.event.Event.TheVariants.{BudgetSpent, Enter, Value}
use Rattle.cg_machine.specs.declared.event.FrameSpec.{FrameSpec}
use Rattle.cg_machine.specs.World.{World, Activity}
use Rattle.cg_machine.specs.Frame.{Transition, start_frame}
use Rattle.cg_machine.specs.Lines.{IsPrintable}
use Rattle.cg_laws.proofs.PrintableTexts.{HaveTexts, ObjectsHaveTexts, WorldHasTexts, entries_item, entries_texts, changed_texts}
use Rattle.cg_laws.proofs.Advances.{Advance, Plainly, WithFrame, HasChanged, NothingChanges, ChangesEach, asides, LosesEntries, GetsEntry, LosesObject, Followed, IsLineOf, AreLinesOf, Shows, Frees}
use Rattle.cg_laws.proofs.Starting.{starts_either}

module _ (texts : List (List ℕ)) where
  abbrev pub ArePrintable : List Event → Type 0
  ArePrintable events = (event : Event) → Includes events event → IsPrintable texts event

  -- what a step prints can be printed, and the texts of the world after it are known
  pub record Prints (events : List Event) (after : World) : Type 0 where
    pub lines : ArePrintable events
    pub known : WorldHasTexts (length texts) after

  pub silent : (after : World) → WorldHasTexts (length texts) after → Prints [] after
  silent after h = record { lines = λ event m. absurd m; known = h }

  pub says : (event : Event) (after : World) → IsPrintable texts event → WorldHasTexts (length texts) after → Prints (event ∷ []) after
  says event after p h = record { lines = λ other m. either m (λ e. subst (IsPrintable texts) e p) (λ none. absurd none); known = h }

  pub starts_prints : (script : Script) (spec : FrameSpec) (u : World) → WorldHasTexts (length texts) u → (let t : Transition = start_frame script spec u in Prints t.0 t.1)
  starts_prints script spec u h = starts_either Prints script spec u (says BudgetSpent _ tt h) (λ some. says (Enter spec.sort spec.subject) _ tt h)

  -- a line without a value
  no_value : (after : List Object) (top : Activity) (event : Event) → IsLineOf after top event → IsPrintable texts event
  no_value after top (Value v) h = absurd h
  no_value after top event h = tt

  printable : (before after : List Object) (top : Activity) (lines : List Event) → AreLinesOf before after top lines → (event : Event) → Includes lines event → IsPrintable texts event
  printable before after top lines (Shows ls h) event m = no_value after top event (h event m).0
  printable before after top lines (Frees o dies gone) event m = either m (λ e. subst (IsPrintable texts) e tt) (λ none. absurd none)

  objects_texts : (top : Activity) (tops : List Activity) (lines : List Event) (before after : List Object) → HasChanged top tops lines before after
      → ObjectsHaveTexts (length texts) before → ObjectsHaveTexts (length texts) after
  objects_texts top tops lines before after (NothingChanges objects) h = h
  objects_texts top tops lines before after (ChangesEach f test objects aside) h = λ y m. let x = asides top tops lines f test objects aside y m
      in subst (HaveTexts (length texts)) (sym x.2.entries) (h x.0 x.1)
  objects_texts top tops lines before after (LosesEntries es s objects owns fewer) h = changed_texts (length texts) (with_entries es)
      (λ x k e m. entries_texts (length texts) objects s h e (fewer e m)) s objects h
  objects_texts top tops lines before after (GetsEntry o objects is) h = changed_texts (length texts) _ (λ x k. entries_item (length texts) x.entries (Ref o) k tt) 1 objects h
  objects_texts top tops lines before after (LosesObject o objects owns line) h = λ x m. h x (Includes-filter_cases (λ y. not (y.serial == o)) objects x m).0
  objects_texts top tops lines before after (Followed first now last c d) h = objects_texts top tops lines now last d (objects_texts top tops lines first now c h)

  pub advance_prints : (script : Script) (top : Activity) (below : List Activity) (v : World) (lines : List Event) (after : World) → Advance script v top below
      lines after → WorldHasTexts (length texts) v → Prints lines after
  advance_prints script top below v lines after (Plainly tops objects numbers ls t c n none) h = record {
    lines = printable v.objects objects top ls none;
    known = record { names = h.names; objects = objects_texts top tops ls v.objects objects c h.objects };
  }
  advance_prints script top below v lines after (WithFrame spec a objects s c held m) h = starts_prints script spec
      (record v { objects = objects; stack = a ∷ below }) (record { names = h.names; objects = objects_texts top [] [] v.objects objects m h.objects })
