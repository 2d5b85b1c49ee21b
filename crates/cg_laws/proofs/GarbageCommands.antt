-- No command adds an entry to the garbage list: it is no list of the script's, no dictionary and no instance.
use Rattle.std.proofs.Common.{◌≢◌, refl, sym, ◌∙◌, ap, ℕ, ◌<◌, true, false, List, arith}
use Rattle.std.specs.Prelude.{◌||◌}
use Rattle.cg_value.specs.declared.Entry.{Entry}
use Rattle.cg_value.specs.declared.KindCode.{KindCode}
use Rattle.cg_value.specs.declared.KindCode.TheVariants.{Dict, Inst}
use Rattle.cg_script.specs.declared.Command.{Command}
use Rattle.cg_graph.specs.Member.{Includes}
use Rattle.cg_graph.specs.Value.{put}
use Rattle.cg_graph.specs.Object.{Object, with_entries}
use Rattle.cg_machine.specs.World.{World, with_change}
use Rattle.cg_machine.specs.Weak.{is_instance}
use Rattle.cg_machine.specs.Effects.{Effect, Changes, tracked_by, frozen, unfrozen}
use Rattle.cg_machine.specs.Operands.{is_dict}
use Rattle.cg_laws.proofs.Lookups.{references_of_member}
use Rattle.cg_laws.proofs.HeldLivesDeaths.{false_true}
use Rattle.cg_represents.proofs.Shapes.{HasObject, IsEdit, Shape, Makes, Edits, Puts, Freezes, Unfreezes, StartsFrame, StartsCollection, Ends, AsksWhy}
use Rattle.cg_laws.proofs.CommandRefs.{all_free}
use Rattle.cg_graph.proofs.Members.{either}
use Rattle.cg_laws.proofs.ShapeLaws.{put_later}
use Rattle.cg_laws.proofs.GarbageKept.{HasGarbageList, KeepsList, same_list, list_kept, other_kept, places_kept, new_kept}

module _ (w : World) (garbage : HasGarbageList w.objects) (made : 1 < w.next_serial) where
  abbrev pub IsKept : Effect → Type 0
  IsKept (Changes wants_memory lines given_up after) = KeepsList w.objects after.objects
  IsKept effect = Unit {0}

  -- an object other than the garbage list
  other_object : (command : Command) (x : Object) → HasObject w command (λ y. is_dict y || is_instance y) x → x.serial ≢ 1
  other_object command x h e = false_true (sym (ap (λ (k : KindCode). (elim k [ Dict ↦ true | _ ↦ false ]) || (elim k [ Inst ↦ true | _ ↦ false ])) (garbage x h.member e).list) ∙ h.passes)

  -- an edit of the garbage list only removes entries
  edits_kept : (command : Command) (x : Object) (entries : List Entry) (given_up : List ℕ) → Includes w.objects x → IsEdit w command x entries given_up
      → KeepsList w.objects (with_change (with_entries entries) x.serial w).objects
  edits_kept command x entries given_up m edit = list_kept (with_entries entries) x.serial w.objects (λ y. refl) (λ y k s e. record {
    was = y;
    member = k;
    serial = e;
    code = refl;
    place = λ p. p;
    names = λ o free. all_free o entries (λ d i. either (edit.come d i) (λ was j. free x m (sym s ∙ e) (references_of_member x.entries d o was j)) (λ new. absurd (new.0 (sym s ∙ e))));
  })

  pub shape_kept : (command : Command) (e : Effect) → Shape w command e → IsKept e
  shape_kept command e (Makes name kind class entries referent own parts) = new_kept w.objects _ (λ i. omega (arith, made, i))
  shape_kept command e (Edits wants x entries given h mutable edit) = edits_kept command x entries given h.member edit
  shape_kept command e (Puts x key v h mutable hand_key hand room) = other_kept (λ y. tracked_by w key v (with_entries (put x.entries key v) y)) x.serial
      w.objects (λ y. (put_later w x key v y).serial) (other_object command x h)
  shape_kept command e (Freezes is) = places_kept frozen w.objects refl
  shape_kept command e (Unfreezes is) = places_kept unfrozen w.objects refl
  shape_kept command e (StartsFrame f h) = tt
  shape_kept command e (StartsCollection g low) = tt
  shape_kept command e Ends = tt
  shape_kept command e (AsksWhy x h calm) = tt
  shape_kept command e s = same_list w.objects
