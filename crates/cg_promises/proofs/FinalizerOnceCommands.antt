-- What a command prints of objects: the new one, and those that its operands refer to.
use Rattle.std.proofs.Common.{◌≡◌, refl, sym, subst, ℕ, Bool, true, false, inl, inr, List, [], ◌∷◌, ◌++◌, Option, Some, arith}
use Rattle.std.specs.Prelude.{not, ◌&&◌, ◌||◌, if◌then◌else◌, option_to_list}
use Rattle.cg_value.specs.declared.Val.{Val}
use Rattle.cg_value.specs.declared.Val.TheVariants.{Ref}
use Rattle.cg_value.specs.declared.Entry.{Entry}
use Rattle.cg_value.specs.declared.Place.{Place}
use Rattle.cg_value.specs.declared.Place.TheVariants.{Gen}
use Rattle.cg_value.specs.declared.KindCode.{KindCode}
use Rattle.cg_script.specs.declared.Script.{Script}
use Rattle.cg_script.specs.declared.Command.{Command}
use Rattle.cg_graph.specs.Member.{Includes}
use Rattle.cg_graph.specs.Value.{put, reference_in}
use Rattle.cg_graph.specs.Object.{Object, first_place, is_tracked, serials, with_entries, with_place}
use Rattle.cg_graph.proofs.Members.{either, Includes-append_left, Includes-append_cases, Includes-map, Includes-map_cases}
use Rattle.cg_machine.specs.declared.event.Event.{Event}
use Rattle.cg_machine.specs.declared.event.Event.TheVariants.{Made, Value, RefCount, Tracked as TrackedLine, Finalized as FinalizedLine, Count as CountLine, Gens as GensLine, Referent, Referrer, Held, Via, Listed, Unreachable}
use Rattle.cg_machine.specs.World.{World, Numbers, with_change}
use Rattle.cg_machine.specs.Operands.{is_dict}
use Rattle.cg_machine.specs.Effects.{Effect, Changes, Calls, bound, frozen, may_track, replaced, tracked_by, unfrozen, with_new}
use Rattle.cg_represents.proofs.Serials.{Rises}
use Rattle.cg_laws.proofs.CommandRefs.{IsKnown, option_free}
use Rattle.cg_laws.proofs.UnheldCommands.{hand_known}
use Rattle.cg_represents.proofs.Shapes.{Shape, Makes, Edits, Puts, Shows, Tells, Freezes, Unfreezes, StartsFrame, StartsCollection, Ends, Inspects, AsksWhy, TellsNumbers}
use Rattle.cg_laws.proofs.Unreferred.{Forgotten}
use Rattle.cg_laws.proofs.Unheld.{AreOver}
use Rattle.cg_promises.proofs.FinalizerOnce.{Marks, Old, IsTold, KeepsFinalizers, same_old, map_old, change_old, place_marks, one_told, tells, quiet}
use Rattle.cg_represents.proofs.Lists.{absent}
use Rattle.cg_laws.proofs.Releasing.{unheld_degree}
use Rattle.cg_laws.proofs.HeldLivesRuns.{lives_or_not}
use Rattle.cg_machine.specs.Holdings.{holdings}
use Rattle.cg_represents.proofs.Inspecting.{IsThere as HeldOrThere, TellsThere}

abbrev pub DoesTell : World → Effect → Type 0
DoesTell w (Changes wants_memory lines given_up after) = KeepsFinalizers w.objects w.next_serial lines after
DoesTell w (Calls f) = Includes (serials w.objects) f
DoesTell w effect = Unit {0}

module _ (w : World) where
  -- the objects stay, or change
  silent : (after : World) → Old w.objects after.objects → w.next_serial ≡ after.next_serial → KeepsFinalizers w.objects w.next_serial [] after
  silent after old e = quiet w.objects w.next_serial after old (omega (arith, e))

  same : (names : List (Option Val)) (numbers : Numbers) → KeepsFinalizers w.objects w.next_serial [] (record w { names = names; numbers = numbers })
  same names numbers = silent (record w { names = names; numbers = numbers }) (same_old w.objects) refl

  sets : (o : ℕ) (entries : List Entry) → KeepsFinalizers w.objects w.next_serial [] (with_change (with_entries entries) o w)
  sets o entries = silent (with_change (with_entries entries) o w) (change_old (with_entries entries) (λ x. record { serial = refl; code = refl; class = refl; finalized = λ e. e }) o w.objects) refl

  places : (f : Place → Place) (numbers : Numbers) → KeepsFinalizers w.objects w.next_serial [] (record w { objects = replaced f w; numbers = numbers })
  places f numbers = silent (record w { objects = replaced f w; numbers = numbers }) (map_old (λ x. with_place (f x.place) x) (λ x. place_marks (f x.place) x) w.objects) refl

  put_tells : (x : Object) (key v : Val) → KeepsFinalizers w.objects w.next_serial [] (with_change (λ y. tracked_by w key v (with_entries (put x.entries key v) y)) x.serial w)
  put_tells x key v = silent (with_change put_in x.serial w) (change_old put_in put_marks x.serial w.objects) refl
    where
      put_in : Object → Object
      put_in y = tracked_by w key v (with_entries (put x.entries key v) y)

      tracked_marks : (b : Bool) (y : Object) → Marks y (if b then with_place (Gen 0) y else y)
      tracked_marks true y = record { serial = refl; code = refl; class = refl; finalized = λ e. e }
      tracked_marks false y = record { serial = refl; code = refl; class = refl; finalized = λ e. e }

      put_marks : (y : Object) → Marks y (put_in y)
      put_marks y = let m = tracked_marks (is_dict y && not (is_tracked y) && (may_track w key || may_track w v)) (with_entries (put x.entries key v) y)
          in record { serial = m.serial; code = m.code; class = m.class; finalized = m.finalized }

  made_tells : (name : ℕ) (kind : KindCode) (class : Option ℕ) (entries : List Entry) (referent : Option ℕ) → KeepsFinalizers w.objects w.next_serial
      (Made kind w.next_serial ∷ []) (bound (with_new w kind class entries referent) name (Some (Ref w.next_serial)))
  made_tells name kind class entries referent = record {
    follows = λ y m. either (Includes-append_cases w.objects (fresh ∷ []) y m) (λ k. inl ((same_old w.objects).origin y k))
        (λ k. either k (λ e. inr (subst (λ (z : Object). z.serial ≡ w.next_serial) e refl)) (λ n. absurd n));
    serial = omega arith;
    told = inl (one_told w.objects w.next_serial (Made kind w.next_serial) (tt, λ n m. either m (λ e. inr (sym e)) (λ k. absurd k)));
    lasts = λ n m. let x = Includes-map_cases (λ (z : Object). z.serial) w.objects n m in inl (subst (Includes (serials (w.objects ++ fresh ∷ []))) x.2
        (Includes-map (λ (z : Object). z.serial) (w.objects ++ fresh ∷ []) x.0 (Includes-append_left w.objects (fresh ∷ []) x.0 x.1)));
  }
    where
      fresh : Object
      fresh = record { serial = w.next_serial; code = kind; class = class; entries = entries; place = first_place kind; finalized = false; referent = referent }

  prints_told : (line : Event) → IsTold w.objects w.next_serial line → KeepsFinalizers w.objects w.next_serial (line ∷ []) w
  prints_told line told = tells w.objects w.next_serial (line ∷ []) w (one_told w.objects w.next_serial line told) (same_old w.objects) (omega arith)

  no_serials : (line : Event) → TellsNumbers line → IsTold w.objects w.next_serial line
  no_serials (RefCount n) k = (tt, λ n m. absurd m)
  no_serials (TrackedLine b) k = (tt, λ n m. absurd m)
  no_serials (FinalizedLine b) k = (tt, λ n m. absurd m)
  no_serials (CountLine first second third) k = (tt, λ n m. absurd m)
  no_serials (GensLine first second third fourth) k = (tt, λ n m. absurd m)
  no_serials line k = absurd k

module _ (script : Script) (w : World) (rises : Rises 1 w.next_serial w.objects) (over : AreOver w.stack) (gone : (o : ℕ) → ¬ Includes (serials w.objects) o → Forgotten w o) where
  known_lives : (v : Val) → IsKnown w over v → (n : ℕ) → Includes (option_to_list (reference_in v)) n → Includes (serials w.objects) n
  known_lives v known n m = either (lives_or_not w.objects n) (λ k. k) (λ g. absurd (option_free (reference_in v) n (known n (gone n g)) m))

  -- what an inspection reports lives
  there_lives : (n : ℕ) → HeldOrThere w n → Includes (serials w.objects) n
  there_lives n (inl held) = either (lives_or_not w.objects n) (λ k. k) (λ g. absurd (absent n (holdings w) (unheld_degree w n (gone n g).unheld) held))
  there_lives n (inr lives) = lives

  one_there : (n : ℕ) → HeldOrThere w n → (o : ℕ) → Includes (n ∷ []) o → Includes (serials w.objects) o
  one_there n t o m = either m (λ e. subst (Includes (serials w.objects)) e (there_lives n t)) (λ no. absurd no)

  inspected : (line : Event) → TellsThere w line → IsTold w.objects w.next_serial line
  inspected (Referent n) t = (tt, λ o m. inl (one_there n t o m))
  inspected (Referrer n) t = (tt, λ o m. inl (one_there n t o m))
  inspected (Held n) t = (tt, λ o m. inl (one_there n t o m))
  inspected (Via n) t = (tt, λ o m. inl (one_there n t o m))
  inspected (Listed n) t = (tt, λ o m. absurd m)
  inspected Unreachable t = (tt, λ o m. absurd m)
  inspected line t = absurd t

  pub shape_tells : (command : Command) (e : Effect) → Shape w command e → DoesTell w e
  shape_tells command e (Makes name kind class entries referent own parts) = made_tells w name kind class entries referent
  shape_tells command e (Edits wants x entries given h mutable edit) = sets w x.serial entries
  shape_tells command e (Puts x key v h mutable hand_key hand room) = put_tells w x key v
  shape_tells command e (Shows v hand) = prints_told w (Value v) (tt, λ n m. inl (known_lives v (hand_known script w rises over command v hand) n m))
  shape_tells command e (Tells line tells) = prints_told w line (no_serials w line tells)
  shape_tells command e (Freezes is) = places w frozen _
  shape_tells command e (Unfreezes is) = places w unfrozen _
  shape_tells command e (StartsFrame f h) = Includes-map (λ (z : Object). z.serial) w.objects f h.member
  shape_tells command e (StartsCollection g low) = tt
  shape_tells command e Ends = tt
  shape_tells command e (Inspects lines calm there) = tells w.objects w.next_serial lines w (λ line m. inspected line (there line m)) (same_old w.objects) (omega arith)
  shape_tells command e (AsksWhy x h calm) = tt
  shape_tells command e shape = same w _ _
