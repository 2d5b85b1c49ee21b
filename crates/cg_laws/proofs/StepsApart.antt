-- A step of another activity leaves each partitioned object where it was.
use Rattle.std.proofs.Common.{◌≡◌, ◌≢◌, sym, ◌∙◌, ap, subst, ℕ, Bool, true, false, inr, List, [], ◌∷◌, ◌++◌, Option, Some}
use Rattle.std.specs.Prelude.{◌||◌, option_map, unwrap_or}
use Rattle.std.specs.List.{list_any}
use Rattle.cg_value.specs.declared.Place.{Place}
use Rattle.cg_value.specs.declared.Place.TheVariants.{Cand, Seen, Back, Pend}
use Rattle.cg_graph.specs.Member.{Includes}
use Rattle.cg_graph.specs.Value.{references}
use Rattle.cg_graph.specs.Object.{Object, object_at, entries_of}
use Rattle.cg_graph.proofs.Members.{either}
use Rattle.cg_machine.specs.World.{World, Activity, Collecting, CollectPhase, Start, WeakClearing, WeakCalling, AfterCallback, AfterRelease, Finalizing, AfterFinalizing, Ending}
use Rattle.cg_machine.specs.Holdings.{is_collection, is_collecting}
use Rattle.cg_laws.specs.Laws.{IsOfCollection, HadItsPlace, LeavesBelow}
use Rattle.cg_represents.proofs.Serials.{Rises}
use Rattle.cg_laws.proofs.Lookups.{at_member}
use Rattle.cg_laws.specs.Apart.{IsInWeakPhase, IsInLatePhase, StandsRightly, IsFound, handles, IsApart}
use Rattle.cg_laws.proofs.GarbageKept.{NamesNot, entries_name_not, list_stays, names_no_more}
use Rattle.cg_laws.proofs.StepsPlain.{IsPlain}
use Rattle.cg_laws.proofs.SetsApart.{found_apart}

pub objects_name_not : (high : ℕ) (objects : List Object) (o : ℕ) → Rises 1 high objects → (¬ Includes (references (entries_of objects 1)) o) → NamesNot objects o
objects_name_not high objects o rises h x m e k =
    let at : object_at objects 1 ≡ Some x = subst (λ s. object_at objects s ≡ Some x) e (at_member 1 high objects x rises m) in
    h (subst (λ (found : Option Object). Includes (references (unwrap_or (option_map (λ (z : Object). z.entries) found) [])) o) (sym at) k)

-- no collection is below if none is on the stack
none_below : (tops below : List Activity) → list_any is_collection (tops ++ below) ≡ false → list_any is_collection below ≡ false
none_below [] below e = e
none_below (a ∷ tops) below e = none_below tops below (rest (is_collection a) e)
  where
    rest : (b : Bool) → (b || list_any is_collection (tops ++ below)) ≡ false → list_any is_collection (tops ++ below) ≡ false
    rest true k = let no : true ≡ false = k in absurd (cc)
    rest false k = k

-- an object in a collection's place was there before
module _ (objects : List Object) (x : Object) (had : IsOfCollection x.place → HadItsPlace objects x) where
  stood : (place : Place) → IsOfCollection place → x.place ≡ place → (y : Object) × Includes objects y × (y.serial ≡ x.serial) × (y.place ≡ place)
  stood place h e = let y = had (subst IsOfCollection (sym e) h) in (y.0, y.1, y.2, sym y.3 ∙ e)

  was_not : (place : Place) → IsOfCollection place → ((y : Object) → Includes objects y → y.place ≢ place) → x.place ≢ place
  was_not place h none e = let y = stood place h e in none y.0 y.1 y.3

  in_weak_phase : (waiting : List ℕ) → ((y : Object) → Includes objects y → IsInWeakPhase waiting y) → IsInWeakPhase waiting x
  in_weak_phase waiting h = record {
    seen = was_not Seen tt (λ y m. (h y m).seen);
    back = was_not Back tt (λ y m. (h y m).back);
    pending = λ e. let y = stood Pend tt e in subst (Includes waiting) y.2 ((h y.0 y.1).pending y.3);
  }

  in_late_phase : ((y : Object) → Includes objects y → IsInLatePhase y) → IsInLatePhase x
  in_late_phase h = record { seen = was_not Seen tt (λ y m. (h y m).seen); back = was_not Back tt (λ y m. (h y m).back); pending = was_not Pend tt (λ y m. (h y m).pending) }

  neither : ((y : Object) → Includes objects y → (y.place ≢ Back) × (y.place ≢ Pend)) → (x.place ≢ Back) × (x.place ≢ Pend)
  neither h = (was_not Back tt (λ y m. (h y m).0), was_not Pend tt (λ y m. (h y m).1))

  -- its place is still allowed
  pub still_stands : (phase : CollectPhase) → ((y : Object) → Includes objects y → StandsRightly phase y) → StandsRightly phase x
  still_stands Start h = λ k. let y = had k in h y.0 y.1 (subst IsOfCollection y.3 k)
  still_stands (WeakClearing waiting) h = in_weak_phase waiting h
  still_stands (WeakCalling waiting) h = in_weak_phase waiting h
  still_stands (AfterCallback weak waiting) h = in_weak_phase (weak ∷ waiting) h
  still_stands (AfterRelease weak waiting) h = in_weak_phase (weak ∷ waiting) h
  still_stands Finalizing h = neither h
  still_stands (AfterFinalizing o) h = neither h
  still_stands Ending h = (in_late_phase (λ y m. (h y m).0), was_not Cand tt (λ y m. (h y m).1))
  still_stands phase h = in_late_phase h

module _ (w : World) (a : Activity) (below : List Activity) (after : World) (top : w.stack ≡ a ∷ below) (none : is_collection a ≡ false)
    (rises : Rises 1 w.next_serial w.objects) (l : LeavesBelow w a below after) (p : IsPlain w.objects below after) (h : IsApart w) where
  had : (x : Object) → Includes after.objects x → IsOfCollection x.place → HadItsPlace w.objects x
  had x m k = l.places none x m k

  was_free : list_any is_collection below ≡ false → is_collecting w ≡ false
  was_free e = ap (list_any is_collection) top ∙ ap (λ b. b || list_any is_collection below) none ∙ e

  clear : is_collecting w ≡ false → (x : Object) → Includes after.objects x → ¬ IsOfCollection x.place
  clear free x m k = let y = had x m k in h.clear free y.0 y.1 (subst IsOfCollection y.3 k)

  pub step_apart : IsApart after
  step_apart = record {
    garbage = list_stays w.objects after.objects p.list h.garbage;
    clear = λ free. clear (was_free (none_below l.tops below (ap (list_any is_collection) (sym l.stack) ∙ free)));
    phases = λ c m x n. either (p.stack c m)
        (λ k. still_stands w.objects x (had x n) c.phase (h.phases c (subst (λ st. Includes st (Collecting c)) (sym top) (inr k))))
        (λ k. subst (λ phase. StandsRightly phase x) (sym k.1) (clear (was_free k.0) x n));
    unhandled = λ c m. either (p.stack c m) (λ k. h.unhandled c (subst (λ st. Includes st (Collecting c)) (sym top) (inr k))) (λ k. subst (λ phase. ¬ Includes (handles phase) 1) (sym k.1) (λ n. n));
    unsaved = λ x m k.
        let y = had x m (found_apart x.place k) in
        let free = h.unsaved y.0 y.1 (subst IsFound y.3 k) in
        entries_name_not after.objects x.serial (names_no_more w.objects after.objects p.list x.serial (objects_name_not w.next_serial w.objects x.serial rises
        (subst (λ s. ¬ Includes (references (entries_of w.objects 1)) s) y.2 free)));
  }
