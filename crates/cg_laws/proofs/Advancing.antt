-- Each step of an activity without commands left has one of the forms in `Advances`: the end of a frame, a release, each phase of
-- a death and of a collection.
use Rattle.std.proofs.Common.{◌≡◌, ◌≢◌, refl, sym, ap, subst, ℕ, ◌+◌, ◌-◌, ◌≤◌, Bool, true, false, not, inl, inr, ◌⊎◌, List, [], ◌∷◌, ◌++◌, length, map, Option, Some, None, arith}
use Rattle.std.specs.Prelude.{◌==◌, ◌&&◌, ◌||◌, nat_le, if◌then◌else◌, filter, is_some, option_and_then, option_to_list, unwrap_or}
use Rattle.std.proofs.lemmas.Bool.{eqb-false, eqb-true}
use Rattle.std.proofs.lemmas.List.{length-map}
use Rattle.std.proofs.lemmas.List.Sums.{count_by-le-length}
use Rattle.cg_value.specs.declared.Place.{Place}
use Rattle.cg_value.specs.declared.Place.TheVariants.{Untracked, Gen, Cand, Seen, Legacy as LegacyPlace, Pend}
use Rattle.cg_script.specs.declared.Script.{Script}
use Rattle.cg_graph.specs.Member.{Includes, includes}
use Rattle.cg_graph.specs.Value.{entry_references, last_entry, without_last}
use Rattle.cg_graph.specs.Object.{Object, change, serials, entries_of, is_at, is_tracked, marked, object_at, objects_at, same_place, serials_at, with_entries, with_place, with_referent, without}
use Rattle.cg_graph.proofs.Members.{either, Includes-append_cases, Includes-append_left, Includes-append_right, Includes-filter, Includes-filter_cases, Includes-map, Includes-map_cases}
use Rattle.cg_machine.specs.declared.event.Event.{Event}
use Rattle.cg_machine.specs.declared.event.Event.TheVariants.{Alive, Cleared, Collected, Free, GcCollectable, GcSaved, GcStart, GcStop, GcUncollectable, Leave}
use Rattle.cg_machine.specs.declared.event.FrameSort.{FrameSort}
use Rattle.cg_machine.specs.declared.event.FrameSort.TheVariants.{Del, Legacy, Callback, Call}
use Rattle.cg_machine.specs.Program.{legacy_of}
use Rattle.cg_machine.specs.World.{World, Activity, Framed, Releasing, Dying, Collecting, Frame, DyingPhase, Finalizer, AfterFinalizer, Clearing, Calling, AfterCall, LegacyFinalizer, AfterLegacy, Detaching, Emptying, Collection, CollectPhase, Start, WeakClearing, WeakCalling, AfterCallback, AfterRelease, Finalizing, AfterFinalizing, Split, Turns, Turn, AfterTurn, Ending, with_stack, with_objects}
use Rattle.cg_machine.specs.Holdings.{collect_holds}
use Rattle.cg_machine.specs.Frame.{Transition, frame_end, gives_up_function, released, procedure_of}
use Rattle.cg_machine.specs.Effects.{gens_line}
use Rattle.cg_machine.specs.Weak.{has_weak_references, weak_references_if, loses_referent, callback_of}
use Rattle.cg_machine.specs.Dying.{death_at, has_finalizers, finalizer_to_run, run_finalizer, run_legacy, after_frame, clear_one, detach_one, empty_one, dying}
use Rattle.cg_machine.specs.Collect.{all_saved, IsMemberOf, is_saved, begun, collectable, collection_at, lines_if, loses_at_split, get_older, has_none_tracked, merged, merged_place, older, saved, sorted, stats, survived, survivor_count, survivor_place, uncollectable, untrack, untracked_if, Survives, calls_back, after_release, looks_at, takes_turn, has_flag, empties, PhaseStep, waits}
use Rattle.cg_represents.specs.Orderly.{death_waits}
use Rattle.cg_machine.specs.Operands.{is_dict}
use Rattle.cg_laws.proofs.Measure.{is_first}
use Rattle.cg_represents.proofs.Lists.{taken_member, Reach-inside}
use Rattle.cg_laws.proofs.Unreferred.{place_later, place_alters, still_later, lost_later}
use Rattle.cg_laws.proofs.Advances.{Advance, Plainly, WithFrame, HasChanged, NothingChanges, ChangesEach, LosesEntries, GetsEntry, LosesObject, Followed, IsPlaceIn, IsMoved, StaysThere, IsUntracked, IsRevived, IsPlaced, Finalizes, Soon, Late, Owns, OfEmptied, OfCalled, OfTurn, SameCounts, OneLess, BegunCounts, Continues, DeathGoesOn, DeathClears, CollectionGoesOn, TopEnds, GivesFunction, GivesReference, BeginsDeath, TopGoesOn, GivesReferences, OfFinalizer, OfLegacy, OfCallback, IsDeathOf, IsLineOf, NamesThere, Shown, AreLinesOf, Shows, Frees, IsEarly, changed_origin}
use Rattle.cg_laws.proofs.Pointwise.{GoesOn, all_lose_by, all_saved_by}
use Rattle.cg_laws.proofs.LinesNameLive.{HasNoReferent, came_back, same_lives, filter_lives, weak_lives, without_gone, changed_all, lost_none, none_stays, all_lose_live, all_lose_none}
use Rattle.cg_laws.proofs.Starting.{called_back_either, turn_either, release_either, own_frame_either, option_either, list_either}
use Rattle.cg_laws.proofs.MeasureInDeaths.{list_one, references_two}

module _ (before after : List Object) (top : Activity) where
  no_lines : Shown before after top []
  no_lines event m = absurd m

  one_line : (line : Event) → IsLineOf after top line → NamesThere before top line → Shown before after top (line ∷ [])
  one_line line h names event m = either m (λ e. subst (λ l. IsLineOf after top l × NamesThere before top l) e (h, names)) (λ none. absurd none)

  more_lines : (front back : List Event) → Shown before after top front → Shown before after top back → Shown before after top (front ++ back)
  more_lines front back h k event m = either (Includes-append_cases front back event m) (h event) (k event)

  lines_of : (f : ℕ → Event) (os : List ℕ) → ((o : ℕ) → Includes os o → IsLineOf after top (f o) × NamesThere before top (f o)) → Shown before after top (map f os)
  lines_of f os h event m = let o = Includes-map_cases f os event m in subst (λ l. IsLineOf after top l × NamesThere before top l) o.2 (h o.0 o.1)

  flagged_lines : (b : Bool) (lines : List Event) → Shown before after top lines → Shown before after top (lines_if b lines)
  flagged_lines true lines h = h
  flagged_lines false lines h = no_lines

  it : (o : ℕ) → Includes (serials before) o → (n : ℕ) → Includes (o ∷ []) n → Includes (serials before) n ⊎ IsDeathOf top n
  it o live n m = either m (λ e. inl (subst (Includes (serials before)) e live)) (λ none. absurd none)

  its : (o : ℕ) → IsDeathOf top o → (n : ℕ) → Includes (o ∷ []) n → Includes (serials before) n ⊎ IsDeathOf top n
  its o dies n m = either m (λ e. inr (subst (IsDeathOf top) e dies)) (λ none. absurd none)

-- objects that change place, mark or referent
module _ (top : Activity) (tops : List Activity) (lines : List Event) where
  moves : (p : Place) (o : ℕ) (objects : List Object) → ((x : Object) → x.serial ≡ o → IsMoved top x (with_place p x)) → HasChanged top tops lines objects (change (with_place p) o objects)
  moves p o objects h = ChangesEach (with_place p) (λ x. x.serial == o) objects (λ x m t. record {
    later = place_later p x;
    referent = inl refl;
    entries = refl;
    finalized = λ e. e;
    moved = h x (eqb-true x.serial o t);
  })

  untracks : (o : ℕ) (objects : List Object) → HasChanged top tops lines objects (change (with_place Untracked) o objects)
  untracks o objects = moves Untracked o objects (λ x e. IsUntracked refl)

  move_mark : (p : Place) (o : ℕ) (objects : List Object) → ((x : Object) → x.serial ≡ o → IsMoved top x (marked (with_place p x))) → HasChanged top tops lines
      objects (change (λ x. marked (with_place p x)) o objects)
  move_mark p o objects h = ChangesEach (λ x. marked (with_place p x)) (λ x. x.serial == o) objects
      (λ x m t. record {
        later = still_later;
        referent = inl refl;
        entries = refl;
        finalized = λ e. refl;
        moved = h x (eqb-true x.serial o t);
      })

  loses : (weak : ℕ) → Includes lines (Cleared weak) → (objects : List Object) → HasChanged top tops lines objects (loses_referent weak objects)
  loses weak told objects = ChangesEach (with_referent None) (λ x. x.serial == weak) objects (λ x m t. record {
    later = lost_later;
    referent = inr (inl (subst (λ n. Includes lines (Cleared n)) (sym (eqb-true x.serial weak t)) told));
    entries = refl;
    finalized = λ e. e;
    moved = StaysThere refl;
  })

  changes : GoesOn (HasChanged top tops lines)
  changes = record { same = λ objects. NothingChanges objects; trans = λ before now after h k. Followed before now after h k }

  -- a collection uses places of its own
  sorts : (c : Collection) → top ≡ Collecting c → (p : Object → Place) (test : Object → Bool) (objects : List Object) → ((x : Object) → Includes objects x
      → test x ≡ true → IsPlaceIn c.generation (p x)) → HasChanged top tops lines objects (map (λ x. if test x then with_place (p x) x else x) objects)
  sorts c is p test objects h = ChangesEach (λ x. with_place (p x) x) test objects (λ x m t. record {
    later = place_later (p x) x;
    referent = inl refl;
    entries = refl;
    finalized = λ e. e;
    moved = IsPlaced c is (h x m t);
  })

  shortens : (o : ℕ) (objects : List Object) → Owns top o → HasChanged top tops lines objects (change (with_entries (without_last (entries_of objects o))) o objects)
  shortens o objects owns = LosesEntries (without_last (entries_of objects o)) o objects owns (taken_member (length (entries_of objects o) - 1) (entries_of objects o))

pub frame_end_advances : (script : Script) (f : Frame) (below : List Activity) (v : World) → (let t : Transition = frame_end f (with_stack below v) in Advance script v (Framed f) below t.0 t.1)
frame_end_advances script f below v = by_sort f.sort f.function
  where
    leave : AreLinesOf v.objects v.objects (Framed f) (Leave ∷ [])
    leave = Shows (Leave ∷ []) (one_line v.objects v.objects (Framed f) Leave tt (λ n m. absurd m))

    by_sort : (sort : FrameSort) (function : Option ℕ) → Advance script v (Framed f) below (Leave ∷ []) (gives_up_function sort function (with_stack below v))
    by_sort Call function = Plainly (Releasing (option_to_list function) ∷ []) v.objects v.numbers (Leave ∷ []) (GivesFunction f (option_to_list function)
        (list_one function)) (NothingChanges v.objects) SameCounts leave
    by_sort sort function = Plainly [] v.objects v.numbers (Leave ∷ []) (TopEnds (Framed f) tt) (NothingChanges v.objects) SameCounts leave

pub released_advances : (script : Script) (references : List ℕ) (below : List Activity) (v : World)
    → (let t : Transition = released references below (with_stack (Releasing references ∷ below) v) in Advance script v (Releasing references) below t.0 t.1)
released_advances script [] below v = Plainly [] v.objects v.numbers [] (TopEnds (Releasing []) tt) (NothingChanges v.objects) SameCounts (Shows [] (no_lines v.objects v.objects (Releasing [])))
released_advances script (o ∷ references) below v = release_either (Advance script v (Releasing (o ∷ references)) below) o references below v
    (λ t. Plainly (Dying (record { object = o; phase = Finalizer }) ∷ Releasing references ∷ []) (change dead o v.objects) v.numbers [] (BeginsDeath o references)
    (ChangesEach dead (λ x. x.serial == o) v.objects (λ x m t. record {
      later = lost_later;
      referent = inr (inr (inl (ap (λ n. Dying (record { object = n; phase = Finalizer })) (sym (eqb-true x.serial o t)))));
      entries = refl;
      finalized = λ e. e;
      moved = IsUntracked refl;
    })) SameCounts (Shows [] (no_lines v.objects (change dead o v.objects) (Releasing (o ∷ references)))))
    (λ t. Plainly (Releasing references ∷ []) v.objects v.numbers [] (GivesReference o references) (NothingChanges v.objects) SameCounts
    (Shows [] (no_lines v.objects v.objects (Releasing (o ∷ references)))))
  where
    dead : Object → Object
    dead x = with_referent None (with_place Untracked x)

module _ (script : Script) (o : ℕ) (below : List Activity) (v : World) where
  abbrev at : DyingPhase → World
  at phase = death_at o phase below v

  abbrev dying_now : DyingPhase → Activity
  dying_now phase = Dying (record { object = o; phase = phase })

  abbrev DeathAdvances : DyingPhase → Transition → Type 0
  DeathAdvances phase t = Advance script v (dying_now phase) below t.0 t.1

  nothing : (phase : DyingPhase) (n : ℕ) → Includes [] n → Includes (death_waits phase) n
  nothing phase n m = absurd m

  goes_on : (phase next : DyingPhase) (objects : List Object) → Continues v.objects objects (dying_now phase) (dying_now next) → HasChanged (dying_now phase)
      (dying_now next ∷ []) [] v.objects objects → DeathAdvances phase ([], record v { objects = objects; stack = dying_now next ∷ below })
  goes_on phase next objects c h = Plainly (dying_now next ∷ []) objects v.numbers [] (TopGoesOn (dying_now phase) (dying_now next) c tt) h SameCounts
      (Shows [] (no_lines v.objects objects (dying_now phase)))

  gives : (phase next : DyingPhase) (references : List ℕ) (objects : List Object) → length references ≤ 2 → Continues v.objects objects (dying_now phase)
      (dying_now next) → HasChanged (dying_now phase) (Releasing references ∷ dying_now next ∷ []) [] v.objects objects
      → DeathAdvances phase ([], record v { objects = objects; stack = Releasing references ∷ dying_now next ∷ below })
  gives phase next references objects few c h = Plainly (Releasing references ∷ dying_now next ∷ []) objects v.numbers [] (GivesReferences (dying_now phase)
      (dying_now next) references few c tt) h SameCounts (Shows [] (no_lines v.objects objects (dying_now phase)))

  after_frame_advances : (phase next : DyingPhase) → Continues v.objects (change (with_place Untracked) o v.objects) (dying_now phase) (dying_now next)
      → DeathAdvances phase (after_frame o next below (at phase))
  after_frame_advances phase next c = own_frame_either (Advance script v (dying_now phase) below) o next below (at phase)
      (λ t. goes_on phase next (change (with_place Untracked) o v.objects) c (untracks (dying_now phase) (dying_now next ∷ []) [] o v.objects))
      (λ t. Plainly [] v.objects v.numbers (Alive o ∷ []) (TopEnds (dying_now phase) tt) (NothingChanges v.objects) SameCounts
      (Shows (Alive o ∷ []) (one_line v.objects v.objects (dying_now phase) (Alive o) tt (its v.objects v.objects (dying_now phase) o refl))))

  cleared : (phase : DyingPhase) (weak : ℕ) → Includes (serials v.objects) weak → AreLinesOf v.objects (loses_referent weak v.objects) (dying_now phase) (Cleared weak ∷ [])
  cleared phase weak live = Shows (Cleared weak ∷ []) (one_line v.objects (loses_referent weak v.objects) (dying_now phase) (Cleared weak)
      (lost_none weak v.objects) (it v.objects (loses_referent weak v.objects) (dying_now phase) weak live))

  clearing_advances : (waiting weaks : List ℕ) → weak_references_if has_weak_references v.objects o ≡ weaks → DeathAdvances (Clearing waiting) (clear_one o waiting below (at (Clearing waiting)) weaks)
  clearing_advances waiting [] e = goes_on (Clearing waiting) (Calling waiting) v.objects (DeathGoesOn o (Clearing waiting) (Calling waiting) (λ n m. m) tt) (NothingChanges v.objects)
  clearing_advances waiting (weak ∷ weaks) e = Plainly (dying_now next ∷ []) (loses_referent weak v.objects) v.numbers (Cleared weak ∷ [])
      (TopGoesOn (dying_now (Clearing waiting)) (dying_now next) (DeathClears o weak waiting weaks (is_some (callback_of v.objects weak)) e refl) tt)
      (loses (dying_now (Clearing waiting)) (dying_now next ∷ []) (Cleared weak ∷ []) weak (inl refl) v.objects) SameCounts
      (cleared (Clearing waiting) weak (weak_lives has_weak_references v.objects o weak weaks e))
    where
      next : DyingPhase
      next = Clearing (waiting ++ (if is_some (callback_of v.objects weak) then weak ∷ [] else []))

  pub dying_advances : (phase : DyingPhase) → DeathAdvances phase (dying script o phase below (at phase))
  dying_advances Finalizer = option_either (Advance script v (dying_now Finalizer) below) (run_finalizer script o below (at Finalizer)) (option_and_then (finalizer_to_run script) (object_at v.objects o))
      (λ e. goes_on Finalizer (Clearing []) v.objects (DeathGoesOn o Finalizer (Clearing []) (nothing Finalizer) refl) (NothingChanges v.objects))
      (λ p e. WithFrame (record { sort = Del; proc = p; subject = o; func = None }) (dying_now AfterFinalizer)
      (change (λ x. marked (with_place (Gen 0) x)) o v.objects) (OfFinalizer o p e (changed_all (λ z. z.finalized ≡ true) (λ x. marked (with_place (Gen 0) x)) o
      v.objects (λ x. refl))) (DeathGoesOn o Finalizer AfterFinalizer (nothing Finalizer) tt) tt
      (move_mark (dying_now Finalizer) [] [] (Gen 0) o v.objects (λ x e. IsRevived (subst (Finalizes (dying_now Finalizer)) (sym e) (Soon o)) refl)))
  dying_advances AfterFinalizer = after_frame_advances AfterFinalizer (Clearing []) (DeathGoesOn o AfterFinalizer (Clearing []) (nothing AfterFinalizer) refl)
  dying_advances (Clearing waiting) = clearing_advances waiting (weak_references_if has_weak_references v.objects o) refl
  dying_advances (Calling []) = goes_on (Calling []) LegacyFinalizer v.objects (DeathGoesOn o (Calling []) LegacyFinalizer (nothing (Calling [])) tt) (NothingChanges v.objects)
  dying_advances (Calling (weak ∷ waiting)) =
      let callback = unwrap_or (callback_of v.objects weak) 0 in
      let phase = Calling (weak ∷ waiting) in
      WithFrame (record { sort = Callback; proc = procedure_of (at phase) callback; subject = weak; func = Some callback })
      (dying_now (AfterCall weak callback waiting)) (change (with_entries []) weak v.objects)
      (OfCallback weak (procedure_of (at phase) callback) (inl refl) (inl (inl refl))) (DeathGoesOn o phase (AfterCall weak callback waiting) (λ n m. inr m) tt)
      tt (LosesEntries [] weak v.objects (OfCalled o weak waiting) (λ e m. absurd m))
  dying_advances (AfterCall weak callback waiting) = gives (AfterCall weak callback waiting) (Calling waiting) (callback ∷ weak ∷ []) v.objects (omega arith)
      (DeathGoesOn o (AfterCall weak callback waiting) (Calling waiting) (λ n m. m) tt) (NothingChanges v.objects)
  dying_advances LegacyFinalizer = option_either (Advance script v (dying_now LegacyFinalizer) below) (run_legacy script o below (at LegacyFinalizer)) (option_and_then (legacy_of script) (object_at v.objects o))
      (λ e. goes_on LegacyFinalizer Detaching v.objects (DeathGoesOn o LegacyFinalizer Detaching (nothing LegacyFinalizer) tt) (NothingChanges v.objects))
      (λ p e. WithFrame (record { sort = Legacy; proc = p; subject = o; func = None }) (dying_now AfterLegacy)
      (change (with_place (Gen 0)) o v.objects) (OfLegacy o p e) (DeathGoesOn o LegacyFinalizer AfterLegacy (nothing LegacyFinalizer) tt) tt
      (moves (dying_now LegacyFinalizer) [] [] (Gen 0) o v.objects (λ x e. IsRevived (subst (Finalizes (dying_now LegacyFinalizer)) (sym e) (Late o)) refl)))
  dying_advances AfterLegacy = after_frame_advances AfterLegacy Detaching (DeathGoesOn o AfterLegacy Detaching (nothing AfterLegacy) tt)
  dying_advances Detaching = list_either (Advance script v (dying_now Detaching) below) (detach_one o below (at Detaching)) (weak_references_if (has_finalizers script) v.objects o)
      (λ e. goes_on Detaching Emptying v.objects (DeathGoesOn o Detaching Emptying (nothing Detaching) tt) (NothingChanges v.objects))
      (λ weak weaks e. Plainly (dying_now Detaching ∷ []) (loses_referent weak v.objects) v.numbers (Cleared weak ∷ [])
      (TopGoesOn (dying_now Detaching) (dying_now Detaching) (DeathGoesOn o Detaching Detaching (nothing Detaching) tt) tt)
      (loses (dying_now Detaching) (dying_now Detaching ∷ []) (Cleared weak ∷ []) weak (inl refl) v.objects) SameCounts
      (cleared Detaching weak (weak_lives (has_finalizers script) v.objects o weak weaks e)))
  dying_advances Emptying = option_either (Advance script v (dying_now Emptying) below) (empty_one o below (at Emptying)) (last_entry (entries_of v.objects o))
      (λ e. Plainly [] (without o v.objects) _ (Free o ∷ []) (TopEnds (dying_now Emptying) tt) (LosesObject o v.objects (OfEmptied o) (inl refl))
      OneLess (Frees o refl (without_gone o v.objects)))
      (λ entry e. gives Emptying Emptying (entry_references entry) (change (with_entries (without_last (entries_of v.objects o))) o v.objects)
      (references_two entry) (DeathGoesOn o Emptying Emptying (nothing Emptying) tt) (shortens (dying_now Emptying) (Releasing (entry_references entry)
      ∷ dying_now Emptying ∷ []) [] o v.objects (OfEmptied o)))

-- the places of a collection that starts
merges : (top : Activity) (c : Collection) → top ≡ Collecting c → (x : Object) → IsMoved top x (with_place (merged_place c.generation x.place) x)
merges top c is x = go x.place refl
  where
    go : (p : Place) → x.place ≡ p → IsMoved top x (with_place (merged_place c.generation p) x)
    go (Gen i) e = young (nat_le i c.generation)
      where
        young : (b : Bool) → IsMoved top x (with_place (if b then Gen c.generation else Gen i) x)
        young true = IsPlaced c is (inl refl)
        young false = StaysThere e
    go p e = StaysThere e

stable_place : (g : ℕ) (p : Place) → ¬ ¬ IsPlaceIn g p → IsPlaceIn g p
stable_place g (Gen i) h = go (i == g) (i == older g) refl refl
  where
    go : (a b : Bool) → (i == g) ≡ a → (i == older g) ≡ b → (i ≡ g) ⊎ (i ≡ older g)
    go true b e k = inl (eqb-true i g e)
    go false true e k = inr (eqb-true i (older g) k)
    go false false e k = absurd (h (λ is. either is (eqb-false i g e) (eqb-false i (older g) k)))
stable_place g p h = tt

survivor_placed : (g : ℕ) (objects : List Object) (x : Object) → IsPlaceIn g (survivor_place g objects x)
survivor_placed g objects x = go (not (is_tracked x) || (g == 2) && is_dict x && has_none_tracked objects x)
  where
    go : (b : Bool) → IsPlaceIn g (if b then Untracked else Gen (older g))
    go true = tt
    go false = inr refl

module _ (script : Script) (c : Collection) (below : List Activity) (v : World) where
  abbrev with_phase : CollectPhase → World
  with_phase phase = collection_at c phase below v

  abbrev collecting : CollectPhase → Activity
  collecting phase = Collecting (record c { phase = phase })

  abbrev CollectionAdvances : CollectPhase → List Event → World → Type 0
  CollectionAdvances phase lines after = Advance script v (collecting phase) below lines after

  abbrev place : Place
  place = Gen (older c.generation)

  moves_to : (phase : CollectPhase) (tops : List Activity) (lines : List Event) (p : Place) (o : ℕ) (objects : List Object) → IsPlaceIn c.generation p
      → HasChanged (collecting phase) tops lines objects (change (with_place p) o objects)
  moves_to phase tops lines p o objects h = moves (collecting phase) tops lines p o objects (λ x e. IsPlaced (record c { phase = phase }) refl h)

  yielded : (phase : CollectPhase) (next : Transition) (lines : List Event) (after : World) → lines ≡ next.0 → after ≡ next.1 → CollectionAdvances phase next.0
      next.1 → CollectionAdvances phase lines after
  yielded phase next lines after e k h = subst (λ es. CollectionAdvances phase es after) (sym e) (subst (CollectionAdvances phase next.0) (sym k) h)

  -- the collection goes to a phase, and keeps each hold or gives it up
  abbrev MayTurn : CollectPhase → CollectPhase → List ℕ → Type 0
  MayTurn phase next given = (is_first next ≡ false) × (IsEarly phase → phase ≢ Split → IsEarly next) × ((n : ℕ) → Includes (collect_holds phase) n
      → Includes given n ⊎ Includes (collect_holds next) n)

  stands : (phase : CollectPhase) (d : Collection) (objects : List Object) (lines : List Event) → d.generation ≡ c.generation → MayTurn phase d.phase []
      → HasChanged (collecting phase) (Collecting d ∷ []) lines v.objects objects → Shown v.objects objects (collecting phase) lines
      → CollectionAdvances phase lines (record v { objects = objects; stack = Collecting d ∷ below })
  stands phase d objects lines same t h shown = Plainly (Collecting d ∷ []) objects v.numbers lines (TopGoesOn (collecting phase) (Collecting d)
      (CollectionGoesOn (record c { phase = phase }) d same t.0 t.1) t.2) h SameCounts (Shows lines shown)

  silent : (phase next : CollectPhase) (objects : List Object) → MayTurn phase next [] → HasChanged (collecting phase) (collecting next ∷ []) [] v.objects
      objects → CollectionAdvances phase [] (record v { objects = objects; stack = collecting next ∷ below })
  silent phase next objects t h = stands phase (record c { phase = next }) objects [] refl t h (no_lines v.objects objects (collecting phase))

  releases : (phase next : CollectPhase) (references : List ℕ) (objects : List Object) → length references ≤ 2 → MayTurn phase next references
      → HasChanged (collecting phase) (Releasing references ∷ collecting next ∷ []) [] v.objects objects
      → CollectionAdvances phase [] (record v { objects = objects; stack = Releasing references ∷ collecting next ∷ below })
  releases phase next references objects few t h = Plainly (Releasing references ∷ collecting next ∷ []) objects v.numbers []
      (GivesReferences (collecting phase) (collecting next) references few (CollectionGoesOn (record c { phase = phase }) (record c { phase = next }) refl t.0
      t.1) t.2) h SameCounts (Shows [] (no_lines v.objects objects (collecting phase)))

  weak_calling_advances : (waiting : List ℕ) → (let t : Transition = calls_back script c waiting below (with_phase (WeakCalling waiting)) in CollectionAdvances (WeakCalling waiting) t.0 t.1)
  weak_calling_advances [] = silent (WeakCalling []) Finalizing v.objects (refl, λ e s. tt, λ n m. absurd m) (NothingChanges v.objects)
  weak_calling_advances (weak ∷ waiting) =
      let callback = unwrap_or (callback_of v.objects weak) 0 in
      let phase = WeakCalling (weak ∷ waiting) in
      WithFrame (record { sort = Callback; proc = procedure_of (with_phase phase) callback; subject = weak; func = Some callback }) (collecting (AfterCallback weak waiting)) v.objects
      (OfCallback weak (procedure_of (with_phase phase) callback) (inl refl) (inr (inl refl, refl))) (CollectionGoesOn (record c { phase = phase })
      (record c { phase = AfterCallback weak waiting }) refl refl (λ e s. tt)) (λ n m. inr m) (NothingChanges v.objects)

  after_release_advances : (weak : ℕ) (waiting : List ℕ) → (let t : Transition = after_release c weak waiting below (with_phase (AfterRelease weak waiting))
      in CollectionAdvances (AfterRelease weak waiting) t.0 t.1)
  after_release_advances weak waiting = called_back_either (CollectionAdvances (AfterRelease weak waiting)) c weak waiting below (with_phase (AfterRelease weak waiting))
      (λ t. silent (AfterRelease weak waiting) (WeakCalling waiting) (change (with_place place) weak v.objects) (refl, λ e s. tt, λ n m. inr m)
      (moves_to (AfterRelease weak waiting) (collecting (WeakCalling waiting) ∷ []) [] place weak v.objects (inr refl)))
      (λ t. stands (AfterRelease weak waiting) (record c { collected = c.collected + 1; phase = WeakCalling waiting }) v.objects [] refl (
        refl,
        λ e s. tt,
        λ n m. inr m,
      ) (NothingChanges v.objects) (no_lines v.objects v.objects (collecting (AfterRelease weak waiting))))

  turn_advances : (x : Object) → Includes v.objects x → (let t : Transition = takes_turn c x below (with_phase Turns) in CollectionAdvances Turns t.0 t.1)
  turn_advances x there = turn_either (CollectionAdvances Turns) c x below (with_phase Turns)
      (λ t. stands Turns (record c { phase = Turns }) kept (GcSaved x.serial ∷ []) refl (refl, λ e s. absurd e, λ n m. absurd m)
      (Followed v.objects (saved x.serial v.objects) kept (GetsEntry x.serial v.objects refl) (moves_to Turns (collecting Turns ∷ []) (GcSaved x.serial ∷ [])
      place x.serial (saved x.serial v.objects) (inr refl)))
      (one_line v.objects kept (collecting Turns) (GcSaved x.serial) tt (it v.objects kept (collecting Turns) x.serial (Includes-map (λ (z : Object). z.serial) v.objects x there))))
      (λ t b. silent Turns Turns _ (refl, λ e s. absurd e, λ n m. absurd m) (moves_to Turns (collecting Turns ∷ []) [] place x.serial v.objects (inr refl)))
      (λ t b. silent Turns (Turn x.serial) v.objects (refl, λ e s. absurd e, λ n m. absurd m) (NothingChanges v.objects))
    where
      kept : List Object
      kept = change (with_place place) x.serial (saved x.serial v.objects)

  pub phase_advances : (phase : CollectPhase) (lines : List Event) (after : World) → PhaseStep script c phase below (with_phase phase) lines after → CollectionAdvances phase lines after
  phase_advances Start lines after step = yielded Start (_, _) lines after step.lines step.world (Plainly (collecting (WeakClearing []) ∷ [])
      (sorted c.generation step.places now) (survived c.generation survivors (begun c.generation v.numbers)) shown
      (TopGoesOn (collecting Start) (collecting (WeakClearing [])) (CollectionGoesOn (record c { phase = Start }) (record c { phase = WeakClearing [] }) refl
      refl (λ e s. tt)) (λ n m. absurd m)) changed (BegunCounts (record c { phase = Start }) survivors refl refl few)
      (Shows shown (more_lines v.objects (sorted c.generation step.places now) now_on (GcStart c.generation ∷ [] ++ sizes) found
      (more_lines v.objects (sorted c.generation step.places now) now_on (GcStart c.generation ∷ []) sizes (one (GcStart c.generation) tt (λ n m. absurd m))
      (flagged_lines v.objects (sorted c.generation step.places now) now_on (has_flag c.flags stats) _ (one (gens_line v.objects) tt (λ n m. absurd m))))
      (flagged_lines v.objects (sorted c.generation step.places now) now_on (has_flag c.flags collectable) _
      (lines_of v.objects (sorted c.generation step.places now) now_on GcCollectable step.collectables
      (λ o m. (tt, it v.objects (sorted c.generation step.places now) now_on o (live o m))))))))
    where
      now_on : Activity
      now_on = collecting Start

      now : List Object
      now = (merged c.generation v).objects

      -- an object of the collected generation survives, is set aside or is condemned
      placed_in : (x : Object) → Includes now x → is_at (Gen c.generation) x ≡ true → IsPlaceIn c.generation (step.places x)
      placed_in x m t = stable_place c.generation (step.places x) (λ out.
          let member = Includes-filter (is_at (Gen c.generation)) now x t m in
          let dead : ¬ Survives (merged c.generation (with_phase Start)) (Gen c.generation) x.serial =
          λ s. out (subst (IsPlaceIn c.generation) (sym (step.sorts.survivors x member s))
          (survivor_placed c.generation (untrack c.generation step.chosen now) (untracked_if (step.chosen x) x))) in
          out (subst (IsPlaceIn c.generation)
          (sym (step.sorts.condemned x member (record {
            member = Includes-map (λ (z : Object). z.serial) (objects_at now (Gen c.generation)) x member;
            no_path = dead;
          }) (λ s. out (subst (IsPlaceIn c.generation) (sym (step.sorts.set_aside x member s)) tt)))) tt))

      sizes : List Event
      sizes = lines_if (has_flag c.flags stats) (gens_line v.objects ∷ [])

      found : List Event
      found = lines_if (has_flag c.flags collectable) (map GcCollectable step.collectables)

      shown : List Event
      shown = (GcStart c.generation ∷ []) ++ sizes ++ found

      one : (line : Event) → IsLineOf (sorted c.generation step.places now) now_on line → NamesThere v.objects now_on line → Shown v.objects (sorted c.generation step.places now) now_on (line ∷ [])
      one = one_line v.objects (sorted c.generation step.places now) now_on

      changed : HasChanged now_on (collecting (WeakClearing []) ∷ []) shown v.objects (sorted c.generation step.places now)
      changed = Followed v.objects now (sorted c.generation step.places now) (ChangesEach (λ x. with_place (merged_place c.generation x.place) x) (λ x. true)
          v.objects (λ x m t. record {
            later = place_later (merged_place c.generation x.place) x;
            referent = inl refl;
            entries = refl;
            finalized = λ e. e;
            moved = merges now_on (record c { phase = Start }) refl x;
          }))
          (sorts now_on (collecting (WeakClearing []) ∷ []) shown (record c { phase = Start }) refl step.places (is_at (Gen c.generation)) now placed_in)

      live : (n : ℕ) → Includes step.collectables n → Includes (serials v.objects) n
      live n m = came_back v.objects (sorted c.generation step.places now) (changed_origin now_on (collecting (WeakClearing []) ∷ []) shown v.objects (sorted c.generation step.places now) changed) n
          (filter_lives (is_at Cand) (sorted c.generation step.places now) n (subst (λ (w : World). Includes (serials_at w.objects Cand) n) step.world
          (same_lives step.collectables (serials_at after.objects Cand) step.any_order n m)))

      survivors : ℕ
      survivors = survivor_count c.generation step.places now

      few : survivors ≤ length v.objects
      few = omega (
        arith,
        length-map v.objects (λ (x : Object). with_place (merged_place c.generation x.place) x),
        count_by-le-length (λ x. is_at (Gen c.generation) x && same_place (step.places x) (Gen (older c.generation))) now,
      )
  phase_advances (WeakClearing waiting) lines after (inl step) = yielded (WeakClearing waiting) (_, _) lines after step.yields.0 step.yields.1 (go (waits v.objects step.weak))
    where
      lost : List Object
      lost = loses_referent step.weak v.objects

      told : (objects : List Object) → HasNoReferent step.weak objects → Shown v.objects objects (collecting (WeakClearing waiting)) (Cleared step.weak ∷ [])
      told objects none = one_line v.objects objects (collecting (WeakClearing waiting)) (Cleared step.weak) none
          (it v.objects objects (collecting (WeakClearing waiting)) step.weak (subst (Includes (serials v.objects)) step.newest.is
          (Includes-map (λ (z : Object). z.serial) v.objects step.newest.object step.newest.member)))

      go : (t : Bool) → CollectionAdvances (WeakClearing waiting) (Cleared step.weak ∷ []) (if t then collection_at c (WeakClearing (waiting ++ step.weak ∷ []))
          below (with_objects (change (with_place Pend) step.weak lost) (with_phase (WeakClearing waiting))) else collection_at c (WeakClearing waiting) below
          (with_objects lost (with_phase (WeakClearing waiting))))
      go true =
          let next : Activity = collecting (WeakClearing (waiting ++ step.weak ∷ [])) in
          stands (WeakClearing waiting) (record c { phase = WeakClearing (waiting ++ step.weak ∷ []) }) (change (with_place Pend) step.weak lost) _ refl
          (refl, λ e s. tt, λ n m. inr (Includes-append_left waiting (step.weak ∷ []) n m))
          (Followed v.objects lost (change (with_place Pend) step.weak lost) (loses (collecting (WeakClearing waiting)) (next ∷ []) (Cleared step.weak ∷ [])
          step.weak (inl refl) v.objects) (moves_to (WeakClearing waiting) (next ∷ []) (Cleared step.weak ∷ []) Pend step.weak lost tt))
          (told (change (with_place Pend) step.weak lost) (none_stays step.weak lost (change (with_place Pend) step.weak lost)
          (place_alters Pend step.weak lost).origin (lost_none step.weak v.objects)))
      go false = stands (WeakClearing waiting) (record c { phase = WeakClearing waiting }) lost _ refl (refl, λ e s. tt, λ n m. inr m)
          (loses (collecting (WeakClearing waiting)) (collecting (WeakClearing waiting) ∷ []) (Cleared step.weak ∷ []) step.weak (inl refl) v.objects)
          (told lost (lost_none step.weak v.objects))
  phase_advances (WeakClearing waiting) lines after (inr step) = yielded (WeakClearing waiting) (_, _) lines after step.1.0 step.1.1
      (silent (WeakClearing waiting) (WeakCalling waiting) v.objects (refl, λ e s. tt, λ n m. inr m) (NothingChanges v.objects))
  phase_advances (WeakCalling waiting) lines after step = yielded (WeakCalling waiting) _ lines after step.0 step.1 (weak_calling_advances waiting)
  phase_advances (AfterCallback weak waiting) lines after step = yielded (AfterCallback weak waiting) (_, _) lines after step.0 step.1
      (releases (AfterCallback weak waiting) (AfterRelease weak waiting) (weak ∷ []) v.objects (omega arith) (
        refl,
        λ e s. tt,
        λ n m. either m (λ i. inl (inl i)) (λ k. inr k),
      ) (NothingChanges v.objects))
  phase_advances (AfterRelease weak waiting) lines after step = yielded (AfterRelease weak waiting) _ lines after step.0 step.1 (after_release_advances weak waiting)
  phase_advances Finalizing lines after (inl step) = yielded Finalizing _ lines after step.yields.0 step.yields.1
      (option_either (CollectionAdvances Finalizing) (looks_at script c step.object below (with_phase Finalizing)) (option_and_then (finalizer_to_run script) (object_at v.objects step.object))
      (λ e. silent Finalizing Finalizing (change (with_place Seen) step.object v.objects) (refl, λ e s. tt, λ n m. absurd m)
      (moves_to Finalizing (collecting Finalizing ∷ []) [] Seen step.object v.objects tt))
      (λ p e. WithFrame (record { sort = Del; proc = p; subject = step.object; func = None }) (collecting (AfterFinalizing step.object))
      (change (λ x. marked (with_place Seen x)) step.object v.objects) (OfFinalizer step.object p e (changed_all (λ z. z.finalized ≡ true) (λ x. marked (with_place Seen x)) step.object
      v.objects (λ x. refl)))
      (CollectionGoesOn (record c { phase = Finalizing }) (record c { phase = AfterFinalizing step.object }) refl refl (λ e s. tt)) (λ n m. absurd m)
      (move_mark (collecting Finalizing) [] [] Seen step.object v.objects (λ x e. IsPlaced (record c { phase = Finalizing }) refl tt))))
  phase_advances Finalizing lines after (inr step) = yielded Finalizing (_, _) lines after step.1.0 step.1.1 (silent Finalizing Split _ (
    refl,
    λ e s. tt,
    λ n m. absurd m,
  ) (sorts (collecting Finalizing) (collecting Split ∷ []) [] (record c { phase = Finalizing }) refl (λ x. Cand) (is_at Seen) v.objects
      (λ x m t. tt)))
  phase_advances (AfterFinalizing o) lines after step = yielded (AfterFinalizing o) (_, _) lines after step.0 step.1 (releases (AfterFinalizing o) Finalizing
      (o ∷ []) v.objects (omega arith) (refl, λ e s. tt, λ n m. inl m) (NothingChanges v.objects))
  phase_advances Split lines after step = yielded Split (_, _) lines after step.lines step.world (stands Split next step.objects told refl (refl, λ e s. absurd (s refl), λ n m. absurd m)
      (Followed v.objects now step.objects grow_older (all_lose_by (HasChanged (collecting Split) (Collecting next ∷ []) told)
      (changes (collecting Split) (Collecting next ∷ []) told) (loses_at_split now) step.cleared
      (λ weak m objects. loses (collecting Split) (Collecting next ∷ []) told weak (Includes-append_right (map Alive step.alive) (map Cleared step.cleared)
      (Cleared weak) (Includes-map (λ (n : ℕ). Cleared n) step.cleared weak m)) objects) now step.objects step.lose))
      (more_lines v.objects step.objects (collecting Split) (map Alive step.alive) (map Cleared step.cleared)
      (lines_of v.objects step.objects (collecting Split) Alive step.alive
      (λ o m. (
        tt,
        it v.objects step.objects (collecting Split) o (let there : IsMemberOf (with_phase Split) Cand o = Reach-inside ((step.survivors o).0 m)
            in filter_lives (is_at Cand) v.objects o there),
      )))
      (lines_of v.objects step.objects (collecting Split) Cleared step.cleared (λ o m. (
        all_lose_none (loses_at_split now) step.cleared now step.objects step.lose o m,
        it v.objects step.objects (collecting Split) o (came_back v.objects now (changed_origin (collecting Split) (Collecting next ∷ []) told v.objects now
            grow_older) o (all_lose_live (loses_at_split now) step.cleared now step.objects step.lose o m)),
      )))))
    where
      now : List Object
      now = get_older c.generation step.alive v.objects

      next : Collection
      next = record c { collected = c.collected + length (serials_at step.objects Cand); phase = Turns }

      told : List Event
      told = map Alive step.alive ++ map Cleared step.cleared

      grow_older : HasChanged (collecting Split) (Collecting next ∷ []) told v.objects now
      grow_older = sorts (collecting Split) (Collecting next ∷ []) told (record c { phase = Split }) refl (λ x. place) (λ x. includes step.alive x.serial) v.objects (λ x m t. inr refl)
  phase_advances Turns lines after (inl step) = yielded Turns _ lines after step.yields.0 step.yields.1 (turn_advances step.object (Includes-filter_cases (is_at Cand) v.objects step.object step.member).0)
  phase_advances Turns lines after (inr step) = yielded Turns (_, _) lines after step.1.0 step.1.1 (silent Turns Ending v.objects (refl, λ e s. absurd e, λ n m. absurd m) (NothingChanges v.objects))
  phase_advances (Turn o) lines after step = yielded (Turn o) _ lines after step.0 step.1 (option_either (CollectionAdvances (Turn o)) (empties c o below (with_phase (Turn o))) (last_entry (entries_of v.objects o))
      (λ is. releases (Turn o) (AfterTurn o) (o ∷ []) v.objects (omega arith) (refl, λ e s. absurd e, λ n m. inl m) (NothingChanges v.objects))
      (λ entry is. releases (Turn o) (Turn o) (entry_references entry) _ (references_two entry) (refl, λ e s. absurd e, λ n m. inr m)
      (shortens (collecting (Turn o)) (Releasing (entry_references entry) ∷ collecting (Turn o) ∷ []) [] o v.objects (OfTurn (record c { phase = Turn o }) o
      refl))))
  phase_advances (AfterTurn o) lines after step = yielded (AfterTurn o) (_, _) lines after step.0 step.1 (silent (AfterTurn o) Turns _ (
    refl,
    λ e s. absurd e,
    λ n m. absurd m,
  ) (moves_to (AfterTurn o) (collecting Turns ∷ []) [] place o v.objects (inr refl)))
  phase_advances Ending lines after step = yielded Ending (_, _) lines after step.lines step.world (Plainly [] last v.numbers shown (TopEnds (collecting Ending) refl)
      (Followed v.objects (all_saved step.keeps v.objects) last (all_saved_by (HasChanged now_on [] shown) (changes now_on [] shown) step.keeps
      (λ o m objects. GetsEntry o objects refl) v.objects) (sorts now_on [] shown (record c { phase = Ending }) refl (λ x. place) (is_at LegacyPlace)
      (all_saved step.keeps v.objects) (λ x m t. inr refl))) SameCounts
      (Shows shown (more_lines v.objects last now_on (told ++ map GcSaved step.keeps) (stop ∷ asked)
      (more_lines v.objects last now_on told (map GcSaved step.keeps)
      (flagged_lines v.objects last now_on (has_flag c.flags uncollectable) _ (lines_of v.objects last now_on GcUncollectable step.told
      (λ o m. (
        tt,
        it v.objects last now_on o (filter_lives (is_at LegacyPlace) v.objects o (same_lives step.told (serials_at v.objects LegacyPlace)
            step.told_order o m)),
      ))))
      (lines_of v.objects last now_on GcSaved step.keeps
      (λ o m. (
        tt,
        it v.objects last now_on o (filter_lives (is_saved script c) v.objects o
            (same_lives step.keeps (serials (filter (is_saved script c) v.objects)) step.keeps_order o m)),
      ))))
      (more_lines v.objects last now_on (stop ∷ []) asked (one_line v.objects last now_on stop refl (λ n m. absurd m)) (flagged_lines v.objects last now_on
      c.asked _ (one_line v.objects last now_on (Collected (c.collected + length step.told)) tt (λ n m. absurd m)))))))
    where
      now_on : Activity
      now_on = collecting Ending

      last : List Object
      last = map (λ x. if is_at LegacyPlace x then with_place place x else x) (all_saved step.keeps v.objects)

      told : List Event
      told = lines_if (has_flag c.flags uncollectable) (map GcUncollectable step.told)

      stop : Event
      stop = GcStop c.generation c.collected (length step.told)

      asked : List Event
      asked = lines_if c.asked (Collected (c.collected + length step.told) ∷ [])

      shown : List Event
      shown = told ++ map GcSaved step.keeps ++ stop ∷ asked
