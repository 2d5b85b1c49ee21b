-- What the steps of collections do.
use Rattle.std.proofs.Common.{◌≡◌, ◌≢◌, refl, sym, ◌∙◌, ap, subst, ℕ, ◌+◌, Bool, true, false, not, ◌&&◌, ◌||◌, inl, inr, List, [], ◌∷◌, ◌++◌, map, length, Option, Some, None}
use Rattle.std.specs.Prelude.{◌==◌, if◌then◌else◌, filter, is_some, nat_le, option_and_then, option_map, unwrap_or}
use Rattle.std.proofs.lemmas.Bool.{eqb-true}
use Rattle.cg_value.specs.declared.Place.{Place}
use Rattle.cg_value.specs.declared.Place.TheVariants.{Untracked, Gen, Cand, Seen, Legacy, Pend}
use Rattle.cg_value.specs.declared.Val.TheVariants.{Ref}
use Rattle.cg_script.specs.declared.Script.{Script}
use Rattle.cg_graph.specs.Member.{Includes, includes}
use Rattle.cg_graph.specs.Value.{entry_references, item, last_entry}
use Rattle.cg_graph.specs.Object.{Object, change, entries_of, is_at, marked, object_at, objects_at, same_place, serials, serials_at, with_entries, with_place}
use Rattle.cg_graph.proofs.Members.{either, true_and, true_or, Includes-append_cases, Includes-append_left, Includes-filter, Includes-filter_cases, Includes-map, Includes-map_cases}
use Rattle.cg_machine.specs.declared.event.Event.{Event}
use Rattle.cg_machine.specs.declared.event.Event.TheVariants.{Alive, Cleared, Collected, Enter, GcCollectable, GcSaved, GcStart, GcStop, GcUncollectable}
use Rattle.cg_machine.specs.declared.event.FrameSort.TheVariants.{Del, Callback}
use Rattle.cg_machine.specs.Program.{legacy_of}
use Rattle.cg_machine.specs.World.{World, Activity, Releasing, Collecting, Collection, CollectPhase, Start, WeakClearing, WeakCalling, AfterCallback, AfterRelease, Finalizing, AfterFinalizing, Split, Turns, Turn, AfterTurn, Ending, push, with_change, with_objects}
use Rattle.cg_machine.specs.Frame.{Transition, procedure_of}
use Rattle.cg_machine.specs.Weak.{AllLose, callback_of, loses_referent}
use Rattle.cg_machine.specs.Dying.{finalizer_to_run}
use Rattle.cg_machine.specs.Effects.{gens_line}
use Rattle.cg_machine.specs.Collect.{PhaseStep, StartStep, after_release, all_saved, calls_back, clears_one, collectable, collection_at, empties, get_older, has_flag, is_condemned, is_condemned_in, is_saved, lines_if, looks_at, merged, merged_place, older, replaced_place, save_all, saved, sorted, stats, takes_turn, uncollectable, waits}
use Rattle.cg_laws.proofs.Lookups.{at_member, references-append, same_object}
use Rattle.cg_represents.proofs.Lists.{found_at}
use Rattle.cg_represents.proofs.Serials.{Rises}
use Rattle.cg_laws.proofs.LinesNameLive.{same_lives}
use Rattle.cg_laws.specs.Apart.{IsFound}
use Rattle.cg_weakcoll.proofs.ActivitySteps.{Acts, Ages, ages, Grows, IsAside, Loses, Waited, acts, all_to_call, grows_at, grows_if, grows_lost, grows_place, grows_same, grows_trans, lost_ages, one_raised, placed_ages, starts_acts, to_call_in, two_raised, yields_acts}
use Rattle.cg_weakcoll.proofs.ActivityStepsDeaths.{shortened_grows, to_run_is}
use Rattle.cg_laws.proofs.Pointwise.{all_saved_by, came, came_all_lose}
use Rattle.cg_laws.proofs.Starting.{turn_either, called_back_either, option_either}

-- distinct places
found_at_place : (p q : Place) → IsFound q → same_place p q ≡ true → IsFound p
found_at_place Cand q f e = tt
found_at_place Seen q f e = tt
found_at_place Legacy q f e = tt
found_at_place p Cand f e = cc
found_at_place p Seen f e = cc
found_at_place p Legacy f e = cc
found_at_place p q f e = absurd f

merged_found : (g : ℕ) (p : Place) → IsFound (merged_place g p) → IsFound p
merged_found g (Gen i) f = go (nat_le i g) f
  where
    go : (b : Bool) → IsFound (if b then Gen g else Gen i) → ⊥
    go true f = f
    go false f = f
merged_found g Cand f = tt
merged_found g Seen f = tt
merged_found g Legacy f = tt
merged_found g p f = f

survivor_apart : (b : Bool) (n : ℕ) → ¬ IsFound (if b then Untracked else Gen n)
survivor_apart true n f = f
survivor_apart false n f = f

-- lines that start no callback
none_mapped : {X : Type 0} (f : X → Event) (xs : List X) (n : ℕ) → ((x : X) → f x ≢ Enter Callback n) → ¬ Includes (map f xs) (Enter Callback n)
none_mapped f xs n h m = let x = Includes-map_cases f xs (Enter Callback n) m in h x.0 x.2

none_if : (b : Bool) (lines : List Event) (n : ℕ) → ¬ Includes lines (Enter Callback n) → ¬ Includes (lines_if b lines) (Enter Callback n)
none_if true lines n h m = h m
none_if false lines n h m = m

none_appended : (xs ys : List Event) (n : ℕ) → ¬ Includes xs (Enter Callback n) → ¬ Includes ys (Enter Callback n) → ¬ Includes (xs ++ ys) (Enter Callback n)
none_appended xs ys n h k m = either (Includes-append_cases xs ys (Enter Callback n) m) h k

-- a condemned object, found by its serial
condemned_at : (objects : List Object) (o : ℕ) → is_condemned_in objects o ≡ true → (z : Object) × Includes objects z × (z.serial ≡ o) × (is_condemned z ≡ true)
condemned_at objects o t = go (object_at objects o) refl t
  where
    go : (m : Option Object) → object_at objects o ≡ m → unwrap_or (option_map is_condemned m) false ≡ true → (z : Object) × Includes objects z × (z.serial ≡ o) × (is_condemned z ≡ true)
    go None e k = absurd (let no : false ≡ true = k in cc)
    go (Some z) e k = let f = found_at objects o z e in (z, f.0, f.1, k)

module _ (script : Script) (c : Collection) (below : List Activity) (v : World) (rises : Rises 1 v.next_serial v.objects) where
  abbrev at : CollectPhase → World
  at phase = collection_at c phase below v

  to : {w after next : World} {events : List Event} → after ≡ next → Acts script w below events next → Acts script w below events after
  to {w} {after} {next} {events} e h = subst (Acts script w below events) (sym e) h

  goes : (phase : CollectPhase) (d : Collection) (events : List Event) (after : World) → after.names ≡ v.names → after.next_serial ≡ v.next_serial → after.stack
      ≡ Collecting d ∷ below → Grows (at phase) v.objects after.objects
      → ((weak : ℕ) → Includes (to_call_in d.phase) weak → Waited (at phase) weak) → ((n : ℕ) → ¬ Includes events (Enter Callback n)) → Acts script (at phase) below events after
  goes phase d events after names serial stack grows waits none = acts script (at phase) below events after names serial grows (Collecting d ∷ []) stack
      (one_raised script (at phase) below (Collecting d) waits) none

  gives : (phase : CollectPhase) (refs : List ℕ) (d : Collection) (after : World) → after.names ≡ v.names → after.next_serial ≡ v.next_serial → after.stack
      ≡ Releasing refs ∷ Collecting d ∷ below → Grows (at phase) v.objects after.objects
      → ((weak : ℕ) → Includes (to_call_in d.phase) weak → Waited (at phase) weak) → Acts script (at phase) below [] after
  gives phase refs d after names serial stack grows waits = acts script (at phase) below [] after names serial grows (Releasing refs ∷ Collecting d ∷ []) stack
      (two_raised script (at phase) below (Releasing refs) (Collecting d) tt waits) (λ n m. m)

  waits_still : (phase : CollectPhase) (n : ℕ) → Includes (to_call_in phase) n → Waited (at phase) n
  waits_still phase n m = inl (Includes-append_left (to_call_in phase) (all_to_call below) n m)

  same : (phase : CollectPhase) → Grows (at phase) v.objects v.objects
  same phase = grows_same (at phase) v.objects

  module _ (events : List Event) (after : World) (step : StartStep script (at Start) c below events after) where
    abbrev in_merge : Object → Object
    in_merge x = with_place (merged_place c.generation x.place) x

    one_started : (x : Object) → Includes v.objects x → (b : Bool) → is_at (Gen c.generation) (in_merge x) ≡ b
        → Ages (at Start) x (if b then with_place (step.places (in_merge x)) (in_merge x) else in_merge x)
    one_started x m true t =
        let there : Includes (objects_at (merged c.generation (at Start)).objects (Gen c.generation)) (in_merge x) = Includes-filter (is_at (Gen c.generation))
        (merged c.generation (at Start)).objects (in_merge x) t (Includes-map in_merge v.objects x m) in
        placed_ages (at Start) (step.places (in_merge x)) x (λ f. inr (
          c.generation,
          Includes-map (λ (z : Object). z.serial) (objects_at (merged c.generation (at Start)).objects (Gen c.generation)) (in_merge x) there,
          λ s. survivor_apart _ _ (subst IsFound (step.sorts.survivors (in_merge x) there s) f),
        ))
    one_started x m false t = placed_ages (at Start) (merged_place c.generation x.place) x (λ f. inl (merged_found c.generation x.place f))

    start_grows : Grows (at Start) v.objects (sorted c.generation step.places (map in_merge v.objects))
    start_grows y m =
        let z = Includes-map_cases (λ x. if is_at (Gen c.generation) x then with_place (step.places x) x else x) (map in_merge v.objects) y m in
        let x = Includes-map_cases in_merge v.objects z.0 z.1 in (
          x.0,
          x.1,
          subst (Ages (at Start) x.0) z.2 (subst (λ (q : Object). Ages (at Start) x.0 (if is_at (Gen c.generation) q then with_place (step.places q) q
              else q)) x.2 (one_started x.0 x.1 (is_at (Gen c.generation) (in_merge x.0)) refl)),
        )

    start_none : (n : ℕ) → ¬ Includes events (Enter Callback n)
    start_none n m = none_appended ((GcStart c.generation ∷ []) ++ lines_if (has_flag c.flags stats) (gens_line v.objects ∷ []))
        (lines_if (has_flag c.flags collectable) (map GcCollectable step.collectables)) n
        (none_appended (GcStart c.generation ∷ []) (lines_if (has_flag c.flags stats) (gens_line v.objects ∷ [])) n (λ i. either i (λ e. cc) (λ no. no))
        (none_if (has_flag c.flags stats) (gens_line v.objects ∷ []) n (λ i. either i (λ e. cc) (λ no. no))))
        (none_if (has_flag c.flags collectable) (map GcCollectable step.collectables) n (none_mapped GcCollectable step.collectables n (λ x e. cc)))
        (subst (λ (es : List Event). Includes es (Enter Callback n)) step.lines m)

    start_acts : Acts script (at Start) below events after
    start_acts = to step.world (goes Start (record c { phase = WeakClearing [] }) events _ refl
        refl refl start_grows (λ weak m. absurd m) start_none)

  referent_of : (w : World) → w.objects ≡ v.objects → (x : Object) → Includes v.objects x → (test : Bool) (r : Option ℕ) → x.referent ≡ r → waits v.objects x.serial ≡ true
      → (test && unwrap_or (option_map (λ o. is_condemned_in v.objects o || is_condemned x) r) false) ≡ true → Loses w x.serial
  referent_of w is x m test None e calls t = absurd (let no : false ≡ true = (true_and test false t).1 in cc)
  referent_of w is x m test (Some q) e calls t = record {
    object = x;
    member = subst (λ os. Includes os x) (sym is) m;
    same = refl;
    referent = q;
    refers = e;
    lost = inr (either (true_or (is_condemned_in v.objects q) (is_condemned x) (true_and test (is_condemned_in v.objects q || is_condemned x) t).1)
        (λ k. subst (λ os. (z : Object) × Includes os z × (z.serial ≡ q) × (is_condemned z ≡ true)) (sym is) (condemned_at v.objects q k))
        (λ k. let calm = (true_and (not (is_condemned_in v.objects x.serial)) (is_some (callback_of v.objects x.serial)) calls).0 in
        let own : is_condemned_in v.objects x.serial ≡ is_condemned x = ap (λ z. unwrap_or (option_map is_condemned z) false) (at_member 1 v.next_serial v.objects x rises m) in
        absurd (let no : false ≡ true = sym (ap not (own ∙ k)) ∙ calm in cc)));
  }

  weak_calling_acts : (waiting : List ℕ) → (let t : Transition = calls_back script c waiting below (at (WeakCalling waiting)) in Acts script (at (WeakCalling waiting)) below t.0 t.1)
  weak_calling_acts [] = goes (WeakCalling []) (record c { phase = Finalizing }) [] _ refl refl refl (same (WeakCalling [])) (λ weak m. absurd m) (λ n m. m)
  weak_calling_acts (weak ∷ waiting) =
      let w : World = at (WeakCalling (weak ∷ waiting)) in
      let callback = unwrap_or (callback_of v.objects weak) 0 in
      starts_acts script w below (record { sort = Callback; proc = procedure_of w callback; subject = weak; func = Some callback })
      (collection_at c (AfterCallback weak waiting) below w) (Collecting (record c { phase = AfterCallback weak waiting })) refl refl
      (same (WeakCalling (weak ∷ waiting))) refl
      (λ n m. waits_still (WeakCalling (weak ∷ waiting)) n (inr m)) (inl refl, refl) (λ s. (waiting, refl, λ m i. i))

  after_release_acts : (weak : ℕ) (waiting : List ℕ) → (let t : Transition = after_release c weak waiting below (at (AfterRelease weak waiting))
      in Acts script (at (AfterRelease weak waiting)) below t.0 t.1)
  after_release_acts weak waiting = called_back_either (Acts script (at (AfterRelease weak waiting)) below) c weak waiting below (at (AfterRelease weak waiting))
      (λ t. goes (AfterRelease weak waiting) (record c { phase = WeakCalling waiting }) [] _ refl refl refl (grows_place (at (AfterRelease weak waiting))
      (Gen (older c.generation)) weak v.objects (λ f. f)) (waits_still (AfterRelease weak waiting)) (λ n m. m))
      (λ t. goes (AfterRelease weak waiting) (record c { collected = c.collected + 1; phase = WeakCalling waiting }) [] _ refl refl refl
      (same (AfterRelease weak waiting)) (waits_still (AfterRelease weak waiting)) (λ n m. m))

  -- a condemned object is visited
  seen_ages : (f : Object → Object) (o : ℕ) → Includes (serials_at v.objects Cand) o → ((x : Object) → Includes v.objects x → IsFound x.place
      → Ages (at Finalizing) x (f x)) → Grows (at Finalizing) v.objects (change f o v.objects)
  seen_ages f o cand h = grows_if (at Finalizing) f (λ x. x.serial == o) v.objects (λ x m t.
      let z = Includes-map_cases (λ (q : Object). q.serial) (objects_at v.objects Cand) o cand in
      let k = Includes-filter_cases (is_at Cand) v.objects z.0 z.1 in
      let is : z.0 ≡ x = same_object 1 v.next_serial v.objects z.0 x rises k.0 m (z.2 ∙ sym (eqb-true x.serial o t)) in
      h x m (found_at_place x.place Cand tt (subst (λ (q : Object). is_at Cand q ≡ true) is k.1)))

  -- the second reachability pass
  all_lose_grows : (w : World) (wanted : Object → Bool) (weaks : List ℕ) (objects after : List Object) → AllLose wanted objects weaks after → Grows w objects after
  all_lose_grows w = came_all_lose (Ages w) (ages w) (lost_ages w)

  -- a saved object was partitioned
  saved_grows : (w : World) (o : ℕ) (objects : List Object) → IsAside w o → Grows w objects (saved o objects)
  saved_grows w o objects aside = grows_if w (λ x. with_entries (x.entries ++ item (Ref o) ∷ []) x) (λ x. x.serial == 1) objects (λ x m t. record {
    later = record { serial = refl; code = refl; class = refl; referent = inl refl };
    refers = λ n i. either (references-append x.entries (item (Ref o) ∷ []) n i) (λ k. inl k) (λ k. either k (λ e. inr (subst (IsAside w) e aside)) (λ no. absurd no));
    place = λ f. inl f;
  })

  all_saved_grows : (w : World) (keeps : List ℕ) (objects : List Object) → ((o : ℕ) → Includes keeps o → IsAside w o) → Grows w objects (all_saved keeps objects)
  all_saved_grows w keeps objects aside = all_saved_by (Grows w) (came (Ages w) (ages w)) keeps (λ o m now. saved_grows w o now (aside o m)) objects

  turn_acts : (x : Object) → Includes (objects_at v.objects Cand) x → (let t : Transition = takes_turn c x below (at Turns) in Acts script (at Turns) below t.0 t.1)
  turn_acts x member = turn_either (Acts script (at Turns) below) c x below (at Turns)
      (λ t. goes Turns (record c { phase = Turns }) (GcSaved x.serial ∷ []) _ refl refl refl
      (grows_trans (at Turns) v.objects (saved x.serial v.objects) (change (with_place (Gen (older c.generation))) x.serial (saved x.serial v.objects))
      (saved_grows (at Turns) x.serial v.objects aside) (grows_place (at Turns) (Gen (older c.generation)) x.serial (saved x.serial v.objects)
      (λ f. f)))
      (λ weak m. absurd m) (λ n m. either m (λ e. cc) (λ no. no)))
      (λ t s. goes Turns (record c { phase = Turns }) [] _ refl refl refl (grows_place (at Turns) (Gen (older c.generation)) x.serial v.objects (λ f. f)) (λ weak m. absurd m) (λ n m. m))
      (λ t s. goes Turns (record c { phase = Turn x.serial }) [] _ refl refl refl (same Turns) (λ weak m. absurd m) (λ n m. m))
    where
      aside : IsAside (at Turns) x.serial
      aside = let k = Includes-filter_cases (is_at Cand) v.objects x member in (x, k.0, refl, found_at_place x.place Cand tt k.1)

  pub phase_acts : (phase : CollectPhase) (events : List Event) (after : World) → PhaseStep script c phase below (at phase) events after → Acts script (at phase) below events after
  phase_acts Start events after step = start_acts events after step
  phase_acts (WeakClearing waiting) events after (inl step) = yields_acts step.yields (go (waits v.objects step.weak) refl)
    where
      w : World
      w = at (WeakClearing waiting)

      lost : List Object
      lost = loses_referent step.weak v.objects

      none : (n : ℕ) → ¬ Includes (Cleared step.weak ∷ []) (Enter Callback n)
      none n m = either m (λ e. cc) (λ no. no)

      loses : waits v.objects step.weak ≡ true → Loses w step.weak
      loses t =
          let k = subst (λ (n : ℕ). waits v.objects n ≡ true) (sym step.newest.is) t in
          subst (Loses w) step.newest.is (referent_of w refl step.newest.object step.newest.member _ step.newest.object.referent refl k step.newest.to_lose)

      go : (b : Bool) → waits v.objects step.weak ≡ b → (let next : World = if b then collection_at c (WeakClearing (waiting ++ step.weak ∷ [])) below
          (with_objects (change (with_place Pend) step.weak lost) w) else collection_at c (WeakClearing waiting) below (with_objects lost w)
          in Acts script w below (Cleared step.weak ∷ []) next)
      go true t = goes (WeakClearing waiting) (record c { phase = WeakClearing (waiting ++ step.weak ∷ []) }) (Cleared step.weak ∷ []) _ refl refl refl
          (grows_trans w v.objects lost (change (with_place Pend) step.weak lost) (grows_lost w step.weak v.objects) (grows_place w Pend step.weak lost (λ f. f)))
          (λ n m. either (Includes-append_cases waiting (step.weak ∷ []) n m) (waits_still (WeakClearing waiting) n) (λ i. either i (λ e. inr (subst (Loses w) e (loses t))) (λ no. absurd no))) none
      go false t = goes (WeakClearing waiting) (record c { phase = WeakClearing waiting }) (Cleared step.weak ∷ []) _ refl refl refl
          (grows_lost w step.weak v.objects) (waits_still (WeakClearing waiting)) none
  phase_acts (WeakClearing waiting) events after (inr step) = yields_acts step.1 (goes (WeakClearing waiting) (record c { phase = WeakCalling waiting }) [] _
      refl refl refl (same (WeakClearing waiting)) (waits_still (WeakClearing waiting)) (λ n m. m))
  phase_acts (WeakCalling waiting) events after step = yields_acts step (weak_calling_acts waiting)
  phase_acts (AfterCallback weak waiting) events after step = yields_acts step (gives (AfterCallback weak waiting) (weak ∷ [])
      (record c { phase = AfterRelease weak waiting }) _ refl refl refl (same (AfterCallback weak waiting)) (waits_still (AfterCallback weak waiting)))
  phase_acts (AfterRelease weak waiting) events after step = yields_acts step (after_release_acts weak waiting)
  phase_acts Finalizing events after (inl step) = yields_acts step.yields (option_either (Acts script (at Finalizing) below) (looks_at script c step.object below (at Finalizing)) (option_and_then (finalizer_to_run script) (object_at v.objects step.object))
      (λ e. goes Finalizing (record c { phase = Finalizing }) [] _ refl refl refl (seen_ages (with_place Seen) step.object step.condemned
      (λ x m f. placed_ages (at Finalizing) Seen x (λ g. inl f))) (λ weak m. absurd m) (λ n m. m))
      (λ p e. starts_acts script (at Finalizing) below (record { sort = Del; proc = p; subject = step.object; func = None })
      (collection_at c (AfterFinalizing step.object) below (with_change (λ x. marked (with_place Seen x)) step.object (at Finalizing)))
      (Collecting (record c { phase = AfterFinalizing step.object })) refl refl
      (seen_ages (λ x. marked (with_place Seen x)) step.object step.condemned (λ x m f. record {
        later = record { serial = refl; code = refl; class = refl; referent = inl refl };
        refers = λ n i. inl i;
        place = λ g. inl f;
      })) refl (λ weak m. absurd m) (to_run_is script v.objects step.object p e) (λ s. absurd (let no : Del ≡ Callback = s
      in cc))))
  phase_acts Finalizing events after (inr step) = yields_acts step.1
      (goes Finalizing (record c { phase = Split }) [] _ refl refl refl (grows_if (at Finalizing) (with_place Cand) (is_at Seen) v.objects
      (λ x m t. placed_ages (at Finalizing) Cand x (λ g. inl (found_at_place x.place Seen tt t)))) (λ weak m. absurd m) (λ n m. m))
  phase_acts (AfterFinalizing o) events after step = yields_acts step (gives (AfterFinalizing o) (o ∷ []) (record c { phase = Finalizing }) _ refl refl refl (same (AfterFinalizing o)) (λ weak m. absurd m))
  phase_acts Split events after step = to step.world
      (goes Split (record c { collected = c.collected + length (serials_at step.objects Cand); phase = Turns }) events _ refl refl refl
      (grows_trans (at Split) v.objects (get_older c.generation step.alive v.objects) step.objects
      (grows_at (at Split) (Gen (older c.generation)) (λ x. includes step.alive x.serial) v.objects (λ f. f))
      (all_lose_grows (at Split) _ step.cleared (get_older c.generation step.alive v.objects) step.objects step.lose))
      (λ weak m. absurd m) (λ n m. none_appended (map Alive step.alive) (map Cleared step.cleared) n (none_mapped Alive step.alive n (λ x e. cc))
      (none_mapped Cleared step.cleared n (λ x e. cc)) (subst (λ (es : List Event). Includes es (Enter Callback n)) step.lines m)))
  phase_acts Turns events after (inl step) = yields_acts step.yields (turn_acts step.object step.member)
  phase_acts Turns events after (inr step) = yields_acts step.1 (goes Turns (record c { phase = Ending }) [] _
      refl refl refl (same Turns) (λ weak m. absurd m) (λ n m. m))
  phase_acts (Turn o) events after step = yields_acts step (option_either (Acts script (at (Turn o)) below) (empties c o below (at (Turn o))) (last_entry (entries_of v.objects o))
      (λ e. gives (Turn o) (o ∷ []) (record c { phase = AfterTurn o }) _ refl refl refl (same (Turn o)) (λ weak m. absurd m))
      (λ entry e. gives (Turn o) (entry_references entry) (record c { phase = Turn o }) _ refl refl refl
      (shortened_grows (at (Turn o)) 1 v.next_serial v.objects o rises) (λ weak m. absurd m)))
  phase_acts (AfterTurn o) events after step = yields_acts step
      (goes (AfterTurn o) (record c { phase = Turns }) [] _ refl refl refl (grows_place (at (AfterTurn o)) (Gen (older c.generation)) o v.objects (λ f. f))
      (λ weak m. absurd m) (λ n m. m))
  phase_acts Ending events after step = to step.world (acts script (at Ending) below events _ refl refl grows [] refl (λ a m. absurd m) none)
    where
      aside : (o : ℕ) → Includes step.keeps o → IsAside (at Ending) o
      aside o m =
          let i = same_lives step.keeps (serials (filter (is_saved script c) v.objects)) step.keeps_order o m in
          let x = Includes-map_cases (λ (q : Object). q.serial) (filter (is_saved script c) v.objects) o i in
          let k = Includes-filter_cases (is_saved script c) v.objects x.0 x.1 in
          (x.0, k.0, x.2, found_at_place x.0.place Legacy tt (true_and (is_at Legacy x.0) (has_flag c.flags save_all || is_some (legacy_of script x.0)) k.1).0)

      kept : List Object
      kept = all_saved step.keeps v.objects

      grows : Grows (at Ending) v.objects (map (λ x. if is_at Legacy x then with_place (Gen (older c.generation)) x else x) kept)
      grows = grows_trans (at Ending) v.objects kept _ (all_saved_grows (at Ending) step.keeps v.objects aside)
          (grows_at (at Ending) (Gen (older c.generation)) (is_at Legacy) kept (λ f. f))

      none : (n : ℕ) → ¬ Includes events (Enter Callback n)
      none n m = none_appended (lines_if (has_flag c.flags uncollectable) (map GcUncollectable step.told) ++ map GcSaved step.keeps)
          (GcStop c.generation c.collected (length step.told) ∷ lines_if c.asked (Collected (c.collected + length step.told) ∷ [])) n
          (none_appended (lines_if (has_flag c.flags uncollectable) (map GcUncollectable step.told)) (map GcSaved step.keeps) n
          (none_if (has_flag c.flags uncollectable) (map GcUncollectable step.told) n (none_mapped GcUncollectable step.told n (λ x e. cc)))
          (none_mapped GcSaved step.keeps n (λ x e. cc)))
          (λ i. either i (λ e. cc) (none_if c.asked (Collected (c.collected + length step.told) ∷ []) n (λ k. either k (λ e. cc) (λ no. no))))
          (subst (λ (es : List Event). Includes es (Enter Callback n)) step.lines m)
