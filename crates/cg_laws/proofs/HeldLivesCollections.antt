-- Collections keep the invariant of held objects: a waiting weak reference is held, so it is never condemned.
use Rattle.std.proofs.Common.{◌≡◌, ◌≢◌, refl, sym, ◌∙◌, ap, subst, ℕ, ◌+◌, ◌-◌, ◌<◌, ◌≤◌, Bool, true, false, not, length, inl, inr, ◌⊎◌, List, [], ◌∷◌, ◌++◌, map, Option, Some, None, arith}
use Rattle.std.specs.Prelude.{◌==◌, ◌||◌, if◌then◌else◌, flat_map, filter, is_some, option_map, option_and_then, unwrap_or}
use Rattle.std.proofs.lemmas.Bool.{eqb-true, eq-eqb, and_parts}
use Rattle.cg_value.specs.declared.Entry.{Entry}
use Rattle.cg_value.specs.declared.Place.{Place}
use Rattle.cg_value.specs.declared.Place.TheVariants.{Gen, Cand, Seen, Legacy, Pend}
use Rattle.cg_script.specs.declared.Script.{Script}
use Rattle.cg_graph.specs.Member.{Includes, includes}
use Rattle.cg_graph.specs.Value.{references, entry_references, last_entry, without_last}
use Rattle.cg_graph.specs.Object.{Object, change, object_at, entries_of, is_at, with_place, with_entries, with_referent, marked, serials, serials_at, objects_at}
use Rattle.cg_graph.specs.Holdings.{occurrences}
use Rattle.cg_graph.proofs.Members.{either, or_left, or_right, Includes-append_left, Includes-append_cases, Includes-map, Includes-map_cases, Includes-filter, Includes-filter_cases}
use Rattle.cg_machine.specs.declared.event.Event.{Event}
use Rattle.cg_machine.specs.declared.event.FrameSort.TheVariants.{Del, Callback}
use Rattle.cg_machine.specs.Program.{profile_of}
use Rattle.cg_machine.specs.World.{World, Activity, Collecting, Collection, CollectPhase, Start, WeakClearing, WeakCalling, AfterCallback, AfterRelease, Finalizing, AfterFinalizing, Split, Turns, Turn, AfterTurn, Ending, push, with_change, with_objects}
use Rattle.cg_machine.specs.World.{Releasing}
use Rattle.cg_machine.specs.Frame.{procedure_of}
use Rattle.cg_machine.specs.Holdings.{holds, collect_holds}
use Rattle.cg_machine.specs.Weak.{loses_referent, callback_in, callback_of}
use Rattle.cg_machine.specs.Dying.{finalizer_to_run}
use Rattle.cg_machine.specs.Collect.{collection_at, merged, merged_place, untrack, untracked_if, older, is_condemned, is_condemned_in, waits, ClearsOne, calls_back, after_release, looks_at, IsMemberOf, get_older, loses_at_split, takes_turn, saved, all_saved, is_saved, empties, after_turn, PhaseStep}
use Rattle.cg_represents.proofs.Serials.{Rises}
use Rattle.cg_represents.proofs.Lists.{occurrences-cons, slice_get_member, present, Includes-of_count}
use Rattle.cg_laws.proofs.Unreferred.{IsLater, place_later, lives_after, lost_alters, entries_alter, change_alters, still_later}
use Rattle.cg_laws.proofs.Lookups.{same_object, callback_at, references_of_member, references_take, at_member}
use Rattle.cg_laws.proofs.UnheldDeaths.{some_not_none}
use Rattle.cg_represents.specs.Orderly.{collection_waits, all_waits, IsWaiting}
use Rattle.cg_laws.proofs.HeldLives.{IsClearing, Orderly, if_orderly, entries_orderly, pop_orderly, turns_fewer, turns_more, waits_held, MayRefer, CallsNone}
use Rattle.cg_laws.proofs.HeldLivesDeaths.{HasOrder, lost_orderly, false_true, starts_orderly, gives_up_orderly, found_entries_live, callback_shorter, found_callback}
use Rattle.cg_laws.proofs.Condemned.{held_survives, survivor_uncondemned, merged_uncondemned, saved_orderly, all_saved_orderly, all_lose_orderly, placed_orderly}
use Rattle.cg_laws.proofs.Clearing.{refers_early, kept_late}
use Rattle.cg_laws.proofs.Starting.{turn_either, called_back_either}

module _ (script : Script) (c : Collection) (below : List Activity) (v : World) (rises : Rises 1 v.next_serial v.objects) where
  abbrev at : CollectPhase → World
  at phase = collection_at c phase below v

  abbrev collecting : Collection → CollectPhase → Activity
  collecting d phase = Collecting (record d { phase = phase })

  -- The collection goes to a phase with no more waiting weak references.
  goes_to : (phase next : CollectPhase) (d : Collection) (objects : List Object) → ((s : ℕ) → Includes (collect_holds next) s → Includes (serials objects) s)
      → ((weak : ℕ) → Includes (collection_waits next) weak → Includes (collection_waits phase) weak)
      → ((weak : ℕ) → occurrences weak (collection_waits next) ≤ occurrences weak (collection_waits phase))
      → ((o : ℕ) → next ≡ Turn o → (¬ Includes (all_waits (collecting c phase ∷ below)) o) × ((x : Object) → Includes objects x → x.serial ≡ o → CallsNone x))
      → ((x : Object) → Includes objects x → is_condemned x ≡ true → MayRefer x.entries (collecting c phase ∷ below) → (x.referent ≡ None) ⊎ MayRefer x.entries (collecting d next ∷ below))
      → Orderly objects v.names (collecting c phase ∷ below) → Orderly objects v.names (collecting d next ∷ below)
  goes_to phase next d objects held fewer count turn clearing h = turns_fewer (collecting c phase) (collecting d next) h held (λ e i. cc) fewer count
      (λ e o i k. turn o (phase_is e i ∙ k)) clearing
    where
      phase_is : (e : Collection) → collecting d next ≡ Collecting e → next ≡ e.phase
      phase_is e i = let same : record d { phase = next } ≡ e = cc in ap (λ (z : Collection). z.phase) same

  own_held : (phase : CollectPhase) (objects : List Object) → Orderly objects v.names (collecting c phase ∷ below) → (s : ℕ) → Includes (collect_holds phase) s → Includes (serials objects) s
  own_held phase objects h s m = h.stack_lives s (Includes-append_left (collect_holds phase) (flat_map holds below) s m)

  to : (after next : World) → after ≡ next → HasOrder next → HasOrder after
  to after next e k = subst HasOrder (sym e) k

  lost_one : (r : Option ℕ) (f : ℕ → Bool) → unwrap_or (option_map f r) false ≡ true → (s : ℕ) × (r ≡ Some s)
  lost_one None f e = absurd (let no : false ≡ true = e in cc)
  lost_one (Some s) f e = (s, refl)

  clears_orderly : (waiting : List ℕ) (events : List Event) (after : World) → ClearsOne (profile_of script.items) c waiting below (at (WeakClearing waiting))
      events after → HasOrder (at (WeakClearing waiting)) → HasOrder after
  clears_orderly waiting events after step h = to after _ step.yields.1 (go (waits v.objects step.weak) refl)
    where
      weak : ℕ
      weak = step.weak

      y : Object
      y = step.newest.object

      refers : (s : ℕ) × (y.referent ≡ Some s)
      refers = lost_one y.referent _ (refers_early (profile_of script.items) v.objects step.newest.object step.newest.to_lose)

      some : y.referent ≢ None
      some n = let no : None ≡ Some refers.0 = sym n ∙ refers.1 in cc

      calls_back : waits v.objects weak ≡ true → callback_in y.entries ≡ None → ⊥
      calls_back calls n =
          let at : callback_of v.objects weak ≡ callback_in y.entries = ap (callback_of v.objects) (sym step.newest.is) ∙ callback_at 1 v.next_serial v.objects y rises step.newest.member in
          let no : false ≡ true = sym (ap (λ k. is_some k) (at ∙ n)) ∙ (and_parts (not (is_condemned_in v.objects weak)) (is_some (callback_of v.objects weak)) calls).1 in cc

      lost : List Object
      lost = loses_referent weak v.objects

      pending : List Object
      pending = change (with_place Pend) weak lost

      stack : List Activity
      stack = (at (WeakClearing waiting)).stack

      lost_now : Orderly lost v.names stack
      lost_now = lost_orderly weak h

      pending_now : Orderly pending v.names stack
      pending_now = placed_orderly Pend weak lost v.names stack (λ x e. false_true e) lost_now

      weak_lives : (s : ℕ) → weak ≡ s → Includes (serials pending) s
      weak_lives s e = lives_after lost pending (change_alters (with_place Pend) (place_later Pend) weak lost) s (lives_after v.objects lost (lost_alters weak v.objects) s
          (subst (Includes (serials v.objects)) (step.newest.is ∙ e) (Includes-map (λ (z : Object). z.serial) v.objects y step.newest.member)))

      is : waits v.objects weak ≡ true → (x : Object) → Includes pending x → x.serial ≡ weak → IsWaiting x × (is_condemned x ≡ false)
      is calls x m same =
          let a = Includes-map_cases (λ x. if x.serial == weak then with_place Pend x else x) lost x m in
          let b = Includes-map_cases (λ x. if x.serial == weak then with_referent None x else x) v.objects a.0 a.1 in
          subst (λ (q : Object). q.serial ≡ weak → IsWaiting q × (is_condemned q ≡ false)) a.2
          (subst (λ (q : Object). (if q.serial == weak then with_place Pend q else q).serial ≡ weak → IsWaiting (if q.serial == weak then with_place Pend q
          else q) × (is_condemned (if q.serial == weak then with_place Pend q else q) ≡ false)) b.2 (one b.0 b.1 (b.0.serial == weak) refl)) same
        where
          calls_back_some : is_some (callback_of v.objects weak) ≡ true
          calls_back_some = (and_parts (not (is_condemned_in v.objects weak)) (is_some (callback_of v.objects weak)) calls).1

          pend : Object → Object
          pend q = if q.serial == weak then with_place Pend q else q

          one : (x : Object) → Includes v.objects x → (t : Bool) → (x.serial == weak) ≡ t → (pend (if t then with_referent None x else x)).serial ≡ weak
              → IsWaiting (pend (if t then with_referent None x else x)) × (is_condemned (pend (if t then with_referent None x else x)) ≡ false)
          one x m true t i = two (x.serial == weak) t
            where
              at_weak : x.serial ≡ weak
              at_weak = eqb-true x.serial weak t

              same_y : x ≡ y
              same_y = same_object 1 v.next_serial v.objects x y rises m step.newest.member (at_weak ∙ sym step.newest.is)

              two : (b : Bool) → b ≡ true → IsWaiting (if b then with_place Pend (with_referent None x) else with_referent None x)
                  × (is_condemned (if b then with_place Pend (with_referent None x) else with_referent None x) ≡ false)
              two true b = (
                record {
                  code = h.codes x m refers.0 (ap (λ (q : Object). q.referent) same_y ∙ refers.1);
                  referent = refl;
                  callback = some_not_none (callback_in x.entries) (ap (λ k. is_some k) (sym (callback_at 1 v.next_serial v.objects x rises m) ∙ ap (callback_of v.objects) at_weak) ∙ calls_back_some);
                },
                refl,
              )
              two false b = false_true b
          one x m false t i = two (x.serial == weak) t i
            where
              two : (b : Bool) → b ≡ false → (if b then with_place Pend x else x).serial ≡ weak → IsWaiting (if b then with_place Pend x else x)
                  × (is_condemned (if b then with_place Pend x else x) ≡ false)
              two true b k = absurd (let no : true ≡ false = b in cc)
              two false b k = absurd (let no : true ≡ false = sym (eq-eqb x.serial weak k) ∙ t in cc)

      go : (b : Bool) → waits v.objects weak ≡ b → HasOrder (if b then collection_at c (WeakClearing (waiting ++ weak ∷ [])) below
          (with_objects pending (at (WeakClearing waiting))) else collection_at c (WeakClearing waiting) below (with_objects lost (at (WeakClearing waiting))))
      go true calls = turns_more (collecting c (WeakClearing waiting)) (collecting c (WeakClearing (waiting ++ weak ∷ []))) weak pending_now
          (λ s m. either (Includes-append_cases waiting (weak ∷ []) s m) (own_held (WeakClearing waiting) pending pending_now s) (λ k. either k (weak_lives s) (λ n. absurd n)))
          (λ d i. cc) refl (λ k. some (h.waiting weak k y step.newest.member step.newest.is).referent) (is calls)
          (λ e m s k i. either ((h.turns e (inr m) s k).1 y step.newest.member (step.newest.is ∙ i)) some (λ n. calls_back calls n))
          (λ e s i k. not_turn e s (phase_is e i) k) (λ x m e k. inr (inl tt))
        where
          phase_is : (e : Collection) → collecting c (WeakClearing (waiting ++ weak ∷ [])) ≡ Collecting e → WeakClearing (waiting ++ weak ∷ []) ≡ e.phase
          phase_is e i = let same : record c { phase = WeakClearing (waiting ++ weak ∷ []) } ≡ e = cc in ap (λ (z : Collection). z.phase) same

          not_turn : (e : Collection) (s : ℕ) → WeakClearing (waiting ++ weak ∷ []) ≡ e.phase → e.phase ≢ Turn s
          not_turn e s i k = let no : WeakClearing (waiting ++ weak ∷ []) ≡ Turn s = i ∙ k in cc
      go false calls = lost_now

  calls_back_orderly : (waiting : List ℕ) → HasOrder (at (WeakCalling waiting)) → HasOrder (calls_back script c waiting below (at (WeakCalling waiting))).1
  calls_back_orderly [] h = goes_to (WeakCalling []) Finalizing c v.objects (λ s k. absurd k) (λ weak k. k) (λ weak. omega arith) (λ o i. cc) (λ x m e k. inr k) h
  calls_back_orderly (weak ∷ waiting) h =
      let callback = unwrap_or (callback_of v.objects weak) 0 in
      starts_orderly script (record { sort = Callback; proc = procedure_of (at (WeakCalling (weak ∷ waiting))) callback; subject = weak; func = Some callback })
      (at (AfterCallback weak waiting)) (λ k. k) (λ s k. absurd k)
      (goes_to (WeakCalling (weak ∷ waiting)) (AfterCallback weak waiting) c v.objects (own_held (WeakCalling (weak ∷ waiting)) v.objects h) (λ s k. k)
      (λ s. omega arith) (λ o i. cc) (λ x m e k. inr k) h)

  after_callback_orderly : (weak : ℕ) (waiting : List ℕ) → HasOrder (at (AfterCallback weak waiting)) → HasOrder (push (Releasing (weak ∷ [])) (at (AfterRelease weak waiting)))
  after_callback_orderly weak waiting h = gives_up_orderly (weak ∷ []) (at (AfterRelease weak waiting)) (λ k. k) (λ s m. own_held (AfterCallback weak waiting)
      v.objects h s (either m (λ e. inl e) (λ n. absurd n)))
      (goes_to (AfterCallback weak waiting) (AfterRelease weak waiting) c v.objects (λ s m. own_held (AfterCallback weak waiting) v.objects h s (inr m))
      (λ s k. inr k) (λ s. omega (arith, occurrences-cons s weak waiting)) (λ o i. cc) (λ x m e k. inr k) h)

  after_release_orderly : (weak : ℕ) (waiting : List ℕ) → HasOrder (at (AfterRelease weak waiting)) → HasOrder (after_release c weak waiting below (at (AfterRelease weak waiting))).1
  after_release_orderly weak waiting h = called_back_either (λ lines. HasOrder) c weak waiting below (at (AfterRelease weak waiting))
      (λ t. placed_orderly place weak v.objects v.names (collecting c (WeakCalling waiting) ∷ below) (λ x e. false_true e) (turned c))
      (λ t. turned (record c { collected = c.collected + 1 }))
    where
      place : Place
      place = Gen (older c.generation)

      turned : (d : Collection) → Orderly v.objects v.names (collecting d (WeakCalling waiting) ∷ below)
      turned d = goes_to (AfterRelease weak waiting) (WeakCalling waiting) d v.objects (own_held (AfterRelease weak waiting) v.objects h) (λ s k. k) (λ s. omega arith) (λ o i. cc) (λ x m e k. inr k) h

  member_of_place : (p : Place) (o : ℕ) → Includes (serials_at v.objects p) o → (x : Object) × Includes v.objects x × (is_at p x ≡ true) × (x.serial ≡ o)
  member_of_place p o m =
      let x = Includes-map_cases (λ (z : Object). z.serial) (objects_at v.objects p) o m in
      let kept = Includes-filter_cases (is_at p) v.objects x.0 x.1 in
      (x.0, kept.0, kept.1, x.2)

  lives_at : (p : Place) (o : ℕ) → Includes (serials_at v.objects p) o → Includes (serials v.objects) o
  lives_at p o m = let x = member_of_place p o m in subst (Includes (serials v.objects)) x.3 (Includes-map (λ (z : Object). z.serial) v.objects x.0 x.1)

  seen_orderly : (f : Object → Object) (o : ℕ) (stack : List Activity) → ((x : Object) → IsLater x (f x)) → ((x : Object) → (f x).entries ≡ x.entries)
      → Includes (serials_at v.objects Cand) o → Orderly v.objects v.names stack → Orderly (change f o v.objects) v.names stack
  seen_orderly f o stack later entries member h = if_orderly f (λ x. x.serial == o) later entries (λ x m e k.
      let y = member_of_place Cand o member in
      let same : y.0 ≡ x = same_object 1 v.next_serial v.objects y.0 x rises y.1 m (y.3 ∙ sym (eqb-true x.serial o e)) in
      inl (or_left (is_at Cand x) (is_at Seen x) (ap (is_at Cand) (sym same) ∙ y.2))) h

  looks_at_orderly : (o : ℕ) (m : Option ℕ) → IsMemberOf (at Finalizing) Cand o → HasOrder (at Finalizing) → HasOrder (looks_at script c o below (at Finalizing) m).1
  looks_at_orderly o None member h = seen_orderly (with_place Seen) o (at Finalizing).stack (place_later Seen) (λ x. refl) member h
  looks_at_orderly o (Some p) member h =
      starts_orderly script (record { sort = Del; proc = p; subject = o; func = None }) (collection_at c (AfterFinalizing o) below (with_change seen o (at Finalizing))) (λ k. k) (λ s k. absurd k)
      (goes_to Finalizing (AfterFinalizing o) c (change seen o v.objects) (λ s m. either m (λ e. lives_after v.objects (change seen o v.objects)
      (change_alters seen seen_later o v.objects) s (subst (Includes (serials v.objects)) e (lives_at Cand o member))) (λ n. absurd n))
      (λ weak k. k) (λ weak. omega arith) (λ s i. cc) (λ x m e k. inr k) (seen_orderly seen o (at Finalizing).stack seen_later (λ x. refl) member h))
    where
      seen : Object → Object
      seen x = marked (with_place Seen x)

      seen_later : (x : Object) → IsLater x (seen x)
      seen_later x = still_later

  after_finalizing_orderly : (o : ℕ) → HasOrder (at (AfterFinalizing o)) → HasOrder (push (Releasing (o ∷ [])) (at Finalizing))
  after_finalizing_orderly o h = gives_up_orderly (o ∷ []) (at Finalizing) (λ k. k) (own_held (AfterFinalizing o) v.objects h)
      (goes_to (AfterFinalizing o) Finalizing c v.objects (λ s k. absurd k) (λ weak k. k) (λ weak. omega arith) (λ s i. cc) (λ x m e k. inr k) h)

  turn_orderly_at : (x : Object) → Includes v.objects x → is_at Cand x ≡ true → HasOrder (at Turns) → HasOrder (takes_turn c x below (at Turns)).1
  turn_orderly_at x m e h = turn_either (λ lines. HasOrder) c x below (at Turns)
      (λ t. placed_orderly place x.serial (saved x.serial v.objects) v.names (at Turns).stack (λ y k. false_true k)
      (saved_orderly x.serial v.objects v.names (at Turns).stack (lives x.serial (inl refl)) h))
      (λ t s. placed_orderly place x.serial v.objects v.names (at Turns).stack (λ y k. false_true k) h)
      (λ t s. goes_to Turns (Turn x.serial) c v.objects lives (λ weak k. k) (λ weak. omega arith)
      (λ o i. let same : x.serial ≡ o = cc in (subst (λ q. ¬ Includes (all_waits (at Turns).stack) q) same own.0, λ y n k. own.1 y n (k ∙ sym same))) (λ y n i k. inr k) h)
    where
      place : Place
      place = Gen (older c.generation)

      lives : (s : ℕ) → Includes (x.serial ∷ []) s → Includes (serials v.objects) s
      lives s k = either k (λ i. subst (Includes (serials v.objects)) i (Includes-map (λ (z : Object). z.serial) v.objects x m)) (λ n. absurd n)

      own : (¬ Includes (all_waits (at Turns).stack) x.serial) × ((y : Object) → Includes v.objects y → y.serial ≡ x.serial → CallsNone y)
      own =
          let k = h.condemned x m (or_left (is_at Cand x) (is_at Seen x) e) in
          (k.0, λ y n i. let same : x ≡ y = same_object 1 v.next_serial v.objects x y rises m n (sym i) in subst CallsNone same (either k.1 (λ r. inl r) (λ r. either r (λ n. absurd n) (λ n. inr n))))

  empties_orderly : (o : ℕ) (m : Option Entry) → last_entry (entries_of v.objects o) ≡ m → HasOrder (at (Turn o)) → HasOrder (empties c o below (at (Turn o)) m).1
  empties_orderly o None e h = gives_up_orderly (o ∷ []) (at (AfterTurn o)) (λ k. k) (own_held (Turn o) v.objects h)
      (goes_to (Turn o) (AfterTurn o) c v.objects (λ s k. absurd k) (λ weak k. k) (λ weak. omega arith) (λ s i. cc) (λ x m i k. inr k) h)
  empties_orderly o (Some entry) e h =
      gives_up_orderly (entry_references entry) (collection_at c (Turn o) below (with_change (with_entries shorter) o (at (Turn o)))) (λ k. k)
      (λ s m. lives_after v.objects (change (with_entries shorter) o v.objects) (entries_alter shorter o v.objects) s (found_entries_live v.objects v.names
      (at (Turn o)).stack o s h (references_of_member (entries_of v.objects o) entry s (slice_get_member (entries_of v.objects o)
      (length (entries_of v.objects o) - 1) entry e) m)))
      (entries_orderly o shorter (h.turns (record c { phase = Turn o }) (inl refl) o refl).0
      (λ f k. found_entries_live v.objects v.names (at (Turn o)).stack o f h (taken f k))
      (λ x m i w f k. subst (λ es. Includes (references es) f) (ap (λ z. unwrap_or (option_map (λ (q : Object). q.entries) z) [])
      (subst (λ s. object_at v.objects s ≡ Some x) i (at_member 1 v.next_serial v.objects x rises m))) (taken f k)) (λ x m i w n. callback_shorter
      (entries_of v.objects o) (found_callback v.objects o x (subst (λ s. object_at v.objects s ≡ Some x) i (at_member 1 v.next_serial v.objects x rises m))
      n)) h)
    where
      shorter : List Entry
      shorter = without_last (entries_of v.objects o)

      taken : (f : ℕ) → Includes (references shorter) f → Includes (references (entries_of v.objects o)) f
      taken f k = references_take (length (entries_of v.objects o) - 1) (entries_of v.objects o) f k

  after_turn_orderly : (o : ℕ) → HasOrder (at (AfterTurn o)) → HasOrder (after_turn c o below (at (AfterTurn o))).1
  after_turn_orderly o h = placed_orderly (Gen (older c.generation)) o v.objects v.names (collecting c Turns ∷ below) (λ x e. false_true e)
      (goes_to (AfterTurn o) Turns c v.objects (λ s k. absurd k) (λ weak k. k) (λ weak. omega arith) (λ s i. cc) (λ x m i k. inr k) h)

  pub phase_orderly : (phase : CollectPhase) (events : List Event) (after : World) → PhaseStep script c phase below (at phase) events after → HasOrder (at phase) → HasOrder after
  phase_orderly Start events after step h = to after _ step.world (if_orderly (λ x. with_place (step.places x) x) (is_at (Gen g))
      (λ x. place_later (step.places x) x) (λ x. refl) condemned merged_now)
    where
      g : ℕ
      g = c.generation

      now : World
      now = merged g (at Start)

      stack : List Activity
      stack = collecting c (WeakClearing []) ∷ below

      turned : Orderly v.objects v.names stack
      turned = goes_to Start (WeakClearing []) c v.objects (λ s k. absurd k) (λ weak k. k) (λ weak. omega arith) (λ o i. cc) (λ x m e k. inr (inl tt)) h

      merged_now : Orderly now.objects v.names stack
      merged_now = if_orderly (λ x. with_place (merged_place g x.place) x) (λ x. true) (λ x. place_later (merged_place g x.place) x)
          (λ x. refl) (λ x m e k. inl (merged_uncondemned g x.place x k)) turned

      condemned : (x : Object) → Includes now.objects x → is_at (Gen g) x ≡ true → is_condemned (with_place (step.places x) x) ≡ true → (is_condemned x ≡ true)
          ⊎ IsClearing stack × (¬ Includes (all_waits stack) x.serial)
      condemned x m e k = inr (
        tt,
        λ n.
            let member = Includes-filter (is_at (Gen g)) now.objects x e m in
            let survives = held_survives now (Gen g) x member (waits_held stack x.serial n) in
            let place = step.sorts.survivors x member survives in
            let no : true ≡ false = sym k ∙ ap (λ p. is_condemned (with_place p x)) place ∙ survivor_uncondemned g (untrack g step.chosen now.objects) (untracked_if (step.chosen x) x) x in
            cc,
      )
  phase_orderly (WeakClearing waiting) events after (inl step) h = clears_orderly waiting events after step h
  phase_orderly (WeakClearing waiting) events after (inr step) h = to after _ step.1.1 (goes_to (WeakClearing waiting) (WeakCalling waiting) c v.objects
      (own_held (WeakClearing waiting) v.objects h) (λ weak k. k) (λ weak. omega arith) (λ o i. cc) (λ x m e k. left x m e x.referent refl) h)
    where
      left : (x : Object) → Includes v.objects x → is_condemned x ≡ true → (r : Option ℕ) → x.referent ≡ r → (x.referent ≡ None) ⊎ MayRefer x.entries (collecting c (WeakCalling waiting) ∷ below)
      left x m e None i = inl i
      left x m e (Some r) i =
          let refers : unwrap_or (option_map (λ o. is_condemned_in v.objects o || is_condemned x) x.referent) false ≡ true =
          ap (λ k. unwrap_or (option_map (λ o. is_condemned_in v.objects o || is_condemned x) k) false) i ∙ or_right (is_condemned_in v.objects r)
          (is_condemned x) e in
          inr (inr (kept_late (profile_of script.items) v.objects x refers (step.0 x m)))
  phase_orderly (WeakCalling waiting) events after step h = to after _ step.1 (calls_back_orderly waiting h)
  phase_orderly (AfterCallback weak waiting) events after step h = to after _ step.1 (after_callback_orderly weak waiting h)
  phase_orderly (AfterRelease weak waiting) events after step h = to after _ step.1 (after_release_orderly weak waiting h)
  phase_orderly Finalizing events after (inl step) h = to after _ step.yields.1 (looks_at_orderly step.object (option_and_then (finalizer_to_run script) (object_at v.objects step.object)) step.condemned h)
  phase_orderly Finalizing events after (inr step) h = to after _ step.1.1 (goes_to Finalizing Split c back (λ s k. absurd k) (λ weak k. k) (λ weak. omega arith) (λ o i. cc) (λ x m e k. inr k)
      (if_orderly (with_place Cand) (is_at Seen) (place_later Cand) (λ x. refl) (λ x m e k. inl (or_right (is_at Cand x) (is_at Seen x) e)) h))
    where
      back : List Object
      back = map (λ x. if is_at Seen x then with_place Cand x else x) v.objects
  phase_orderly (AfterFinalizing o) events after step h = to after _ step.1 (after_finalizing_orderly o h)
  phase_orderly Split events after step h = to after _ step.world (goes_to Split Turns (record c { collected = c.collected + length (serials_at step.objects Cand) })
      step.objects (λ s k. absurd k) (λ weak k. k) (λ weak. omega arith) (λ o i. cc) (λ x m e k. inr k)
      (all_lose_orderly (loses_at_split now) step.cleared now step.objects v.names (at Split).stack step.lose
      (if_orderly (with_place place) (λ x. includes step.alive x.serial) (place_later place) (λ x. refl) (λ x m e k. false_true k) h)))
    where
      place : Place
      place = Gen (older c.generation)

      now : List Object
      now = get_older c.generation step.alive v.objects
  phase_orderly Turns events after (inl step) h =
      let kept = Includes-filter_cases (is_at Cand) v.objects step.object step.member in
      to after _ step.yields.1 (turn_orderly_at step.object kept.0 kept.1 h)
  phase_orderly Turns events after (inr step) h = to after _ step.1.1 (goes_to Turns Ending c v.objects (λ s k. absurd k) (λ weak k. k) (λ weak. omega arith) (λ o i. cc) (λ x m e k. inr k) h)
  phase_orderly (Turn o) events after step h = to after _ step.1 (empties_orderly o (last_entry (entries_of v.objects o)) refl h)
  phase_orderly (AfterTurn o) events after step h = to after _ step.1 (after_turn_orderly o h)
  phase_orderly Ending events after step h = to after _ step.world (pop_orderly (collecting c Ending) (λ k. k)
      (if_orderly (with_place place) (is_at Legacy) (place_later place) (λ x. refl) (λ x m e k. false_true k)
      (all_saved_orderly step.keeps v.objects v.names (at Ending).stack live h)))
    where
      place : Place
      place = Gen (older c.generation)

      kept : List Object
      kept = all_saved step.keeps v.objects

      now : List Object
      now = map (λ x. if is_at Legacy x then with_place place x else x) kept

      live : (o : ℕ) → Includes step.keeps o → Includes (serials v.objects) o
      live o m =
          let kept_too : 0 < occurrences o (serials (filter (is_saved script c) v.objects)) = subst (λ n. 0 < n) (step.keeps_order o) (present o step.keeps m) in
          go (Includes-of_count o (serials (filter (is_saved script c) v.objects)) kept_too)
        where
          go : Includes (serials (filter (is_saved script c) v.objects)) o → Includes (serials v.objects) o
          go k =
              let x = Includes-map_cases (λ (z : Object). z.serial) (filter (is_saved script c) v.objects) o k in
              let was = Includes-filter_cases (is_saved script c) v.objects x.0 x.1 in
              subst (Includes (serials v.objects)) x.2 (Includes-map (λ (z : Object). z.serial) v.objects x.0 was.0)
