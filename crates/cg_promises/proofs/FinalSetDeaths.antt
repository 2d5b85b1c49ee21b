-- Releases, deaths and the collection itself keep the members sealed.
use Rattle.std.proofs.Common.{◌≡◌, ◌≢◌, refl, sym, ◌∙◌, ap, subst, ℕ, Bool, true, false, not, inl, inr, List, [], ◌∷◌, ◌++◌, Option, Some, None, arith}
use Rattle.std.specs.Prelude.{◌==◌, if◌then◌else◌, filter, is_some, option_map, option_and_then, option_to_list, unwrap_or}
use Rattle.std.specs.List.{list_any}
use Rattle.std.proofs.lemmas.Bool.{eqb-true, eq-eqb}
use Rattle.cg_value.specs.declared.Entry.{Entry}
use Rattle.cg_value.specs.declared.Place.TheVariants.{Cand, Untracked, Gen}
use Rattle.cg_value.specs.declared.KindCode.{KindCode}
use Rattle.cg_value.specs.declared.KindCode.TheVariants.{Tuple}
use Rattle.cg_script.specs.declared.Script.{Script}
use Rattle.cg_graph.specs.Member.{Includes}
use Rattle.cg_graph.specs.Value.{entry_references, last_entry, references, without_last}
use Rattle.cg_graph.specs.Object.{Object, change, object_at, entries_of, is_at, is_tuple, marked, serials, with_entries, with_place, with_referent, without}
use Rattle.cg_graph.proofs.Members.{either, or_left, Includes-append_cases, Includes-map_cases, Includes-filter_cases}
use Rattle.cg_machine.specs.declared.event.Event.{Event}
use Rattle.cg_machine.specs.declared.event.Event.TheVariants.{Alive, Cleared, Free, Leave}
use Rattle.cg_machine.specs.declared.event.FrameSort.{FrameSort}
use Rattle.cg_machine.specs.declared.event.FrameSort.TheVariants.{Del, Legacy as LegacyFrame, Callback, Call}
use Rattle.cg_machine.specs.Program.{finalizer_of, legacy_of}
use Rattle.cg_machine.specs.World.{World, Activity, Framed, Releasing, Dying, Collecting, Collection, CollectPhase, Frame, DyingPhase, Finalizer, AfterFinalizer, Clearing, Calling, AfterCall, LegacyFinalizer, AfterLegacy, Detaching, Emptying, Turns, Turn, AfterTurn, Ending, with_stack, with_change}
use Rattle.cg_machine.specs.Holdings.{dying_holds, is_death_of}
use Rattle.cg_machine.specs.Frame.{Transition, frame_end, gives_up_function, released, procedure_of}
use Rattle.cg_machine.specs.Weak.{has_weak_references, is_reference_to, weak_references, weak_references_if, loses_referent, callback_in, callback_of}
use Rattle.cg_machine.specs.Dying.{death_at, has_finalizers, finalizer_to_run, run_finalizer, run_legacy, after_frame, clear_one, detach_one, empty_one, dying}
use Rattle.cg_machine.specs.Collect.{collection_at, empties, has_flag, older, save_all, takes_turn, PhaseStep}
use Rattle.cg_laws.proofs.Starting.{turn_either, release_either, own_frame_either, option_either, list_either}
use Rattle.cg_represents.proofs.Serials.{Rises}
use Rattle.cg_laws.proofs.Lookups.{callback_first, references_take, same_object}
use Rattle.cg_represents.proofs.Lists.{found_at}
use Rattle.cg_promises.proofs.LastEntryMoves.{entries_of_member, last_none}
use Rattle.cg_laws.proofs.LinesNameLive.{without_gone}
use Rattle.cg_laws.proofs.MeasureInDeaths.{Includes-reverse}
use Rattle.cg_promises.proofs.FinalSet.{all_same, Comes, Excused, Fewer, Fits, IsDone, IsLate, IsLesser, IsMeek, Passes, Sealed, Shrinks, change_shrinks, gen_apart, goes_sealed, loosen, lost_shrinks, none_out, one_still, others_come, place_sealed, placed_lesser, pop_sealed, push_sealed, shrinks_sealed, shrunk, starts_sealed, still_excused, turn_sealed, untracked_apart, yields_sealed, same_lesser}
use Rattle.cg_laws.proofs.Unreferred.{still_later, lost_later}

-- a listed weak reference refers
weak_refers : (test : Object → Bool) (objects : List Object) (o weak : ℕ) (weaks : List ℕ) → weak_references_if test objects o ≡ weak ∷ weaks → (x : Object)
    × Includes objects x × (x.serial ≡ weak) × (x.referent ≢ None)
weak_refers test objects o weak weaks e = go (unwrap_or (option_map test (object_at objects o)) false) e
  where
    refers : (r : Option ℕ) → unwrap_or (option_map (λ s. s == o) r) false ≡ true → r ≢ None
    refers None t k = let no : false ≡ true = t in cc
    refers (Some s) t k = cc

    go : (b : Bool) → (if b then weak_references objects o else []) ≡ weak ∷ weaks → (x : Object) × Includes objects x × (x.serial ≡ weak) × (x.referent ≢ None)
    go true k =
        let m = Includes-reverse (serials (filter (is_reference_to o) objects)) weak (subst (λ ys. Includes ys weak) (sym k) (inl refl)) in
        let x = Includes-map_cases (λ (z : Object). z.serial) (filter (is_reference_to o) objects) weak m in
        let f = Includes-filter_cases (is_reference_to o) objects x.0 x.1 in
        (x.0, f.0, x.2, refers x.0.referent f.1)
    go false k = absurd (let no : [] ≡ weak ∷ weaks = k in cc)

-- one object loses entries
shortened_shrinks : (low high : ℕ) (objects : List Object) (o : ℕ) → Rises low high objects → Shrinks objects (change (with_entries (without_last (entries_of objects o))) o objects)
shortened_shrinks low high objects o r y m =
    let x = Includes-map_cases (λ x. if x.serial == o then with_entries (without_last (entries_of objects o)) x else x) objects y m in
    let both : IsLesser x.0 y × Fewer x.0 y = subst (λ z. IsLesser x.0 z × Fewer x.0 z) x.2 (one (x.0.serial == o) x.0 refl x.1) in
    (x.0, x.1, both.0, both.1)
  where
    one : (b : Bool) (x : Object) → (x.serial == o) ≡ b → Includes objects x → (let z : Object = if b then with_entries (without_last (entries_of objects o)) x else x in IsLesser x z × Fewer x z)
    one true x t k = (
      same_lesser,
      (λ n i. let same = entries_of_member low high objects x o r k (eqb-true x.serial o t) in subst (λ es. Includes (references es) n) same (references_take _ (entries_of objects o) n i), λ e. e),
    )
    one false x t k = (same_lesser, (λ n i. i, λ e. e))

emptied_meek : IsMeek (with_entries [])
emptied_meek = record {
  lesser = λ x. same_lesser;
  fewer = λ x. (λ n k. absurd k, λ e. e);
}

marked_lesser : (x : Object) → IsLesser x (marked (with_place (Gen 0) x))
marked_lesser x = record { later = still_later; finalized = λ e. refl; place = λ e. absurd (gen_apart 0 e) }

module _ (script : Script) (members : List ℕ) where
  pub frame_end_sealed : (f : Frame) (below : List Activity) (v : World) → Sealed script members v.objects v.names (Framed f ∷ below) v.next_serial
      → (let s : Transition = frame_end f (with_stack below v) in Passes script members s.0 s.1)
  frame_end_sealed f below v h = record { sealed = by_sort f.sort f.function; lines = one_still members Leave refl (λ n m. absurd m) }
    where
      rest : Sealed script members v.objects v.names below v.next_serial
      rest = pop_sealed script members (Framed f) (all_same members v.objects) refl (λ n m l. refl) h

      by_sort : (sort : FrameSort) (function : Option ℕ) → (let u : World = gives_up_function sort function (with_stack below v) in Sealed script members u.objects u.names u.stack u.next_serial)
      by_sort Call function = push_sealed script members (Releasing (option_to_list function)) tt refl rest
      by_sort sort function = rest

  pub released_sealed : (refs : List ℕ) (below : List Activity) (v : World) → Sealed script members v.objects v.names (Releasing refs ∷ below) v.next_serial
      → (let s : Transition = released refs below (with_stack (Releasing refs ∷ below) v) in Passes script members s.0 s.1)
  released_sealed [] below v h = record {
    sealed = pop_sealed script members (Releasing [])
        (all_same members v.objects) refl (λ n m l. refl) h;
    lines = none_out members;
  }
  released_sealed (o ∷ refs) below v h = release_either (Passes script members) o refs below v
      (λ t. record {
        sealed = place_sealed script members dead o
            (λ x. record { later = lost_later; finalized = λ e. e; place = λ e. absurd (untracked_apart e) }) (λ x. refl)
            (λ x m e k. inr (inr (inl (or_left (o == x.serial) (list_any (is_death_of x.serial) (Releasing refs ∷ below)) (eq-eqb o x.serial (sym e))))))
            (push_sealed script members (Dying (record { object = o; phase = Finalizer })) (λ n m. absurd m) refl less);
        lines = none_out members;
      })
      (λ t. record { sealed = less; lines = none_out members })
    where
      dead : Object → Object
      dead x = with_referent None (with_place Untracked x)

      less : Sealed script members v.objects v.names (Releasing refs ∷ below) v.next_serial
      less = turn_sealed script members (Releasing (o ∷ refs)) (Releasing refs) below
          (all_same members v.objects) tt refl refl (λ n m. refl) h

  module _ (o : ℕ) (below : List Activity) (v : World) (rises : Rises 1 v.next_serial v.objects) where
    abbrev at : DyingPhase → World
    at phase = death_at o phase below v

    abbrev dying_now : DyingPhase → Activity
    dying_now phase = Dying (record { object = o; phase = phase })

    abbrev SealedAt : DyingPhase → Type 0
    SealedAt phase = Sealed script members v.objects v.names (dying_now phase ∷ below) v.next_serial

    abbrev Does : Transition → Type 0
    Does t = Passes script members t.0 t.1

    same : (y : Object) → Includes v.objects y → Comes members v.objects v.next_serial y
    same = all_same members v.objects

    abbrev Come : List Object → Type 0
    Come objects = (y : Object) → Includes objects y → Comes members v.objects v.next_serial y

    come : (objects : List Object) → Shrinks v.objects objects → Come objects
    come objects shrinks = shrunk members v.objects objects shrinks

    goes_to : (phase next : DyingPhase) (objects : List Object) → Come objects → ((n : ℕ) → Includes (dying_holds o next) n → ¬ Includes members n)
        → SealedAt phase → Sealed script members objects v.names (dying_now next ∷ below) v.next_serial
    goes_to phase next objects comes fit h = turn_sealed script members (dying_now phase) (dying_now next) below comes fit refl refl (λ n m. refl) h

    silent : (phase next : DyingPhase) (objects : List Object) → Come objects → ((n : ℕ) → Includes (dying_holds o next) n → ¬ Includes members n)
        → SealedAt phase → Does ([], record v { objects = objects; stack = dying_now next ∷ below })
    silent phase next objects comes fit h = record { sealed = goes_to phase next objects comes fit h; lines = none_out members }

    -- o is no member
    changed : (phase : DyingPhase) (f : Object → Object) → ((x : Object) → IsLesser x (f x)) → ((x : Object) → (f x).entries ≡ x.entries)
        → (¬ Includes members o) → SealedAt phase → Come (change f o v.objects)
    changed phase f lesser kept out h = others_come script members f o lesser kept out h

    held : (phase : DyingPhase) → SealedAt phase → (n : ℕ) → Includes (dying_holds o phase) n → ¬ Includes members n
    held phase h = h.stack_fits (dying_now phase) (inl refl)

    -- no frame of a member starts
    to_run_out : (phase : DyingPhase) (p : ℕ) → SealedAt phase → option_and_then (finalizer_to_run script) (object_at v.objects o) ≡ Some p → ¬ Includes members o
    to_run_out phase p h e k = go (object_at v.objects o) refl e
      where
        by_mark : (x : Object) (b : Bool) → IsDone script x → x.finalized ≡ b → (if b then None else finalizer_of script x) ≡ Some p → ⊥
        by_mark x true d t i = let no : None ≡ Some p = i in cc
        by_mark x false d t i = let no : true ≡ false = sym (d.ran (ap (λ m. is_some m) i)) ∙ t in cc

        go : (m : Option Object) → object_at v.objects o ≡ m → option_and_then (finalizer_to_run script) m ≡ Some p → ⊥
        go None f i = let no : None ≡ Some p = i in cc
        go (Some x) f i = let found = found_at v.objects o x f in by_mark x x.finalized (h.inside x found.0 (subst (Includes members) (sym found.1) k)) refl i

    legacy_out : (phase : DyingPhase) (p : ℕ) → SealedAt phase → option_and_then (legacy_of script) (object_at v.objects o) ≡ Some p → ¬ Includes members o
    legacy_out phase p h e k = go (object_at v.objects o) refl e
      where
        go : (m : Option Object) → object_at v.objects o ≡ m → option_and_then (legacy_of script) m ≡ Some p → ⊥
        go None f i = let no : None ≡ Some p = i in cc
        go (Some x) f i = let found = found_at v.objects o x f in let no : None ≡ Some p = sym (h.inside x found.0 (subst (Includes members) (sym found.1) k)).no_legacy ∙ i in cc

    own : (¬ Includes members o) → (n : ℕ) → Includes (o ∷ []) n → ¬ Includes members n
    own out n m k = either m (λ e. out (subst (Includes members) (sym e) k)) (λ no. no)

    apart : (¬ Includes members o) → (n : ℕ) → Includes members n → (o == n) ≡ false
    apart out n m = go (o == n) refl
      where
        go : (b : Bool) → (o == n) ≡ b → b ≡ false
        go true t = absurd (out (subst (Includes members) (sym (eqb-true o n t)) m))
        go false t = refl

    after_frame_sealed : (phase next : DyingPhase) → Includes (dying_holds o phase) o → dying_holds o next ≡ [] → SealedAt phase → Does (after_frame o next below (at phase))
    after_frame_sealed phase next holds none h = own_frame_either (Passes script members) o next below (at phase)
        (λ t. silent phase next (change (with_place Untracked) o v.objects) (changed phase (with_place Untracked) (placed_lesser script members Untracked
        untracked_apart) (λ x. refl) (held phase h o holds) h) (λ n m. absurd (subst (λ ns. Includes ns n) none m)) h)
        (λ t. record {
          sealed = pop_sealed script members (dying_now phase) same refl (λ n m l. apart (held phase h o holds) n m) h;
          lines = one_still members (Alive o) refl (λ n m k. absurd (either m (λ e. held phase h o holds (subst (Includes members) (sym e) k)) (λ no. no)));
        })

    cleared : (phase next : DyingPhase) (test : Object → Bool) (weak : ℕ) (weaks : List ℕ) → weak_references_if test v.objects o ≡ weak ∷ weaks
        → ((n : ℕ) → Includes (dying_holds o next) n → (¬ Includes members weak) → ¬ Includes members n) → SealedAt phase
        → Does (Cleared weak ∷ [], record v { objects = loses_referent weak v.objects; stack = dying_now next ∷ below })
    cleared phase next test weak weaks e fit h = record {
      sealed = goes_to phase next (loses_referent weak v.objects) (come (loses_referent weak v.objects) (lost_shrinks weak v.objects)) (λ n m. fit n m out) h;
      lines = one_still members (Cleared weak) refl (λ n m k. absurd (either m (λ i. out (subst (Includes members) (sym i) k)) (λ no. no)));
    }
      where
        out : ¬ Includes members weak
        out k = let x = weak_refers test v.objects o weak weaks e in x.3 (h.inside x.0 x.1 (subst (Includes members) (sym x.2) k)).refers_to_none

    clearing_sealed : (waiting weaks : List ℕ) → weak_references_if has_weak_references v.objects o ≡ weaks → SealedAt (Clearing waiting)
        → Does (clear_one o waiting below (at (Clearing waiting)) weaks)
    clearing_sealed waiting [] e h = silent (Clearing waiting) (Calling waiting) v.objects same (held (Clearing waiting) h) h
    clearing_sealed waiting (weak ∷ weaks) e h = cleared (Clearing waiting) (Clearing (waiting ++ (if is_some (callback_of v.objects weak) then weak ∷ []
        else []))) has_weak_references weak weaks e fit h
      where
        perhaps : (b : Bool) (n : ℕ) → Includes (if b then weak ∷ [] else []) n → weak ≡ n
        perhaps true n m = either m (λ i. i) (λ no. absurd no)
        perhaps false n m = absurd m

        fit : (n : ℕ) → Includes (waiting ++ (if is_some (callback_of v.objects weak) then weak ∷ [] else [])) n → (¬ Includes members weak) → ¬ Includes members n
        fit n m out = either (Includes-append_cases waiting (if is_some (callback_of v.objects weak) then weak ∷ [] else []) n m) (held (Clearing waiting) h n)
            (λ k i. out (subst (Includes members) (sym (perhaps (is_some (callback_of v.objects weak)) n k)) i))

    -- the callback of a weak reference outside the set is outside too
    callback_out : (phase : DyingPhase) (weak : ℕ) → SealedAt phase → (¬ Includes members weak) → ¬ Includes members (unwrap_or (callback_of v.objects weak) 0)
    callback_out phase weak h out = go (object_at v.objects weak) refl
      where
        zero_out : ¬ Includes members 0
        zero_out k = let low = h.above 0 k in omega (arith, low)

        inner : (x : Object) → Includes v.objects x → (x.serial ≡ weak) → (m : Option ℕ) → callback_in x.entries ≡ m → ¬ Includes members (unwrap_or m 0)
        inner x m e None c k = zero_out k
        inner x m e (Some f) c k = out (subst (Includes members) e (h.entries x m f k (callback_first x.entries f c)))

        go : (m : Option Object) → object_at v.objects weak ≡ m → ¬ Includes members (unwrap_or (option_and_then (λ (x : Object). callback_in x.entries) m) 0)
        go None e = zero_out
        go (Some x) e = let f = found_at v.objects weak x e in inner x f.0 f.1 (callback_in x.entries) refl

    gone : (n : ℕ) → Includes (serials (without o v.objects)) n → (o == n) ≡ false
    gone n l = go (o == n) refl
      where
        go : (b : Bool) → (o == n) ≡ b → b ≡ false
        go true t = absurd (without_gone o v.objects (subst (Includes (serials (without o v.objects))) (sym (eqb-true o n t)) l))
        go false t = refl

    pub dying_sealed : (phase : DyingPhase) → SealedAt phase → Does (dying script o phase below (at phase))
    dying_sealed Finalizer h = option_either (Passes script members) (run_finalizer script o below (at Finalizer)) (option_and_then (finalizer_to_run script) (object_at v.objects o))
        (λ e. silent Finalizer (Clearing []) v.objects same (λ n m. absurd m) h)
        (λ p e. let out = to_run_out Finalizer p h e in starts_sealed script members (record {
          sort = Del;
          proc = p;
          subject = o;
          func = None;
        }) (death_at o AfterFinalizer below (with_change (λ x. marked (with_place (Gen 0) x)) o (at Finalizer)))
        out (λ g k. absurd (let no : None ≡ Some g = k in cc)) (goes_to Finalizer AfterFinalizer (change (λ x. marked (with_place (Gen 0) x)) o v.objects)
        (changed Finalizer (λ x. marked (with_place (Gen 0) x)) marked_lesser (λ x. refl) out h) (own out) h))
    dying_sealed AfterFinalizer h = after_frame_sealed AfterFinalizer (Clearing []) (inl refl) refl h
    dying_sealed (Clearing waiting) h = clearing_sealed waiting (weak_references_if has_weak_references v.objects o) refl h
    dying_sealed (Calling []) h = silent (Calling []) LegacyFinalizer v.objects same (λ n m. absurd m) h
    dying_sealed (Calling (weak ∷ waiting)) h =
        let callback = unwrap_or (callback_of v.objects weak) 0 in
        let out = held (Calling (weak ∷ waiting)) h in
        let free = callback_out (Calling (weak ∷ waiting)) weak h (out weak (inl refl)) in
        starts_sealed script members (record {
          sort = Callback;
          proc = procedure_of (at (Calling (weak ∷ waiting))) callback;
          subject = weak;
          func = Some callback;
        }) (death_at o (AfterCall weak callback waiting) below (with_change (with_entries []) weak (at (Calling (weak ∷ waiting)))))
        (out weak (inl refl)) (λ g e. let s : callback ≡ g = cc in subst (λ n. ¬ Includes members n) s free)
        (goes_to (Calling (weak ∷ waiting)) (AfterCall weak callback waiting) (change (with_entries []) weak v.objects)
        (come (change (with_entries []) weak v.objects) (change_shrinks (with_entries []) emptied_meek weak v.objects))
        (λ n m. either m (λ e. subst (λ z. ¬ Includes members z) e free) (out n)) h)
    dying_sealed (AfterCall weak callback waiting) h = record {
      sealed = push_sealed script members (Releasing (callback ∷ weak ∷ [])) tt refl
          (goes_to (AfterCall weak callback waiting) (Calling waiting) v.objects same (λ n m. held (AfterCall weak callback waiting) h n (inr (inr m))) h);
      lines = none_out members;
    }
    dying_sealed LegacyFinalizer h = option_either (Passes script members) (run_legacy script o below (at LegacyFinalizer)) (option_and_then (legacy_of script) (object_at v.objects o))
        (λ e. silent LegacyFinalizer Detaching v.objects same (λ n m. absurd m) h)
        (λ p e. let out = legacy_out LegacyFinalizer p h e in starts_sealed script members (record {
          sort = LegacyFrame;
          proc = p;
          subject = o;
          func = None;
        }) (death_at o AfterLegacy below (with_change (with_place (Gen 0)) o (at LegacyFinalizer)))
        out (λ g k. absurd (let no : None ≡ Some g = k in cc)) (goes_to LegacyFinalizer AfterLegacy (change (with_place (Gen 0)) o v.objects)
        (changed LegacyFinalizer (with_place (Gen 0)) (placed_lesser script members (Gen 0) (gen_apart 0)) (λ x. refl) out h) (own out) h))
    dying_sealed AfterLegacy h = after_frame_sealed AfterLegacy Detaching (inl refl) refl h
    dying_sealed Detaching h = list_either (Passes script members) (detach_one o below (at Detaching)) (weak_references_if (has_finalizers script) v.objects o)
        (λ e. silent Detaching Emptying v.objects same (λ n m. absurd m) h)
        (λ weak weaks e. cleared Detaching Detaching (has_finalizers script) weak weaks e (λ n m. absurd m) h)
    dying_sealed Emptying h = option_either (Passes script members) (empty_one o below (at Emptying)) (last_entry (entries_of v.objects o))
        (λ is. record {
          sealed = pop_sealed script members (dying_now Emptying)
              (λ y m. same y (Includes-filter_cases (λ x. not (x.serial == o)) v.objects y m).0) refl (λ n m l. gone n l) h;
          lines = one_still members (Free o) refl (λ n m k. either m (λ e. ap (λ p. Free p) e) (λ no. absurd no));
        })
        (λ entry is. record {
          sealed = push_sealed script members (Releasing (entry_references entry)) tt refl
              (goes_to Emptying Emptying (change (with_entries (without_last (entries_of v.objects o))) o v.objects)
              (come (change (with_entries (without_last (entries_of v.objects o))) o v.objects) (shortened_shrinks 1 v.next_serial v.objects o rises))
              (λ n m. absurd m) h);
          lines = none_out members;
        })

  -- the collection itself, up to its end
  module _ (c : Collection) (below : List Activity) (v : World) (rises : Rises 1 v.next_serial v.objects) (clears : has_flag c.flags save_all ≡ false) where
    abbrev standing : CollectPhase → World
    standing phase = collection_at c phase below v

    abbrev SealedIn : CollectPhase → Type 0
    SealedIn phase = Sealed script members v.objects v.names (Collecting (record c { phase = phase }) ∷ below) v.next_serial

    -- the collection goes on where its turn gave none up
    goes_in : (phase next : CollectPhase) (objects : List Object) → ((y : Object) → Includes objects y → Comes members v.objects v.next_serial y) → IsLate next
        → ((o : ℕ) → next ≢ AfterTurn o) → SealedIn phase → Sealed script members objects v.names (Collecting (record c { phase = next }) ∷ below) v.next_serial
    goes_in phase next objects comes late turning h = shrinks_sealed script members (Collecting (record c { phase = phase }) ∷ below)
        (Collecting (record c { phase = next }) ∷ below) comes
        (λ x m. either m (λ e. subst (Fits members) e (late, clears)) (λ k. h.stack_fits x (inr k))) refl (λ k. k)
        (λ n w d m. either m (λ e. let same_one : record c { phase = next } ≡ d = cc in subst (λ (z : Collection). z.phase ≢ AfterTurn n) same_one (turning n)) (λ k. w d (inr k))) (λ n m e. e) h

    none_now : (y : Object) → Includes v.objects y → Comes members v.objects v.next_serial y
    none_now = all_same members v.objects

    -- one that has had its turn moves to the older generation
    got_older : (phase : CollectPhase) (o : ℕ) → ((x : Object) → Includes v.objects x → x.serial ≡ o → Includes members x.serial
        → Excused (Collecting (record c { phase = phase }) ∷ below) (with_place (Gen (older c.generation)) x)) → SealedIn phase
        → Sealed script members (change (with_place (Gen (older c.generation))) o v.objects) v.names (Collecting (record c { phase = phase }) ∷ below) v.next_serial
    got_older phase o excused h = place_sealed script members (with_place (Gen (older c.generation))) o (placed_lesser script members (Gen (older c.generation))
        (gen_apart (older c.generation))) (λ x. refl) excused h

    turn_taken : (x : Object) → Includes v.objects x → SealedIn Turns → (let t : Transition = takes_turn c x below (standing Turns) in Passes script members t.0 t.1)
    turn_taken x m h = turn_either (Passes script members) c x below (standing Turns)
        (λ e. absurd (let no : true ≡ false = sym e ∙ clears in cc))
        (λ e k. record {
          sealed = got_older Turns x.serial
              (λ z i s n. inl (ap (λ (y : Object). y.code) (same_object 1 v.next_serial v.objects z x rises i m s) ∙ tuple_code x.code k)) h;
          lines =
              none_out members;
        })
        (λ e k. record { sealed = goes_in Turns (Turn x.serial) v.objects none_now tt (λ o e. cc) h; lines = none_out members })
      where
        tuple_code : (code : KindCode) → is_tuple (record x { code = code }) ≡ true → code ≡ Tuple
        tuple_code Tuple t = refl
        tuple_code k t = absurd (let no : false ≡ true = t in cc)

    turned : (o : ℕ) → last_entry (entries_of v.objects o) ≡ None → SealedIn (Turn o) → SealedIn (AfterTurn o)
    turned o empty h = goes_sealed script members (Collecting (record c { phase = Turn o }) ∷ below)
        (Collecting (record c { phase = AfterTurn o }) ∷ below) (omega arith) (λ y m. loosen members v.objects v.next_serial y
        (none_now y m)) h.unnamed
        (λ x m. either m (λ e. subst (Fits members) e (tt, clears)) (λ k. h.stack_fits x (inr k))) refl (λ k. k) (λ y m k. go (y.serial == o) y refl m k) h
      where
        go : (b : Bool) (y : Object) → (y.serial == o) ≡ b → Includes v.objects y → Includes members y.serial → Excused (Collecting (record c { phase = AfterTurn o }) ∷ below) y
        go true y t m k = inr (inl (λ n i. let none = sym (entries_of_member 1 v.next_serial v.objects y o rises m (eqb-true y.serial o t))
            ∙ last_none (entries_of v.objects o) empty in subst (λ es. Includes (references es) n) none i))
        go false y t m k = still_excused script members (Collecting (record c { phase = Turn o }) ∷ below) (Collecting (record c { phase = AfterTurn o })
            ∷ below) y y (same_lesser) (λ n
            i. i)
            (λ e w. inr (inr (inr (
              e,
              λ d i. either i (λ s. let same_one : record c { phase = AfterTurn o } ≡ d = cc
                  in subst (λ (z : Collection). z.phase ≢ AfterTurn y.serial) same_one (λ p. let same_turn : o ≡ y.serial = cc in let no : true
                  ≡ false = sym (eq-eqb y.serial o (sym same_turn)) ∙ t in cc)) (λ k. w d (inr k)),
            ))))
            (λ e. e) (h.excused y m k)

    empties_sealed : (o : ℕ) (m : Option Entry) → last_entry (entries_of v.objects o) ≡ m → SealedIn (Turn o)
        → (let t : Transition = empties c o below (standing (Turn o)) m in Passes script members t.0 t.1)
    empties_sealed o None e h = record {
      sealed = push_sealed script members (Releasing (o ∷ [])) tt refl (turned o e h);
      lines = none_out members;
    }
    empties_sealed o (Some entry) e h = record {
      sealed = push_sealed script members (Releasing (entry_references entry)) tt refl
          (goes_in (Turn o) (Turn o) (change (with_entries (without_last (entries_of v.objects o))) o v.objects)
          (shrunk members v.objects (change (with_entries (without_last (entries_of v.objects o))) o v.objects)
          (shortened_shrinks 1 v.next_serial v.objects o rises)) tt (λ p e. cc) h);
      lines = none_out members;
    }

    -- after its turn, the one excused as condemned is another
    after_sealed : (o : ℕ) → SealedIn (AfterTurn o) → Sealed script members (change (with_place (Gen (older c.generation))) o v.objects) v.names
        (Collecting (record c { phase = Turns }) ∷ below) v.next_serial
    after_sealed o h = turn_on (got_older (AfterTurn o) o (λ x m e k. still_excused script members (Collecting (record c { phase = AfterTurn o }) ∷ below)
        (Collecting (record c { phase = AfterTurn o }) ∷ below) x (with_place (Gen (older c.generation)) x)
        (placed_lesser script members (Gen (older c.generation)) (gen_apart (older c.generation)) x) (λ n i. i)
        (λ p w. absurd (w (record c { phase = AfterTurn o }) (inl refl) (ap (λ n. AfterTurn n) (sym e)))) (λ d. d) (h.excused x m k)) h)
      where
        older_now : List Object
        older_now = change (with_place (Gen (older c.generation))) o v.objects

        turn_on : Sealed script members older_now v.names (Collecting (record c { phase = AfterTurn o }) ∷ below) v.next_serial
            → Sealed script members older_now v.names (Collecting (record c { phase = Turns }) ∷ below) v.next_serial
        turn_on k = shrinks_sealed script members (Collecting (record c { phase = AfterTurn o }) ∷ below)
            (Collecting (record c { phase = Turns }) ∷ below) (all_same members older_now)
            (λ x m. either m (λ e. subst (Fits members) e (tt, clears)) (λ i. k.stack_fits x (inr i))) refl (λ i. i)
            (λ n w d m. either m (λ e. let same_one : record c { phase = Turns } ≡ d = cc in subst (λ (z : Collection). z.phase ≢ AfterTurn n) same_one (λ p. cc)) (λ i. w d (inr i))) (λ n m e. e) k

    pub late_sealed : (phase : CollectPhase) (events : List Event) (after : World) → IsLate phase → phase ≢ Ending → PhaseStep script c phase below
        (standing phase) events after → SealedIn phase → Passes script members events after
    late_sealed Turns events after late going (inl step) h = yields_sealed script members _ events after step.yields
        (turn_taken step.object (Includes-filter_cases (is_at Cand) v.objects step.object step.member).0 h)
    late_sealed Turns events after late going (inr step) h = yields_sealed script members _ events after step.1
        (record { sealed = goes_in Turns Ending v.objects none_now tt (λ o e. cc) h; lines = none_out members })
    late_sealed (Turn o) events after late going step h = yields_sealed script members _ events after step (empties_sealed o (last_entry (entries_of v.objects o)) refl h)
    late_sealed (AfterTurn o) events after late going step h = yields_sealed script members _ events after step (record { sealed = after_sealed o h; lines = none_out members })
    late_sealed Ending events after late going step h = absurd (going refl)
    late_sealed phase events after late going step h = absurd late
