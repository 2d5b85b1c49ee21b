-- Releases, frames and deaths keep the invariant of held objects.
use Rattle.std.proofs.Common.{◌≡◌, ◌≢◌, refl, sym, ◌∙◌, ap, subst, ℕ, ◌-◌, ◌≤◌, Bool, true, false, cond, length, inl, inr, List, [], ◌∷◌, ◌++◌, Option, Some, None, arith, suc}
use Rattle.std.specs.Prelude.{◌==◌, if◌then◌else◌, flat_map, is_some, option_to_list, option_map, option_and_then, unwrap_or, take, ◌-◌}
use Rattle.std.proofs.lemmas.Bool.{cases_Bool, eq-eqb}
use Rattle.cg_value.specs.declared.Entry.{Entry}
use Rattle.cg_value.specs.declared.Val.{Val}
use Rattle.cg_value.specs.declared.Place.TheVariants.{Untracked, Gen}
use Rattle.cg_script.specs.declared.Script.{Script}
use Rattle.cg_graph.specs.Member.{Includes}
use Rattle.cg_graph.specs.Value.{references, entry_references, last_entry, without_last}
use Rattle.cg_graph.specs.Object.{Object, change, object_at, entries_of, with_place, with_entries, with_referent, marked, serials}
use Rattle.cg_graph.specs.Holdings.{occurrences}
use Rattle.cg_graph.proofs.Members.{either, Includes-append_left, Includes-append_cases, Includes-map, Includes-map_cases}
use Rattle.cg_graph.proofs.Objects.{occurrences-append}
use Rattle.cg_machine.specs.declared.event.FrameSort.{FrameSort}
use Rattle.cg_machine.specs.declared.event.FrameSort.TheVariants.{Del, Legacy, Callback, Call}
use Rattle.cg_machine.specs.declared.event.FrameSpec.{FrameSpec}
use Rattle.cg_machine.specs.Program.{legacy_of}
use Rattle.cg_machine.specs.World.{push, World, Activity, Framed, Releasing, Dying, Frame, Death, DyingPhase, Finalizer, AfterFinalizer, Clearing, Calling, AfterCall, LegacyFinalizer, AfterLegacy, Detaching, Emptying, with_stack, with_change}
use Rattle.cg_machine.specs.Frame.{start_frame, frame_end, gives_up_function, released, procedure_of}
use Rattle.cg_machine.specs.Holdings.{holds, call_holds, dying_holds}
use Rattle.cg_machine.specs.Weak.{has_weak_references, weak_references_if, loses_referent, callback_in, callback_of}
use Rattle.cg_machine.specs.Dying.{death_at, has_finalizers, finalizer_to_run, run_finalizer, run_legacy, after_frame, clear_one, call_one, detach_one, empty_one, dying}
use Rattle.cg_machine.specs.Collect.{is_condemned}
use Rattle.cg_represents.specs.Orderly.{death_waits, all_waits, IsWaiting}
use Rattle.cg_laws.proofs.Starting.{begun_frame, starts_either, own_frame_either, release_either, option_either, list_either}
use Rattle.cg_represents.proofs.Serials.{Rises}
use Rattle.cg_represents.proofs.Lists.{occurrences-cons, found_at, slice_get_member, absent}
use Rattle.cg_laws.proofs.MeasureInDeaths.{refers_first}
use Rattle.cg_laws.proofs.Unreferred.{IsLater, entries_alter, change_alters, lives_after, lost_alters, still_later, lost_later}
use Rattle.cg_laws.proofs.Unheld.{Calm, not_dying, popped_free}
use Rattle.cg_laws.proofs.Lookups.{same_object, callback_at, callback_first, references_of_member, references_take, at_member}
use Rattle.cg_laws.proofs.UnheldDeaths.{some_not_none}
use Rattle.cg_laws.proofs.HeldLives.{IsClearing, Orderly, if_orderly, entries_orderly, push_orderly, pop_orderly, turns_fewer, turns_more, waits_held, without_orderly}

abbrev pub HasOrder : World → Type 0
HasOrder w = Orderly w.objects w.names w.stack

-- one object changes place, mark or referent, and is not condemned afterwards
pub one_orderly : (f : Object → Object) (o : ℕ) {objects : List Object} {names : List (Option Val)} {stack : List Activity} → ((x : Object) → IsLater x (f x))
    → ((x : Object) → (f x).entries ≡ x.entries)
    → ((x : Object) → is_condemned (f x) ≡ true → is_condemned x ≡ true) → Orderly objects names stack → Orderly (change f o objects) names stack
one_orderly f o {objects = objects} {names = names} {stack = stack} later entries condemned h = if_orderly f (λ x. x.serial == o) later entries (λ x m e k. inl (condemned x k)) h

pub lost_orderly : (weak : ℕ) {objects : List Object} {names : List (Option Val)} {stack : List Activity} → Orderly objects names stack → Orderly (loses_referent weak objects) names stack
lost_orderly weak h = one_orderly (with_referent None) weak (λ x. lost_later) (λ x. refl) (λ x e. e) h

pub false_true : {P : Type 0} → false ≡ true → P
false_true e = absurd (cc)

pub starts_orderly : (script : Script) (spec : FrameSpec) (u : World) → (IsClearing u.stack → ⊥) → ((o : ℕ) → Includes (call_holds spec.sort spec.func) o
    → Includes (serials u.objects) o) → HasOrder u → HasOrder (start_frame script spec u).1
starts_orderly script spec u still held h = starts_either (λ lines. HasOrder) script spec u h (λ some. push_orderly (begun_frame script spec) refl still held (λ d e. cc) (λ c o e. cc) h)

pub gives_up_orderly : (given_up : List ℕ) (u : World) → (IsClearing u.stack → ⊥) → ((o : ℕ) → Includes given_up o → Includes (serials u.objects) o)
    → HasOrder u → HasOrder (push (Releasing given_up) u)
gives_up_orderly given_up u still held h = push_orderly (Releasing given_up) refl still held (λ d e. cc) (λ c o e. cc) h

pub frame_end_orderly : (f : Frame) (below : List Activity) (v : World) → HasOrder (with_stack (Framed f ∷ below) v) → HasOrder (frame_end f (with_stack below v)).1
frame_end_orderly f below v h = by_sort f.sort f.function (λ o k. h.stack_lives o (Includes-append_left (call_holds f.sort f.function) (flat_map holds below) o k))
  where
    by_sort : (sort : FrameSort) (function : Option ℕ) → ((o : ℕ) → Includes (call_holds sort function) o → Includes (serials v.objects) o)
        → HasOrder (gives_up_function sort function (with_stack below v))
    by_sort Call function live = turns_fewer (Framed f) (Releasing (option_to_list function)) h live (λ d e. cc) (λ weak m. m)
        (λ weak. omega arith) (λ c o e. cc) (λ x m e k. inr k)
    by_sort sort function live = pop_orderly (Framed f) (λ k. k) h

pub released_orderly : (references : List ℕ) (below : List Activity) (v : World) → HasOrder (with_stack (Releasing references ∷ below) v)
    → HasOrder (released references below (with_stack (Releasing references ∷ below) v)).1
released_orderly [] below v h = pop_orderly (Releasing []) (λ k. k) h
released_orderly (o ∷ references) below v h = release_either (λ lines. HasOrder) o references below v
    (λ t. push_orderly (Dying (record { object = o; phase = Finalizer })) refl (λ k. k)
    (λ s k. absurd k) (λ d e. subst (λ (x : Death). Includes (serials (change dead o v.objects)) x.object) (death_is d e) lives) (λ c s e. cc) moved)
    (λ t. rest)
  where
    now : World
    now = with_stack (Releasing references ∷ below) v

    rest : HasOrder now
    rest = turns_fewer (Releasing (o ∷ references)) (Releasing references) h
        (λ s m. h.stack_lives s (inr (Includes-append_left references (flat_map holds below) s m))) (λ d e. cc) (λ weak m. m) (λ weak. omega arith)
        (λ c s e. cc) (λ x m e k. inr k)

    dead : Object → Object
    dead x = with_referent None (with_place Untracked x)

    moved : Orderly (change dead o v.objects) v.names (Releasing references ∷ below)
    moved = one_orderly dead o (λ x. lost_later) (λ x. refl) (λ x e. false_true e) rest

    lives : Includes (serials (change dead o v.objects)) o
    lives = lives_in moved
      where
        lives_in : Orderly (change dead o v.objects) v.names (Releasing references ∷ below) → Includes (serials (change dead o v.objects)) o
        lives_in k = lives_after v.objects (change dead o v.objects)
            (change_alters dead (λ x. lost_later) o v.objects) o (h.stack_lives o (inl refl))

    death_is : (d : Death) → Dying (record { object = o; phase = Finalizer }) ≡ Dying d → record { object = o; phase = Finalizer } ≡ d
    death_is d e = cc

-- what the entries of an object hold lives
pub found_entries_live : (objects : List Object) (names : List (Option Val)) (stack : List Activity) (o f : ℕ) → Orderly objects names stack
    → Includes (references (entries_of objects o)) f → Includes (serials objects) f
found_entries_live objects names stack o f h = go (object_at objects o) refl
  where
    go : (m : Option Object) → object_at objects o ≡ m → Includes (references (unwrap_or (option_map (λ (x : Object). x.entries) m) [])) f → Includes (serials objects) f
    go None e k = absurd k
    go (Some x) e k = h.entries_live x (found_at objects o x e).0 f k

-- removing the last entry adds no callback
pub callback_shorter : (entries : List Entry) → callback_in entries ≡ None → callback_in (without_last entries) ≡ None
callback_shorter (e ∷ d ∷ entries) n = let short : length (e ∷ d ∷ entries) - 1 ≡ suc (length entries) = omega arith in ap (λ k. callback_in (take k (e ∷ d ∷ entries))) short ∙ n
callback_shorter xs n = refl

pub found_callback : (objects : List Object) (o : ℕ) (x : Object) → object_at objects o ≡ Some x → callback_in x.entries ≡ None → callback_in (entries_of objects o) ≡ None
found_callback objects o x at n = ap (λ m. callback_in (unwrap_or (option_map (λ (q : Object). q.entries) m) [])) at ∙ n

module _ (script : Script) (o : ℕ) (below : List Activity) (v : World) (rises : Rises 1 v.next_serial v.objects) where
  abbrev at : DyingPhase → World
  at phase = death_at o phase below v

  abbrev dying_now : DyingPhase → Activity
  dying_now phase = Dying (record { object = o; phase = phase })

  death_is : (phase : DyingPhase) (d : Death) → dying_now phase ≡ Dying d → record { object = o; phase = phase } ≡ d
  death_is phase d e = cc

  -- The death goes to a phase with no more waiting weak references.
  goes_to : (phase next : DyingPhase) (objects : List Object) → ((s : ℕ) → Includes (dying_holds o next) s → Includes (serials objects) s)
      → ((weak : ℕ) → Includes (death_waits next) weak → Includes (death_waits phase) weak)
      → ((weak : ℕ) → occurrences weak (death_waits next) ≤ occurrences weak (death_waits phase)) → Orderly objects v.names (dying_now phase ∷ below) → Orderly objects v.names (dying_now next ∷ below)
  goes_to phase next objects held fewer count h = turns_fewer (dying_now phase) (dying_now next) h held
      (λ d e. subst (λ (x : Death). Includes (serials objects) x.object) (death_is next d e) (h.deaths_live (record { object = o; phase = phase }) (inl refl)))
      fewer count (λ c s e. cc) (λ x m e k. inr k)

  own_held : (phase : DyingPhase) (objects : List Object) → Orderly objects v.names (dying_now phase ∷ below) → (s : ℕ) → Includes (dying_holds o phase) s → Includes (serials objects) s
  own_held phase objects h s m = h.stack_lives s (Includes-append_left (dying_holds o phase) (flat_map holds below) s m)

  own_lives : (phase : DyingPhase) (objects : List Object) → Orderly objects v.names (dying_now phase ∷ below) → Includes (serials objects) o
  own_lives phase objects h = h.deaths_live (record { object = o; phase = phase }) (inl refl)

  its_own : (objects : List Object) → Includes (serials objects) o → (s : ℕ) → Includes (o ∷ []) s → Includes (serials objects) s
  its_own objects lives s m = either m (λ e. subst (Includes (serials objects)) e lives) (λ n. absurd n)

  finalizer_orderly : (m : Option ℕ) → HasOrder (at Finalizer) → HasOrder (run_finalizer script o below (at Finalizer) m).1
  finalizer_orderly None h = goes_to Finalizer (Clearing []) v.objects (λ s k. absurd k) (λ weak k. k) (λ weak. omega arith) h
  finalizer_orderly (Some p) h =
      let moved = one_orderly revived o (λ x. still_later) (λ x. refl) (λ x e. false_true e) h in
      starts_orderly script (record { sort = Del; proc = p; subject = o; func = None }) (death_at o AfterFinalizer below (with_change revived o (at Finalizer))) (λ k. k) (λ s k. absurd k)
      (goes_to Finalizer AfterFinalizer (change revived o v.objects) (its_own (change revived o v.objects) (own_lives Finalizer (change revived o v.objects)
      moved)) (λ weak k. k) (λ weak. omega arith) moved)
    where
      revived : Object → Object
      revived x = marked (with_place (Gen 0) x)

  after_frame_orderly : (phase next : DyingPhase) → death_waits next ≡ [] → ((s : ℕ) → ¬ Includes (dying_holds o next) s) → HasOrder (at phase) → HasOrder (after_frame o next below (at phase)).1
  after_frame_orderly phase next none free h = own_frame_either (λ lines. HasOrder) o next below (at phase)
      (λ t. one_orderly (with_place Untracked) o (λ x. still_later) (λ x. refl) (λ x e. false_true e)
      (goes_to phase next v.objects (λ s k. absurd (free s k)) (λ weak k. absurd (subst (λ ws. Includes ws weak) none k))
      (λ weak. let zero : occurrences weak (death_waits next) ≡ 0 = ap (occurrences weak) none in omega (arith, zero)) h))
      (λ t. pop_orderly (dying_now phase) (λ k. k) h)

  clearing_orderly : (waiting weaks : List ℕ) → weak_references_if has_weak_references v.objects o ≡ weaks → HasOrder (at (Clearing waiting))
      → HasOrder (clear_one o waiting below (at (Clearing waiting)) weaks).1
  clearing_orderly waiting [] e h = goes_to (Clearing waiting) (Calling waiting) v.objects (own_held (Clearing waiting) v.objects h) (λ weak k. k) (λ weak. omega arith) h
  clearing_orderly waiting (weak ∷ weaks) e h = go (is_some (callback_of v.objects weak)) refl
    where
      y : (x : Object) × Includes v.objects x × (x.serial ≡ weak) × (is_some x.referent ≡ true)
      y = refers_first has_weak_references v.objects o weak weaks e

      some : y.0.referent ≢ None
      some = some_not_none y.0.referent y.3

      objects : List Object
      objects = loses_referent weak v.objects

      lost : Orderly objects v.names (at (Clearing waiting)).stack
      lost = lost_orderly weak h

      refers : (m : Option ℕ) → is_some m ≡ true → (r : ℕ) × (m ≡ Some r)
      refers None k = absurd (let no : false ≡ true = k in cc)
      refers (Some r) k = (r, refl)

      calls_back : is_some (callback_of v.objects weak) ≡ true → callback_in y.0.entries ≡ None → ⊥
      calls_back calls n =
          let at : callback_of v.objects weak ≡ callback_in y.0.entries = ap (callback_of v.objects) (sym y.2) ∙ callback_at 1 v.next_serial v.objects y.0 rises y.1 in
          let no : false ≡ true = sym (ap (λ k. is_some k) (at ∙ n)) ∙ calls in cc

      is : is_some (callback_of v.objects weak) ≡ true → (x : Object) → Includes objects x → x.serial ≡ weak → IsWaiting x × (is_condemned x ≡ false)
      is calls x m same =
          let z = Includes-map_cases (λ x. if x.serial == weak then with_referent None x else x) v.objects x m in
          subst (λ (q : Object). q.serial ≡ weak → IsWaiting q × (is_condemned q ≡ false)) z.2 (one z.0 z.1 (z.0.serial == weak) refl) same
        where
          uncondemned : (x : Object) → Includes v.objects x → x ≡ y.0 → is_condemned x ≡ false
          uncondemned x m i = either (cases_Bool (is_condemned x))
              (λ yes'. absurd (either (h.condemned x m yes').1 (λ n. some (ap (λ (q : Object). q.referent) (sym i) ∙ n))
              (λ r. either r (λ n. n) (λ t. calls_back calls (ap (λ (q : Object). callback_in q.entries) (sym i) ∙ t))))) (λ k. k)

          one : (x : Object) → Includes v.objects x → (b : Bool) → (x.serial == weak) ≡ b → (if b then with_referent None x else x).serial ≡ weak
              → IsWaiting (if b then with_referent None x else x) × (is_condemned (if b then with_referent None x else x) ≡ false)
          one x m true t i =
              let same_y : x ≡ y.0 = same_object 1 v.next_serial v.objects x y.0 rises m y.1 (i ∙ sym y.2) in
              let r = refers y.0.referent y.3 in (
                record {
                  code = h.codes x m r.0 (ap (λ (q : Object). q.referent) same_y ∙ r.1);
                  referent = refl;
                  callback = some_not_none (callback_in x.entries) (ap (λ k. is_some k) (sym (callback_at 1 v.next_serial v.objects x rises m) ∙ ap (callback_of v.objects) i) ∙ calls);
                },
                uncondemned x m same_y,
              )
          one x m false t i = absurd (let no : true ≡ false = sym (eq-eqb x.serial weak i) ∙ t in cc)

      go : (b : Bool) → is_some (callback_of v.objects weak) ≡ b → Orderly objects v.names (dying_now (Clearing (waiting ++ (if b then weak ∷ [] else []))) ∷ below)
      go true calls = turns_more (dying_now (Clearing waiting)) (dying_now (Clearing (waiting ++ weak ∷ []))) weak lost
          (λ s m. either (Includes-append_cases waiting (weak ∷ []) s m) (own_held (Clearing waiting) objects lost s)
          (λ k. either k (λ i. lives_after v.objects objects (lost_alters weak v.objects) s (subst (Includes (serials v.objects)) (y.2 ∙ i)
          (Includes-map (λ (z : Object). z.serial) v.objects y.0 y.1))) (λ n. absurd n)))
          (λ d i. subst (λ (x : Death). Includes (serials objects) x.object) (death_is (Clearing (waiting ++ weak ∷ [])) d i) (own_lives (Clearing waiting) objects lost))
          refl (λ k. some (h.waiting weak k y.0 y.1 y.2).referent) (is calls) (λ c m s k i. either ((h.turns c (inr m) s k).1 y.0 y.1 (y.2 ∙ i)) some
          (λ n. calls_back calls n)) (λ c s i. cc) (λ x m i k. inr k)
      go false calls = goes_to (Clearing waiting) (Clearing (waiting ++ [])) objects (λ s m. own_held (Clearing waiting) objects lost s (back s m)) back
          (λ s. omega (arith, occurrences-append s waiting [])) lost
        where
          back : (s : ℕ) → Includes (waiting ++ []) s → Includes waiting s
          back s m = either (Includes-append_cases waiting [] s m) (λ k. k) (λ n. absurd n)

  calling_orderly : (waiting : List ℕ) → HasOrder (at (Calling waiting)) → HasOrder (call_one script o below (at (Calling waiting)) waiting).1
  calling_orderly [] h = goes_to (Calling []) LegacyFinalizer v.objects (λ s k. absurd k) (λ weak k. k) (λ weak. omega arith) h
  calling_orderly (weak ∷ waiting) h =
      starts_orderly script (record { sort = Callback; proc = procedure_of (at (Calling (weak ∷ waiting))) callback; subject = weak; func = Some callback })
      (death_at o next below (with_change (with_entries []) weak (at (Calling (weak ∷ waiting))))) (λ k. k) (λ s k. absurd k)
      (entries_orderly weak [] done (λ f k. absurd k) (λ x m i c f k. absurd k) (λ x m i c n. refl) turned)
    where
      callback : ℕ
      callback = unwrap_or (callback_of v.objects weak) 0

      next : DyingPhase
      next = AfterCall weak callback waiting

      callback_lives : Includes (serials v.objects) callback
      callback_lives =
          let x = Includes-map_cases (λ (z : Object). z.serial) v.objects weak (h.stack_lives weak (inl refl)) in
          let is = h.waiting weak (inl refl) x.0 x.1 x.2 in
          go x.0 x.1 (callback_in x.0.entries) refl is.callback (sym (ap (callback_of v.objects) x.2) ∙ callback_at 1 v.next_serial v.objects x.0 rises x.1)
        where
          go : (x : Object) → Includes v.objects x → (m : Option ℕ) → callback_in x.entries ≡ m → callback_in x.entries ≢ None → callback_of v.objects weak
              ≡ callback_in x.entries → Includes (serials v.objects) callback
          go x m None e some at_x = absurd (some e)
          go x m (Some f) e some at_x =
              let is : f ≡ callback = ap (λ k. unwrap_or k 0) (sym (at_x ∙ e)) in
              subst (Includes (serials v.objects)) is (h.entries_live x m f (callback_first x.entries f e))

      held : (s : ℕ) → Includes (callback ∷ weak ∷ waiting) s → Includes (serials v.objects) s
      held s m = either m (λ e. subst (Includes (serials v.objects)) e callback_lives) (own_held (Calling (weak ∷ waiting)) v.objects h s)

      turned : Orderly v.objects v.names (dying_now next ∷ below)
      turned = goes_to (Calling (weak ∷ waiting)) next v.objects held (λ s k. inr k) (λ s. omega (arith, occurrences-cons s weak waiting)) h

      done : ¬ Includes (all_waits (dying_now next ∷ below)) weak
      done =
          let all = h.once weak in
          let one : ◌≡◌ {A = ℕ} (cond (weak == weak) 1 0) 1 = ap (λ k. cond k 1 0) (eq-eqb weak weak refl) in
          absent weak (all_waits (dying_now next ∷ below)) (omega (
            arith,
            all,
            one,
            occurrences-cons weak weak waiting,
            occurrences-append weak (weak ∷ waiting)
                (all_waits below),
            occurrences-append weak waiting (all_waits below),
          ))

  emptying_orderly : (m : Option Entry) → last_entry (entries_of v.objects o) ≡ m → Calm script (at Emptying) → HasOrder (at Emptying) → HasOrder (empty_one o below (at Emptying) m).1
  emptying_orderly None e c h =
      without_orderly o v.objects v.names below c.stack.0.unheld.names c.stack.0.unheld.root (λ x m. (c.stack.0.unheld.quiet x m).entries)
      (popped_free (dying_now Emptying) below o c.stack.0.unheld.stack)
      (λ d m. not_dying o below d c.over.0 m) (pop_orderly (dying_now Emptying) (λ k. k) h)
  emptying_orderly (Some entry) e c h =
      gives_up_orderly (entry_references entry) (death_at o Emptying below (with_change (with_entries shorter) o (at Emptying))) (λ k. k)
      (λ s m. lives_after v.objects (change (with_entries shorter) o v.objects) (entries_alter shorter o v.objects) s
      (own_entries_live s (references_of_member (entries_of v.objects o) entry s (slice_get_member (entries_of v.objects o)
      (length (entries_of v.objects o) - 1) entry e) m)))
      (entries_orderly o shorter (λ k. c.stack.0.unheld.stack (waits_held (at Emptying).stack o k)) (λ f k. own_entries_live f (taken f k))
      (λ x m i w f k. subst (λ es. Includes (references es) f) (ap (λ z. unwrap_or (option_map (λ (q : Object). q.entries) z) [])
      (subst (λ s. object_at v.objects s ≡ Some x) i (at_member 1 v.next_serial v.objects x rises m))) (taken f k)) (λ x m i w n. callback_shorter
      (entries_of v.objects o) (found_callback v.objects o x (subst (λ s. object_at v.objects s ≡ Some x) i (at_member 1 v.next_serial v.objects x rises m))
      n)) h)
    where
      shorter : List Entry
      shorter = without_last (entries_of v.objects o)

      taken : (f : ℕ) → Includes (references shorter) f → Includes (references (entries_of v.objects o)) f
      taken f k = references_take (length (entries_of v.objects o) - 1) (entries_of v.objects o) f k

      own_entries_live : (f : ℕ) → Includes (references (entries_of v.objects o)) f → Includes (serials v.objects) f
      own_entries_live f k = found_entries_live v.objects v.names (at Emptying).stack o f h k

  pub dying_orderly : (phase : DyingPhase) → Calm script (at phase) → HasOrder (at phase) → HasOrder (dying script o phase below (at phase)).1
  dying_orderly Finalizer c h = finalizer_orderly (option_and_then (finalizer_to_run script) (object_at v.objects o)) h
  dying_orderly AfterFinalizer c h = after_frame_orderly AfterFinalizer (Clearing []) refl (λ s k. k) h
  dying_orderly (Clearing waiting) c h = clearing_orderly waiting (weak_references_if has_weak_references v.objects o) refl h
  dying_orderly (Calling waiting) c h = calling_orderly waiting h
  dying_orderly (AfterCall weak callback waiting) c h =
      gives_up_orderly (callback ∷ weak ∷ []) (at (Calling waiting)) (λ k. k) (λ s m. own_held (AfterCall weak callback waiting) v.objects h s
      (either m (λ e. inl e) (λ k. either k (λ e. inr (inl e)) (λ n. absurd n))))
      (goes_to (AfterCall weak callback waiting) (Calling waiting) v.objects (λ s m. own_held (AfterCall weak callback waiting) v.objects h s (inr (inr m))) (λ s k. k) (λ s. omega arith) h)
  dying_orderly LegacyFinalizer c h = option_either (λ lines. HasOrder) (run_legacy script o below (at LegacyFinalizer)) (option_and_then (legacy_of script) (object_at v.objects o))
      (λ is. goes_to LegacyFinalizer Detaching v.objects (λ s k. absurd k) (λ weak k. k) (λ weak. omega arith) h)
      (λ p is. let moved = one_orderly (with_place (Gen 0)) o (λ x. still_later) (λ x. refl) (λ x e. false_true e) h in
      starts_orderly script (record { sort = Legacy; proc = p; subject = o; func = None })
      (death_at o AfterLegacy below (with_change (with_place (Gen 0)) o (at LegacyFinalizer))) (λ k. k) (λ s k. absurd k)
      (goes_to LegacyFinalizer AfterLegacy (change (with_place (Gen 0)) o v.objects) (its_own (change (with_place (Gen 0)) o v.objects)
      (own_lives LegacyFinalizer (change (with_place (Gen 0)) o v.objects) moved)) (λ weak k. k) (λ weak. omega arith) moved))
  dying_orderly AfterLegacy c h = after_frame_orderly AfterLegacy Detaching refl (λ s k. k) h
  dying_orderly Detaching c h = list_either (λ lines. HasOrder) (detach_one o below (at Detaching)) (weak_references_if (has_finalizers script) v.objects o)
      (λ e. goes_to Detaching Emptying v.objects (λ s k. absurd k) (λ weak k. k) (λ weak. omega arith) h)
      (λ weak weaks e. lost_orderly weak h)
  dying_orderly Emptying c h = emptying_orderly (last_entry (entries_of v.objects o)) refl c h
