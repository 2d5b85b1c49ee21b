-- Each step of a death keeps the invariant of dying objects.
use Rattle.std.proofs.Common.{◌≡◌, ◌≢◌, refl, sym, ◌∙◌, ap, subst, ℕ, ◌-◌, Bool, true, false, not, inl, inr, List, [], ◌∷◌, ◌++◌, Option, Some, None}
use Rattle.std.specs.Prelude.{◌==◌, if◌then◌else◌, flat_map, is_some, option_and_then, unwrap_or}
use Rattle.std.proofs.lemmas.Bool.{eqb-true, eq-eqb, ne_eqb}
use Rattle.cg_value.specs.declared.Entry.{Entry}
use Rattle.cg_value.specs.declared.Place.{Place}
use Rattle.cg_value.specs.declared.Place.TheVariants.{Untracked, Gen}
use Rattle.cg_script.specs.declared.Script.{Script}
use Rattle.cg_graph.specs.Member.{Includes}
use Rattle.cg_graph.specs.Value.{entry_references, last_entry, without_last}
use Rattle.cg_graph.specs.Object.{Object, change, without, object_at, entries_of, with_place, with_entries, marked, serials}
use Rattle.cg_graph.proofs.Members.{either, or_right, Includes-append_cases, Includes-map, Includes-map_cases, Includes-filter, Includes-filter_cases}
use Rattle.cg_machine.specs.declared.event.FrameSort.TheVariants.{Del, Legacy, Callback}
use Rattle.cg_machine.specs.declared.event.FrameSpec.{FrameSpec}
use Rattle.cg_machine.specs.Program.{finalizer_of, legacy_of}
use Rattle.cg_machine.specs.World.{push, World, Activity, Releasing, Dying, Death, DyingPhase, Finalizer, AfterFinalizer, Clearing, Calling, AfterCall, LegacyFinalizer, AfterLegacy, Detaching, Emptying, with_stack}
use Rattle.cg_machine.specs.Frame.{start_frame, procedure_of}
use Rattle.cg_machine.specs.Holdings.{holds, call_holds, dying_holds, in_degree}
use Rattle.cg_machine.specs.Weak.{has_weak_references, weak_references_if, loses_referent, callback_of}
use Rattle.cg_machine.specs.Dying.{death_at, has_finalizers, finalizer_to_run, run_finalizer, run_legacy, after_frame, clear_one, detach_one, empty_one, dying}
use Rattle.cg_represents.proofs.Serials.{Rises}
use Rattle.cg_laws.proofs.MeasureInDeaths.{refers_first}
use Rattle.cg_laws.proofs.Unreferred.{IsQuiet, AreQuiet, Unheld, NoneRefers, Forgotten, Mortal, HasFinalizers, Alters, alters_refl, change_alters, test_quiet, untracked_quiet, place_quiet, entries_quiet, lost_quiet, lost_alters, entries_alter, place_alters, mortal_after, finalizers_after, unreferred_after, referred_after, lives_after, still_unheld, still_forgotten, still_later}
use Rattle.cg_laws.proofs.Unheld.{IsLocalHeld, AreResting, Rests, Stands, Calm, Keeps, resting_stack, resting_after, altered_keeps, same_objects, popped_free, top_free, pushed_free, turned_free, not_dying}
use Rattle.cg_laws.proofs.Lookups.{at_member, found_lives, last_free, last_lives, shorter_free, callback_free, none_found, found_referent}
use Rattle.cg_laws.proofs.Releasing.{HeldByNone, none_holds, starts_calm}
use Rattle.cg_laws.proofs.Starting.{own_frame_either, option_either}

pub some_not_none : {X : Type 0} (m : Option X) → is_some m ≡ true → m ≢ None
some_not_none m some none = let no : false ≡ true = ap (λ k. is_some k) (sym none) ∙ some in cc

module _ (script : Script) (o : ℕ) (below : List Activity) (v : World) (rises : Rises 1 v.next_serial v.objects) where
  -- the death at a phase
  abbrev at : DyingPhase → World
  at phase = death_at o phase below v

  abbrev dying_now : DyingPhase → Activity
  dying_now phase = Dying (record { object = o; phase = phase })

  -- the world after a step in which the objects change
  abbrev to : DyingPhase → List Object → World
  to next objects = record v { objects = objects; stack = Dying (record { object = o; phase = next }) ∷ below }

  other : (phase : DyingPhase) → Calm script (at phase) → (d : Death) → Includes below (Dying d) → d.object ≢ o
  other phase c d m = not_dying o below d c.over.0 m

  turn_free : (phase next : DyingPhase) (p : ℕ) → (¬ Includes (dying_holds o phase) p → ¬ Includes (dying_holds o next) p)
      → ¬ Includes (flat_map holds (at phase).stack) p → ¬ Includes (flat_map holds (Dying (record { object = o; phase = next }) ∷ below)) p
  turn_free phase next p h = turned_free (dying_now phase) (dying_now next) below p h

  -- The deaths below are unchanged.
  below_rest : (phase next : DyingPhase) (objects : List Object) → Alters v.objects objects → Calm script (at phase)
      → ((d : Death) → Includes below (Dying d) → Mortal v.objects d.object → Forgotten (at phase) d.object → AreQuiet d.object objects × ¬ Includes (dying_holds o next) d.object)
      → AreResting script (to next objects) below
  below_rest phase next objects alters c keeps = resting_after script (at phase) (to next objects) below
      (λ d m. altered_keeps script (at phase) (to next objects) d.object alters (λ l f.
      let k = keeps d m l f in
      still_forgotten (at phase) (to next objects) d.object refl alters (λ q. k.0) (turn_free phase next d.object (λ h. k.1)) f))
      c.stack.1

  goes_to : (phase next : DyingPhase) (objects : List Object) → Alters v.objects objects → Calm script (at phase)
      → ((d : Death) → Includes below (Dying d) → Mortal v.objects d.object → Forgotten (at phase) d.object → AreQuiet d.object objects × ¬ Includes (dying_holds o next) d.object)
      → Stands script (to next objects) o next → Calm script (to next objects)
  goes_to phase next objects alters c keeps stands = record {
    referred = referred_after v.objects objects alters c.referred;
    over = c.over;
    stack = (stands, below_rest phase next objects alters c keeps);
  }

  calls : (phase next : DyingPhase) (spec : FrameSpec) (objects : List Object) → Alters v.objects objects → Calm script (at phase)
      → ((d : Death) → Includes below (Dying d) → Mortal v.objects d.object → Forgotten (at phase) d.object → AreQuiet d.object objects × ¬ Includes (dying_holds o next) d.object)
      → Rests script (to next objects) o next → IsLocalHeld spec.sort spec.subject (to next objects).stack
      → ((p : ℕ) → ¬ Includes (call_holds spec.sort spec.func) p) → Calm script (start_frame script spec (to next objects)).1
  calls phase next spec objects alters c keeps rests local none =
      starts_calm script spec (to next objects) (referred_after v.objects objects alters c.referred) c.over
      (λ d m. either m (λ e. subst (λ (x : Death). Rests script (to next objects) x.object x.phase) (death_is d e) rests) (λ k. below_rest phase next objects alters c keeps d k))
      local (λ p l f. none p)
    where
      death_is : (d : Death) → dying_now next ≡ Dying d → record { object = o; phase = next } ≡ d
      death_is d e = cc

  -- what the objects below keep where only the death's own object moves
  placed_quiet : (phase : DyingPhase) (p : Place) → Calm script (at phase) → (d : Death) → Includes below (Dying d) → Forgotten (at phase) d.object
      → AreQuiet d.object (change (with_place p) o v.objects)
  placed_quiet phase p c d m f = place_quiet d.object o p (λ e. other phase c d m (sym e)) v.objects f.unheld.quiet

  abbrev revived : Object → Object
  revived x = marked (with_place (Gen 0) x)

  revived_alters : Alters v.objects (change revived o v.objects)
  revived_alters = change_alters revived (λ x. still_later) o v.objects

  revived_quiet : (p : ℕ) → o ≢ p → AreQuiet p v.objects → AreQuiet p (change revived o v.objects)
  revived_quiet p apart q = test_quiet p revived (λ x. x.serial == o)
      (λ x e k. record { entries = k.entries; untracked = λ i. absurd (apart (sym (eqb-true x.serial o e) ∙ i)); refers_to_none = k.refers_to_none }) v.objects
      q

  mortal : (phase : DyingPhase) → Unheld (at phase) o → Includes (serials v.objects) o → Mortal v.objects o
  mortal phase h lives = record { lives = lives; refers_to_none = λ x m e. (h.quiet x m).refers_to_none e }

  lives_where : (f : Object → Option ℕ) (p : ℕ) → option_and_then f (object_at v.objects o) ≡ Some p → (x : Object) × (object_at v.objects o ≡ Some x) × (f x ≡ Some p)
  lives_where f p e = go (object_at v.objects o) refl e
    where
      go : (m : Option Object) → object_at v.objects o ≡ m → option_and_then f m ≡ Some p → (x : Object) × (object_at v.objects o ≡ Some x) × (f x ≡ Some p)
      go None i k = absurd (let no : None ≡ Some p = k in cc)
      go (Some x) i k = (x, i, k)

  after_frame_calm : (phase next : DyingPhase) → Mortal v.objects o → ((p : ℕ) → ¬ Includes (dying_holds o next) p)
      → (Unheld (to next (change (with_place Untracked) o v.objects)) o → Stands script (to next (change (with_place Untracked) o v.objects)) o next)
      → Calm script (at phase) → Calm script (after_frame o next below (at phase)).1
  after_frame_calm phase next mortal none stands c = own_frame_either (λ lines. Calm script) o next below (at phase)
      (λ e. goes_to phase next objects (place_alters Untracked o v.objects) c (λ d m l f. (
        untracked_quiet d.object o v.objects f.unheld.quiet,
        none d.object,
      )) (stands (unheld (none_holds (at next) o (eqb-true (in_degree (at next) o) 0 e)))))
      (λ e. ended)
    where
      objects : List Object
      objects = change (with_place Untracked) o v.objects

      quiet : HeldByNone (at next) o → AreQuiet o objects
      quiet free y m =
          let x = Includes-map_cases (λ x. if x.serial == o then with_place Untracked x else x) v.objects y m in
          subst (IsQuiet o) x.2 (one x.0 x.1 (x.0.serial == o) refl)
        where
          one : (x : Object) → Includes v.objects x → (b : Bool) → (x.serial == o) ≡ b → IsQuiet o (if b then with_place Untracked x else x)
          one x m true e = record { entries = free.entries x m; untracked = λ i. refl; refers_to_none = λ i. mortal.refers_to_none x m i }
          one x m false e = record {
            entries = free.entries x m;
            untracked = λ i. absurd (let no : true ≡ false = sym (eq-eqb x.serial o i) ∙ e in cc);
            refers_to_none = λ i. mortal.refers_to_none x m i;
          }

      unheld : HeldByNone (at next) o → Unheld (to next objects) o
      unheld free = record { quiet = quiet free; names = free.names; root = free.root; stack = free.stack }

      ended : Calm script (with_stack below v)
      ended = record {
        referred = c.referred;
        over = c.over.1;
        stack = resting_stack script (with_stack below v) below (resting_after script (at phase) (with_stack below v) below
            (λ d m. same_objects script (at phase) (with_stack below v) d.object refl refl (popped_free (dying_now phase) below d.object)) c.stack.1);
      }

  keeps_lost : (phase next : DyingPhase) (weak : ℕ) → ((p : ℕ) → Mortal v.objects p → ¬ Includes (dying_holds o phase) p → ¬ Includes (dying_holds o next) p)
      → (d : Death) → Includes below (Dying d) → Mortal v.objects d.object → Forgotten (at phase) d.object → AreQuiet d.object (loses_referent weak v.objects)
      × ¬ Includes (dying_holds o next) d.object
  keeps_lost phase next weak free d m l f = (lost_quiet d.object weak v.objects f.unheld.quiet, free d.object l (top_free (dying_now phase) below d.object f.unheld.stack))

  waits_free : (y : Object) (weak p : ℕ) (b : Bool) (waiting : List ℕ) → (y.serial ≡ p → y.referent ≡ None) → y.serial ≡ weak → is_some y.referent ≡ true
      → ¬ Includes waiting p → ¬ Includes (waiting ++ (if b then weak ∷ [] else [])) p
  waits_free y weak p b waiting refers same some free m = either (Includes-append_cases waiting (if b then weak ∷ [] else []) p m) free (new b)
    where
      new : (t : Bool) → ¬ Includes (if t then weak ∷ [] else []) p
      new true k = either k (λ e. some_not_none y.referent some (refers (same ∙ e))) (λ n. n)
      new false k = k

  clearing_calm : (waiting weaks : List ℕ) → weak_references_if has_weak_references v.objects o ≡ weaks → Calm script (at (Clearing waiting))
      → Calm script (clear_one o waiting below (at (Clearing waiting)) weaks).1
  clearing_calm waiting [] e c =
      goes_to (Clearing waiting) (Calling waiting) v.objects (alters_refl v.objects) c (λ d m l f. (f.unheld.quiet, top_free (dying_now (Clearing waiting)) below d.object f.unheld.stack))
      (record { unheld = unheld; unreferred = unreferred }, λ h. mortal (Clearing waiting) c.stack.0.0 (c.stack.0.1 h))
    where
      unheld : Unheld (at (Calling waiting)) o
      unheld = still_unheld (at (Clearing waiting)) (at (Calling waiting)) o refl (λ q. q) (turn_free (Clearing waiting) (Calling waiting) o (λ h. h)) c.stack.0.0

      unreferred : NoneRefers o v.objects
      unreferred x m refers =
          let z = c.referred x m o refers in
          none_found has_weak_references 1 v.next_serial v.objects o z.0 x rises e z.1 z.2 z.3 m refers
  clearing_calm waiting (weak ∷ weaks) e c =
      goes_to (Clearing waiting) next (loses_referent weak v.objects) (lost_alters weak v.objects) c
      (keeps_lost (Clearing waiting) next weak (λ p l free. waits_free y.0 weak p calls_back waiting (l.refers_to_none y.0 y.1) y.2 y.3 free)) (
        still_unheld (at (Clearing waiting)) (to next (loses_referent weak v.objects)) o refl (lost_quiet o weak v.objects) (turn_free (Clearing waiting) next o
            (λ free. waits_free y.0 weak o calls_back waiting (c.stack.0.0.quiet y.0 y.1).refers_to_none y.2 y.3 free)) c.stack.0.0,
        λ h. lives_after v.objects (loses_referent weak v.objects) (lost_alters weak v.objects) o (found_referent has_weak_references v.objects o weak weaks e),
      )
    where
      calls_back : Bool
      calls_back = is_some (callback_of v.objects weak)

      next : DyingPhase
      next = Clearing (waiting ++ (if calls_back then weak ∷ [] else []))

      y : (x : Object) × Includes v.objects x × (x.serial ≡ weak) × (is_some x.referent ≡ true)
      y = refers_first has_weak_references v.objects o weak weaks e

  legacy_calm : (m : Option ℕ) → option_and_then (legacy_of script) (object_at v.objects o) ≡ m → Calm script (at LegacyFinalizer) → Calm script (run_legacy script o below (at LegacyFinalizer) m).1
  legacy_calm None e c =
      goes_to LegacyFinalizer Detaching v.objects (alters_refl v.objects) c (λ d m l f. (f.unheld.quiet, λ k. k))
      (still_unheld (at LegacyFinalizer) (at Detaching) o refl (λ q. q) (turn_free LegacyFinalizer Detaching o (λ h. h)) c.stack.0.unheld, inr c.stack.0.unreferred)
  legacy_calm (Some p) e c =
      let found = lives_where (legacy_of script) p e in
      calls LegacyFinalizer AfterLegacy (record { sort = Legacy; proc = p; subject = o; func = None }) (change (with_place (Gen 0)) o v.objects) (place_alters (Gen 0) o v.objects) c
      (λ d m l f. (placed_quiet LegacyFinalizer (Gen 0) c d m f, λ k. either k (λ i. other LegacyFinalizer c d m (sym i)) (λ n. n))) (
        mortal_after v.objects (change (with_place (Gen 0)) o v.objects) (place_alters (Gen 0) o v.objects) o (mortal LegacyFinalizer c.stack.0.unheld (found_lives v.objects o found.0 found.1)),
        finalizers_after script v.objects (change (with_place (Gen 0)) o v.objects) (place_alters (Gen 0) o v.objects) o (has found.0 found.1 found.2),
      )
      (inl refl) (λ p k. k)
    where
      has : (x : Object) → object_at v.objects o ≡ Some x → legacy_of script x ≡ Some p → HasFinalizers script v.objects o
      has x at_o is y m same =
          let at_y : object_at v.objects o ≡ Some y = subst (λ s. object_at v.objects s ≡ Some y) same (at_member 1 v.next_serial v.objects y rises m) in
          let one : x ≡ y = let both : Some x ≡ Some y = sym at_o ∙ at_y in cc in
          or_right (is_some (finalizer_of script y)) (is_some (legacy_of script y)) (ap (λ k. is_some k) (subst (λ z. legacy_of script z ≡ Some p) one is))

  detaching_calm : (weaks : List ℕ) → weak_references_if (has_finalizers script) v.objects o ≡ weaks → Calm script (at Detaching) → Calm script (detach_one o below (at Detaching) weaks).1
  detaching_calm [] e c =
      goes_to Detaching Emptying v.objects (alters_refl v.objects) c (λ d m l f. (f.unheld.quiet, λ k. k))
      (record { unheld = still_unheld (at Detaching) (at Emptying) o refl (λ q. q) (turn_free Detaching Emptying o (λ h. h)) c.stack.0.0; unreferred = either c.stack.0.1 none (λ k. k) })
    where
      none : HasFinalizers script v.objects o → NoneRefers o v.objects
      none has x m refers =
          let z = c.referred x m o refers in
          none_found (has_finalizers script) 1 v.next_serial v.objects o z.0 x rises e z.1 z.2 (has z.0 z.1 z.2) m refers
  detaching_calm (weak ∷ weaks) e c =
      goes_to Detaching Detaching (loses_referent weak v.objects) (lost_alters weak v.objects) c (keeps_lost Detaching Detaching weak (λ p l free. free)) (
        still_unheld (at Detaching) (to Detaching (loses_referent weak v.objects)) o refl (lost_quiet o weak v.objects) (λ k. k) c.stack.0.0,
        either c.stack.0.1 (λ has. inl (finalizers_after script v.objects (loses_referent weak v.objects) (lost_alters weak v.objects) o has))
            (λ none. inr (unreferred_after v.objects (loses_referent weak v.objects) (lost_alters weak v.objects) o none)),
      )

  emptying_calm : (m : Option Entry) → last_entry (entries_of v.objects o) ≡ m → Calm script (at Emptying) → Calm script (empty_one o below (at Emptying) m).1
  emptying_calm None e c = record {
    referred = λ x m r i.
        let kept = Includes-filter_cases (λ y. not (y.serial == o)) v.objects x m in
        let z = c.referred x kept.0 r i in
        (z.0, stays z.0 z.1 (λ same. c.stack.0.unreferred x kept.0 (i ∙ ap (λ s. Some s) (sym z.2 ∙ same))), z.2, z.3);
    over = c.over.1;
    stack = resting_stack script after below (resting_after script (at Emptying) after below (λ d m. keeps d.object (other Emptying c d m)) c.stack.1);
  }
    where
      after : World
      after = with_stack below (record v { objects = without o v.objects; numbers = record v.numbers { zero_count = v.numbers.zero_count - 1 } })

      stays : (z : Object) → Includes v.objects z → z.serial ≢ o → Includes (without o v.objects) z
      stays z m apart = Includes-filter (λ y. not (y.serial == o)) v.objects z (ap not (ne_eqb z.serial o apart)) m

      was : (x : Object) → Includes (without o v.objects) x → Includes v.objects x
      was x m = (Includes-filter_cases (λ y. not (y.serial == o)) v.objects x m).0

      lives : (p : ℕ) → p ≢ o → Includes (serials v.objects) p → Includes (serials (without o v.objects)) p
      lives p apart m =
          let x = Includes-map_cases (λ (z : Object). z.serial) v.objects p m in
          subst (Includes (serials (without o v.objects))) x.2 (Includes-map (λ (z : Object). z.serial) (without o v.objects) x.0 (stays x.0 x.1 (λ k. apart (sym x.2 ∙ k))))

      keeps : (p : ℕ) → p ≢ o → Keeps script (at Emptying) after p
      keeps p apart = record {
        mortal = λ h. record { lives = lives p apart h.lives; refers_to_none = λ x m. h.refers_to_none x (was x m) };
        finalizers = λ l h x m. h x (was x m);
        forgotten = λ l f. record {
          unheld = record { quiet = λ x m. f.unheld.quiet x (was x m); names = f.unheld.names; root = f.unheld.root; stack = popped_free (dying_now Emptying) below p f.unheld.stack };
          unreferred = λ x m. f.unreferred x (was x m);
        };
      }
  emptying_calm (Some entry) e c = record {
    referred = referred_after v.objects objects alters c.referred;
    over = (tt, c.over);
    stack = (
      tt,
      λ d m. either m (λ i. subst (λ (x : Death). Rests script after x.object x.phase) (death_is d i) (lives, forgotten o c.stack.0))
          (λ k. resting_after script (at Emptying) after below (λ f n. altered_keeps script (at Emptying) after f.object alters (λ l g. forgotten f.object g))
          c.stack.1 d k),
    );
  }
    where
      objects : List Object
      objects = change (with_entries (without_last (entries_of v.objects o))) o v.objects

      alters : Alters v.objects objects
      alters = entries_alter (without_last (entries_of v.objects o)) o v.objects

      after : World
      after = push (Releasing (entry_references entry)) (to Emptying objects)

      death_is : (d : Death) → dying_now Emptying ≡ Dying d → record { object = o; phase = Emptying } ≡ d
      death_is d i = cc

      lives : Mortal objects o
      lives = mortal_after v.objects objects alters o (mortal Emptying c.stack.0.unheld (last_lives v.objects o entry e))

      forgotten : (p : ℕ) → Forgotten (at Emptying) p → Forgotten after p
      forgotten p f = still_forgotten (at Emptying) after p refl alters (entries_quiet p o (without_last (entries_of v.objects o)) (shorter_free v.objects o p f.unheld.quiet) v.objects)
          (pushed_free (Releasing (entry_references entry)) (dying_now Emptying ∷ below) p (last_free v.objects o p entry f.unheld.quiet e)) f

  pub dying_calm : (phase : DyingPhase) → Calm script (at phase) → Calm script (dying script o phase below (at phase)).1
  dying_calm Finalizer c = option_either (λ lines. Calm script) (run_finalizer script o below (at Finalizer)) (option_and_then (finalizer_to_run script) (object_at v.objects o))
      (λ e. goes_to Finalizer (Clearing []) v.objects (alters_refl v.objects) c (λ d m l f. (f.unheld.quiet, λ k. k))
      (still_unheld (at Finalizer) (at (Clearing [])) o refl (λ q. q) (turn_free Finalizer (Clearing []) o (λ h. h)) c.stack.0, λ h. absurd (h refl)))
      (λ p e. let found = lives_where (finalizer_to_run script) p e in
      calls Finalizer AfterFinalizer (record { sort = Del; proc = p; subject = o; func = None }) (change revived o v.objects) revived_alters c
      (λ d m l f. (revived_quiet d.object (λ i. other Finalizer c d m (sym i)) f.unheld.quiet, λ k. either k (λ i. other Finalizer c d m (sym i)) (λ n. n)))
      (mortal_after v.objects (change revived o v.objects) revived_alters o (mortal Finalizer c.stack.0 (found_lives v.objects o found.0 found.1)))
      (inl refl) (λ p k. k))
  dying_calm AfterFinalizer c = after_frame_calm AfterFinalizer (Clearing []) c.stack.0 (λ p k. k) (λ h. (h, λ n. absurd (n refl))) c
  dying_calm (Clearing waiting) c = clearing_calm waiting (weak_references_if has_weak_references v.objects o) refl c
  dying_calm (Calling []) c =
      goes_to (Calling []) LegacyFinalizer v.objects (alters_refl v.objects) c (λ d m l f. (f.unheld.quiet, λ k. k))
      (still_forgotten (at (Calling [])) (at LegacyFinalizer) o refl (alters_refl v.objects) (λ q. q) (turn_free (Calling []) LegacyFinalizer o (λ h. h)) c.stack.0.0)
  dying_calm (Calling (weak ∷ waiting)) c =
      calls (Calling (weak ∷ waiting)) next (record { sort = Callback; proc = procedure_of (at (Calling (weak ∷ waiting))) callback; subject = weak; func = Some callback }) objects alters c
      (λ d m l f. (entries_quiet d.object weak [] (λ k. k) v.objects f.unheld.quiet, held d.object l f.unheld.quiet (top_free (dying_now (Calling (weak ∷ waiting))) below d.object f.unheld.stack))) (
        mortal_after v.objects objects alters o lives,
        still_forgotten (at (Calling (weak ∷ waiting))) (to next objects) o refl alters (entries_quiet o weak [] (λ k. k) v.objects)
            (turn_free (Calling (weak ∷ waiting)) next o (held o lives c.stack.0.0.unheld.quiet)) c.stack.0.0,
      )
      (inr (inl refl)) (λ p k. k)
    where
      callback : ℕ
      callback = unwrap_or (callback_of v.objects weak) 0

      next : DyingPhase
      next = AfterCall weak callback waiting

      objects : List Object
      objects = change (with_entries []) weak v.objects

      alters : Alters v.objects objects
      alters = entries_alter [] weak v.objects

      lives : Mortal v.objects o
      lives = c.stack.0.1 (λ e. let no : weak ∷ waiting ≡ [] = e in cc)

      held : (p : ℕ) → Mortal v.objects p → AreQuiet p v.objects → ¬ Includes (weak ∷ waiting) p → ¬ Includes (callback ∷ weak ∷ waiting) p
      held p l q free k = either k (callback_free 0 v.next_serial v.objects weak p rises l.lives q) free
  dying_calm (AfterCall weak callback waiting) c = record {
    referred = c.referred;
    over = (tt, c.over);
    stack = (
      tt,
      λ d m. either m (λ e. subst (λ (x : Death). Rests script after x.object x.phase) (death_is d e) (c.stack.0.0, forgotten o c.stack.0.1))
          (λ k. resting_after script before after below (λ e n. altered_keeps script before after e.object (alters_refl v.objects) (λ l f. forgotten e.object f))
          c.stack.1 d k),
    );
  }
    where
      before : World
      before = at (AfterCall weak callback waiting)

      after : World
      after = push (Releasing (callback ∷ weak ∷ [])) (at (Calling waiting))

      death_is : (d : Death) → dying_now (Calling waiting) ≡ Dying d → record { object = o; phase = Calling waiting } ≡ d
      death_is d e = cc

      forgotten : (p : ℕ) → Forgotten before p → Forgotten after p
      forgotten p f = still_forgotten before after p refl (alters_refl v.objects) (λ q. q) (λ free.
          pushed_free (Releasing (callback ∷ weak ∷ [])) (dying_now (Calling waiting) ∷ below) p (λ k. free (either k (λ e. inl e) (λ n. either n (λ e. inr (inl e)) (λ i. absurd i))))
          (turn_free (AfterCall weak callback waiting) (Calling waiting) p (λ h k. h (inr (inr k))) free)) f
  dying_calm LegacyFinalizer c = legacy_calm (option_and_then (legacy_of script) (object_at v.objects o)) refl c
  dying_calm AfterLegacy c = after_frame_calm AfterLegacy Detaching c.stack.0.0 (λ p k. k)
      (λ h. (h, inl (finalizers_after script v.objects (change (with_place Untracked) o v.objects) (place_alters Untracked o v.objects) o c.stack.0.1))) c
  dying_calm Detaching c = detaching_calm (weak_references_if (has_finalizers script) v.objects o) refl c
  dying_calm Emptying c = emptying_calm (last_entry (entries_of v.objects o)) refl c
