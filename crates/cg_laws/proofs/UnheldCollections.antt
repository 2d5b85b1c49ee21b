-- Each step of a collection keeps the invariant of dying objects: what it holds is in a place of its own, while an unheld
-- dying object is untracked.
use Rattle.std.proofs.Common.{◌≡◌, ◌≢◌, refl, sym, ◌∙◌, ap, subst, ℕ, Bool, true, false, inl, inr, List, [], ◌∷◌, ◌++◌, map, length, Option, Some, None}
use Rattle.std.specs.Prelude.{◌==◌, ◌+◌, if◌then◌else◌, flat_map, filter, option_map, option_and_then, unwrap_or}
use Rattle.std.proofs.lemmas.Bool.{eqb-true, and_parts}
use Rattle.cg_value.specs.declared.Val.TheVariants.{Ref}
use Rattle.cg_value.specs.declared.Place.{Place}
use Rattle.cg_value.specs.declared.Place.TheVariants.{Untracked, Gen, Cand, Seen, Legacy, Pend}
use Rattle.cg_script.specs.declared.Script.{Script}
use Rattle.cg_graph.specs.Member.{Includes, includes}
use Rattle.cg_graph.specs.Value.{item, entry_references, last_entry, without_last}
use Rattle.cg_graph.specs.Object.{Object, change, object_at, entries_of, is_at, same_place, with_place, with_entries, marked, serials, serials_at, objects_at}
use Rattle.cg_graph.specs.declared.Edge.{Edge}
use Rattle.cg_graph.specs.Reach.{Reach, first, next as further}
use Rattle.cg_graph.proofs.Members.{either, Includes-of, Includes-append_cases, Includes-map, Includes-map_cases, Includes-filter_cases}
use Rattle.cg_machine.specs.declared.event.Event.{Event}
use Rattle.cg_machine.specs.declared.event.FrameSort.TheVariants.{Del, Callback}
use Rattle.cg_machine.specs.declared.event.FrameSpec.{FrameSpec}
use Rattle.cg_machine.specs.Program.{profile_of}
use Rattle.cg_machine.specs.World.{World, Activity, Releasing, Dying, Collecting, Death, Collection, CollectPhase, Start, WeakClearing, WeakCalling, AfterCallback, AfterRelease, Finalizing, AfterFinalizing, Split, Turns, Turn, AfterTurn, Ending, Numbers, push, with_stack, with_objects}
use Rattle.cg_machine.specs.Frame.{start_frame, procedure_of}
use Rattle.cg_machine.specs.Holdings.{holds, call_holds, collect_holds}
use Rattle.cg_machine.specs.Weak.{loses_referent, callback_of, AllLose}
use Rattle.cg_machine.specs.Dying.{finalizer_to_run}
use Rattle.cg_machine.specs.Collect.{collection_at, merged_place, sorted, older, waits, calls_back, after_release, looks_at, IsMemberOf, replaced_place, get_older, loses_at_split, takes_turn, saved, all_saved, is_saved, empties, after_turn, PhaseStep}
use Rattle.cg_laws.proofs.Unreferred.{IsQuiet, AreQuiet, Forgotten, Mortal, Alters, alters_refl, alters_trans, map_alters, if_alters, change_alters, place_later, map_quiet, test_quiet, place_quiet, entries_quiet, lost_quiet, lost_alters, entries_alter, place_alters, referred_after, still_forgotten, still_later}
use Rattle.cg_laws.proofs.Pointwise.{GoesOn, all_lose_by, all_saved_by}
use Rattle.cg_laws.proofs.Unheld.{IsLocalHeld, AreResting, GivenUp, IsHeldWhereDying, Calm, resting_stack, resting_after, altered_keeps, popped_free, top_free, pushed_free, turned_free, held_where_dying}
use Rattle.cg_laws.proofs.Lookups.{references-append, last_free, shorter_free}
use Rattle.cg_represents.proofs.Lists.{absent, no_times}
use Rattle.cg_laws.proofs.Releasing.{starts_calm}
use Rattle.cg_laws.proofs.Clearing.{refers_early}
use Rattle.cg_laws.proofs.Starting.{turn_either, called_back_either, option_either}

-- an object in a tracked place is not quiet
quiet_apart : (o : ℕ) (p : Place) (x : Object) → same_place Untracked p ≡ false → is_at p x ≡ true → IsQuiet o x → x.serial ≢ o
quiet_apart o p x tracked at q same = let no : true ≡ false = sym at ∙ ap (λ r. same_place r p) (q.untracked same) ∙ tracked in cc

pub member_apart : (objects : List Object) (o : ℕ) (p : Place) (s : ℕ) → same_place Untracked p ≡ false → AreQuiet o objects → Includes (serials_at objects p) s → s ≢ o
member_apart objects o p s tracked q m =
    let x = Includes-map_cases (λ (z : Object). z.serial) (objects_at objects p) s m in
    let kept = Includes-filter_cases (is_at p) objects x.0 x.1 in
    λ e. quiet_apart o p x.0 tracked kept.1 (q x.0 kept.0) (x.2 ∙ e)

moved_quiet : (o : ℕ) (p : Place) (places : Object → Place) (objects : List Object) → same_place Untracked p ≡ false → AreQuiet o objects
    → AreQuiet o (map (λ x. if is_at p x then with_place (places x) x else x) objects)
moved_quiet o p places objects tracked q = test_quiet o (λ x. with_place (places x) x) (is_at p) (λ x e k. record {
  entries = k.entries;
  untracked = λ i. absurd (quiet_apart o p x tracked e k i);
  refers_to_none = k.refers_to_none;
}) objects q

pub moved_alters : (p : Place) (places : Object → Place) (objects : List Object) → Alters objects (map (λ x. if is_at p x then with_place (places x) x else x) objects)
moved_alters p places objects = if_alters (λ x. with_place (places x) x) (λ x. place_later (places x) x) (is_at p) objects

saved_quiet : (o s : ℕ) (objects : List Object) → s ≢ o → AreQuiet o objects → AreQuiet o (saved s objects)
saved_quiet o s objects apart q = test_quiet o (λ x. with_entries (x.entries ++ item (Ref s) ∷ []) x) (λ x. x.serial == 1) (λ x e k. record {
  entries = λ m. either (references-append x.entries (item (Ref s) ∷ []) o m) k.entries (λ n. either n apart (λ i. i));
  untracked = k.untracked;
  refers_to_none = k.refers_to_none;
}) objects q

alterations : GoesOn Alters
alterations = record { same = alters_refl; trans = alters_trans }

pub saved_alters : (s : ℕ) (objects : List Object) → Alters objects (saved s objects)
saved_alters s objects = change_alters (λ x. with_entries (x.entries ++ item (Ref s) ∷ []) x) (λ x. still_later) 1 objects

all_saved_quiet : (o : ℕ) (keeps : List ℕ) (objects : List Object) → ¬ Includes keeps o → AreQuiet o objects → AreQuiet o (all_saved keeps objects)
all_saved_quiet o [] objects apart q = q
all_saved_quiet o (s ∷ keeps) objects apart q = all_saved_quiet o keeps (saved s objects) (λ m. apart (inr m)) (saved_quiet o s objects (λ e. apart (inl e)) q)

pub all_saved_alters : (keeps : List ℕ) (objects : List Object) → Alters objects (all_saved keeps objects)
all_saved_alters keeps = all_saved_by Alters alterations keeps (λ s m. saved_alters s)

pub all_lose_alters : (wanted : Object → Bool) (weaks : List ℕ) (objects after : List Object) → AllLose wanted objects weaks after → Alters objects after
all_lose_alters wanted weaks = all_lose_by Alters alterations wanted weaks (λ weak m. lost_alters weak)

all_lose_quiet : (o : ℕ) (wanted : Object → Bool) (weaks : List ℕ) (objects after : List Object) → AllLose wanted objects weaks after → AreQuiet o objects → AreQuiet o after
all_lose_quiet o wanted weaks = all_lose_by (λ before after. AreQuiet o before → AreQuiet o after)
    (record { same = λ objects q. q; trans = λ before now after h k q. k (h q) }) wanted weaks (λ weak m. lost_quiet o weak)

reached_inside : {Held Inside : ℕ → Type 0} (arrows : List Edge) (o : ℕ) → Reach Held Inside arrows o → Inside o
reached_inside arrows o (first held inside) = inside
reached_inside arrows o (further path arrow inside) = inside

module _ (script : Script) (c : Collection) (below : List Activity) (v : World) where
  -- the collection at a phase
  abbrev at : CollectPhase → World
  at phase = collection_at c phase below v

  -- the collection, perhaps with another count, goes on
  abbrev to : Collection → CollectPhase → List Object → Numbers → World
  to d phase objects numbers = record v { objects = objects; numbers = numbers; stack = Collecting (record d { phase = phase }) ∷ below }

  -- what a step keeps of the deaths below
  abbrev KeepsQuiet : CollectPhase → CollectPhase → List Object → Type 0
  KeepsQuiet phase next objects = (d : Death) → Includes below (Dying d) → Mortal v.objects d.object → Forgotten (at phase) d.object → AreQuiet d.object objects
      × ¬ Includes (collect_holds next) d.object

  keeps_forgotten : (phase next : CollectPhase) (e : Collection) (objects : List Object) (numbers : Numbers) → Alters v.objects objects → (p : ℕ)
      → AreQuiet p objects → ¬ Includes (collect_holds next) p → Forgotten (at phase) p → Forgotten (to e next objects numbers) p
  keeps_forgotten phase next e objects numbers alters p quiet free f =
      still_forgotten (at phase) (to e next objects numbers) p refl alters (λ q. quiet)
      (turned_free (Collecting (record c { phase = phase })) (Collecting (record e { phase = next })) below p (λ h. free)) f

  below_rest : (phase next : CollectPhase) (e : Collection) (objects : List Object) (numbers : Numbers) → Alters v.objects objects → Calm script (at phase)
      → KeepsQuiet phase next objects → AreResting script (to e next objects numbers) below
  below_rest phase next e objects numbers alters calm keeps = resting_after script (at phase) (to e next objects numbers) below
      (λ d m. altered_keeps script (at phase) (to e next objects numbers) d.object alters (λ l f. let k = keeps d m l f in keeps_forgotten phase next e objects
      numbers alters d.object k.0 k.1 f)) calm.stack.1

  goes_to : (phase next : CollectPhase) (e : Collection) (objects : List Object) (numbers : Numbers) → Alters v.objects objects → Calm script (at phase)
      → KeepsQuiet phase next objects → GivenUp next below → Calm script (to e next objects numbers)
  goes_to phase next e objects numbers alters calm keeps given = record {
    referred = referred_after v.objects objects alters calm.referred;
    over = (given, calm.over.1);
    stack = (tt, below_rest phase next e objects numbers alters calm keeps);
  }

  gives_up : (phase next : CollectPhase) (given_up : List ℕ) (objects : List Object) → Alters v.objects objects → Calm script (at phase) → KeepsQuiet phase next objects
      → ((p : ℕ) → Forgotten (at phase) p → ¬ Includes given_up p) → GivenUp next below → Calm script (push (Releasing given_up) (to c next objects v.numbers))
  gives_up phase next given_up objects alters calm keeps free given = record {
    referred = referred_after v.objects objects alters calm.referred;
    over = (tt, (given, calm.over.1));
    stack = (
      tt,
      λ d m. either m (λ e. cc) (λ k. resting_after script (at phase) after below
          (λ e n. altered_keeps script (at phase) after e.object alters (λ l f. let q = keeps e n l f in
          still_forgotten (at phase) after e.object refl alters (λ _. q.0)
          (λ h. pushed_free (Releasing given_up) (Collecting (record c { phase = next }) ∷ below) e.object (free e.object f)
          (turned_free (Collecting (record c { phase = phase })) (Collecting (record c { phase = next })) below e.object (λ _. q.1) h)) f)) calm.stack.1 d k),
    );
  }
    where
      after : World
      after = push (Releasing given_up) (to c next objects v.numbers)

  calls : (phase next : CollectPhase) (spec : FrameSpec) (objects : List Object) → Alters v.objects objects → Calm script (at phase) → KeepsQuiet phase next objects → GivenUp next below
      → IsLocalHeld spec.sort spec.subject (to c next objects v.numbers).stack → ((p : ℕ) → ¬ Includes (call_holds spec.sort spec.func) p)
      → Calm script (start_frame script spec (to c next objects v.numbers)).1
  calls phase next spec objects alters calm keeps given local none =
      starts_calm script spec (to c next objects v.numbers) (referred_after v.objects objects alters calm.referred) (given, calm.over.1)
      (λ d m. either m (λ e. cc) (λ k. below_rest phase next c objects v.numbers alters calm keeps d k)) local (λ p l f. none p)

  turn_holds : (phase : CollectPhase) (p : ℕ) → Forgotten (at phase) p → ¬ Includes (collect_holds phase) p
  turn_holds phase p f = top_free (Collecting (record c { phase = phase })) below p f.unheld.stack

  turns_to : (phase next : CollectPhase) → ((p : ℕ) → ¬ Includes (collect_holds phase) p → ¬ Includes (collect_holds next) p) → GivenUp next below → Calm script (at phase) → Calm script (at next)
  turns_to phase next free given calm = goes_to phase next c v.objects v.numbers (alters_refl v.objects) calm (λ d m l f. (f.unheld.quiet, free d.object (turn_holds phase d.object f))) given

  moves_to : (after now : World) → after ≡ now → Calm script now → Calm script after
  moves_to after now e k = subst (Calm script) (sym e) k

  calls_back_calm : (waiting : List ℕ) → Calm script (at (WeakCalling waiting)) → Calm script (calls_back script c waiting below (at (WeakCalling waiting))).1
  calls_back_calm [] calm = turns_to (WeakCalling []) Finalizing (λ p h. h) tt calm
  calls_back_calm (weak ∷ waiting) calm =
      let callback = unwrap_or (callback_of v.objects weak) 0 in
      calls (WeakCalling (weak ∷ waiting)) (AfterCallback weak waiting) (record {
        sort = Callback;
        proc = procedure_of (at (WeakCalling (weak ∷ waiting)))
            callback;
        subject = weak;
        func = Some callback;
      }) v.objects (alters_refl v.objects) calm
      (λ d m l f. (f.unheld.quiet, turn_holds (WeakCalling (weak ∷ waiting)) d.object f)) tt (inl refl) (λ p k. k)

  after_callback_calm : (weak : ℕ) (waiting : List ℕ) → Calm script (at (AfterCallback weak waiting)) → Calm script (push (Releasing (weak ∷ [])) (at (AfterRelease weak waiting)))
  after_callback_calm weak waiting calm =
      gives_up (AfterCallback weak waiting) (AfterRelease weak waiting) (weak ∷ []) v.objects (alters_refl v.objects) calm
      (λ d m l f. (f.unheld.quiet, λ k. turn_holds (AfterCallback weak waiting) d.object f (inr k)))
      (λ p f k. turn_holds (AfterCallback weak waiting) p f (either k (λ e. inl e) (λ n. absurd n)))
      (held_where_dying script (at (AfterCallback weak waiting)) below weak calm.stack.1 (λ f. turn_holds (AfterCallback weak waiting) weak f (inl refl)))

  -- an object that was given up moves to the older generation, if it lives
  older_quiet : (phase : CollectPhase) (o : ℕ) (p : Place) → IsHeldWhereDying o below → (d : Death) → Includes below (Dying d) → Forgotten (at phase) d.object
      → AreQuiet d.object (change (with_place p) o v.objects)
  older_quiet phase o p given d m f = place_quiet d.object o p (λ e. popped_free (Collecting (record c { phase = phase })) below d.object f.unheld.stack
      (subst (Includes (flat_map holds below)) e (given d m (sym e)))) v.objects f.unheld.quiet

  after_release_calm : (weak : ℕ) (waiting : List ℕ) → Calm script (at (AfterRelease weak waiting)) → Calm script (after_release c weak waiting below (at (AfterRelease weak waiting))).1
  after_release_calm weak waiting calm = called_back_either (λ lines. Calm script) c weak waiting below (at (AfterRelease weak waiting))
      (λ t. goes_to (AfterRelease weak waiting) (WeakCalling waiting) c (change (with_place place) weak v.objects) v.numbers (place_alters place weak v.objects) calm
      (λ d m l f. (older_quiet (AfterRelease weak waiting) weak place calm.over.0 d m f, turn_holds (AfterRelease weak waiting) d.object f)) tt)
      (λ t. goes_to (AfterRelease weak waiting) (WeakCalling waiting) (record c { collected = c.collected + 1 }) v.objects v.numbers
      (alters_refl v.objects) calm (λ d m l f. (f.unheld.quiet, turn_holds (AfterRelease weak waiting) d.object f)) tt)
    where
      place : Place
      place = Gen (older c.generation)

  looks_at_calm : (o : ℕ) (m : Option ℕ) → IsMemberOf (at Finalizing) Cand o → Calm script (at Finalizing) → Calm script (looks_at script c o below (at Finalizing) m).1
  looks_at_calm o None member calm = goes_to Finalizing Finalizing c (change (with_place Seen) o v.objects) v.numbers (place_alters Seen o v.objects) calm
      (λ d m l f. (place_quiet d.object o Seen (member_apart v.objects d.object Cand o refl f.unheld.quiet member) v.objects f.unheld.quiet, λ k. k)) tt
  looks_at_calm o (Some p) member calm =
      calls Finalizing (AfterFinalizing o) (record { sort = Del; proc = p; subject = o; func = None }) (change seen o v.objects)
      (change_alters seen (λ x. still_later) o v.objects) calm
      (λ d m l f. let apart = member_apart v.objects d.object Cand o refl f.unheld.quiet member in (
        test_quiet d.object seen (λ x. x.serial == o) (λ x e k. record {
          entries = k.entries;
          untracked = λ i. absurd (apart (sym (eqb-true x.serial o e) ∙ i));
          refers_to_none = k.refers_to_none;
        }) v.objects f.unheld.quiet,
        λ k. either k apart (λ n. n),
      ))
      tt (inl refl) (λ p k. k)
    where
      seen : Object → Object
      seen x = marked (with_place Seen x)

  after_finalizing_calm : (o : ℕ) → Calm script (at (AfterFinalizing o)) → Calm script (push (Releasing (o ∷ [])) (at Finalizing))
  after_finalizing_calm o calm = gives_up (AfterFinalizing o) Finalizing (o ∷ []) v.objects (alters_refl v.objects) calm (λ d m l f. (f.unheld.quiet, λ k. k))
      (λ p f. turn_holds (AfterFinalizing o) p f) tt

  turn_calm : (x : Object) → Includes (serials_at v.objects Cand) x.serial → Calm script (at Turns) → Calm script (takes_turn c x below (at Turns)).1
  turn_calm x member calm = turn_either (λ lines. Calm script) c x below (at Turns)
      (λ t. goes_to Turns Turns c (change (with_place place) x.serial (saved x.serial v.objects)) v.numbers
      (alters_trans v.objects (saved x.serial v.objects) (change (with_place place) x.serial (saved x.serial v.objects)) (saved_alters x.serial v.objects)
      (place_alters place x.serial (saved x.serial v.objects))) calm
      (λ d m l f. (
        place_quiet d.object x.serial place (apart d.object f.unheld.quiet) (saved x.serial v.objects) (saved_quiet d.object x.serial v.objects
            (apart d.object f.unheld.quiet) f.unheld.quiet),
        λ k. k,
      )) tt)
      (λ t s. goes_to Turns Turns c (change (with_place place) x.serial v.objects) v.numbers (place_alters place x.serial v.objects) calm
      (λ d m l f. (place_quiet d.object x.serial place (apart d.object f.unheld.quiet) v.objects f.unheld.quiet, λ k. k)) tt)
      (λ t s. goes_to Turns (Turn x.serial) c v.objects v.numbers (alters_refl v.objects) calm (λ d m l f. (f.unheld.quiet, λ k. either k (apart d.object f.unheld.quiet) (λ n. n))) tt)
    where
      place : Place
      place = Gen (older c.generation)

      apart : (p : ℕ) → AreQuiet p v.objects → x.serial ≢ p
      apart p q = member_apart v.objects p Cand x.serial refl q member

  after_turn_calm : (o : ℕ) → Calm script (at (AfterTurn o)) → Calm script (after_turn c o below (at (AfterTurn o))).1
  after_turn_calm o calm =
      let place = Gen (older c.generation) in
      goes_to (AfterTurn o) Turns c (change (with_place place) o v.objects) v.numbers (place_alters place o v.objects) calm
      (λ d m l f. (older_quiet (AfterTurn o) o place calm.over.0 d m f, λ k. k)) tt

  lost_one : (r : Option ℕ) (f : ℕ → Bool) → unwrap_or (option_map f r) false ≡ true → r ≢ None
  lost_one r f e none = let no : false ≡ true = sym (ap (λ m. unwrap_or (option_map f m) false) none) ∙ e in cc

  pub phase_calm : (phase : CollectPhase) (events : List Event) (after : World) → PhaseStep script c phase below (at phase) events after → Calm script (at phase) → Calm script after
  phase_calm Start events after step calm = moves_to after _ step.world (goes_to Start (WeakClearing []) c (sorted g step.places now) _ alters calm (λ d m l f. (quiet d.object f.unheld.quiet, λ k. k)) tt)
    where
      g : ℕ
      g = c.generation

      now : List Object
      now = map (λ x. with_place (merged_place g x.place) x) v.objects

      alters : Alters v.objects (sorted g step.places now)
      alters = alters_trans v.objects now (sorted g step.places now) (map_alters (λ x. with_place (merged_place g x.place) x)
          (λ x. place_later (merged_place g x.place) x) v.objects) (moved_alters (Gen g) step.places now)

      quiet : (p : ℕ) → AreQuiet p v.objects → AreQuiet p (sorted g step.places now)
      quiet p q = moved_quiet p (Gen g) step.places now refl (map_quiet p (λ x. with_place (merged_place g x.place) x)
          (λ x k. record { entries = k.entries; untracked = λ i. ap (merged_place g) (k.untracked i); refers_to_none = k.refers_to_none }) v.objects q)
  phase_calm (WeakClearing waiting) events after (inl step) calm = moves_to after _ step.yields.1 (go (waits v.objects step.weak))
    where
      lost : List Object
      lost = loses_referent step.weak v.objects

      apart : (p : ℕ) → Mortal v.objects p → step.weak ≢ p
      apart p l e = lost_one step.newest.object.referent _ (refers_early (profile_of script.items) v.objects step.newest.object step.newest.to_lose)
          (l.refers_to_none step.newest.object step.newest.member (step.newest.is ∙ e))

      held : (p : ℕ) → Mortal v.objects p → ¬ Includes waiting p → ¬ Includes (waiting ++ step.weak ∷ []) p
      held p l free m = either (Includes-append_cases waiting (step.weak ∷ []) p m) free (λ k. either k (apart p l) (λ n. n))

      go : (b : Bool) → Calm script (if b then collection_at c (WeakClearing (waiting ++ step.weak ∷ [])) below
          (with_objects (change (with_place Pend) step.weak lost) (at (WeakClearing waiting))) else collection_at c (WeakClearing waiting) below
          (with_objects lost (at (WeakClearing waiting))))
      go true = goes_to (WeakClearing waiting) (WeakClearing (waiting ++ step.weak ∷ [])) c (change (with_place Pend) step.weak lost) v.numbers
          (alters_trans v.objects lost (change (with_place Pend) step.weak lost) (lost_alters step.weak v.objects) (place_alters Pend step.weak lost)) calm
          (λ d m l f. (
            place_quiet d.object step.weak Pend (apart d.object l) lost (lost_quiet d.object step.weak v.objects f.unheld.quiet),
            held d.object l (turn_holds (WeakClearing waiting) d.object f),
          )) tt
      go false = goes_to (WeakClearing waiting) (WeakClearing waiting) c lost v.numbers (lost_alters step.weak v.objects) calm
          (λ d m l f. (lost_quiet d.object step.weak v.objects f.unheld.quiet, turn_holds (WeakClearing waiting) d.object f)) tt
  phase_calm (WeakClearing waiting) events after (inr step) calm = moves_to after _ step.1.1 (turns_to (WeakClearing waiting) (WeakCalling waiting) (λ p h. h) tt calm)
  phase_calm (WeakCalling waiting) events after step calm = moves_to after _ step.1 (calls_back_calm waiting calm)
  phase_calm (AfterCallback weak waiting) events after step calm = moves_to after _ step.1 (after_callback_calm weak waiting calm)
  phase_calm (AfterRelease weak waiting) events after step calm = moves_to after _ step.1 (after_release_calm weak waiting calm)
  phase_calm Finalizing events after (inl step) calm = moves_to after _ step.yields.1 (looks_at_calm step.object (option_and_then (finalizer_to_run script)
      (object_at v.objects step.object)) step.condemned calm)
  phase_calm Finalizing events after (inr step) calm = moves_to after _ step.1.1 (goes_to Finalizing Split c (map (λ x. if is_at Seen x then with_place Cand x else x)
      v.objects) v.numbers (moved_alters Seen (λ x. Cand) v.objects) calm
      (λ d m l f. (moved_quiet d.object Seen (λ x. Cand) v.objects refl f.unheld.quiet, λ k. k)) tt)
  phase_calm (AfterFinalizing o) events after step calm = moves_to after _ step.1 (after_finalizing_calm o calm)
  phase_calm Split events after step calm = moves_to after _ step.world
      (goes_to Split Turns (record c { collected = c.collected + length (serials_at step.objects Cand) }) step.objects v.numbers alters calm
      (λ d m l f. (quiet d.object f.unheld.quiet, λ k. k)) tt)
    where
      place : Place
      place = Gen (older c.generation)

      now : List Object
      now = get_older c.generation step.alive v.objects

      alters : Alters v.objects step.objects
      alters = alters_trans v.objects now step.objects (if_alters (with_place place) (place_later place) (λ x. includes step.alive x.serial) v.objects)
          (all_lose_alters (loses_at_split now) step.cleared now step.objects step.lose)

      member : (s : ℕ) → includes step.alive s ≡ true → IsMemberOf (at Split) Cand s
      member s e = reached_inside _ s ((step.survivors s).0 (Includes-of step.alive s e))

      quiet : (p : ℕ) → AreQuiet p v.objects → AreQuiet p step.objects
      quiet p q = all_lose_quiet p (loses_at_split now) step.cleared now step.objects step.lose (test_quiet p (with_place place) (λ x. includes step.alive x.serial) (λ x e k. record {
        entries = k.entries;
        untracked = λ i. absurd (member_apart v.objects p Cand x.serial refl q (member x.serial e) i);
        refers_to_none = k.refers_to_none;
      }) v.objects q)
  phase_calm Turns events after (inl step) calm = moves_to after _ step.yields.1 (turn_calm step.object (Includes-map (λ (z : Object). z.serial) (objects_at v.objects Cand) step.object step.member) calm)
  phase_calm Turns events after (inr step) calm = moves_to after _ step.1.1 (turns_to Turns Ending (λ p h. h) tt calm)
  phase_calm (Turn o) events after step calm = moves_to after _ step.1 (option_either (λ lines. Calm script) (empties c o below (at (Turn o))) (last_entry (entries_of v.objects o))
      (λ e. gives_up (Turn o) (AfterTurn o) (o ∷ []) v.objects (alters_refl v.objects) calm (λ d m l f. (f.unheld.quiet, λ k. k)) (λ p f. turn_holds (Turn o) p f)
      (held_where_dying script (at (Turn o)) below o calm.stack.1 (λ f. turn_holds (Turn o) o f (inl refl))))
      (λ entry e. gives_up (Turn o) (Turn o) (entry_references entry) (change (with_entries (without_last (entries_of v.objects o))) o v.objects)
      (entries_alter (without_last (entries_of v.objects o)) o v.objects) calm
      (λ d m l f. (entries_quiet d.object o (without_last (entries_of v.objects o)) (shorter_free v.objects o d.object f.unheld.quiet) v.objects f.unheld.quiet, turn_holds (Turn o) d.object f))
      (λ p f. last_free v.objects o p entry f.unheld.quiet e) tt))
  phase_calm (AfterTurn o) events after step calm = moves_to after _ step.1 (after_turn_calm o calm)
  phase_calm Ending events after step calm = moves_to after now step.world (record {
    referred = referred_after v.objects now.objects alters calm.referred;
    over = calm.over.1;
    stack = resting_stack script now below (resting_after script (at Ending) now below (λ d m. altered_keeps script (at Ending) now d.object alters
        (λ l f. still_forgotten (at Ending) now d.object refl alters (λ q. moved_quiet d.object Legacy (λ x. place) kept refl
        (all_saved_quiet d.object step.keeps v.objects (free d.object q) q)) (popped_free (Collecting (record c { phase = Ending })) below d.object) f))
        calm.stack.1);
  })
    where
      place : Place
      place = Gen (older c.generation)

      kept : List Object
      kept = all_saved step.keeps v.objects

      now : World
      now = with_stack below (replaced_place Legacy place (with_objects kept (at Ending)))

      alters : Alters v.objects now.objects
      alters = alters_trans v.objects kept now.objects (all_saved_alters step.keeps v.objects) (moved_alters Legacy (λ x. place) kept)

      free : (p : ℕ) → AreQuiet p v.objects → ¬ Includes step.keeps p
      free p q = absent p step.keeps (step.keeps_order p ∙ no_times p (serials (filter (is_saved script c) v.objects)) (λ m.
          let x = Includes-map_cases (λ (z : Object). z.serial) (filter (is_saved script c) v.objects) p m in
          let was = Includes-filter_cases (is_saved script c) v.objects x.0 x.1 in
          quiet_apart p Legacy x.0 refl (and_parts (is_at Legacy x.0) _ was.1).0 (q x.0 was.0) x.2))
