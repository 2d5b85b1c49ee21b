-- The weak phase keeps the partition: a waiting weak reference is in a place of its own.
use Rattle.std.proofs.Common.{◌≡◌, ◌≢◌, refl, sym, ◌∙◌, ap, subst, ℕ, ◌+◌, Bool, true, false, cond, inl, inr, List, [], ◌∷◌, ◌++◌, Option, Some, None}
use Rattle.std.specs.Prelude.{◌==◌, if◌then◌else◌, flat_map, is_some, option_map, unwrap_or}
use Rattle.std.proofs.lemmas.Bool.{eqb-true, eq-eqb}
use Rattle.cg_value.specs.declared.KindCode.TheVariants.{List as ListKind, Weak}
use Rattle.cg_value.specs.declared.Place.{Place}
use Rattle.cg_value.specs.declared.Place.TheVariants.{Gen, Seen, Back, Pend}
use Rattle.cg_script.specs.declared.Script.{Script}
use Rattle.cg_graph.specs.Member.{Includes}
use Rattle.cg_graph.specs.Object.{Object, change, object_at, is_in_map, with_place}
use Rattle.cg_graph.specs.Holdings.{name_holdings, entry_holdings, graph_of}
use Rattle.cg_graph.proofs.Members.{either, Includes-append_left, Includes-append_right, Includes-map_cases}
use Rattle.cg_machine.specs.declared.event.Event.{Event}
use Rattle.cg_machine.specs.declared.event.FrameSort.TheVariants.{Callback}
use Rattle.cg_machine.specs.World.{World, Activity, Releasing, Collection, CollectPhase, WeakClearing, WeakCalling, AfterCallback, AfterRelease, Finalizing, push, with_change, with_objects}
use Rattle.cg_machine.specs.Holdings.{holds}
use Rattle.cg_machine.specs.Frame.{procedure_of}
use Rattle.cg_machine.specs.Weak.{loses_referent, callback_of}
use Rattle.cg_represents.specs.Orderly.{IsOrderly, all_waits}
use Rattle.cg_machine.specs.Collect.{collection_at, older, waits, ClearsOne, WeakClearingStep, calls_back, after_release}
use Rattle.cg_laws.specs.Apart.{IsInWeakPhase, IsGarbageList, IsApart}
use Rattle.cg_laws.proofs.SetsApart.{NoneCollects, AreApart, goes_to, restands, starts_apart, gives_up_apart, places_kept, moved, lost_apart}
use Rattle.cg_machine.specs.Program.{profile_of}
use Rattle.cg_laws.proofs.Clearing.{refers_early}
use Rattle.cg_laws.proofs.Starting.{called_back_either}

-- the garbage list is no weak reference
no_weak : (x : Object) → IsGarbageList x → x.code ≢ Weak
no_weak x g e = let no : ListKind ≡ Weak = sym g.list ∙ e in cc

-- so it waits for no callback
root_waits_not : (w : World) → IsOrderly w → ((x : Object) → Includes w.objects x → x.serial ≡ 1 → IsGarbageList x) → ¬ Includes (all_waits w.stack) 1
root_waits_not w orderly garbage m =
    let root = Includes-append_right (name_holdings w.names) (1 ∷ []) 1 (inl refl) in
    let held = Includes-append_left (name_holdings w.names ++ (1 ∷ []) ++ entry_holdings (graph_of w.objects)) (flat_map holds w.stack) 1
    (Includes-append_left (name_holdings w.names ++ (1 ∷ [])) (entry_holdings (graph_of w.objects)) 1 root) in
    let x = Includes-map_cases (λ (z : Object). z.serial) w.objects 1 (orderly.held_live 1 held) in
    no_weak x.0 (garbage x.0 x.1 x.2) (orderly.waiting 1 m x.0 x.1 x.2).code

none_at : (objects : List Object) (o : ℕ) (x : Object) → is_in_map objects o ≡ false → Includes objects x → x.serial ≢ o
none_at [] o x e m same = m
none_at (y ∷ objects) o x e m same = go (y.serial == o) refl e m (λ k n. none_at objects o x k n same)
  where
    go : (b : Bool) → (y.serial == o) ≡ b → is_some (cond b (Some y) (object_at objects o)) ≡ false → Includes (y ∷ objects) x → (is_in_map objects o ≡ false → Includes objects x → ⊥) → ⊥
    go true t k n rest = let no : true ≡ false = k in cc
    go false t k (inl i) rest = let no : true ≡ false = sym (eq-eqb y.serial o (ap (λ (z : Object). z.serial) i ∙ same)) ∙ t in cc
    go false t k (inr n) rest = rest k n

-- one weak reference begins to wait, or stops waiting
weak_at_pend : (waiting : List ℕ) (x : Object) → Includes waiting x.serial → IsInWeakPhase waiting (with_place Pend x)
weak_at_pend waiting x m = record {
  seen = λ e. let no : Pend ≡ Seen = e in cc;
  back = λ e. let no : Pend ≡ Back = e in cc;
  pending = λ e. m;
}

weak_at_gen : (g : ℕ) (waiting : List ℕ) (x : Object) → IsInWeakPhase waiting (with_place (Gen g) x)
weak_at_gen g waiting x = record {
  seen = λ e. let no : Gen g ≡ Seen = e in cc;
  back = λ e. let no : Gen g ≡ Back = e in cc;
  pending = λ e. absurd (let no : Gen g ≡ Pend = e in cc);
}

module _ (script : Script) (c : Collection) (below : List Activity) (v : World) (alone : NoneCollects below) where
  abbrev at : CollectPhase → World
  at phase = collection_at c phase below v

  to : (after next : World) → after ≡ next → IsApart next → IsApart after
  to after next e h = subst IsApart (sym e) h

  -- a weak reference is cleared, and may wait
  clears_apart : (waiting : List ℕ) (events : List Event) (after : World) → ClearsOne (profile_of script.items) c waiting below (at (WeakClearing waiting))
      events after → IsOrderly (at (WeakClearing waiting)) → AreApart v.objects (WeakClearing waiting) → IsApart after
  clears_apart waiting events after step orderly h = to after _ step.yields.1 (go (waits v.objects step.weak))
    where
      weak : ℕ
      weak = step.weak

      y : Object
      y = step.newest.object

      code : (r : Option ℕ) → y.referent ≡ r → (f : ℕ → Bool) → unwrap_or (option_map f r) false ≡ true → y.code ≡ Weak
      code None e f k = absurd (let no : false ≡ true = k in cc)
      code (Some r) e f k = (orderly.referents y step.newest.member r e).0

      no_root : weak ≢ 1
      no_root e = no_weak y (h.garbage y step.newest.member (step.newest.is ∙ e)) (code y.referent refl _ (refers_early (profile_of script.items) v.objects y step.newest.to_lose))

      lost : List Object
      lost = loses_referent weak v.objects

      lost_now : AreApart lost (WeakClearing waiting)
      lost_now = lost_apart weak v.objects (WeakClearing waiting) (λ x k. record { seen = k.seen; back = k.back; pending = k.pending }) h

      pending_now : AreApart (change (with_place Pend) weak lost) (WeakClearing (waiting ++ weak ∷ []))
      pending_now = moved (with_place Pend) (λ x. x.serial == weak) lost (WeakClearing waiting) (WeakClearing (waiting ++ weak ∷ [])) (places_kept (λ x. Pend)) (λ k. k)
          (record {
            untracked = λ x m t one e. absurd (no_root (sym (eqb-true x.serial weak t) ∙ one));
            chosen = λ x m t k. weak_at_pend (waiting ++ weak ∷ []) x (Includes-append_right waiting (weak ∷ []) x.serial (inl (sym (eqb-true x.serial weak t))));
            others = λ x m t k. record { seen = k.seen; back = k.back; pending = λ e. Includes-append_left waiting (weak ∷ []) x.serial (k.pending e) };
            found = λ x m t k n. k;
          }) lost_now

      go : (b : Bool) → IsApart (if b then collection_at c (WeakClearing (waiting ++ weak ∷ [])) below (with_objects (change (with_place Pend) weak lost)
          (at (WeakClearing waiting))) else collection_at c (WeakClearing waiting) below (with_objects lost (at (WeakClearing waiting))))
      go true = goes_to c (WeakClearing (waiting ++ weak ∷ [])) below (with_objects (change (with_place Pend) weak lost) (at (WeakClearing waiting))) alone pending_now
      go false = goes_to c (WeakClearing waiting) below (with_objects lost (at (WeakClearing waiting))) alone lost_now

  pub clearing_apart : (waiting : List ℕ) (events : List Event) (after : World) → WeakClearingStep (profile_of script.items) c waiting below
      (at (WeakClearing waiting)) events after → IsOrderly (at (WeakClearing waiting)) → AreApart v.objects (WeakClearing waiting) → IsApart after
  clearing_apart waiting events after (inl step) orderly h = clears_apart waiting events after step orderly h
  clearing_apart waiting events after (inr step) orderly h = to after _ step.1.1 (goes_to c (WeakCalling waiting) below v alone
      (restands (WeakClearing waiting) (WeakCalling waiting) v.objects (λ k. k) (λ x m k. k) h))

  -- callbacks
  pub calls_back_apart : (waiting : List ℕ) → IsOrderly (at (WeakCalling waiting)) → AreApart v.objects (WeakCalling waiting) → IsApart (calls_back script c waiting below (at (WeakCalling waiting))).1
  calls_back_apart [] orderly h = goes_to c Finalizing below v alone (restands (WeakCalling []) Finalizing v.objects (λ k. k) (λ x m k. (k.back, λ e. k.pending e)) h)
  calls_back_apart (weak ∷ waiting) orderly h =
      let callback = unwrap_or (callback_of v.objects weak) 0 in
      starts_apart script (record { sort = Callback; proc = procedure_of (at (WeakCalling (weak ∷ waiting))) callback; subject = weak; func = Some callback }) (at (AfterCallback weak waiting))
      (goes_to c (AfterCallback weak waiting) below v alone (restands (WeakCalling (weak ∷ waiting)) (AfterCallback weak waiting) v.objects
      (λ m. no_root (either m (λ e. e) (λ n. absurd n))) (λ x m k. k) h))
    where
      no_root : weak ≢ 1
      no_root e = root_waits_not (at (WeakCalling (weak ∷ waiting))) orderly h.garbage (inl e)

  pub after_callback_apart : (weak : ℕ) (waiting : List ℕ) → AreApart v.objects (AfterCallback weak waiting) → IsApart (push (Releasing (weak ∷ [])) (at (AfterRelease weak waiting)))
  after_callback_apart weak waiting h = gives_up_apart (weak ∷ []) (at (AfterRelease weak waiting)) (goes_to c (AfterRelease weak waiting) below v alone
      (restands (AfterCallback weak waiting) (AfterRelease weak waiting) v.objects h.unhandled (λ x m k. k) h))

  pub after_release_apart : (weak : ℕ) (waiting : List ℕ) → AreApart v.objects (AfterRelease weak waiting) → IsApart (after_release c weak waiting below (at (AfterRelease weak waiting))).1
  after_release_apart weak waiting h = called_back_either (λ lines. IsApart) c weak waiting below (at (AfterRelease weak waiting))
      (λ e. goes_to c (WeakCalling waiting) below (with_change (with_place place) weak (at (AfterRelease weak waiting))) alone lives)
      (λ e. goes_to (record c { collected = c.collected + 1 }) (WeakCalling waiting) below v alone (restands (AfterRelease weak waiting)
      (WeakCalling waiting) v.objects (λ k. k) (λ x m k. others x (none_at v.objects weak x e m) k) h))
    where
      place : Place
      place = Gen (older c.generation)

      others : (x : Object) → x.serial ≢ weak → IsInWeakPhase (weak ∷ waiting) x → IsInWeakPhase waiting x
      others x apart k = record { seen = k.seen; back = k.back; pending = λ e. either (k.pending e) (λ i. absurd (apart (sym i))) (λ n. n) }

      lives : AreApart (change (with_place place) weak v.objects) (WeakCalling waiting)
      lives = moved (with_place place) (λ x. x.serial == weak) v.objects (AfterRelease weak waiting) (WeakCalling waiting) (places_kept (λ x. place)) (λ k. k)
          (record {
            untracked = λ x m t one e. absurd (h.unhandled (inl (sym (eqb-true x.serial weak t) ∙ one)));
            chosen = λ x m t k. weak_at_gen (older c.generation) waiting x;
            others = λ x m t k. others x (λ e. let no : true ≡ false = sym (eq-eqb x.serial weak e) ∙ t in cc) k;
            found = λ x m t k n. k;
          }) h
