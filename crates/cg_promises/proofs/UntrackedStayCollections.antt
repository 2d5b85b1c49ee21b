-- Collections: untracked objects stay slack, and what is given up and moved is no tuple.
use Rattle.std.proofs.Common.{◌≡◌, ◌≢◌, refl, sym, ◌∙◌, ap, subst, ℕ, ◌+◌, Bool, true, false, inl, inr, List, [], ◌∷◌, ◌++◌, map, length, Option, Some, None}
use Rattle.std.specs.Prelude.{◌==◌, ◌||◌, if◌then◌else◌, option_and_then, option_map, unwrap_or}
use Rattle.std.proofs.lemmas.Bool.{eqb-true}
use Rattle.cg_value.specs.declared.KindCode.{KindCode}
use Rattle.cg_value.specs.declared.KindCode.TheVariants.{List as ListKind, Tuple, Dict, Inst, Func, Weak}
use Rattle.cg_value.specs.declared.Place.{Place}
use Rattle.cg_value.specs.declared.Place.TheVariants.{Cand, Gen, Legacy, Pend, Seen, Untracked}
use Rattle.cg_value.specs.declared.Val.TheVariants.{Ref}
use Rattle.cg_script.specs.declared.Script.{Script}
use Rattle.cg_graph.specs.Member.{Includes, includes}
use Rattle.cg_graph.specs.Value.{entry_references, item, last_entry, without_last}
use Rattle.cg_graph.specs.Object.{Object, change, object_at, objects_at, entries_of, is_at, is_tuple, marked, same_place, serials_at, with_entries, with_place}
use Rattle.cg_graph.specs.Reach.{first, next as further}
use Rattle.cg_graph.proofs.Members.{Includes-map, Includes-map_cases, Includes-filter_cases, Includes-of}
use Rattle.cg_machine.specs.declared.event.Event.{Event}
use Rattle.cg_machine.specs.declared.event.FrameSort.TheVariants.{Del, Callback}
use Rattle.cg_machine.specs.World.{World, Activity, Releasing, Dying, Death, Collecting, Collection, CollectPhase, Start, WeakClearing, WeakCalling, AfterCallback, AfterRelease, Finalizing, AfterFinalizing, Split, Turns, Turn, AfterTurn, Ending, with_change, with_objects}
use Rattle.cg_machine.specs.Frame.{procedure_of}
use Rattle.cg_machine.specs.Weak.{AllLose, callback_of, loses_referent}
use Rattle.cg_machine.specs.Dying.{finalizer_to_run}
use Rattle.cg_machine.specs.Collect.{all_saved, calls_back, after_release, collection_at, empties, get_older, is_condemned, is_condemned_in, loses_in_weak_phase, looks_at, loses_at_split, merged, merged_place, older, saved, sorted, takes_turn, waits, PhaseStep, Survives}
use Rattle.cg_laws.proofs.Starting.{turn_either, called_back_either, option_either}
use Rattle.cg_represents.proofs.Serials.{Rises, Rises-map}
use Rattle.cg_laws.proofs.Lookups.{same_object}
use Rattle.cg_laws.proofs.Unreferred.{lives_within}
use Rattle.cg_laws.proofs.HeldLivesDeaths.{HasOrder}
use Rattle.cg_laws.specs.Apart.{handles}
use Rattle.cg_laws.proofs.SetsApart.{is_tracked_at}
use Rattle.cg_promises.proofs.UntrackedStay.{AreNoTuples, Fine, StaysOrLoses, IsNoTuple, IsSlackWorld, Never, Slack, Still, excused_on, goes, lost_still, moves_slack, placed_goes, push_slack, starts_slack, still_same, still_trans, test_still, turn_slack}
use Rattle.cg_laws.proofs.Pointwise.{all_saved_by, came, came_all_lose}
use Rattle.cg_promises.proofs.UntrackedStayDeaths.{shortened_still}
use Rattle.cg_promises.proofs.UntrackedStayStart.{Anew, merge_still, sort_still}
use Rattle.cg_machine.specs.Program.{profile_of}
use Rattle.cg_laws.proofs.Clearing.{refers_early}

false_true : true ≡ false → ⊥
false_true e = cc

weak_apart : (x : Object) → x.code ≡ Weak → is_tuple x ≡ false
weak_apart x e = ap (λ (c : KindCode). elim c [ ListKind ↦ false | Tuple ↦ true | Dict ↦ false | Inst ↦ false | Func ↦ false | Weak ↦ false ]) e

older_tracked : (n : ℕ) → Gen n ≢ Untracked
older_tracked n e = cc

all_lose_still : (hard : ℕ → Type 0) (wanted : Object → Bool) (weaks : List ℕ) (objects after : List Object) → AllLose wanted objects weaks after → Still hard objects after
all_lose_still hard = came_all_lose (StaysOrLoses hard) (goes hard) (λ x. record { stays = record { serial = refl; code = refl; untracked = λ a u. u }; loses = inr (λ u. (u, λ o i. i)) })

abbrev IsRoot : ℕ → Type 0
IsRoot n = n ≡ 1

saved_still : (o : ℕ) (objects : List Object) → Still IsRoot objects (saved o objects)
saved_still o objects = test_still IsRoot (λ x. with_entries (x.entries ++ item (Ref o) ∷ []) x) (λ x. x.serial == 1) objects
    (λ x m t. record { stays = record { serial = refl; code = refl; untracked = λ a u. u }; loses = inl (eqb-true x.serial 1 t) })

all_saved_still : (keeps : List ℕ) (objects : List Object) → Still IsRoot objects (all_saved keeps objects)
all_saved_still keeps = all_saved_by (Still IsRoot) (came (StaysOrLoses IsRoot) (goes IsRoot)) keeps (λ o m. saved_still o)

saved_place : (o : ℕ) (objects : List Object) (y : Object) → Includes (saved o objects) y → (x : Object) × Includes objects x × (x.serial ≡ y.serial) × (x.place ≡ y.place)
saved_place o objects y m = let x = Includes-map_cases (λ x. if x.serial == 1 then with_entries (x.entries ++ item (Ref o) ∷ []) x else x) objects y m in go (x.0.serial == 1) x.0 x.1 x.2
  where
    go : (b : Bool) (x : Object) → Includes objects x → (if b then with_entries (x.entries ++ item (Ref o) ∷ []) x else x) ≡ y → (x : Object)
        × Includes objects x × (x.serial ≡ y.serial) × (x.place ≡ y.place)
    go true x k e = (x, k, ap (λ (z : Object). z.serial) e, ap (λ (z : Object). z.place) e)
    go false x k e = (x, k, ap (λ (z : Object). z.serial) e, ap (λ (z : Object). z.place) e)

-- those in a tracked place move to another
spread_still : (hard : ℕ → Type 0) (p q : Place) (objects : List Object) → same_place Untracked p ≡ false → q ≢ Untracked
    → Still hard objects (map (λ x. if is_at p x then with_place q x else x) objects)
spread_still hard p q objects apart tracked = test_still hard (with_place q) (is_at p) objects (λ x m t. placed_goes hard q x tracked (λ a. is_tracked_at p x apart t))

-- an object other than an untracked tuple moves to a tracked place
one_still : (hard : ℕ → Type 0) (p : Place) (o : ℕ) (objects : List Object) → p ≢ Untracked → ((x : Object) → Includes objects x → x.serial ≡ o → is_tuple x
    ≡ true → x.place ≢ Untracked) → Still hard objects (change (with_place p) o objects)
one_still hard p o objects tracked apart = test_still hard (with_place p) (λ x. x.serial == o) objects (λ x m t. placed_goes hard p x tracked (apart x m (eqb-true x.serial o t)))

-- what is in a tracked place, by its serial
member_tracked : (next : ℕ) (p : Place) (objects : List Object) (o : ℕ) → Rises 1 next objects → same_place Untracked p ≡ false
    → Includes (serials_at objects p) o → (x : Object) → Includes objects x → x.serial ≡ o → x.place ≢ Untracked
member_tracked next p objects o rises apart m x i s =
    let z = Includes-map_cases (λ (y : Object). y.serial) (objects_at objects p) o m in
    let at = Includes-filter_cases (is_at p) objects z.0 z.1 in
    let same : z.0 ≡ x = same_object 1 next objects z.0 x rises at.0 i (z.2 ∙ sym s) in
    is_tracked_at p x apart (subst (λ y. is_at p y ≡ true) same at.1)

survivor_inside : (w : World) (p : Place) (o : ℕ) → Survives w p o → Includes (serials_at w.objects p) o
survivor_inside w p o (first held inside) = inside
survivor_inside w p o (further path arrow inside) = inside

-- what the weak phase clears is a weak reference
loses_weak : (profile : ℕ) (objects : List Object) (x : Object) → ((r : ℕ) → x.referent ≡ Some r → x.code ≡ Weak) → loses_in_weak_phase profile objects x ≡ true → x.code ≡ Weak
loses_weak profile objects x codes e = go x.referent refl (refers_early profile objects x e)
  where
    go : (m : Option ℕ) → x.referent ≡ m → unwrap_or (option_map (λ o. is_condemned_in objects o || is_condemned x) m) false ≡ true → x.code ≡ Weak
    go None r k = absurd (let no : false ≡ true = k in cc)
    go (Some n) r k = codes n r

module _ (script : Script) (c : Collection) (below : List Activity) (v : World) (rises : Rises 1 v.next_serial v.objects) where
  abbrev at : CollectPhase → World
  at phase = collection_at c phase below v

  abbrev collecting : Collection → CollectPhase → Activity
  collecting d phase = Collecting (record d { phase = phase })

  to : (after next : World) → after ≡ next → IsSlackWorld next → IsSlackWorld after
  to after next e h = subst IsSlackWorld (sym e) h

  same : Still Never v.objects v.objects
  same = still_same Never v.objects

  -- what the phase has at hand
  abbrev AtHand : CollectPhase → Type 0
  AtHand phase = (o : ℕ) → Includes (handles phase) o → IsNoTuple v.next_serial v.objects o

  at_hand : (phase : CollectPhase) → IsSlackWorld (at phase) → AtHand phase
  at_hand phase h o m = h.handled (record c { phase = phase }) (inl refl) o m

  for_all : (d : Collection) (next : CollectPhase) → AtHand next → (e : Collection) → collecting d next ≡ Collecting e → AreNoTuples v.next_serial v.objects e
  for_all d next hand e i o m = let same : next ≡ e.phase = cc in hand o (subst (λ p. Includes (handles p) o) (sym same) m)

  hard_to : (hard : ℕ → Type 0) (phase : CollectPhase) (d : Collection) (next : CollectPhase) (objects : List Object) → Still hard v.objects objects
      → ((n : ℕ) → hard n → Fine (collecting d next ∷ below) objects n) → AtHand next → IsSlackWorld (at phase) → Slack v.next_serial objects (collecting d next
      ∷ below)
  hard_to hard phase d next objects still fine hand h = turn_slack hard v.next_serial (collecting c phase) (collecting d next) below v.objects objects still fine (λ d e. cc) (for_all d next hand) h

  goes_to : (phase : CollectPhase) (d : Collection) (next : CollectPhase) (objects : List Object) → Still Never v.objects objects → AtHand next
      → IsSlackWorld (at phase) → Slack v.next_serial objects (collecting d next ∷ below)
  goes_to phase d next objects still hand h = hard_to Never phase d next objects still (λ n no. absurd no) hand h

  gives : (references : List ℕ) (phase next : CollectPhase) (objects : List Object) → Still Never v.objects objects → AtHand next → IsSlackWorld (at phase)
      → Slack v.next_serial objects (Releasing references ∷ collecting c next ∷ below)
  gives references phase next objects still hand h = push_slack v.next_serial (Releasing references) (collecting c next ∷ below) objects (λ d e. cc) (goes_to phase c next objects still hand h)

  weak_calling_slack : (waiting : List ℕ) → HasOrder (at (WeakCalling waiting)) → IsSlackWorld (at (WeakCalling waiting))
      → IsSlackWorld (calls_back script c waiting below (at (WeakCalling waiting))).1
  weak_calling_slack [] order h = goes_to (WeakCalling []) c Finalizing v.objects same (λ o m. absurd m) h
  weak_calling_slack (weak ∷ waiting) order h =
      let callback = unwrap_or (callback_of v.objects weak) 0 in
      starts_slack script (record { sort = Callback; proc = procedure_of (at (WeakCalling (weak ∷ waiting))) callback; subject = weak; func = Some callback }) (at (AfterCallback weak waiting))
      (goes_to (WeakCalling (weak ∷ waiting)) c (AfterCallback weak waiting) v.objects same (λ o m. either_one o m) h)
    where
      waits_here : IsNoTuple v.next_serial v.objects weak
      waits_here = ((lives_within 1 v.next_serial v.objects weak rises (order.stack_lives weak (inl refl))).1, λ z m s. weak_apart z (order.waiting weak (inl refl) z m s).code)

      either_one : (o : ℕ) → Includes (weak ∷ []) o → IsNoTuple v.next_serial v.objects o
      either_one o (inl e) = subst (IsNoTuple v.next_serial v.objects) e waits_here
      either_one o (inr k) = absurd k

  -- what was at hand moves to the older generation
  handed : (phase : CollectPhase) (o : ℕ) → Includes (handles phase) o → IsSlackWorld (at phase) → Still Never v.objects (change (with_place (Gen (older c.generation))) o v.objects)
  handed phase o m h = one_still Never (Gen (older c.generation)) o v.objects (older_tracked (older c.generation)) (λ x i s t. absurd (false_true (sym t ∙ (at_hand phase h o m).1 x i s)))

  after_release_slack : (weak : ℕ) (waiting : List ℕ) → IsSlackWorld (at (AfterRelease weak waiting)) → IsSlackWorld (after_release c weak waiting below (at (AfterRelease weak waiting))).1
  after_release_slack weak waiting h = called_back_either (λ lines. IsSlackWorld) c weak waiting below (at (AfterRelease weak waiting))
      (λ t. goes_to (AfterRelease weak waiting) c (WeakCalling waiting) (change (with_place (Gen (older c.generation))) weak v.objects)
      (handed (AfterRelease weak waiting) weak (inl refl) h) (λ o m. absurd m) h)
      (λ t. goes_to (AfterRelease weak waiting) (record c { collected = c.collected + 1 }) (WeakCalling waiting) v.objects same (λ o m. absurd m) h)

  turn_taken : (x : Object) → Includes (objects_at v.objects Cand) x → IsSlackWorld (at Turns) → IsSlackWorld (takes_turn c x below (at Turns)).1
  turn_taken x m h = turn_either (λ lines. IsSlackWorld) c x below (at Turns)
      (λ s. hard_to IsRoot Turns c Turns (change (with_place (Gen (older c.generation))) x.serial kept)
      (still_trans IsRoot v.objects kept (change (with_place (Gen (older c.generation))) x.serial kept) (saved_still x.serial v.objects)
      (one_still IsRoot (Gen (older c.generation)) x.serial kept (older_tracked (older c.generation)) (λ z i s a. tracked_kept z i s)))
      (λ n k. inl (inl k)) (λ o m. absurd m) h)
      (λ s e. goes_to Turns c Turns (change (with_place (Gen (older c.generation))) x.serial v.objects) (one_still Never (Gen (older c.generation))
      x.serial v.objects (older_tracked (older c.generation)) (λ z i s a. tracked z i s)) (λ o m. absurd m) h)
      (λ s e. goes_to Turns c (Turn x.serial) v.objects same (turn e) h)
    where
      kept : List Object
      kept = saved x.serial v.objects

      tracked : (z : Object) → Includes v.objects z → z.serial ≡ x.serial → z.place ≢ Untracked
      tracked z i s = member_tracked v.next_serial Cand v.objects x.serial rises refl (Includes-map (λ (y : Object). y.serial) (objects_at v.objects Cand) x m) z i s

      tracked_kept : (z : Object) → Includes kept z → z.serial ≡ x.serial → z.place ≢ Untracked
      tracked_kept z i s u = let y = saved_place x.serial v.objects z i in tracked y.0 y.1 (y.2 ∙ s) (y.3 ∙ u)

      turn : is_tuple x ≡ false → AtHand (Turn x.serial)
      turn t o (inl e) = subst (IsNoTuple v.next_serial v.objects) e (
        (lives_within 1 v.next_serial v.objects x.serial rises (Includes-map (λ (y : Object). y.serial) v.objects x member)).1,
        λ z i s. ap is_tuple (same_object 1 v.next_serial v.objects z x rises i member s) ∙ t,
      )
        where
          member : Includes v.objects x
          member = (Includes-filter_cases (is_at Cand) v.objects x m).0
      turn t o (inr k) = absurd k

  pub phase_slack : (phase : CollectPhase) (events : List Event) (after : World) → HasOrder (at phase) → PhaseStep script c phase below (at phase) events after
      → IsSlackWorld (at phase) → IsSlackWorld after
  phase_slack Start events after order step h = to after _ step.world (hard_to hard Start c (WeakClearing []) (sorted c.generation step.places now)
      (still_trans hard v.objects now (sorted c.generation step.places now) (merge_still hard c.generation v.objects)
      (sort_still script c.generation (merged c.generation (at Start)) step.chosen step.places v.next_serial rises_now step.sorts))
      (λ n k. inr k) (λ o m. absurd m) h)
    where
      now : List Object
      now = (merged c.generation v).objects

      rises_now : Rises 1 v.next_serial now
      rises_now = Rises-map (λ x. with_place (merged_place c.generation x.place) x) (λ x. refl) 1 v.next_serial v.objects rises

      hard : ℕ → Type 0
      hard = Anew script c.generation (merged c.generation (at Start)) step.chosen step.places v.next_serial rises_now step.sorts
  phase_slack (WeakClearing waiting) events after order (inl step) h = to after _ step.yields.1 (go (waits v.objects step.weak))
    where
      lost : List Object
      lost = loses_referent step.weak v.objects

      code : step.newest.object.code ≡ Weak
      code = loses_weak (profile_of script.items) v.objects step.newest.object (order.codes step.newest.object step.newest.member) step.newest.to_lose

      apart : (x : Object) → Includes lost x → x.serial ≡ step.weak → is_tuple x ≡ true → x.place ≢ Untracked
      apart x m s t =
          let z = lost_still Never step.weak v.objects x m in
          let same : step.newest.object ≡ z.0 = same_object 1 v.next_serial v.objects step.newest.object z.0 rises step.newest.member z.1 (step.newest.is ∙ sym s ∙ z.2.stays.serial) in
          absurd (false_true (sym t ∙ weak_apart x (z.2.stays.code ∙ ap (λ (q : Object). q.code) (sym same) ∙ code)))

      go : (t : Bool) → IsSlackWorld (if t then collection_at c (WeakClearing (waiting ++ step.weak ∷ [])) below
          (with_objects (change (with_place Pend) step.weak lost) (at (WeakClearing waiting))) else collection_at c (WeakClearing waiting) below
          (with_objects lost (at (WeakClearing waiting))))
      go true = goes_to (WeakClearing waiting) c (WeakClearing (waiting ++ step.weak ∷ [])) (change (with_place Pend) step.weak lost)
          (still_trans Never v.objects lost (change (with_place Pend) step.weak lost) (lost_still Never step.weak v.objects)
          (one_still Never Pend step.weak lost (λ e. cc) apart)) (λ o m. absurd m) h
      go false = goes_to (WeakClearing waiting) c (WeakClearing waiting) lost (lost_still Never step.weak v.objects) (λ o m. absurd m) h
  phase_slack (WeakClearing waiting) events after order (inr step) h = to after _ step.1.1 (goes_to (WeakClearing waiting) c (WeakCalling waiting) v.objects same (λ o m. absurd m) h)
  phase_slack (WeakCalling waiting) events after order step h = to after _ step.1 (weak_calling_slack waiting order h)
  phase_slack (AfterCallback weak waiting) events after order step h = to after _ step.1 (gives (weak ∷ []) (AfterCallback weak waiting)
      (AfterRelease weak waiting) v.objects same (at_hand (AfterCallback weak waiting) h) h)
  phase_slack (AfterRelease weak waiting) events after order step h = to after _ step.1 (after_release_slack weak waiting h)
  phase_slack Finalizing events after order (inl step) h = to after _ step.yields.1 (option_either (λ lines. IsSlackWorld) (looks_at script c step.object below (at Finalizing)) (option_and_then (finalizer_to_run script) (object_at v.objects step.object))
      (λ is. goes_to Finalizing c Finalizing (change (with_place Seen) step.object v.objects) (one_still Never Seen step.object v.objects (λ e. cc)
      (λ x k s t. member_tracked v.next_serial Cand v.objects step.object rises refl step.condemned x k s)) (λ o m. absurd m) h)
      (λ p is. starts_slack script (record { sort = Del; proc = p; subject = step.object; func = None }) (collection_at c (AfterFinalizing step.object) below
      (with_change (λ x. marked (with_place Seen x)) step.object (at Finalizing)))
      (goes_to Finalizing c (AfterFinalizing step.object) (change (λ x. marked (with_place Seen x)) step.object v.objects) (test_still Never (λ x. marked (with_place Seen x))
      (λ x. x.serial == step.object) v.objects (λ x k t. record {
        stays = record { serial = refl; code = refl; untracked = λ a u. absurd (member_tracked v.next_serial Cand v.objects step.object rises refl step.condemned x k (eqb-true x.serial step.object t) u) };
        loses = inr (λ u. absurd (let no : Seen ≡ Untracked = u in cc));
      })) (λ o m. absurd m) h)))
  phase_slack Finalizing events after order (inr step) h = to after _ step.1.1 (goes_to Finalizing c Split (map (λ x. if is_at Seen x then with_place Cand x else x)
      v.objects) (spread_still Never Seen Cand v.objects refl (λ e. cc)) (λ o m. absurd m) h)
  phase_slack (AfterFinalizing o) events after order step h = to after _ step.1 (gives (o ∷ []) (AfterFinalizing o) Finalizing v.objects same (λ p m. absurd m) h)
  phase_slack Split events after order step h = to after _ step.world (goes_to Split (record c { collected = c.collected + length (serials_at step.objects Cand) }) Turns step.objects
      (still_trans Never v.objects now step.objects (test_still Never (with_place (Gen (older c.generation))) (λ x. includes step.alive x.serial) v.objects
      (λ x m t. placed_goes Never (Gen (older c.generation)) x (older_tracked (older c.generation)) (λ a. alive x m t)))
      (all_lose_still Never (loses_at_split now) step.cleared now step.objects step.lose)) (λ o m. absurd m) h)
    where
      now : List Object
      now = get_older c.generation step.alive v.objects

      alive : (x : Object) → Includes v.objects x → includes step.alive x.serial ≡ true → x.place ≢ Untracked
      alive x m t = member_tracked v.next_serial Cand v.objects x.serial rises refl (survivor_inside (at Split) Cand x.serial
          ((step.survivors x.serial).0 (Includes-of step.alive x.serial t))) x m refl
  phase_slack Turns events after order (inl step) h = to after _ step.yields.1 (turn_taken step.object step.member h)
  phase_slack Turns events after order (inr step) h = to after _ step.1.1 (goes_to Turns c Ending v.objects same (λ o m. absurd m) h)
  phase_slack (Turn o) events after order step h = to after _ step.1 (option_either (λ lines. IsSlackWorld) (empties c o below (at (Turn o))) (last_entry (entries_of v.objects o))
      (λ e. gives (o ∷ []) (Turn o) (AfterTurn o) v.objects same (at_hand (Turn o) h) h)
      (λ entry e. gives (entry_references entry) (Turn o) (Turn o) (change (with_entries (without_last (entries_of v.objects o))) o v.objects)
      (shortened_still Never v.next_serial v.objects o rises) (at_hand (Turn o) h) h))
  phase_slack (AfterTurn o) events after order step h = to after _ step.1 (goes_to (AfterTurn o) c Turns (change (with_place (Gen (older c.generation))) o
      v.objects) (handed (AfterTurn o) o (inl refl) h) (λ p m. absurd m) h)
  phase_slack Ending events after order step h = to after _ step.world (moves_slack IsRoot v.next_serial v.objects
      (map (λ x. if is_at Legacy x then with_place (Gen (older c.generation)) x else x) kept) (collecting c Ending ∷ below) below
      (still_trans IsRoot v.objects kept (map (λ x. if is_at Legacy x then with_place (Gen (older c.generation)) x else x) kept)
      (all_saved_still step.keeps v.objects) (spread_still IsRoot Legacy (Gen (older c.generation)) kept refl (older_tracked (older c.generation))))
      (λ n k. inl (inl k)) (excused_on (collecting c Ending ∷ below) below (map (λ x. if is_at Legacy x then with_place (Gen (older c.generation)) x else x) kept) pop) (λ d m. h.handled d (inr m)) h)
    where
      kept : List Object
      kept = all_saved step.keeps v.objects

      pop : (d : Death) → Includes (collecting c Ending ∷ below) (Dying d) → Includes below (Dying d)
      pop d (inl e) = cc
      pop d (inr m) = m
