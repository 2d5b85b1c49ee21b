-- Releases, deaths and the end of a frame: untracked objects stay slack.
use Rattle.std.proofs.Common.{◌≡◌, ◌≢◌, refl, sym, ◌∙◌, ap, subst, ℕ, Bool, true, false, not, inl, inr, List, [], ◌∷◌, ◌++◌, Option, Some, None}
use Rattle.std.specs.Prelude.{◌==◌, if◌then◌else◌, is_some, option_and_then, option_to_list, slice_get, unwrap_or}
use Rattle.std.proofs.lemmas.Bool.{eqb-true}
use Rattle.cg_value.specs.declared.KindCode.{KindCode}
use Rattle.cg_value.specs.declared.KindCode.TheVariants.{List as ListKind, Tuple, Dict, Inst, Func, Weak}
use Rattle.cg_value.specs.declared.Place.TheVariants.{Untracked, Gen}
use Rattle.cg_script.specs.declared.Script.{Script}
use Rattle.cg_graph.specs.Member.{Includes}
use Rattle.cg_graph.specs.Value.{entry_references, last_entry, references, without_last}
use Rattle.cg_graph.specs.Object.{Object, change, is_tuple, object_at, entries_of, marked, serials, with_entries, with_place, with_referent, without}
use Rattle.cg_graph.proofs.Members.{either, Includes-map, Includes-filter_cases}
use Rattle.cg_machine.specs.declared.event.FrameSort.{FrameSort}
use Rattle.cg_machine.specs.declared.event.FrameSort.TheVariants.{Del, Legacy, Callback, Call}
use Rattle.cg_machine.specs.Program.{class_number, class_of, classes, finalizer_of, legacy_of}
use Rattle.cg_machine.specs.World.{World, Activity, Framed, Releasing, Dying, Death, Frame, DyingPhase, Finalizer, AfterFinalizer, Clearing, Calling, AfterCall, LegacyFinalizer, AfterLegacy, Detaching, Emptying, with_stack, with_change}
use Rattle.cg_machine.specs.Frame.{frame_end, gives_up_function, released, procedure_of}
use Rattle.cg_machine.specs.Weak.{has_weak_references, weak_references_if, loses_referent, callback_of}
use Rattle.cg_represents.specs.Orderly.{runs_own_frame}
use Rattle.cg_machine.specs.Dying.{death_at, has_finalizers, finalizer_to_run, run_finalizer, run_legacy, after_frame, clear_one, detach_one, empty_one, dying}
use Rattle.cg_laws.proofs.Starting.{release_either, own_frame_either, option_either, list_either}
use Rattle.cg_represents.proofs.Serials.{Rises}
use Rattle.cg_laws.proofs.Lookups.{at_member, references_take}
use Rattle.cg_laws.proofs.LinesNameLive.{changed_all, without_gone}
use Rattle.cg_promises.proofs.LastEntryMoves.{entries_of_member}
use Rattle.cg_promises.proofs.UntrackedStay.{Excused, Fine, IsSlackWorld, Never, Slack, Still, end_slack, excused_on, goes_same, lost_still, moves_slack, push_slack, starts_slack, still_same, test_still, turn_slack}

-- a tuple has no finalizer
pub tuple_code : (x : Object) → is_tuple x ≡ true → x.code ≡ Tuple
tuple_code x t = go x.code t
  where
    go : (c : KindCode) → (elim c [ ListKind ↦ false | Tuple ↦ true | Dict ↦ false | Inst ↦ false | Func ↦ false | Weak ↦ false ]) ≡ true → c ≡ Tuple
    go Tuple e = refl
    go k e = absurd (let no : false ≡ true = e in cc)

no_class : (script : Script) (x : Object) → is_tuple x ≡ true → class_of script x ≡ None
no_class script x t = ap (λ (c : KindCode). option_and_then (λ k. slice_get (classes script.items) k) (class_number c x.class)) (tuple_code x t)

no_finalizer : (script : Script) (x : Object) → is_tuple x ≡ true → finalizer_to_run script x ≡ None
no_finalizer script x t = go x.finalized
  where
    go : (b : Bool) → (if b then None else finalizer_of script x) ≡ None
    go true = refl
    go false = ap (λ k. option_and_then (λ c. c.del) k) (no_class script x t)

no_legacy : (script : Script) (x : Object) → is_tuple x ≡ true → legacy_of script x ≡ None
no_legacy script x t = ap (λ k. option_and_then (λ c. c.legacy) k) (no_class script x t)

-- an object found with something that tuples lack is no tuple
pub no_tuple : (f : Object → Option ℕ) (next : ℕ) (objects : List Object) (o p : ℕ) → Rises 1 next objects → ((x : Object) → is_tuple x ≡ true → f x ≡ None)
    → option_and_then f (object_at objects o) ≡ Some p → (x : Object) → Includes objects x → x.serial ≡ o → ¬ (is_tuple x ≡ true)
no_tuple f next objects o p rises none e x m s t =
    let at : object_at objects o ≡ Some x = subst (λ n. object_at objects n ≡ Some x) s (at_member 1 next objects x rises m) in
    let is : f x ≡ Some p = sym (ap (option_and_then f) at) ∙ e in
    let no : None ≡ Some p = sym (none x t) ∙ is in cc

-- the last entry of an object is removed
pub shortened_still : (hard : ℕ → Type 0) (next : ℕ) (objects : List Object) (o : ℕ) → Rises 1 next objects → Still hard objects (change (with_entries (without_last (entries_of objects o))) o objects)
shortened_still hard next objects o rises = test_still hard (with_entries (without_last (entries_of objects o))) (λ x. x.serial == o) objects (λ x m t. record {
  stays = record { serial = refl; code = refl; untracked = λ a u. u };
  loses = inr (λ u. (u, λ r i. subst (λ es. Includes (references es) r) (entries_of_member 1 next objects x o rises m (eqb-true x.serial o t)) (references_take _ (entries_of objects o) r i)));
})

pub frame_end_slack : (f : Frame) (below : List Activity) (v : World) → IsSlackWorld (with_stack (Framed f ∷ below) v) → IsSlackWorld (frame_end f (with_stack below v)).1
frame_end_slack f below v h = by_sort f.sort f.function
  where
    rest : Slack v.next_serial v.objects below
    rest = end_slack v.next_serial (Framed f) below v.objects (λ d e. cc) h

    by_sort : (sort : FrameSort) (function : Option ℕ) → IsSlackWorld (gives_up_function sort function (with_stack below v))
    by_sort Call function = push_slack v.next_serial (Releasing (option_to_list function)) below v.objects (λ c e. cc) rest
    by_sort sort function = rest

pub released_slack : (references : List ℕ) (below : List Activity) (v : World) → IsSlackWorld (with_stack (Releasing references ∷ below) v)
    → IsSlackWorld (released references below (with_stack (Releasing references ∷ below) v)).1
released_slack [] below v h = end_slack v.next_serial (Releasing []) below v.objects (λ d e. cc) h
released_slack (o ∷ refs) below v h = release_either (λ lines. IsSlackWorld) o refs below v
    (λ t. moves_slack (λ n. n ≡ o) v.next_serial v.objects (change dead o v.objects) (Releasing (o ∷ refs) ∷ below) (death ∷ Releasing refs ∷ below)
    (test_still (λ n. n ≡ o) dead (λ x. x.serial == o) v.objects (λ x m t. record { stays = record { serial = refl; code = refl; untracked = λ a u. refl }; loses = inl (eqb-true x.serial o t) }))
    (λ n e. inl (inr (record { object = o; phase = Finalizer }, inl refl, sym e, refl)))
    (excused_on (Releasing (o ∷ refs) ∷ below) (death ∷ Releasing refs ∷ below) (change dead o v.objects) (λ d m. either m (λ e. cc) (λ k. inr (inr k))))
    (λ c m. either m (λ e. cc) (λ k. either k (λ e. cc) (λ i. h.handled c (inr i)))) h)
    (λ t. turn_slack Never v.next_serial (Releasing (o ∷ refs)) (Releasing refs) below v.objects v.objects (still_same Never v.objects) (λ n no. absurd no) (λ d e. cc) (λ c e. cc) h)
  where
    dead : Object → Object
    dead x = with_referent None (with_place Untracked x)

    death : Activity
    death = Dying (record { object = o; phase = Finalizer })

module _ (script : Script) (o : ℕ) (below : List Activity) (v : World) (rises : Rises 1 v.next_serial v.objects) where
  abbrev at : DyingPhase → World
  at phase = death_at o phase below v

  abbrev dying_now : DyingPhase → Activity
  dying_now phase = Dying (record { object = o; phase = phase })

  -- an activity below, or the top
  excused_here : (phase : DyingPhase) (to : List Activity) (after : List Object) → ((d : Death) → Includes below (Dying d) → Includes to (Dying d))
      → (runs_own_frame phase ≡ false → Fine to after o) → (n : ℕ) → Excused (dying_now phase ∷ below) n → Fine to after n
  excused_here phase to after on top n (inl e) = inl (inl e)
  excused_here phase to after on top n (inr f) = either f.1 (λ e. here f.0 e f.2 f.3) (λ m. inl (inr (f.0, on f.0 m, f.2, f.3)))
    where
      here : (d : Death) → dying_now phase ≡ Dying d → d.object ≡ n → runs_own_frame d.phase ≡ false → Fine to after n
      here d e i r =
          let object : o ≡ d.object = cc in
          let same : phase ≡ d.phase = cc in
          subst (Fine to after) (object ∙ i) (top (subst (λ p. runs_own_frame p ≡ false) (sym same) r))

  death_slack : (hard : ℕ → Type 0) (phase next : DyingPhase) (after : List Object) → Still hard v.objects after
      → ((n : ℕ) → hard n → Fine (dying_now next ∷ below) after n) → (runs_own_frame phase ≡ false → Fine (dying_now next ∷ below) after o)
      → IsSlackWorld (at phase) → Slack v.next_serial after (dying_now next ∷ below)
  death_slack hard phase next after still fine top h = moves_slack hard v.next_serial v.objects after (dying_now phase ∷ below) (dying_now next ∷ below) still fine
      (excused_here phase (dying_now next ∷ below) after (λ d m. inr m) top) (λ c m. either m (λ e. cc) (λ k. h.handled c (inr k))) h

  fades : (next : DyingPhase) (after : List Object) → runs_own_frame next ≡ false → Fine (dying_now next ∷ below) after o
  fades next after e = inl (inr (record { object = o; phase = next }, inl refl, refl, e))

  goes_to : (phase next : DyingPhase) (after : List Object) → Still Never v.objects after → runs_own_frame next ≡ false → IsSlackWorld (at phase) → Slack v.next_serial after (dying_now next ∷ below)
  goes_to phase next after still e h = death_slack Never phase next after still (λ n no. absurd no) (λ r. fades next after e) h

  same : Still Never v.objects v.objects
  same = still_same Never v.objects

  -- it is tracked, and its frame begins
  revived : (f : Object → Object) (phase next : DyingPhase) → ((x : Object) → Includes v.objects x → x.serial ≡ o → ¬ (is_tuple x ≡ true))
      → ((x : Object) → (f x).serial ≡ x.serial) → ((x : Object) → (f x).code ≡ x.code) → ((x : Object) → (f x).place ≡ Gen 0) → IsSlackWorld (at phase)
      → Slack v.next_serial (change f o v.objects) (dying_now next ∷ below)
  revived f phase next kind serial code place h = death_slack Never phase next (change f o v.objects)
      (test_still Never f (λ x. x.serial == o) v.objects
      (λ x m t. record {
        stays = record { serial = serial x; code = code x; untracked = λ a u. absurd (kind x m (eqb-true x.serial o t) a) };
        loses = inr (λ u. absurd (let no : Gen 0 ≡ Untracked = sym (place x) ∙ u in cc));
      }))
      (λ n no. absurd no) (λ r. inr (λ y m e u. absurd (changed_all (λ z. z.place ≢ Untracked) f o v.objects (λ x k. let no : Gen 0 ≡ Untracked = sym (place x) ∙ k in cc) y m e u))) h

  -- a death gives up its own hold
  after_frame_slack : (phase next : DyingPhase) → runs_own_frame phase ≡ true → runs_own_frame next ≡ false → IsSlackWorld (at phase) → IsSlackWorld (after_frame o next below (at phase)).1
  after_frame_slack phase next own e h = own_frame_either (λ lines. IsSlackWorld) o next below (at phase)
      (λ t. death_slack (λ n. n ≡ o) phase next (change (with_place Untracked) o v.objects) (test_still (λ n. n ≡ o) (with_place Untracked) (λ x. x.serial == o)
      v.objects (λ x m t. record { stays = record { serial = refl; code = refl; untracked = λ a u. refl }; loses = inl (eqb-true x.serial o t) }))
      (λ n i. subst (Fine (dying_now next ∷ below) (change (with_place Untracked) o v.objects)) (sym i) (fades next (change (with_place Untracked) o v.objects)
      e)) (λ r. fades next (change (with_place Untracked) o v.objects) e) h)
      (λ t. moves_slack Never v.next_serial v.objects v.objects (dying_now phase ∷ below) below same (λ n no. absurd no) (excused_here phase below v.objects
      (λ d m. m) (λ r. absurd (let no : true ≡ false = sym own ∙ r in cc))) (λ c m. h.handled c (inr m)) h)

  pub dying_slack : (phase : DyingPhase) → IsSlackWorld (at phase) → IsSlackWorld (dying script o phase below (at phase)).1
  dying_slack Finalizer h = option_either (λ lines. IsSlackWorld) (run_finalizer script o below (at Finalizer)) (option_and_then (finalizer_to_run script) (object_at v.objects o))
      (λ e. goes_to Finalizer (Clearing []) v.objects same refl h)
      (λ p e. starts_slack script (record { sort = Del; proc = p; subject = o; func = None })
      (death_at o AfterFinalizer below (with_change (λ x. marked (with_place (Gen 0) x)) o (at Finalizer)))
      (revived (λ x. marked (with_place (Gen 0) x)) Finalizer AfterFinalizer (no_tuple (finalizer_to_run script) v.next_serial v.objects o p rises
      (no_finalizer script) e) (λ x. refl) (λ x. refl) (λ x. refl) h))
  dying_slack AfterFinalizer h = after_frame_slack AfterFinalizer (Clearing []) refl refl h
  dying_slack (Clearing waiting) h = list_either (λ lines. IsSlackWorld) (clear_one o waiting below (at (Clearing waiting))) (weak_references_if has_weak_references v.objects o)
      (λ e. goes_to (Clearing waiting) (Calling waiting) v.objects same refl h)
      (λ weak weaks e. goes_to (Clearing waiting) (Clearing (waiting ++ (if is_some (callback_of v.objects weak) then weak ∷ [] else [])))
      (loses_referent weak v.objects) (lost_still Never weak v.objects) refl h)
  dying_slack (Calling []) h = goes_to (Calling []) LegacyFinalizer v.objects same refl h
  dying_slack (Calling (weak ∷ waiting)) h =
      let callback = unwrap_or (callback_of v.objects weak) 0 in
      starts_slack script (record { sort = Callback; proc = procedure_of (at (Calling (weak ∷ waiting))) callback; subject = weak; func = Some callback })
      (death_at o (AfterCall weak callback waiting) below (with_change (with_entries []) weak (at (Calling (weak ∷ waiting)))))
      (goes_to (Calling (weak ∷ waiting)) (AfterCall weak callback waiting) (change (with_entries []) weak v.objects)
      (test_still Never (with_entries []) (λ x. x.serial == weak) v.objects
      (λ x m t. record { stays = record { serial = refl; code = refl; untracked = λ a u. u }; loses = inr (λ u. (u, λ r i. absurd i)) })) refl h)
  dying_slack (AfterCall weak callback waiting) h = push_slack v.next_serial (Releasing (callback ∷ weak ∷ [])) (dying_now (Calling waiting) ∷ below) v.objects
      (λ c e. cc) (goes_to (AfterCall weak callback waiting) (Calling waiting) v.objects same refl h)
  dying_slack LegacyFinalizer h = option_either (λ lines. IsSlackWorld) (run_legacy script o below (at LegacyFinalizer)) (option_and_then (legacy_of script) (object_at v.objects o))
      (λ e. goes_to LegacyFinalizer Detaching v.objects same refl h)
      (λ p e. starts_slack script (record { sort = Legacy; proc = p; subject = o; func = None })
      (death_at o AfterLegacy below (with_change (with_place (Gen 0)) o (at LegacyFinalizer)))
      (revived (with_place (Gen 0)) LegacyFinalizer AfterLegacy (no_tuple (legacy_of script) v.next_serial v.objects o p rises (no_legacy script) e) (λ x. refl) (λ x. refl) (λ x. refl) h))
  dying_slack AfterLegacy h = after_frame_slack AfterLegacy Detaching refl refl h
  dying_slack Detaching h = list_either (λ lines. IsSlackWorld) (detach_one o below (at Detaching)) (weak_references_if (has_finalizers script) v.objects o)
      (λ e. goes_to Detaching Emptying v.objects same refl h)
      (λ weak weaks e. goes_to Detaching Detaching (loses_referent weak v.objects) (lost_still Never weak v.objects) refl h)
  dying_slack Emptying h = option_either (λ lines. IsSlackWorld) (empty_one o below (at Emptying)) (last_entry (entries_of v.objects o))
      (λ is. moves_slack Never v.next_serial v.objects (without o v.objects) (dying_now Emptying ∷ below) below
      (λ y m. (y, (Includes-filter_cases (λ x. not (x.serial == o)) v.objects y m).0, goes_same Never y)) (λ n no. absurd no)
      (excused_here Emptying below (without o v.objects) (λ d m. m)
      (λ r. inr (λ y m e u. absurd (without_gone o v.objects (subst (Includes (serials (without o v.objects))) e (Includes-map (λ (z : Object). z.serial)
      (without o v.objects) y m))))))
      (λ c m. h.handled c (inr m)) h)
      (λ entry is. push_slack v.next_serial (Releasing (entry_references entry)) (dying_now Emptying ∷ below)
      (change (with_entries (without_last (entries_of v.objects o))) o v.objects) (λ c e. cc)
      (goes_to Emptying Emptying (change (with_entries (without_last (entries_of v.objects o))) o v.objects) (shortened_still Never v.next_serial v.objects o rises) refl h))
