-- What the steps of ending frames, releases and deaths do.
use Rattle.std.proofs.Common.{◌≡◌, refl, subst, ℕ, Bool, true, false, not, inl, inr, List, [], ◌∷◌, ◌++◌, Option, Some, None}
use Rattle.std.specs.Prelude.{◌==◌, if◌then◌else◌, is_some, option_and_then, option_to_list, unwrap_or}
use Rattle.std.proofs.lemmas.Bool.{eqb-true}
use Rattle.cg_value.specs.declared.Place.TheVariants.{Untracked, Gen}
use Rattle.cg_script.specs.declared.Script.{Script}
use Rattle.cg_graph.specs.Member.{Includes}
use Rattle.cg_graph.specs.Value.{entry_references, last_entry, references, without_last}
use Rattle.cg_graph.specs.Object.{Object, change, object_at, entries_of, marked, with_entries, with_place, with_referent}
use Rattle.cg_graph.proofs.Members.{either, Includes-append_cases, Includes-append_left, Includes-filter_cases}
use Rattle.cg_machine.specs.declared.event.Event.{Event}
use Rattle.cg_machine.specs.declared.event.Event.TheVariants.{Alive, Cleared, Enter, Free, Leave}
use Rattle.cg_machine.specs.declared.event.FrameSort.{FrameSort}
use Rattle.cg_machine.specs.declared.event.FrameSort.TheVariants.{Del, Legacy as LegacyFrame, Callback, Call as CallFrame}
use Rattle.cg_machine.specs.Program.{finalizer_of, legacy_of}
use Rattle.cg_machine.specs.World.{World, Activity, Framed, Releasing, Dying, Frame, DyingPhase, Finalizer, AfterFinalizer, Clearing, Calling, AfterCall, LegacyFinalizer, AfterLegacy, Detaching, Emptying, with_stack, with_change}
use Rattle.cg_machine.specs.Frame.{Transition, frame_end, gives_up_function, procedure_of, released}
use Rattle.cg_machine.specs.Weak.{callback_of, has_weak_references, loses_referent, weak_references_if}
use Rattle.cg_machine.specs.Dying.{death_at, has_finalizers, finalizer_to_run, run_finalizer, run_legacy, after_frame, clear_one, detach_one, empty_one, dying}
use Rattle.cg_represents.specs.Orderly.{death_waits}
use Rattle.cg_laws.proofs.Lookups.{references_take}
use Rattle.cg_represents.proofs.Serials.{Rises}
use Rattle.cg_promises.proofs.LastEntryMoves.{entries_of_member}
use Rattle.cg_laws.proofs.LinesNameLive.{found_with, to_run}
use Rattle.cg_laws.proofs.Starting.{release_either, own_frame_either, option_either, list_either}
use Rattle.cg_promises.proofs.WaitingReferents.{RefersNow, refers_now}
use Rattle.cg_weakcoll.proofs.ActivitySteps.{Acts, Grows, Loses, Waited, acts, all_to_call, grows_if, grows_lost, grows_place, grows_same, one_raised, starts_acts, two_raised}

-- removed entries
pub shortened_grows : (w : World) (low high : ℕ) (objects : List Object) (o : ℕ) → Rises low high objects → Grows w objects (change (with_entries (without_last (entries_of objects o))) o objects)
shortened_grows w low high objects o r = grows_if w (with_entries (without_last (entries_of objects o))) (λ x. x.serial == o) objects (λ x m t. record {
  later = record { serial = refl; code = refl; class = refl; referent = inl refl };
  refers = λ n i. inl (subst (λ es. Includes (references es) n) (entries_of_member low high objects x o r m (eqb-true x.serial o t)) (references_take _ (entries_of objects o) n i));
  place = λ f. inl f;
})

pub called_grows : (w : World) (weak : ℕ) (objects : List Object) → Grows w objects (change (with_entries []) weak objects)
called_grows w weak objects = grows_if w (with_entries []) (λ x. x.serial == weak) objects
    (λ x m t. record { later = record { serial = refl; code = refl; class = refl; referent = inl refl }; refers = λ n i. absurd i; place = λ f. inl f })

-- the object whose finalizer runs
pub to_run_is : (script : Script) (objects : List Object) (o p : ℕ) → option_and_then (finalizer_to_run script) (object_at objects o) ≡ Some p → (x : Object)
    × Includes objects x × (x.serial ≡ o) × (finalizer_of script x ≡ Some p)
to_run_is script objects o p e = let x = found_with (finalizer_to_run script) objects o p e in (x.0, x.1, x.2, (to_run script x.0 p x.3).1)

module _ (script : Script) where
  pub frame_end_acts : (f : Frame) (below : List Activity) (v : World) → (let t : Transition = frame_end f (with_stack below v) in Acts script (with_stack (Framed f ∷ below) v) below t.0 t.1)
  frame_end_acts f below v = by_sort f.sort f.function
    where
      w : World
      w = with_stack (Framed f ∷ below) v

      none : (n : ℕ) → ¬ Includes (Leave ∷ []) (Enter Callback n)
      none n m = either m (λ e. cc) (λ no. no)

      by_sort : (sort : FrameSort) (function : Option ℕ) → Acts script w below (Leave ∷ []) (gives_up_function sort function (with_stack below v))
      by_sort CallFrame function = acts script w below (Leave ∷ []) (gives_up_function CallFrame function (with_stack below v)) refl refl
          (grows_same w v.objects) (Releasing (option_to_list function) ∷ []) refl (one_raised script w below (Releasing (option_to_list function)) tt) none
      by_sort sort function = acts script w below (Leave ∷ []) (with_stack below v) refl refl (grows_same w v.objects) [] refl (λ a m. absurd m) none

  pub released_acts : (refs : List ℕ) (below : List Activity) (v : World) → (let t : Transition = released refs below (with_stack (Releasing refs ∷ below) v)
      in Acts script (with_stack (Releasing refs ∷ below) v) below t.0 t.1)
  released_acts [] below v = acts script (with_stack (Releasing [] ∷ below) v) below [] (with_stack below v) refl refl
      (grows_same (with_stack (Releasing [] ∷ below) v) v.objects) [] refl (λ a m. absurd m) (λ n m. m)
  released_acts (o ∷ refs) below v = release_either (Acts script w below) o refs below v
      (λ t. acts script w below [] _ refl refl dead (Dying (record { object = o; phase = Finalizer }) ∷ Releasing refs ∷ []) refl
      (two_raised script w below (Dying (record { object = o; phase = Finalizer })) (Releasing refs) (λ weak m. absurd m) tt) (λ n m. m))
      (λ t. acts script w below [] _ refl refl (grows_same w v.objects) (Releasing refs ∷ []) refl (one_raised script w below (Releasing refs) tt) (λ n m. m))
    where
      w : World
      w = with_stack (Releasing (o ∷ refs) ∷ below) v

      dead : Grows w v.objects (change (λ x. with_referent None (with_place Untracked x)) o v.objects)
      dead = grows_if w (λ x. with_referent None (with_place Untracked x)) (λ x. x.serial == o) v.objects
          (λ x m t. record { later = record { serial = refl; code = refl; class = refl; referent = inr refl }; refers = λ n i. inl i; place = λ f. absurd f })

  module _ (o : ℕ) (below : List Activity) (v : World) (rises : Rises 1 v.next_serial v.objects) where
    abbrev at : DyingPhase → World
    at phase = death_at o phase below v

    abbrev stands : DyingPhase → Activity
    stands phase = Dying (record { object = o; phase = phase })

    goes : (phase next : DyingPhase) (events : List Event) (objects : List Object) → Grows (at phase) v.objects objects
        → ((weak : ℕ) → Includes (death_waits next) weak → Waited (at phase) weak) → ((n : ℕ) → ¬ Includes events (Enter Callback n))
        → Acts script (at phase) below events (record (at next) { objects = objects })
    goes phase next events objects grows waits none = acts script (at phase) below events (record (at next) { objects = objects }) refl refl grows (stands next
        ∷ []) refl (one_raised script (at phase) below (stands next) waits) none

    finalizer_acts : (m : Option ℕ) → option_and_then (finalizer_to_run script) (object_at v.objects o) ≡ m
        → (let t : Transition = run_finalizer script o below (at Finalizer) m in Acts script (at Finalizer) below t.0 t.1)
    finalizer_acts None e = goes Finalizer (Clearing []) [] v.objects (grows_same (at Finalizer) v.objects) (λ weak m. absurd m) (λ n m. m)
    finalizer_acts (Some p) e = starts_acts script (at Finalizer) below (record { sort = Del; proc = p; subject = o; func = None })
        (death_at o AfterFinalizer below (with_change (λ x. marked (with_place (Gen 0) x)) o (at Finalizer))) (stands AfterFinalizer) refl refl revived refl
        (λ weak m. absurd m)
        (to_run_is script v.objects o p e) (λ s. absurd (let no : Del ≡ Callback = s in cc))
      where
        revived : Grows (at Finalizer) v.objects (change (λ x. marked (with_place (Gen 0) x)) o v.objects)
        revived = grows_if (at Finalizer) (λ x. marked (with_place (Gen 0) x)) (λ x. x.serial == o) v.objects
            (λ x m t. record { later = record { serial = refl; code = refl; class = refl; referent = inl refl }; refers = λ n i. inl i; place = λ f. absurd f })

    after_frame_acts : (phase next : DyingPhase) → death_waits next ≡ [] → (let t : Transition = after_frame o next below (at phase) in Acts script (at phase) below t.0 t.1)
    after_frame_acts phase next none = own_frame_either (Acts script (at phase) below) o next below (at phase)
        (λ t. goes phase next [] (change (with_place Untracked) o v.objects) (grows_place (at phase) Untracked o v.objects (λ f. f)) (λ weak m. absurd (subst (λ ws. Includes ws weak) none m)) (λ n m. m))
        (λ t. acts script (at phase) below (Alive o ∷ []) (with_stack below (at phase)) refl refl (grows_same (at phase) v.objects) [] refl (λ a m. absurd m) (λ n m. either m (λ e. cc) (λ no. no)))

    perhaps : (b : Bool) (weak n : ℕ) → Includes (if b then weak ∷ [] else []) n → weak ≡ n
    perhaps true weak n m = either m (λ e. e) (λ none. absurd none)
    perhaps false weak n m = absurd m

    waits_still : (phase : DyingPhase) (n : ℕ) → Includes (death_waits phase) n → Waited (at phase) n
    waits_still phase n m = inl (Includes-append_left (death_waits phase) (all_to_call below) n m)

    clearing_acts : (waiting weaks : List ℕ) → weak_references_if has_weak_references v.objects o ≡ weaks
        → (let t : Transition = clear_one o waiting below (at (Clearing waiting)) weaks in Acts script (at (Clearing waiting)) below t.0 t.1)
    clearing_acts waiting [] e = goes (Clearing waiting) (Calling waiting) [] v.objects (grows_same (at (Clearing waiting)) v.objects) (waits_still (Clearing waiting)) (λ n m. m)
    clearing_acts waiting (weak ∷ weaks) e = goes (Clearing waiting) (Clearing (waiting ++ (if is_some (callback_of v.objects weak) then weak ∷ [] else [])))
        (Cleared weak ∷ []) (loses_referent weak v.objects) (grows_lost (at (Clearing waiting)) weak v.objects)
        (λ n m. either (Includes-append_cases waiting (if is_some (callback_of v.objects weak) then weak ∷ [] else []) n m) (waits_still (Clearing waiting) n)
        (λ k. inr (subst (Loses (at (Clearing waiting))) (perhaps (is_some (callback_of v.objects weak)) weak n k) (loses (refers_now has_weak_references v.objects o weak weaks e)))))
        (λ n m. either m (λ i. cc) (λ no. no))
      where
        loses : RefersNow v.objects weak o → Loses (at (Clearing waiting)) weak
        loses r = record { object = r.0; member = r.1; same = r.2; referent = o; refers = r.3; lost = inl (record { object = o; phase = Clearing waiting }, waiting, inl refl, refl, refl) }

    pub dying_acts : (phase : DyingPhase) → (let t : Transition = dying script o phase below (at phase) in Acts script (at phase) below t.0 t.1)
    dying_acts Finalizer = finalizer_acts (option_and_then (finalizer_to_run script) (object_at v.objects o)) refl
    dying_acts AfterFinalizer = after_frame_acts AfterFinalizer (Clearing []) refl
    dying_acts (Clearing waiting) = clearing_acts waiting (weak_references_if has_weak_references v.objects o) refl
    dying_acts (Calling []) = goes (Calling []) LegacyFinalizer [] v.objects (grows_same (at (Calling [])) v.objects) (λ weak m. absurd m) (λ n m. m)
    dying_acts (Calling (weak ∷ waiting)) =
        let callback = unwrap_or (callback_of v.objects weak) 0 in
        starts_acts script (at (Calling (weak ∷ waiting))) below (record {
          sort = Callback;
          proc = procedure_of (at (Calling (weak ∷ waiting))) callback;
          subject = weak;
          func = Some callback;
        }) (death_at o (AfterCall weak callback waiting) below (with_change (with_entries []) weak
        (at (Calling (weak ∷ waiting)))))
        (stands (AfterCall weak callback waiting)) refl refl (called_grows (at (Calling (weak ∷ waiting))) weak v.objects) refl
        (λ n m. waits_still (Calling (weak ∷ waiting)) n (inr m)) (inl refl, refl)
        (λ s. (waiting, refl, λ m i. i))
    dying_acts (AfterCall weak callback waiting) = acts script (at (AfterCall weak callback waiting)) below [] _ refl refl
        (grows_same (at (AfterCall weak callback waiting)) v.objects) (Releasing (callback ∷ weak ∷ []) ∷ stands (Calling waiting) ∷ []) refl
        (two_raised script (at (AfterCall weak callback waiting)) below (Releasing (callback ∷ weak ∷ [])) (stands (Calling waiting)) tt (waits_still (AfterCall weak callback waiting))) (λ n m. m)
    dying_acts LegacyFinalizer = option_either (Acts script (at LegacyFinalizer) below) (run_legacy script o below (at LegacyFinalizer)) (option_and_then (legacy_of script) (object_at v.objects o))
        (λ e. goes LegacyFinalizer Detaching [] v.objects (grows_same (at LegacyFinalizer) v.objects) (λ weak m. absurd m) (λ n m. m))
        (λ p e. starts_acts script (at LegacyFinalizer) below (record { sort = LegacyFrame; proc = p; subject = o; func = None })
        (death_at o AfterLegacy below (with_change (with_place (Gen 0)) o (at LegacyFinalizer))) (stands AfterLegacy) refl refl
        (grows_place (at LegacyFinalizer) (Gen 0) o v.objects (λ f. f)) refl
        (λ weak m. absurd m) (found_with (legacy_of script) v.objects o p e) (λ s. absurd (let no : LegacyFrame ≡ Callback = s in cc)))
    dying_acts AfterLegacy = after_frame_acts AfterLegacy Detaching refl
    dying_acts Detaching = list_either (Acts script (at Detaching) below) (detach_one o below (at Detaching)) (weak_references_if (has_finalizers script) v.objects o)
        (λ e. goes Detaching Emptying [] v.objects (grows_same (at Detaching) v.objects) (λ weak m. absurd m) (λ n m. m))
        (λ weak weaks e. goes Detaching Detaching (Cleared weak ∷ []) (loses_referent weak v.objects) (grows_lost (at Detaching) weak v.objects)
        (λ weak m. absurd m) (λ n m. either m (λ i. cc) (λ no. no)))
    dying_acts Emptying = option_either (Acts script (at Emptying) below) (empty_one o below (at Emptying)) (last_entry (entries_of v.objects o))
        (λ e. acts script (at Emptying) below (Free o ∷ []) (empty_one o below (at Emptying) None).1 refl refl
        (λ y m. grows_same (at Emptying) v.objects y (Includes-filter_cases (λ x. not (x.serial == o)) v.objects y m).0) [] refl (λ a m. absurd m)
        (λ n m. either m (λ i. cc) (λ no. no)))
        (λ entry e. acts script (at Emptying) below [] (empty_one o below (at Emptying) (Some entry)).1 refl refl
        (shortened_grows (at Emptying) 1 v.next_serial v.objects o rises) (Releasing (entry_references entry) ∷ stands Emptying ∷ []) refl
        (two_raised script (at Emptying) below (Releasing (entry_references entry)) (stands Emptying) tt (λ weak m. absurd m)) (λ n m. m))
