-- Releases, deaths and the end of a frame: unheld objects are still dying.
use Rattle.std.proofs.Common.{◌≡◌, ◌≢◌, refl, sym, ◌∙◌, ap, subst, ℕ, Bool, true, false, not, ◌&&◌, inl, inr, ◌⊎◌, List, [], ◌∷◌, ◌++◌, Option, Some, None}
use Rattle.std.specs.Prelude.{◌==◌, ◌||◌, if◌then◌else◌, flat_map, is_some, option_and_then, option_to_list, unwrap_or}
use Rattle.std.specs.List.{list_any}
use Rattle.std.proofs.lemmas.Bool.{eqb-true, eq-eqb}
use Rattle.cg_value.specs.declared.KindCode.TheVariants.{Weak}
use Rattle.cg_value.specs.declared.Place.TheVariants.{Untracked, Gen}
use Rattle.cg_script.specs.declared.Script.{Script}
use Rattle.cg_graph.specs.Holdings.{name_holdings}
use Rattle.cg_graph.specs.Member.{Includes}
use Rattle.cg_graph.specs.Value.{entry_references, last_entry, references, without_last}
use Rattle.cg_graph.specs.Object.{Object, change, object_at, entries_of, marked, serials, with_entries, with_place, with_referent, without}
use Rattle.cg_graph.proofs.Members.{either, or_left, or_right, Includes-append_left, Includes-append_right, Includes-append_cases, Includes-filter, Includes-filter_cases}
use Rattle.cg_machine.specs.declared.event.FrameSort.{FrameSort}
use Rattle.cg_machine.specs.declared.event.FrameSort.TheVariants.{Del, Legacy, Callback, Call}
use Rattle.cg_machine.specs.Program.{legacy_of}
use Rattle.cg_machine.specs.World.{World, Activity, Framed, Releasing, Dying, Frame, DyingPhase, Finalizer, AfterFinalizer, Clearing, Calling, AfterCall, LegacyFinalizer, AfterLegacy, Detaching, Emptying, with_stack, with_change}
use Rattle.cg_machine.specs.Holdings.{dying_holds, holds, in_degree, is_death_of, is_dying}
use Rattle.cg_machine.specs.Frame.{frame_end, gives_up_function, released, procedure_of}
use Rattle.cg_machine.specs.Weak.{has_weak_references, weak_references_if, loses_referent, callback_of}
use Rattle.cg_machine.specs.Dying.{death_at, has_finalizers, finalizer_to_run, run_finalizer, run_legacy, after_frame, clear_one, call_one, detach_one, empty_one, dying}
use Rattle.cg_represents.proofs.Serials.{Rises}
use Rattle.cg_laws.proofs.LinesNameLive.{without_gone}
use Rattle.cg_laws.proofs.Starting.{own_frame_either, release_either, option_either, list_either}
use Rattle.cg_promises.proofs.FinalizerOnce.{old_lives, origin_lives, without_old}
use Rattle.cg_promises.proofs.HoldersMove.{IsFree, IsMinded, Keeps, Minded, Minds, change_keeps, end_minded, free_degree, give_minded, keeps_same, lost_keeps, placed, starts_minded, stack_minded, turn_minded}
use Rattle.cg_promises.proofs.LastEntryMoves.{called_keeps, entries_of_member, last_none, shortened_keeps}

other : (o n : ℕ) → (o == n) ≡ false → o ≢ n
other o n t e = let no : true ≡ false = sym (eq-eqb o n e) ∙ t in cc

pub frame_end_minded : (k : ℕ) (f : Frame) (below : List Activity) (v : World) → IsMinded k (with_stack (Framed f ∷ below) v) → IsMinded k (frame_end f (with_stack below v)).1
frame_end_minded k f below v h = by_sort f.sort f.function h
  where
    by_sort : (sort : FrameSort) (function : Option ℕ) → Minded k v.objects v.names (Framed (record f { sort = sort; function = function }) ∷ below)
        → IsMinded k (gives_up_function sort function (with_stack below v))
    by_sort Call function h = stack_minded k v.objects v.objects v.names (Framed (record f { sort = Call; function = function }) ∷ below)
        (Releasing (option_to_list function) ∷ below) [] (keeps_same v.objects) (λ n m. m) (λ n m. absurd m) (λ n e. e) h
    by_sort frame_sort function h = end_minded k (Framed (record f { sort = frame_sort; function = function })) below v.objects v.objects v.names (keeps_same v.objects) refl (λ n. refl) h

pub released_minded : (k : ℕ) (references : List ℕ) (below : List Activity) (v : World) → IsMinded k (with_stack (Releasing references ∷ below) v)
    → IsMinded k (released references below (with_stack (Releasing references ∷ below) v)).1
released_minded k [] below v h = end_minded k (Releasing []) below v.objects v.objects v.names (keeps_same v.objects) refl (λ n. refl) h
released_minded k (o ∷ refs) below v h = release_either (λ lines. IsMinded k) o refs below v
    (λ e. record { minds = dies; single = keeps.single h.single; count = h.count })
    (λ e. record { minds = stays e; single = h.single; count = h.count })
  where
    now : World
    now = with_stack (Releasing refs ∷ below) v

    dead : Object → Object
    dead x = with_referent None (with_place Untracked x)

    keeps : Keeps v.objects (change dead o v.objects) []
    keeps = change_keeps dead o v.objects (record { marks = λ x. record { serial = refl; code = refl; class = refl; finalized = λ e. e }; entries = λ x. refl; code = λ x. refl })

    stack_before : (n : ℕ) → (o == n) ≡ false → ¬ Includes (refs ++ flat_map holds below) n → ¬ Includes ((o ∷ refs) ++ flat_map holds below) n
    stack_before n t free (inl e) = other o n t e
    stack_before n t free (inr m) = free m

    dies : (n : ℕ) → Minds (change dead o v.objects) v.names (Dying (record { object = o; phase = Finalizer }) ∷ Releasing refs ∷ below) n
    dies n m free = go_on (o == n) refl
      where
        go_on : (b : Bool) → (o == n) ≡ b → (o == n || list_any (is_death_of n) below) ≡ true
        go_on true t = or_left (o == n) (list_any (is_death_of n) below) t
        go_on false t = or_right (o == n) (list_any (is_death_of n) below) (h.minds n (old_lives v.objects (change dead o v.objects) keeps.old n m) (record {
          names_none = free.names_none;
          root_not = free.root_not;
          entries_none = λ x i e. either (keeps.entries x i n e) (λ y. free.entries_none y.0 y.1 y.2) (λ no. no);
          stack_none = stack_before n t free.stack_none;
        }))

    stays : (not (is_dying now o) && (in_degree now o == 0)) ≡ false → (n : ℕ) → Minds v.objects v.names (Releasing refs ∷ below) n
    stays kept n m free = go_on (o == n) refl
      where
        not_both : (d : Bool) → (in_degree now o == 0) ≡ true → (not (is_dying now o) && (in_degree now o == 0)) ≡ false → is_dying now o ≡ d → d ≡ true
        not_both true e f i = refl
        not_both false e f i = let a : (not (is_dying now o) && (in_degree now o == 0)) ≡ true = ap (λ b. not b && (in_degree now o == 0)) i ∙ e in let no : true ≡ false = sym a ∙ f in cc

        go_on : (b : Bool) → (o == n) ≡ b → list_any (is_death_of n) below ≡ true
        go_on true t = let same = eqb-true o n t in
            subst (λ p. list_any (is_death_of p) below ≡ true) same
            (not_both (is_dying now o) (eq-eqb (in_degree now o) 0 (free_degree now o (subst (λ p. IsFree v.objects v.names (Releasing refs ∷ below) p)
            (sym same) free))) kept refl)
        go_on false t = h.minds n m (record { names_none = free.names_none; root_not = free.root_not; entries_none = free.entries_none; stack_none = stack_before n t free.stack_none })

module _ (script : Script) (k : ℕ) (o : ℕ) (below : List Activity) (v : World) (rises : Rises 1 v.next_serial v.objects) where
  abbrev at : DyingPhase → World
  at phase = death_at o phase below v

  abbrev dying_now : DyingPhase → Activity
  dying_now phase = Dying (record { object = o; phase = phase })

  same : Keeps v.objects v.objects []
  same = keeps_same v.objects

  goes_to : (phase next : DyingPhase) (objects : List Object) → Keeps v.objects objects [] → ((n : ℕ) → Includes (dying_holds o phase) n
      → Includes (dying_holds o next) n) → IsMinded k (at phase) → Minded k objects v.names (dying_now next ∷ below)
  goes_to phase next objects keeps held h = turn_minded k (dying_now phase) (dying_now next) below v.objects objects v.names [] keeps (held, λ n m. absurd m, λ n. refl) h

  -- a death gives up its own hold
  module _ (phase next : DyingPhase) (held : (n : ℕ) → Includes (dying_holds o phase) n → o ≡ n) (none : dying_holds o next ≡ []) (h : IsMinded k (at phase)) where
    untracked : Keeps v.objects (change (with_place Untracked) o v.objects) []
    untracked = change_keeps (with_place Untracked) o v.objects (placed Untracked)

    was_free : (n : ℕ) → (o == n) ≡ false → ¬ Includes (flat_map holds below) n → ¬ Includes (flat_map holds (dying_now phase ∷ below)) n
    was_free n t free m = either (Includes-append_cases (dying_holds o phase) (flat_map holds below) n m) (λ d. other o n t (held n d)) free

    goes_on : (n : ℕ) → Minds (change (with_place Untracked) o v.objects) v.names (dying_now next ∷ below) n
    goes_on n m free = by_death (o == n) refl
      where
        by_death : (b : Bool) → (o == n) ≡ b → (o == n || list_any (is_death_of n) below) ≡ true
        by_death true t = or_left (o == n) (list_any (is_death_of n) below) t
        by_death false t = h.minds n (old_lives v.objects (change (with_place Untracked) o v.objects) untracked.old n m) (record {
          names_none = free.names_none;
          root_not = free.root_not;
          entries_none = λ x i e. either (untracked.entries x i n e) (λ y. free.entries_none y.0 y.1 y.2) (λ no. no);
          stack_none = was_free n t (λ i. free.stack_none (Includes-append_right (dying_holds o next) (flat_map holds below) n i));
        })

    lives_on : (in_degree (at next) o == 0) ≡ false → (n : ℕ) → Minds v.objects v.names below n
    lives_on held_now n m free = by_death (o == n) refl
      where
        by_death : (b : Bool) → (o == n) ≡ b → list_any (is_death_of n) below ≡ true
        by_death true t = let same = eqb-true o n t in
            let degree = free_degree (at next) o (record {
              names_none = subst (λ p. ¬ Includes (name_holdings v.names) p) (sym same) free.names_none;
              root_not = subst (λ p. p ≢ 1) (sym same) free.root_not;
              entries_none = λ x i. subst (λ p. ¬ Includes (references x.entries) p) (sym same) (free.entries_none x i);
              stack_none = subst (λ hs. ¬ Includes (hs ++ flat_map holds below) o) (sym none) (subst (λ p. ¬ Includes (flat_map holds below) p) (sym same) free.stack_none);
            }) in absurd (let no : true ≡ false = sym (eq-eqb (in_degree (at next) o) 0 degree) ∙ held_now in cc)
        by_death false t = subst (λ b. (b || list_any (is_death_of n) below) ≡ true) t
            (h.minds n m (record {
              names_none = free.names_none;
              root_not = free.root_not;
              entries_none = free.entries_none;
              stack_none = was_free n t
                  free.stack_none;
            }))

    after_frame_minded : IsMinded k (after_frame o next below (at phase)).1
    after_frame_minded = own_frame_either (λ lines. IsMinded k) o next below (at phase)
        (λ e. record { minds = goes_on; single = untracked.single h.single; count = h.count })
        (λ e. record { minds = lives_on e; single = h.single; count = h.count })

  calling_minded : (waiting : List ℕ) → ((weak : ℕ) → Includes waiting weak → (x : Object) → Includes v.objects x → x.serial ≡ weak → x.code ≡ Weak)
      → IsMinded k (at (Calling waiting)) → IsMinded k (call_one script o below (at (Calling waiting)) waiting).1
  calling_minded [] code h = goes_to (Calling []) LegacyFinalizer v.objects same (λ n m. m) h
  calling_minded (weak ∷ waiting) code h =
      let callback = unwrap_or (callback_of v.objects weak) 0 in
      starts_minded k script (record { sort = Callback; proc = procedure_of (at (Calling (weak ∷ waiting))) callback; subject = weak; func = Some callback })
      (death_at o (AfterCall weak callback waiting) below (with_change (with_entries []) weak (at (Calling (weak ∷ waiting)))))
      (turn_minded k (dying_now (Calling (weak ∷ waiting))) (dying_now (AfterCall weak callback waiting)) below v.objects (change (with_entries []) weak v.objects) v.names (callback ∷ [])
      (called_keeps 1 v.next_serial v.objects weak rises h.single (code weak (inl refl))) (λ n m. inr m, λ n m. either m (λ e. inl e) (λ no. absurd no), λ n. refl) h)

  gone_minds : last_entry (entries_of v.objects o) ≡ None → IsMinded k (at Emptying) → (n : ℕ) → Minds (without o v.objects) v.names below n
  gone_minds empty h n m free = by_death (o == n) refl
    where
      held : (t : Bool) (x : Object) → (x.serial == o) ≡ t → Includes v.objects x → ¬ Includes (references x.entries) n
      held true x t i e = let none = sym (entries_of_member 1 v.next_serial v.objects x o rises i (eqb-true x.serial o t)) ∙ last_none (entries_of v.objects o)
          empty in subst (λ es. Includes (references es) n) none e
      held false x t i e = free.entries_none x (Includes-filter (λ (z : Object). not (z.serial == o)) v.objects x (ap not t) i) e

      by_death : (b : Bool) → (o == n) ≡ b → list_any (is_death_of n) below ≡ true
      by_death true t = absurd (without_gone o v.objects (subst (Includes (serials (without o v.objects))) (sym (eqb-true o n t)) m))
      by_death false t = subst (λ b. (b || list_any (is_death_of n) below) ≡ true) t (h.minds n (origin_lives v.objects (without o v.objects) (without_old o v.objects) n m)
          (record { names_none = free.names_none; root_not = free.root_not; entries_none = λ x i. held (x.serial == o) x refl i; stack_none = free.stack_none }))

  called : (callback weak : ℕ) (waiting : List ℕ) (n : ℕ) → Includes (callback ∷ weak ∷ waiting) n → Includes (callback ∷ weak ∷ []) n ⊎ Includes waiting n
  called callback weak waiting n (inl e) = inl (inl e)
  called callback weak waiting n (inr (inl e)) = inl (inr (inl e))
  called callback weak waiting n (inr (inr m)) = inr m

  only : (n : ℕ) → Includes (o ∷ []) n → o ≡ n
  only n m = either m (λ e. e) (λ no. absurd no)

  pub dying_minded : (phase : DyingPhase) → ((waiting : List ℕ) → phase ≡ Calling waiting → (weak : ℕ) → Includes waiting weak → (x : Object)
      → Includes v.objects x → x.serial ≡ weak → x.code ≡ Weak) → IsMinded k (at phase) → IsMinded k (dying script o phase below (at phase)).1
  dying_minded Finalizer code h = option_either (λ lines. IsMinded k) (run_finalizer script o below (at Finalizer)) (option_and_then (finalizer_to_run script) (object_at v.objects o))
      (λ is. goes_to Finalizer (Clearing []) v.objects same (λ n m. m) h)
      (λ p is. starts_minded k script (record { sort = Del; proc = p; subject = o; func = None })
      (death_at o AfterFinalizer below (with_change (λ x. marked (with_place (Gen 0) x)) o (at Finalizer)))
      (goes_to Finalizer AfterFinalizer (change (λ x. marked (with_place (Gen 0) x)) o v.objects) (change_keeps (λ x. marked (with_place (Gen 0) x)) o v.objects
      (record { marks = λ x. record { serial = refl; code = refl; class = refl; finalized = λ e. refl }; entries = λ x. refl; code = λ x. refl })) (λ n m.
      absurd m) h))
  dying_minded AfterFinalizer code h = after_frame_minded AfterFinalizer (Clearing []) only refl h
  dying_minded (Clearing waiting) code h = list_either (λ lines. IsMinded k) (clear_one o waiting below (at (Clearing waiting))) (weak_references_if has_weak_references v.objects o)
      (λ e. goes_to (Clearing waiting) (Calling waiting) v.objects same (λ n m. m) h)
      (λ weak weaks e. let more = if is_some (callback_of v.objects weak) then weak ∷ [] else [] in
      goes_to (Clearing waiting) (Clearing (waiting ++ more)) (loses_referent weak v.objects) (lost_keeps weak v.objects) (λ n m. Includes-append_left waiting more n m) h)
  dying_minded (Calling waiting) code h = calling_minded waiting (code waiting refl) h
  dying_minded (AfterCall weak callback waiting) code h = give_minded k (callback ∷ weak ∷ []) (dying_now (AfterCall weak callback waiting))
      (dying_now (Calling waiting)) below v.objects v.objects v.names [] same (called callback weak waiting) (λ n m. absurd m) (λ n. refl) h
  dying_minded LegacyFinalizer code h = option_either (λ lines. IsMinded k) (run_legacy script o below (at LegacyFinalizer)) (option_and_then (legacy_of script) (object_at v.objects o))
      (λ e. goes_to LegacyFinalizer Detaching v.objects same (λ n m. m) h)
      (λ p e. starts_minded k script (record { sort = Legacy; proc = p; subject = o; func = None })
      (death_at o AfterLegacy below (with_change (with_place (Gen 0)) o (at LegacyFinalizer)))
      (goes_to LegacyFinalizer AfterLegacy (change (with_place (Gen 0)) o v.objects) (change_keeps (with_place (Gen 0)) o v.objects (placed (Gen 0))) (λ n m. absurd m) h))
  dying_minded AfterLegacy code h = after_frame_minded AfterLegacy Detaching only refl h
  dying_minded Detaching code h = list_either (λ lines. IsMinded k) (detach_one o below (at Detaching)) (weak_references_if (has_finalizers script) v.objects o)
      (λ e. goes_to Detaching Emptying v.objects same (λ n m. m) h)
      (λ weak weaks e. goes_to Detaching Detaching (loses_referent weak v.objects) (lost_keeps weak v.objects) (λ n m. m) h)
  dying_minded Emptying code h = option_either (λ lines. IsMinded k) (empty_one o below (at Emptying)) (last_entry (entries_of v.objects o))
      (λ e. record { minds = gone_minds e h; single = λ x m. h.single x (Includes-filter_cases (λ (z : Object). not (z.serial == o)) v.objects x m).0; count = h.count })
      (λ entry e. give_minded k (entry_references entry) (dying_now Emptying) (dying_now Emptying) below v.objects
      (change (with_entries (without_last (entries_of v.objects o))) o v.objects) v.names (entry_references entry)
      (shortened_keeps 1 v.next_serial v.objects o entry rises e) (λ n m. absurd m) (λ n m. inl m) (λ n. refl) h)
