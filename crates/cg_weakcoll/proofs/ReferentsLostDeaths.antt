-- After a step, a dying weak reference is still dying or freed.
use Rattle.std.proofs.Common.{◌≡◌, refl, sym, ap, subst, ℕ, ◌-◌, Bool, true, false, inl, inr, ◌⊎◌, List, [], ◌∷◌, ◌++◌, Option, Some, None}
use Rattle.std.specs.Prelude.{if◌then◌else◌, is_some, slice_get, option_and_then, unwrap_or}
use Rattle.cg_value.specs.declared.KindCode.TheVariants.{Weak}
use Rattle.cg_script.specs.declared.Script.{Script}
use Rattle.cg_graph.specs.Member.{Includes}
use Rattle.cg_graph.specs.Value.{entry_references, last_entry}
use Rattle.cg_graph.specs.Object.{Object, object_at, entries_of, serials, with_entries}
use Rattle.cg_graph.proofs.Members.{Includes-append_right}
use Rattle.cg_machine.specs.declared.event.Event.{Event}
use Rattle.cg_machine.specs.declared.event.FrameSort.TheVariants.{Callback}
use Rattle.cg_machine.specs.declared.event.FrameSpec.{FrameSpec}
use Rattle.cg_machine.specs.Program.{class_number, classes, finalizer_of, legacy_of}
use Rattle.cg_machine.specs.World.{World, Activity, Releasing, Dying, Death, DyingPhase, Finalizer, Clearing, Calling, AfterCall, LegacyFinalizer, Detaching, Emptying, with_change, BudgetIsSpent}
use Rattle.cg_machine.specs.Frame.{procedure_of}
use Rattle.cg_machine.specs.Weak.{has_weak_references, weak_references_if, callback_of}
use Rattle.cg_machine.specs.Dying.{death_at, has_finalizers, finalizer_to_run, run_finalizer, run_legacy, clear_one, call_one, detach_one, empty_one, dying}
use Rattle.cg_machine.specs.Run.{Step, StepOf}
use Rattle.cg_represents.proofs.Lists.{found_at}
use Rattle.cg_laws.proofs.LeftBelowRuns.{LeavesUnder}
use Rattle.cg_laws.proofs.LinesNameLive.{without_gone}
use Rattle.cg_laws.proofs.Starting.{starts_either, begun_frame, list_either, option_either}
use Rattle.cg_weakcoll.proofs.ReferentsLost.{IsFading, is_frameless}

-- A weak reference has no finalizer: its death goes on until it is freed.
abbrev pub IsWeak : List Object → ℕ → Type 0
IsWeak objects n = (x : Object) → Includes objects x → x.serial ≡ n → x.code ≡ Weak

no_finalizer : (script : Script) (x : Object) → x.code ≡ Weak → finalizer_of script x ≡ None
no_finalizer script x e = ap (λ k. option_and_then (λ c. c.del) (option_and_then (λ c. slice_get (classes script.items) c) (class_number k x.class))) e

no_legacy : (script : Script) (x : Object) → x.code ≡ Weak → legacy_of script x ≡ None
no_legacy script x e = ap (λ k. option_and_then (λ c. c.legacy) (option_and_then (λ c. slice_get (classes script.items) c) (class_number k x.class))) e

none_to_run : (script : Script) (objects : List Object) (n : ℕ) → IsWeak objects n → option_and_then (finalizer_to_run script) (object_at objects n) ≡ None
none_to_run script objects n weak = go (object_at objects n) refl
  where
    by_mark : (b : Bool) (m : Option ℕ) → m ≡ None → (if b then None else m) ≡ None
    by_mark true m e = refl
    by_mark false m e = e

    go : (m : Option Object) → object_at objects n ≡ m → option_and_then (finalizer_to_run script) m ≡ None
    go None e = refl
    go (Some x) e = let f = found_at objects n x e in by_mark x.finalized (finalizer_of script x) (no_finalizer script x (weak x f.0 f.1))

none_legacy : (script : Script) (objects : List Object) (n : ℕ) → IsWeak objects n → option_and_then (legacy_of script) (object_at objects n) ≡ None
none_legacy script objects n weak = go (object_at objects n) refl
  where
    go : (m : Option Object) → object_at objects n ≡ m → option_and_then (legacy_of script) m ≡ None
    go None e = refl
    go (Some x) e = let f = found_at objects n x e in no_legacy script x (weak x f.0 f.1)

-- it is still dying, or freed
abbrev pub FadesOrGoes : ℕ → World → Type 0
FadesOrGoes n after = IsFading after.stack n ⊎ (¬ Includes (serials after.objects) n)

module _ (script : Script) (o : ℕ) (below : List Activity) (w : World) (weak : IsWeak w.objects o) where
  on_top : (phase : DyingPhase) (after : World) (st : List Activity) → is_frameless phase ≡ true → after.stack ≡ Dying (record { object = o; phase = phase }) ∷ st → FadesOrGoes o after
  on_top phase after st e is =
      inl (record {
        death = record { object = o; phase = phase };
        member = subst (λ s. Includes s (Dying (record { object = o; phase = phase }))) (sym is)
            (inl refl);
        object = refl;
        frameless = e;
      })

  under_one : (phase : DyingPhase) (after : World) (a : Activity) (st : List Activity) → is_frameless phase ≡ true → after.stack ≡ a
      ∷ Dying (record { object = o; phase = phase }) ∷ st → FadesOrGoes o after
  under_one phase after a st e is =
      inl (record {
        death = record { object = o; phase = phase };
        member = subst (λ s. Includes s (Dying (record { object = o; phase = phase }))) (sym is)
            (inr (inl refl));
        object = refl;
        frameless = e;
      })

  dying_fades : (phase : DyingPhase) → is_frameless phase ≡ true → FadesOrGoes o (dying script o phase below w).1
  dying_fades Finalizer e = subst (λ m. FadesOrGoes o (run_finalizer script o below w m).1) (sym (none_to_run script w.objects o weak))
      (on_top (Clearing []) (run_finalizer script o below w None).1 below refl refl)
  dying_fades (Clearing waiting) e = list_either (λ lines. FadesOrGoes o) (clear_one o waiting below w) (weak_references_if has_weak_references w.objects o)
      (λ e. on_top (Calling waiting) (clear_one o waiting below w []).1 below refl refl)
      (λ x weaks e. on_top (Clearing (waiting ++ (if is_some (callback_of w.objects x) then x ∷ [] else []))) (clear_one o waiting below w (x ∷ weaks)).1 below refl refl)
  dying_fades (Calling []) e = on_top LegacyFinalizer (call_one script o below w []).1 below refl refl
  dying_fades (Calling (x ∷ waiting)) e =
      let callback = unwrap_or (callback_of w.objects x) 0 in
      let phase = AfterCall x callback waiting in
      let spec : FrameSpec = record { sort = Callback; proc = procedure_of w callback; subject = x; func = Some callback } in
      let u : World = death_at o phase below (with_change (with_entries []) x w) in
      starts_either (λ lines. FadesOrGoes o) script spec u (on_top phase (record u { outcome = BudgetIsSpent }) below refl refl)
      (λ some. under_one phase (record u { budget = u.budget - 1; stack = begun_frame script spec ∷ u.stack }) (begun_frame script spec) below refl refl)
  dying_fades (AfterCall x callback waiting) e = under_one (Calling waiting) (dying script o (AfterCall x callback waiting) below w).1 (Releasing (callback ∷ x ∷ [])) below refl refl
  dying_fades LegacyFinalizer e = subst (λ m. FadesOrGoes o (run_legacy script o below w m).1) (sym (none_legacy script w.objects o weak))
      (on_top Detaching (run_legacy script o below w None).1 below refl refl)
  dying_fades Detaching e = list_either (λ lines. FadesOrGoes o) (detach_one o below w) (weak_references_if (has_finalizers script) w.objects o)
      (λ e. on_top Emptying (detach_one o below w []).1 below refl refl)
      (λ x weaks e. on_top Detaching (detach_one o below w (x ∷ weaks)).1 below refl refl)
  dying_fades Emptying e = option_either (λ lines. FadesOrGoes o) (empty_one o below w) (last_entry (entries_of w.objects o))
      (λ e. inr (without_gone o w.objects))
      (λ entry e. under_one Emptying (empty_one o below w (Some entry)).1 (Releasing (entry_references entry)) below refl refl)
  dying_fades phase e = absurd (let no : false ≡ true = e in cc)

module _ (script : Script) (w : World) (events : List Event) (after : World) (n : ℕ) (weak : IsWeak w.objects n) where
  on_stack : (stack : List Activity) → StepOf script w stack events after → LeavesUnder w stack after → (d : Death) → Includes stack (Dying d) → d.object ≡ n
      → is_frameless d.phase ≡ true → FadesOrGoes n after
  on_stack [] step leaves d m e frameless = absurd m
  on_stack (a ∷ below) step leaves d (inr m) e frameless =
      inl (record {
        death = d;
        member = subst (λ st. Includes st (Dying d)) (sym leaves.stack) (Includes-append_right leaves.tops below (Dying d) m);
        object = e;
        frameless = frameless;
      })
  on_stack (a ∷ below) step leaves d (inl i) e frameless =
      let dies = subst (λ b. StepOf script w (b ∷ below) events after) i step in
      subst (FadesOrGoes n) (sym dies.1) (subst (λ k. FadesOrGoes k (dying script d.object d.phase below w).1) e (dying_fades script d.object below w
      (subst (IsWeak w.objects) (sym e) weak) d.phase frameless))

  pub step_fades : Step script w events after → LeavesUnder w w.stack after → IsFading w.stack n → FadesOrGoes n after
  step_fades step leaves f = on_stack w.stack step.step leaves f.death f.member f.object f.frameless
