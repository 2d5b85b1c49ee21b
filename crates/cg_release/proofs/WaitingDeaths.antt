-- A death that waits for a callback, or whose run has ended: it never ends without a frame.
use Rattle.std.proofs.Common.{◌≡◌, ◌≢◌, refl, sym, ◌∙◌, ap, subst, ℕ, ◌+◌, inl, inr, ◌⊎◌, List, [], ◌∷◌, ◌++◌, length, Some, arith}
use Rattle.std.specs.Prelude.{cond, count_by, if◌then◌else◌, is_some, unwrap_or}
use Rattle.std.proofs.lemmas.List.{length-append}
use Rattle.std.proofs.lemmas.List.Sums.{sum_by-cons}
use Rattle.cg_script.specs.declared.Script.{Script}
use Rattle.cg_graph.proofs.Members.{either}
use Rattle.cg_machine.specs.declared.event.Event.{Event}
use Rattle.cg_machine.specs.declared.event.Event.TheVariants.{Enter}
use Rattle.cg_machine.specs.declared.event.FrameSort.TheVariants.{Callback}
use Rattle.cg_machine.specs.declared.event.FrameSpec.{FrameSpec}
use Rattle.cg_machine.specs.World.{World, Activity, TopLevel, Framed, Releasing, Dying, Collecting, ShuttingDown, DyingPhase, Finalizer, AfterFinalizer, Clearing, Calling, AfterCall, LegacyFinalizer, AfterLegacy, Detaching, Emptying, Outcome, Running, BudgetIsSpent, with_change}
use Rattle.cg_graph.specs.Object.{with_entries}
use Rattle.cg_machine.specs.Frame.{Transition, Yields, procedure_of, start_frame}
use Rattle.cg_machine.specs.Weak.{callback_of, has_weak_references, weak_references_if}
use Rattle.cg_machine.specs.Dying.{clear_one, death_at, dying}
use Rattle.cg_machine.specs.Run.{Run, StepOf, StepTaken, events_of, last_world}
use Rattle.cg_laws.specs.Laws.{is_enter}
use Rattle.cg_laws.proofs.Starting.{starts_either}
use Rattle.cg_promises.proofs.FullRuns.{enters_first}

-- weak references wait for their callbacks
abbrev pub WaitsIn : DyingPhase → Type 0
WaitsIn (Clearing []) = ⊥
WaitsIn (Clearing (weak ∷ waiting)) = Unit {0}
WaitsIn (Calling []) = ⊥
WaitsIn (Calling (weak ∷ waiting)) = Unit {0}
WaitsIn phase = ⊥

abbrev pub Waits : Activity → Type 0
Waits (TopLevel commands) = ⊥
Waits (Framed f) = ⊥
Waits (Releasing references) = ⊥
Waits (Dying d) = WaitsIn d.phase
Waits (Collecting c) = ⊥
Waits (ShuttingDown started) = ⊥

-- the top activity waits, or the run has ended
pub record IsCaught (below : List Activity) (stack : List Activity) (outcome : Outcome) : Type 0 where
  pub top : Activity
  pub tops : List Activity
  pub is : stack ≡ top ∷ (tops ++ below)
  pub why : (outcome ≢ Running) ⊎ Waits top

pub longer : (a : Activity) (tops below : List Activity) → a ∷ (tops ++ below) ≢ below
longer a tops below e =
    let same : length (a ∷ (tops ++ below)) ≡ length below = ap (λ (st : List Activity). length st) e in
    let all : length (a ∷ (tops ++ below)) ≡ 1 + (length tops + length below) = omega (arith, length-append tops below) in
    omega (arith, same, all)

-- a frame would start
pub starts_caught : (script : Script) (spec : FrameSpec) (v : World) (below : List Activity) (top : Activity) (tops : List Activity) → v.stack ≡ top ∷ (tops ++ below)
    → (let t : Transition = start_frame script spec v in count_by is_enter t.0 ≡ 0 → IsCaught below t.1.stack t.1.outcome)
starts_caught script spec v below top tops is = starts_either (λ (es : List Event) (u : World). count_by is_enter es ≡ 0 → IsCaught below u.stack u.outcome) script spec v
    (λ quiet. record { top = top; tops = tops; is = is; why = inl (λ (e : BudgetIsSpent ≡ Running). cc) })
    (λ some quiet.
    let one : count_by is_enter (Enter spec.sort spec.subject ∷ []) ≡ 1 + count_by is_enter [] = sum_by-cons (λ x. cond (is_enter x) 1 0) (Enter spec.sort spec.subject) [] in
    absurd (omega (arith, quiet, one)))

module _ (script : Script) (below : List Activity) where
  abbrev R : List Event → World → Type 0
  R lines v = count_by is_enter lines ≡ 0 → IsCaught below v.stack v.outcome

  to : (t : Transition) (events : List Event) (after : World) → R t.0 t.1 → Yields t events after → R events after
  to t events after k y = subst (λ (es : List Event). R es after) (sym y.0) (subst (λ (v : World). R t.0 v) (sym y.1) k)

  module _ (o : ℕ) (tops : List Activity) (u : World) where
    clears : (weak : ℕ) (waiting weaks : List ℕ) → (let t : Transition = clear_one o (weak ∷ waiting) (tops ++ below) u weaks in R t.0 t.1)
    clears weak waiting [] = λ quiet. record { top = Dying (record { object = o; phase = Calling (weak ∷ waiting) }); tops = tops; is = refl; why = inr tt }
    clears weak waiting (next ∷ weaks) = λ quiet. record {
      top = Dying (record { object = o; phase = Clearing ((weak ∷ waiting) ++ (if is_some (callback_of u.objects next) then next ∷ [] else [])) });
      tops = tops;
      is = refl;
      why = inr tt;
    }

    waits : (phase : DyingPhase) → WaitsIn phase → (let t : Transition = dying script o phase (tops ++ below) u in R t.0 t.1)
    waits (Clearing []) h = absurd h
    waits (Clearing (weak ∷ waiting)) h = clears weak waiting (weak_references_if has_weak_references u.objects o)
    waits (Calling []) h = absurd h
    waits (Calling (weak ∷ waiting)) h =
        let callback = unwrap_or (callback_of u.objects weak) 0 in
        starts_caught script (record { sort = Callback; proc = procedure_of u callback; subject = weak; func = Some callback })
        (death_at o (AfterCall weak callback waiting) (tops ++ below) (with_change (with_entries []) weak u)) below (Dying (record { object = o; phase = AfterCall weak callback waiting })) tops refl
    waits Finalizer h = absurd h
    waits AfterFinalizer h = absurd h
    waits (AfterCall weak callback waiting) h = absurd h
    waits LegacyFinalizer h = absurd h
    waits AfterLegacy h = absurd h
    waits Detaching h = absurd h
    waits Emptying h = absurd h

  caught_step : (u : World) (top : Activity) (tops : List Activity) → Waits top → (events : List Event) (after : World) → StepOf script u (top ∷ (tops ++ below)) events after → R events after
  caught_step u (TopLevel commands) tops h events after step = absurd h
  caught_step u (Framed f) tops h events after step = absurd h
  caught_step u (Releasing references) tops h events after step = absurd h
  caught_step u (Dying d) tops h events after step = to (dying script d.object d.phase (tops ++ below) u) events after (waits d.object tops u d.phase h) step
  caught_step u (Collecting c) tops h events after step = absurd h
  caught_step u (ShuttingDown started) tops h events after step = absurd h

  -- the stack never returns to the one below
  pub caught_stays : (u : World) (steps : List StepTaken) → Run script u steps → count_by is_enter (events_of steps) ≡ 0 → IsCaught below u.stack u.outcome → (last_world u steps).stack ≢ below
  caught_stays u [] run quiet c e = longer c.top c.tops below (sym c.is ∙ e)
  caught_stays u (step ∷ steps) run quiet c e =
      let parts = enters_first step.events (events_of steps) quiet in
      either c.why (λ no. absurd (no run.0.running))
      (λ h. caught_stays step.world steps run.1 parts.1
      (caught_step u c.top c.tops h step.events step.world (subst (λ (st : List Activity). StepOf script u st step.events step.world) c.is run.0.step) parts.0) e)
