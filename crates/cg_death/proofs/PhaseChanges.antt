-- A death that calls nothing goes straight to its contents.
use Rattle.std.proofs.Common.{◌≡◌, refl, sym, ◌∙◌, ap, subst, ℕ, Bool, true, false, inl, inr, List, [], ◌∷◌, ◌++◌, Option, Some, None, arith}
use Rattle.std.specs.Prelude.{flat_map, slice_get, option_and_then, option_map, unwrap_or, if◌then◌else◌}
use Rattle.cg_script.specs.declared.Script.{Script}
use Rattle.cg_graph.specs.Holdings.{occurrences, name_holdings, entry_holdings, graph_of}
use Rattle.cg_graph.specs.Object.{Object, object_at}
use Rattle.cg_graph.specs.Store.{Store, objects_of}
use Rattle.cg_graph.proofs.Members.{either}
use Rattle.cg_machine.specs.Program.{finalizer_of, legacy_of}
use Rattle.cg_machine.specs.World.{World, Activity, Death, DyingPhase, Finalizer, Clearing, Calling, LegacyFinalizer, Detaching, Emptying, with_stack}
use Rattle.cg_machine.specs.Holdings.{holdings, holds, dying_holds}
use Rattle.cg_machine.specs.Frame.{Transition}
use Rattle.cg_machine.specs.Weak.{weak_references, weak_references_if, has_weak_references}
use Rattle.cg_machine.specs.Dying.{dying, death_at, finalizer_to_run, run_finalizer, run_legacy, clear_one, has_finalizers}
use Rattle.cg_represents.specs.Orderly.{IsHeldInItsFramesAlone, death_waits}
use Rattle.cg_represents.proofs.Representing.{matches, represents}
use Rattle.cg_heap.specs.Weak.{AreRows}
use Rattle.cg_death.specs.declared.answer.DeathStep.TheVariants as answer_of
use Rattle.cg_death.specs.declared.phase.Phase.TheVariants as phase_of
use Rattle.cg_death.specs.Activities.{death_of}
use Rattle.cg_death.specs.Answers.{DeathStands, DeathSteps, TurnSteps}
use Rattle.cg_death.specs.Steady.{IsSteadyAt}
use Rattle.cg_death.proofs.TakingTurns.{going_on}
use Rattle.cg_death.proofs.Worlds.{steps_at}
use Rattle.cg_death.proofs.Clearing.{none_first}
use Rattle.cg_death.proofs.ClearingTurns.{turn-all_detached}
use Rattle.cg_death.proofs.SteadyPhases.{steady-no_finalizer, steady-no_legacy}
use Rattle.cg_death.proofs.SteadyRows.{steady-all_cleared, steady-all_called, steady-all_detached}
use Rattle.cg_death.proofs.Steps.{first_then, count_again}
use Rattle.cg_death.proofs.Turns.{here, rephased, waits_are, death}

-- From one phase to another that holds as little.
module _ (script : Script) (store : Store) (o : ℕ) (p q : DyingPhase) (waits : death_waits q ≡ death_waits p) (held : dying_holds o q ≡ dying_holds o p)
    (alone : (hs : List ℕ) → IsHeldInItsFramesAlone o p hs → IsHeldInItsFramesAlone o q hs) where
  module _ (v : World) (below : List Activity) where
    same_holdings : holdings (here store v o p below) ≡ holdings (here store v o q below)
    same_holdings = ap (λ hs. holdings_with hs) (sym held)
      where
        holdings_with : List ℕ → List ℕ
        holdings_with hs = name_holdings v.names ++ (1 ∷ []) ++ entry_holdings (graph_of v.objects) ++ (hs ++ flat_map holds below)

    stands_on : DeathStands store (here store v o p below) (death_of o p ∷ below) → DeathStands store (here store v o q below) (death_of o q ∷ below)
    stands_on s = record {
      represents = represents store (here store v o q below)
          (rephased store v o p below q (waits ∙ waits_are store v o p below (matches store (here store v o p below) s.represents)) (matches store (here store v o p below) s.represents))
          (λ x. s.represents.outside x ∙ ap (λ hs. occurrences x (hs ++ flat_map holds below)) (sym held));
      top = refl;
      running = s.running;
      unheld = λ d m. subst (IsHeldInItsFramesAlone d.object d.phase) same_holdings
          (either m
          (λ e. let same : death o q ≡ d = cc in subst (λ (x : Death). IsHeldInItsFramesAlone x.object x.phase (holdings (here store v o p below))) same
          (alone (holdings (here store v o p below)) (s.unheld (death o p) (inl refl))))
          (λ k. s.unheld d (inr k)));
      once = λ x. let was = s.once x in omega (arith, was, count_again x o p q below);
    }

  passes : ((v : World) (below : List Activity) → DeathStands store (here store v o p below) (death_of o p ∷ below)
      → dying script o p below (here store v o p below) ≡ ([], death_at o q below (here store v o p below)))
      → DeathSteps script store (death_of o q ∷ []) store (death_of o Emptying ∷ []) answer_of.Continue
      → DeathSteps script store (death_of o p ∷ []) store (death_of o Emptying ∷ []) answer_of.Continue
  passes does steps =
      steps_at script store (death_of o p ∷ []) store (death_of o Emptying ∷ []) answer_of.Continue
      (λ v below s.
      first_then script v (death_of o p ∷ below) (death_of o q ∷ below) (
        sym (ap (λ (t : Transition). t.0) (does v below s)),
        sym (ap (λ (t : Transition). t.1) (does v below s)),
      ) refl refl store (death_of o Emptying ∷ below) answer_of.Continue s.running
      (steps (with_stack (death_of o q ∷ below) v) below (stands_on v below s)))

-- An object of a class without finalizers has none to run, and its own frames made no weak references.
pub none_to_run : (script : Script) (x : Option Object) → option_and_then (finalizer_of script) x ≡ None → option_and_then (finalizer_to_run script) x ≡ None
none_to_run script None none = refl
none_to_run script (Some x) none = go x.finalized
  where
    go : (b : Bool) → (if b then None else finalizer_of script x) ≡ None
    go true = refl
    go false = none

no_finalizers : (script : Script) (x : Option Object) → option_and_then (finalizer_of script) x ≡ None → option_and_then (legacy_of script) x ≡ None
    → unwrap_or (option_map (has_finalizers script) x) false ≡ false
no_finalizers script None del legacy = refl
no_finalizers script (Some x) del legacy = rw (del, legacy) refl

module _ (script : Script) (store : Store) (o : ℕ) (del : option_and_then (finalizer_of script) (object_at (objects_of store) o) ≡ None)
    (legacy : option_and_then (legacy_of script) (object_at (objects_of store) o) ≡ None)
    (weak : slice_get (weak_references_if has_weak_references (objects_of store) o) 0 ≡ None) where
  none_detached : slice_get (weak_references_if (has_finalizers script) (objects_of store) o) 0 ≡ None
  none_detached = ap (λ b. slice_get (if b then weak_references (objects_of store) o else []) 0) (no_finalizers script (object_at (objects_of store) o) del legacy)

  pub turn-plain : TurnSteps script store o phase_of.Finalizer store (going_on phase_of.Emptying)
  turn-plain =
      passes script store o Finalizer (Clearing []) refl refl (λ hs h. h)
      (λ v below s.
      ap (run_finalizer script o below (here store v o Finalizer below))
      (ap (λ os. option_and_then (finalizer_to_run script) (object_at os o)) (sym s.represents.objects) ∙ (none_to_run script (object_at (objects_of store) o) del)))
      (passes script store o (Clearing []) (Calling []) refl refl (λ hs h. h)
      (λ v below s.
      ap (clear_one o [] below (here store v o (Clearing []) below))
      (ap (λ os. weak_references_if has_weak_references os o) (sym s.represents.objects) ∙ (none_first (weak_references_if has_weak_references (objects_of store) o) weak)))
      (passes script store o (Calling []) LegacyFinalizer refl refl (λ hs h. h)
      (λ v below s. refl)
      (passes script store o LegacyFinalizer Detaching refl refl (λ hs h. h)
      (λ v below s.
      ap (run_legacy script o below (here store v o LegacyFinalizer below)) (ap (λ os. option_and_then (legacy_of script) (object_at os o)) (sym s.represents.objects) ∙ legacy))
      (turn-all_detached script store o none_detached))))

  pub steady-plain : AreRows store → IsSteadyAt script store o phase_of.Finalizer None → IsSteadyAt script store o phase_of.Emptying None
  steady-plain ok s =
      steady-all_detached script store o ok none_detached
      (steady-no_legacy script store o
      (steady-all_called script store o (ap (λ l. slice_get l 0) s.rows.0)
      (steady-all_cleared script store o ok weak
      (steady-no_finalizer script store o s))))
