-- Each step of a collection keeps objects in the places of its phase, and the garbage list out of them.
use Rattle.std.proofs.Common.{◌≡◌, refl, sym, subst, ℕ, ◌≤◌, inl, List, ◌∷◌}
use Rattle.std.specs.Prelude.{count_by}
use Rattle.cg_script.specs.declared.Script.{Script}
use Rattle.cg_graph.specs.Member.{Includes}
use Rattle.cg_graph.specs.Value.{last_entry}
use Rattle.cg_graph.specs.Object.{entries_of}
use Rattle.cg_machine.specs.declared.event.Event.{Event}
use Rattle.cg_machine.specs.World.{World, Activity, Collecting, Collection, CollectPhase, Start, WeakClearing, WeakCalling, AfterCallback, AfterRelease, Finalizing, AfterFinalizing, Split, Turns, Turn, AfterTurn, Ending, with_stack}
use Rattle.cg_machine.specs.Holdings.{is_collection}
use Rattle.cg_represents.specs.Orderly.{IsOrderly}
use Rattle.cg_laws.specs.Lawful.{IsLawful}
use Rattle.cg_machine.specs.Collect.{collection_at, PhaseStep, CollectStep}
use Rattle.cg_laws.specs.Apart.{IsApart}
use Rattle.cg_laws.proofs.SetsApart.{NoneCollects, AreApart, alone_of, apart_of}
use Rattle.cg_laws.proofs.SortsApart.{start_apart}
use Rattle.cg_laws.proofs.WeakApart.{clearing_apart, calls_back_apart, after_callback_apart, after_release_apart}
use Rattle.cg_laws.proofs.FinalizersApart.{finalizing_apart, after_finalizing_apart, split_apart}
use Rattle.cg_laws.proofs.TurnsApart.{turns_apart, empties_apart, after_turn_apart, end_apart}

module _ (script : Script) (c : Collection) (below : List Activity) (v : World) (alone : NoneCollects below) where
  abbrev at : CollectPhase → World
  at phase = collection_at c phase below v

  to : (after next : World) → after ≡ next → IsApart next → IsApart after
  to after next e h = subst IsApart (sym e) h

  phase_apart : (phase : CollectPhase) (events : List Event) (after : World) → PhaseStep script c phase below (at phase) events after → IsOrderly (at phase) → AreApart v.objects phase → IsApart after
  phase_apart Start events after step orderly h = start_apart script c below v alone events after step h
  phase_apart (WeakClearing waiting) events after step orderly h = clearing_apart script c below v alone waiting events after step orderly h
  phase_apart (WeakCalling waiting) events after step orderly h = to after _ step.1 (calls_back_apart script c below v alone waiting orderly h)
  phase_apart (AfterCallback weak waiting) events after step orderly h = to after _ step.1 (after_callback_apart script c below v alone weak waiting h)
  phase_apart (AfterRelease weak waiting) events after step orderly h = to after _ step.1 (after_release_apart script c below v alone weak waiting h)
  phase_apart Finalizing events after step orderly h = finalizing_apart script c below v alone events after step h
  phase_apart (AfterFinalizing o) events after step orderly h = to after _ step.1 (after_finalizing_apart script c below v alone o h)
  phase_apart Split events after step orderly h = split_apart script c below v alone events after step h
  phase_apart Turns events after step orderly h = turns_apart script c below v alone events after step h
  phase_apart (Turn o) events after step orderly h = to after _ step.1 (empties_apart script c below v alone o (last_entry (entries_of v.objects o)) h)
  phase_apart (AfterTurn o) events after step orderly h = to after _ step.1 (after_turn_apart script c below v alone o h)
  phase_apart Ending events after step orderly h = end_apart script c below v alone events after step h

pub collect_apart : (script : Script) (budget : ℕ) (w : World) (c : Collection) (below : List Activity) (events : List Event) (after : World) → w.stack
    ≡ Collecting c ∷ below → IsLawful script budget w → IsApart w → CollectStep script w c below events after → IsApart after
collect_apart script budget w c below events after top lawful apart step =
    phase_apart script c below w (alone_of c below (subst (λ stack. count_by is_collection stack ≤ 1) top lawful.bounded.collections)) c.phase events after
    (subst (λ stack. CollectStep script (with_stack stack w) c below events after) top step)
    (subst (λ stack. IsOrderly (with_stack stack w)) top lawful.orderly)
    (apart_of w c (subst (λ stack. Includes stack (Collecting c)) (sym top) (inl refl)) apart)
