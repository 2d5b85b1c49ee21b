-- In every world of a run the partition law holds: at the start no collection is under way, and each step keeps the
-- law.
use Rattle.std.proofs.Common.{◌≡◌, refl, sym, subst, ℕ, false, List, [], ◌∷◌}
use Rattle.cg_script.specs.declared.Script.{Script}
use Rattle.cg_graph.specs.Object.{Object}
use Rattle.cg_graph.proofs.Members.{either}
use Rattle.cg_machine.specs.declared.event.Event.{Event}
use Rattle.cg_machine.specs.World.{World, Activity, Collecting, opening}
use Rattle.cg_machine.specs.Holdings.{is_collection}
use Rattle.cg_machine.specs.Run.{Step, StepTaken, StepOf, Run, last_world}
use Rattle.cg_laws.specs.Laws.{IsOfCollection}
use Rattle.cg_laws.specs.Lawful.{IsLawful, StaysLawful}
use Rattle.cg_laws.proofs.InvariantOfRuns.{Sound, opening_sound}
use Rattle.cg_laws.proofs.MeasureNumber.{step_falls}
use Rattle.cg_laws.proofs.Unreferred.{lives_within}
use Rattle.cg_laws.proofs.Unheld.{Calm, IsStack}
use Rattle.cg_laws.proofs.HeldLivesDeaths.{HasOrder}
use Rattle.cg_laws.proofs.UnheldRuns.{step_calm, opening_calm}
use Rattle.cg_laws.proofs.HeldLivesRuns.{step_orderly, opening_orderly}
use Rattle.cg_laws.proofs.LeftBelowRuns.{LeavesUnder, step_leaves, leaves_below}
use Rattle.cg_laws.proofs.LawsOfWorlds.{stay_lawful}
use Rattle.cg_laws.specs.Apart.{IsGarbageList, IsFound, IsApart, CollectionsAreApart}
use Rattle.cg_laws.proofs.CollectApart.{collect_apart}
use Rattle.cg_laws.proofs.StepsPlain.{IsPlainUnder, step_plain}
use Rattle.cg_laws.proofs.StepsApart.{step_apart}

opening_apart : (script : Script) (budget : ℕ) → IsApart (opening script budget)
opening_apart script budget = record {
  garbage = λ x m e. either m (λ i. subst IsGarbageList i (record { list = refl; untracked = refl })) (λ n. absurd n);
  clear = λ free x m k. either m (λ i. subst (λ (z : Object). IsOfCollection z.place) (sym i) k) (λ n. n);
  phases = λ c m. either m (λ e. absurd (cc)) (λ n. absurd n);
  unhandled = λ c m. either m (λ e. absurd (cc)) (λ n. absurd n);
  unsaved = λ x m k n. either m (λ i. subst (λ (z : Object). IsFound z.place) (sym i) k) (λ n. n);
}

-- a step of another activity
other_apart : (script : Script) (w : World) (a : Activity) (below : List Activity) (events : List Event) (after : World) → w.stack ≡ a ∷ below → is_collection a
    ≡ false → Step script w events after → Sound w → Calm script w → HasOrder w → IsApart w → IsApart after
other_apart script w a below events after top none step sound calm order h =
    let stack : IsStack script w (a ∷ below) = subst (IsStack script w) top calm.stack in
    let left : LeavesUnder w (a ∷ below) after = subst (λ st. LeavesUnder w st after) top (step_leaves script w events after step sound calm order) in
    let made = lives_within 1 w.next_serial w.objects 1 sound.rises order.root_lives in
    let plain : IsPlainUnder w.objects (a ∷ below) after = subst (λ st. IsPlainUnder w.objects st after) top (step_plain script w events after step h.garbage made.1 calm sound.bottom) in
    step_apart w a below after top none sound.rises (leaves_below script w a below after top sound.rises stack.1 order left) (plain none) h

module _ (script : Script) (budget : ℕ) where
  step_keeps : (w : World) (stack : List Activity) (events : List Event) (after : World) → w.stack ≡ stack → Step script w events after → Sound w
      → Calm script w → HasOrder w → IsLawful script budget w → IsApart w → IsApart after
  step_keeps w [] events after top step sound calm order lawful h = absurd (subst (λ st. StepOf script w st events after) top step.step)
  step_keeps w (Collecting c ∷ below) events after top step sound calm order lawful h = collect_apart script budget w c below events after top lawful h
      (subst (λ st. StepOf script w st events after) top step.step)
  step_keeps w (a ∷ below) events after top step sound calm order lawful h = other_apart script w a below events after top refl step sound calm order h

  apart_after : (w : World) (steps : List StepTaken) → Sound w → Calm script w → HasOrder w → StaysLawful script budget w → IsApart w → Run script w steps → IsApart (last_world w steps)
  apart_after w [] sound calm order lawful h run = h
  apart_after w (step ∷ steps) sound calm order lawful h run =
      apart_after step.world steps (step_falls script w step.events step.world run.0 sound).0 (step_calm script w step.events step.world run.0 sound calm)
      (step_orderly script w step.events step.world run.0 sound calm order) (λ more goes. lawful (step ∷ more) (run.0, goes))
      (step_keeps w w.stack step.events step.world refl run.0 sound calm order (lawful [] tt) h) run.1

pub runs_apart : CollectionsAreApart
runs_apart script budget steps run = apart_after script budget (opening script budget) steps (opening_sound script budget) (opening_calm script budget)
    (opening_orderly script budget) (stay_lawful script budget [] tt) (opening_apart script budget) run
