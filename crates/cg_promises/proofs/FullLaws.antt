-- In every run, what is reachable when a full collection starts is reachable when it stops, if no frame began.
use Rattle.std.proofs.Common.{◌≡◌, ◌≢◌, refl, sym, ◌∙◌, ap, subst, ℕ, ◌<◌, Bool, true, false, inl, ◌⊎◌, List, [], ◌∷◌, ◌++◌, map, arith}
use Rattle.std.specs.Prelude.{count_by}
use Rattle.std.proofs.lemmas.List.{append_assoc}
use Rattle.cg_value.specs.declared.Place.TheVariants.{Untracked, Gen, Frozen}
use Rattle.cg_script.specs.declared.Script.{Script}
use Rattle.cg_graph.specs.Member.{Includes}
use Rattle.cg_graph.specs.Object.{Object, is_at, objects_at, same_place}
use Rattle.cg_graph.proofs.Members.{either, Includes-append_cases, Includes-filter, Includes-map}
use Rattle.cg_machine.specs.declared.event.Event.{Event}
use Rattle.cg_machine.specs.declared.event.Event.TheVariants.{GcCollectable, GcStart}
use Rattle.cg_machine.specs.World.{World, Activity, Collecting, Collection, Dying, Death, opening, with_stack}
use Rattle.cg_machine.specs.Effects.{gens_line}
use Rattle.cg_machine.specs.Collect.{StartStep, PhaseStep, collectable, has_flag, lines_if, stats}
use Rattle.cg_machine.specs.Run.{Run, Step, StepOf, StepTaken, IsRun, events_of, last_world, world_after}
use Rattle.cg_laws.specs.Laws.{IsOfCollection, StartsFull, is_enter, is_stop}
use Rattle.cg_represents.specs.Orderly.{runs_own_frame}
use Rattle.cg_laws.proofs.HeldLivesRuns.{worlds_orderly}
use Rattle.cg_laws.specs.Apart.{StandsRightly}
use Rattle.cg_laws.proofs.RunsApart.{runs_apart}
use Rattle.cg_promises.specs.Reached.{IsReached, ReachedIsKept}
use Rattle.cg_promises.proofs.FullStart.{in_merge, looked_at}
use Rattle.cg_promises.proofs.FullKept.{full_then, reached_then}
use Rattle.cg_promises.proofs.FullRuns.{enters_first}
use Rattle.cg_promises.proofs.FullStop.{NoStop, end_reached, stop_ends}
use Rattle.cg_promises.proofs.FinalSetRuns.{none_first, none_stops}
use Rattle.cg_promises.proofs.FinalizerOnceRuns.{Fit, opening_fit, run_back, run_front, run_fit, step_fit}
use Rattle.cg_promises.proofs.GenerationsOfRuns.{opening_young, young_after}

-- the step of the start
pub begins : (script : Script) (w : World) (f : StartsFull w) (events : List Event) (after : World) → Step script w events after → StartStep script w f.collection f.below events after
begins script w f events after step =
    let phase_step : PhaseStep script f.collection f.collection.phase f.below w events after = subst (λ st. StepOf script w st events after) f.top step.step in
    subst (λ p. PhaseStep script f.collection p f.below w events after) f.phase phase_step

pub start_quiet : (script : Script) (w : World) (c : Collection) (below : List Activity) (events : List Event) (after : World) → StartStep script w c below events after → NoStop events
start_quiet script w c below events after step = subst NoStop (sym step.lines)
    (λ e m. either (Includes-append_cases ((GcStart c.generation ∷ []) ++ lines_if (has_flag c.flags stats) (gens_line w.objects ∷ []))
    (lines_if (has_flag c.flags collectable) (map GcCollectable step.collectables)) e m)
    (λ k. either (Includes-append_cases (GcStart c.generation ∷ []) (lines_if (has_flag c.flags stats) (gens_line w.objects ∷ [])) e k)
    (λ i. either i (λ s. subst (λ z. is_stop z ≡ false) s refl) (λ n. absurd n)) (λ i. sizes (has_flag c.flags stats) e i))
    (λ k. collected (has_flag c.flags collectable) step.collectables e k))
  where
    sizes : (b : Bool) (e : Event) → Includes (lines_if b (gens_line w.objects ∷ [])) e → is_stop e ≡ false
    sizes true e m = either m (λ s. subst (λ z. is_stop z ≡ false) s refl) (λ n. absurd n)
    sizes false e m = absurd m

    collected : (b : Bool) (ns : List ℕ) (e : Event) → Includes (lines_if b (map GcCollectable ns)) e → is_stop e ≡ false
    collected true (n ∷ ns) e m = either m (λ s. subst (λ z. is_stop z ≡ false) s refl) (λ k. collected true ns e k)
    collected b ns e m = absurd m

module _ (script : Script) (budget : ℕ) (before : List StepTaken) (run : IsRun script budget before) (f : StartsFull (world_after script budget before)) where
  abbrev w : World
  w = world_after script budget before

  pub near_full : (x : Object) → Includes w.objects x → (x.place ≡ Untracked) ⊎ (is_at (Gen 2) (in_merge 2 x) ≡ true)
  near_full x m = looked_at x.place ((young_after script (opening script budget) before run (opening_young script budget)).places x m) apart (λ e. thawed e)
    where
      apart : ¬ IsOfCollection x.place
      apart = subst (λ p. StandsRightly p x) f.phase ((runs_apart script budget before run).phases f.collection (subst (λ st. Includes st (Collecting f.collection)) (sym f.top) (inl refl)) x m)

      thawed : x.place ≢ Frozen
      thawed e = subst (λ ns. Includes ns x.serial) f.none_frozen (Includes-map (λ (z : Object). z.serial) (objects_at w.objects Frozen) x
          (Includes-filter (is_at Frozen) w.objects x (ap (λ p. same_place p Frozen) e) m))

  pub faded_full : (d : Death) → Includes w.stack (Dying d) → runs_own_frame d.phase ≡ false → (x : Object) → Includes w.objects x → x.serial ≡ d.object → x.place ≡ Untracked
  faded_full d m e x i s = ((worlds_orderly script budget before run).deaths d m).untracked e x i s

  kept_on : (during : List StepTaken) (stop : StepTaken) → Run script w (during ++ stop ∷ []) → Fit script w → count_by is_enter (events_of during
      ++ stop.events) ≡ 0 → count_by is_stop (events_of during) ≡ 0 → 0 < count_by is_stop stop.events → (o : ℕ) → IsReached w o → IsReached stop.world o
  kept_on [] stop steps fit quiet on more o path = absurd (let none = none_stops stop.events (start_quiet script w f.collection f.below stop.events stop.world
      (begins script w f stop.events stop.world steps.0)) in omega (arith, none, more))
  kept_on (start ∷ during) stop steps fit quiet on more o path = ended (reached_then script f.collection f.below w start.events start.world f.top f.phase f.full
      fit.sound.rises near_full faded_full (begins script w f start.events start.world steps.0) during stop steps.1 fit_now quiet_now on_now o path)
    where
      fit_now : Fit script start.world
      fit_now = step_fit script w start.events start.world steps.0 fit

      quiet_now : count_by is_enter (events_of during) ≡ 0
      quiet_now = (enters_first start.events (events_of during) (enters_first (start.events ++ events_of during) stop.events quiet).0).1

      on_now : count_by is_stop (events_of during) ≡ 0
      on_now = (none_first start.events (events_of during) on).1

      u : World
      u = last_world start.world during

      ended : IsReached u o → IsReached stop.world o
      ended at =
          let h = (full_then script f.collection f.below w start.events start.world f.top f.phase f.full fit.sound.rises near_full faded_full
          (begins script w f start.events start.world steps.0) during stop steps.1 fit_now quiet_now on_now).full in
          let last = (run_back script start.world during (stop ∷ []) steps.1).0 in
          let stands = stop_ends script (λ n. IsReached w n) u f.below stop.events stop.world h.tops h.collection h.bare h.begun more
          (subst (λ st. StepOf script (with_stack st u) st stop.events stop.world) h.is last.step) in
          let top : u.stack ≡ Collecting h.collection ∷ f.below = h.is ∙ ap (λ ts. ts ++ Collecting h.collection ∷ f.below) stands.0 in
          let phase_step : PhaseStep script h.collection h.collection.phase f.below u stop.events stop.world = subst (λ st. StepOf script u st stop.events stop.world) top last.step in
          end_reached script h.collection f.below u stop.events stop.world top stands.1 (subst (λ p. PhaseStep script h.collection p f.below u stop.events stop.world) stands.1 phase_step) o at

pub reached_is_kept : ReachedIsKept
reached_is_kept script budget before during stop run f quiet on more o path =
    let all = subst (IsRun script budget) (append_assoc before during (stop ∷ [])) run in
    let front = run_front script (opening script budget) before (during ++ stop ∷ []) all in
    kept_on script budget before front f during stop (run_back script (opening script budget) before (during ++ stop ∷ []) all)
    (run_fit script (opening script budget) before front (opening_fit script budget)) quiet on more o path
