-- Every run is the beginning of a whole one, because each step lowers the measure.
use Rattle.std.proofs.Common.{◌≡◌, ◌≢◌, refl, sym, ◌∙◌, ap, ℕ, zero, suc, ◌+◌, ◌<◌, ◌≤◌, List, [], ◌∷◌, ◌++◌, length, arith}
use Rattle.cg_script.specs.declared.Script.{Script}
use Rattle.cg_machine.specs.World.{World, Activity, Outcome, Running, opening}
use Rattle.cg_machine.specs.Run.{StepTaken, Step, Run, last_world}
use Rattle.cg_laws.specs.Laws.{NoRunIsStuck}
use Rattle.cg_laws.proofs.Deterministic.{next, next_steps, HasTop}
use Rattle.cg_laws.proofs.InvariantOfRuns.{HasBottom, Sound, opening_sound}
use Rattle.cg_laws.proofs.MeasureNumber.{number_of, step_falls}

has_top : (stack : List Activity) → HasBottom stack → HasTop stack
has_top [] h = absurd h
has_top (a ∷ stack) h = tt

abbrev pub Ends : Script → World → Type 0
Ends script w = (more : List StepTaken) × Run script w more × ((last_world w more).outcome ≢ Running)

module _ (script : Script) where
  ended : (w : World) (o : Outcome) → w.outcome ≡ o → (w.outcome ≡ Running → Ends script w) → Ends script w
  ended w Running e go = go e
  ended w other e go = ([], tt, λ r. let same : other ≡ Running = sym e ∙ r in cc)

  ends_from : (bound : ℕ) (w : World) → number_of script w < bound → Sound w → Ends script w
  ends_from zero w below sound = absurd (omega (arith, below))
  ends_from (suc bound) w below sound = ended w w.outcome refl (λ running.
      let step : Step script w (next script w).events (next script w).world = record { running = running; step = next_steps script w w.stack (has_top w.stack sound.bottom) } in
      let less = step_falls script w (next script w).events (next script w).world step sound in
      let rest : Ends script (next script w).world = ends_from bound (next script w).world (omega (arith, less.1, below)) less.0 in
      (next script w ∷ rest.0, (step, rest.1), rest.2))

  pub ends : (w : World) → Sound w → Ends script w
  ends w sound = ends_from (suc (number_of script w)) w (omega arith) sound

-- the invariant holds in every world of a run
pub sound_after : (script : Script) (w : World) (steps : List StepTaken) → Sound w → Run script w steps → Sound (last_world w steps)
sound_after script w [] sound run = sound
sound_after script w (step ∷ steps) sound run = sound_after script step.world steps (step_falls script w step.events step.world run.0 sound).0 run.1

-- Each step of a run lowers the number by at least one. So a loop whose turns make runs, perhaps empty ones, can count it down.
pub run_falls : (script : Script) (w : World) (steps : List StepTaken) → Sound w → Run script w steps → number_of script (last_world w steps) + length steps ≤ number_of script w
run_falls script w [] sound run = omega arith
run_falls script w (step ∷ steps) sound run =
    let less = step_falls script w step.events step.world run.0 sound in
    let rest = run_falls script step.world steps less.0 run.1 in
    omega (arith, less.1, rest)

pub Run-append : (script : Script) (w : World) (steps more : List StepTaken) → Run script w steps → Run script (last_world w steps) more → Run script w (steps ++ more)
Run-append script w [] more r m = m
Run-append script w (step ∷ steps) more r m = (r.0, Run-append script step.world steps more r.1 m)

pub last_world-append : (w : World) (steps more : List StepTaken) → last_world w (steps ++ more) ≡ last_world (last_world w steps) more
last_world-append w [] more = refl
last_world-append w (step ∷ steps) more = last_world-append step.world steps more

pub not_stuck : NoRunIsStuck
not_stuck script budget steps run =
    let rest = ends script (last_world (opening script budget) steps) (sound_after script (opening script budget) steps (opening_sound script budget) run) in (
      rest.0,
      (last_world (last_world (opening script budget) steps) rest.0).outcome,
      record {
        run = Run-append script (opening script budget) steps rest.0 run rest.1;
        whole = rest.2;
        ends = ap (λ w. w.outcome) (last_world-append (opening script budget) steps rest.0);
      },
    )
