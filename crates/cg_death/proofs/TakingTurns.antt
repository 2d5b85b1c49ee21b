-- A turn, composed of what its phase does: it goes on, prints a line, or runs a frame.
use Rattle.std.proofs.Common.{◌≡◌, ◌≢◌, refl, sym, subst, ℕ, ◌<◌, Bool, true, false, IsTrue, List, ◌++◌, None, inl}
use Rattle.cg_script.specs.declared.Script.{Script}
use Rattle.cg_graph.specs.Store.{Store}
use Rattle.cg_machine.specs.declared.event.Event.{Event}
use Rattle.cg_machine.specs.declared.event.FrameSpec.{FrameSpec}
use Rattle.cg_death.specs.declared.answer.DeathStep.TheVariants as answer_of
use Rattle.cg_death.specs.declared.phase.Phase.{Phase}
use Rattle.cg_death.specs.declared.phase.Phase.TheVariants as phase_of
use Rattle.cg_death.specs.declared.phase.Turn.{Turn}
use Rattle.cg_death.specs.Answers.{DeathStands, DeathAnswer, TurnSteps, CallsAt, TellsAt}
use Rattle.cg_machine.specs.World.{World, Activity, with_stack}
use Rattle.cg_death.specs.Activities.{activities}
use Rattle.cg_death.proofs.Worlds.{steps_at}
use Rattle.cg_death.specs.Falls.{pass_of}
use Rattle.cg_death.specs.Steady.{IsSteadyAt, IsPhaseAfter}
use Rattle.cg_death.specs.Turns.{LeavesTheRest, TakesTurn}

-- a test that failed does not hold
pub is_held : (b : Bool) → b ≡ false → IsTrue b → ⊥
is_held true e t = cc
is_held false e t = cc

abbrev pub going_on : Phase → Turn
going_on next = record { phase = next; release = None; answer = answer_of.Continue }

abbrev pub telling : Event → Phase → Turn
telling event next = record { phase = next; release = None; answer = answer_of.Emit event }

abbrev pub running : Phase → FrameSpec → Turn
running next spec = record { phase = next; release = None; answer = answer_of.Frame spec }

-- a turn's steps from each world with an explicit stack
pub turn_at : (script : Script) (old : Store) (o : ℕ) (phase : Phase) (new : Store) (turn : Turn)
    → ((v : World) (below : List Activity) → DeathStands old (with_stack (activities o phase None old ++ below) v) (activities o phase None old ++ below)
    → DeathAnswer script (with_stack (activities o phase None old ++ below) v) new (activities o turn.phase turn.release new ++ below) turn.answer) → TurnSteps script old o phase new turn
turn_at script old o phase new turn each = steps_at script old (activities o phase None old) new (activities o turn.phase turn.release new) turn.answer each

module _ {script : Script} {old now new : Store} {o : ℕ} {phase next : Phase} {turn : Turn} (new_is : new ≡ now) (rest : LeavesTheRest old now)
    (steady : IsSteadyAt script old o phase None → IsSteadyAt script now o next None) where
  -- what holds of any turn that leaves nothing to give up
  made : (t : Turn) → turn ≡ t → TakesTurn script old o phase now t → TakesTurn script old o phase new turn
  made t is takes = subst (λ st. TakesTurn script old o phase st turn) (sym new_is) (subst (λ (x : Turn). TakesTurn script old o phase now x) (sym is) takes)

  pub goes_on : turn ≡ going_on next → TurnSteps script old o phase now (going_on next) → pass_of phase < pass_of next → next ≢ phase_of.Over → TakesTurn script old o phase new turn
  goes_on is steps later not_over =
      made (going_on next) is
      (record { steps = steps; answers = tt; falls = λ e. inl later; going = λ e. not_over; ends = λ e. absurd (cc); framed = tt; died = tt; settled = tt; steady = steady; rest = rest })

  pub tells : (event : Event) → turn ≡ telling event next → TurnSteps script old o phase now (telling event next) → TellsAt o phase event → TakesTurn script old o phase new turn
  tells event is steps told =
      made (telling event next) is
      (record { steps = steps; answers = told; falls = λ e. absurd (cc); going = λ e. absurd (cc); ends = λ e. absurd (cc); framed = tt; died = tt; settled = tt; steady = steady; rest = rest })

  pub runs : (spec : FrameSpec) → turn ≡ running next spec → TurnSteps script old o phase now (running next spec) → CallsAt phase spec.sort
      → IsPhaseAfter spec spec.sort next → next ≢ phase_of.Over → TakesTurn script old o phase new turn
  runs spec is steps calls after not_over =
      made (running next spec) is
      (record {
        steps = steps;
        answers = calls;
        falls = λ e. absurd (cc);
        going = λ e. not_over;
        ends = λ e. absurd (cc);
        framed = (after, refl);
        died = tt;
        settled = tt;
        steady = steady;
        rest = rest;
      })
