-- What one action of a phase does. (Ours.)
use Rattle.std.specs.Prelude.{◌≡◌, ◌≢◌, ℕ, false}
use Rattle.cg_script.specs.declared.Script.{Script}
use Rattle.cg_graph.specs.Store.{Store}
use Rattle.cg_death.specs.declared.answer.DeathStep.TheVariants as answer_of
use Rattle.cg_death.specs.declared.phase.Phase.{Phase}
use Rattle.cg_death.specs.declared.phase.Phase.TheVariants as phase_of
use Rattle.cg_death.specs.declared.phase.Turn.{Turn}
use Rattle.cg_death.specs.Answers.{TurnSteps, IsCaused, MakesNone, may_end}
use Rattle.cg_death.specs.Falls.{TurnFalls}
use Rattle.cg_death.specs.Deaths.{IsSettledAt, EndsSo}
use Rattle.cg_death.specs.Steady.{TurnStaysSteady, TakesFewHolds, KeepsNames, StandsAfterFrame, DiesUnheld}

-- What a death does to the rest of a heap: it makes no object, adds few holds, and leaves names and serials.
pub record LeavesTheRest (old new : Store) : Type 0 where
  pub objects : MakesNone old new
  pub holds : TakesFewHolds old new
  pub names : KeepsNames old new

-- The death of an object takes a turn: what the phase requires, and what it leaves and answers.
pub record TakesTurn (script : Script) (old : Store) (o : ℕ) (phase : Phase) (new : Store) (turn : Turn) : Type 0 where
  -- the machine does the same in every world that the heap represented
  pub steps : TurnSteps script old o phase new turn
  -- the answer, and what it says of the death
  pub answers : IsCaused o phase new turn.answer
  pub falls : TurnFalls old o phase new turn
  pub going : may_end turn.answer ≡ false → turn.phase ≢ phase_of.Over
  pub ends : turn.answer ≡ answer_of.Gone → EndsSo turn
  pub framed : StandsAfterFrame turn.answer turn.phase turn.release
  pub died : DiesUnheld turn.answer new
  pub settled : IsSettledAt turn.phase turn.release
  pub steady : TurnStaysSteady script old o phase new turn
  pub rest : LeavesTheRest old new
