-- The answer of a turn when no collection has a line left.
use Rattle.std.proofs.Common.{◌≡◌, ◌≢◌, refl, sym, ◌∙◌, inl, append-nil, List, [], ◌∷◌, ◌++◌}
use Rattle.cg_graph.proofs.Members.{either}
use Rattle.cg_script.specs.declared.Script.{Script}
use Rattle.cg_machine.specs.declared.event.Event.{Event}
use Rattle.cg_machine.specs.declared.event.Event.TheVariants.{End, BudgetSpent, Left}
use Rattle.cg_machine.specs.World.{World, Outcome, Ended, BudgetIsSpent}
use Rattle.cg_machine.specs.Frame.{Transition}
use Rattle.cg_represents.specs.Represents.{Goes}
use Rattle.cg_interp.specs.declared.turned.Turned.{Turned}
use Rattle.cg_interp.specs.declared.turned.Turned.TheVariants as turned
use Rattle.cg_interp.specs.Engines.{State, StandsFor}
use Rattle.cg_interp.specs.Turns.{Turns, GoesTo, RunEndsWith, Makes}
use Rattle.cg_interp.specs.Telling.{TurnsWith, TurnsAfter, GoesOnTo}

-- A transition that the machine reached answers a turn.
module _ (script : Script) (w : World) (e : State) (t : Transition) (goes : Goes script w t.0 t.1) where
  abbrev telling : (told : List Event) → t.0 ≡ told → Goes script w told t.1
  telling told is = record { steps = goes.steps; run = goes.run; prints = goes.prints ∙ is; ends = goes.ends; alone = goes.alone }

  on : (told : List Event) → goes.steps ≢ [] → t.0 ≡ told → StandsFor script e t.1 → GoesTo script w told e
  on told moves is stands = record { after = t.1; goes = telling told is; moves = moves; stands = stands }

  ends : (told : List Event) (outcome : Outcome) → t.0 ≡ told → t.1.outcome ≡ outcome → RunEndsWith script w told outcome
  ends told outcome is ended = record { after = t.1; goes = telling told is; ended = ended }

  pub reaches : goes.steps ≢ [] → (answer : Turned) → Makes script t e answer → Turns script w e answer
  reaches moves turned.Quiet makes = on [] moves makes.0 makes.1
  reaches moves (turned.Line event) makes = on (event ∷ []) moves makes.0 makes.1
  reaches moves (turned.Lines events) makes = on events moves makes.0 makes.1
  reaches moves turned.Ended makes = ends (End ∷ []) Ended makes.0 makes.1
  reaches moves (turned.Left n) makes = ends (Left n ∷ End ∷ []) Ended makes.0 makes.1
  reaches moves turned.Spent makes = ends (BudgetSpent ∷ []) BudgetIsSpent makes.0 makes.1

-- a step was made, and no line is left to print
goes_on : (script : Script) (may_rest : List Event → Type 0) (w : World) (e : State) (events : List Event) → GoesTo script w events e → events ≡ events ++ [] → GoesOnTo script may_rest w [] events e
goes_on script may_rest w e events goes same = record {
  events = events;
  after = goes.after;
  still = [];
  goes = goes.goes;
  lines = same;
  moves = inl goes.moves;
  stands = inl (goes.stands, refl);
}

-- An answer without remaining lines is one with zero remaining lines, whether or not the machine may rest.
pub turns_told : (script : Script) (may_rest : List Event → Type 0) (w : World) (e : State) (answer : Turned) → Turns script w e answer → TurnsWith script may_rest w [] e answer
turns_told script may_rest w e turned.Quiet goes = goes_on script may_rest w e [] goes refl
turns_told script may_rest w e (turned.Line event) goes = goes_on script may_rest w e (event ∷ []) goes refl
turns_told script may_rest w e (turned.Lines events) goes = goes_on script may_rest w e events goes (sym (append-nil events))
turns_told script may_rest w e _ ends = (refl, ends)

pub turns_plainly : (script : Script) (w : World) (e : State) (answer : Turned) → Turns script w e answer → TurnsWith script (λ still. ⊥) w [] e answer
turns_plainly script w e answer turns = turns_told script (λ still. ⊥) w e answer turns

-- a turn that does not rest is one that may
moving : (script : Script) (may_rest : List Event → Type 0) (w : World) (left told : List Event) (e : State) → GoesOnTo script (λ still. ⊥) w left told e → GoesOnTo script may_rest w left told e
moving script may_rest w left told e goes = record {
  events = goes.events;
  after = goes.after;
  still = goes.still;
  goes = goes.goes;
  lines = goes.lines;
  moves = either goes.moves (λ moves. inl moves) (λ rests. absurd rests);
  stands = goes.stands;
}

pub turns_moving : (waits : List Event) (script : Script) (may_rest : List Event → Type 0) (w : World) (left : List Event) (e : State) (answer : Turned)
    → TurnsAfter script (λ still. ⊥) w left e waits answer → TurnsAfter script may_rest w left e waits answer
turns_moving waits script may_rest w left e turned.Quiet turns = moving script may_rest w left (waits ++ []) e turns
turns_moving waits script may_rest w left e (turned.Line event) turns = moving script may_rest w left (waits ++ event ∷ []) e turns
turns_moving waits script may_rest w left e (turned.Lines events) turns = moving script may_rest w left (waits ++ events) e turns
turns_moving waits script may_rest w left e _ turns = turns
