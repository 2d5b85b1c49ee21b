-- A turn of the death on top of an engine.
use Rattle.std.proofs.Common.{◌≡◌, refl, sym, ◌∙◌, ap, subst, ℕ, ◌<◌, [], ◌∷◌, IsSome, arith}
use Rattle.cg_script.specs.declared.Script.{Script}
use Rattle.cg_machine.specs.declared.event.Event.{Event}
use Rattle.cg_machine.specs.declared.event.FrameSpec.{FrameSpec}
use Rattle.cg_machine.specs.Frame.{start_frame}
use Rattle.cg_machine.specs.World.{World}
use Rattle.cg_laws.specs.Kept.{StaysKept}
use Rattle.cg_death.specs.declared.answer.DeathStep.{DeathStep}
use Rattle.cg_death.specs.declared.answer.DeathStep.TheVariants as answer_of
use Rattle.cg_death.specs.Answers.{numbers_after}
use Rattle.cg_policy.specs.Policy.{Policy, with_numbers}
use Rattle.cg_interp.specs.declared.activity.Activity.TheVariants as activity
use Rattle.cg_interp.specs.declared.turned.Turned.{Turned}
use Rattle.cg_interp.specs.Engines.{State, StandsFor, under}
use Rattle.cg_interp.specs.Stacks.{death_on}
use Rattle.cg_interp.specs.Turns.{GoesTo, GivesDeath, Makes, Turns, StaysOn}
use Rattle.cg_interp.specs.Telling.{Advances, TurnsWith, IsAtAnyTurn, TurnsAny}
use Rattle.cg_interp.specs.Quietly.{DiesNext, ActsOnTop, LastAction}
use Rattle.cg_interp.proofs.AnswersOfTurns.{turns_told}
use Rattle.cg_interp.proofs.CallerLemmas.{same_engine}
use Rattle.cg_interp.proofs.DeathActions.{last_tells, last_ends, last_hands, last_calls}
use Rattle.cg_interp.proofs.LawsOfEngines.{room_left}
use Rattle.cg_interp.proofs.TopDeaths.{death_split}
use Rattle.cg_interp.proofs.TurnLemmas.{stands_above}

module _ (script : Script) (e : State) (dying : IsSome (death_on e.activities)) where
  -- An engine with a death on top may take a turn of it.
  pub dies_next : IsAtAnyTurn script e → DiesNext script e
  dies_next at =
      let (death, below, top) = death_split e.activities dying in
      record {
        death = death;
        below = below;
        top = top;
        world = at.world;
        stands = (stands_above script e (activity.Dying death) below at.left at.world top refl at.stands).0;
        kept = at.kept;
        first_budget = at.fit.first_budget;
      }

  pub room_to_die : IsAtAnyTurn script e → 0 < e.room
  room_to_die at = let next = dies_next at in omega (arith, room_left script e next.world next.stands (next.kept [] tt).lawful at.fit)

  -- such a turn is a turn of the engine
  pub turns_of_death : (new : State) (answer : Turned) → ((w : World) → StandsFor script e w → StaysKept script e.first_budget w → Turns script w new answer) → TurnsAny script e new answer
  turns_of_death new answer turns w left stands kept =
      let (death, below, top) = death_split e.activities dying in
      let plainly = stands_above script e (activity.Dying death) below left w top refl stands in
      subst (λ l. TurnsWith script (Advances e l new) w l new answer) (sym plainly.1) (turns_told script (Advances e [] new) w new answer (turns w plainly.0 kept))

-- What it answers, from the actions that it takes.
module _ (script : Script) (w : World) (old mid : State) (answer : DeathStep) (acts : ActsOnTop script old mid answer) (stands : StandsFor script old w)
    (kept : StaysKept script old.first_budget w) where
  -- the engine without the death
  abbrev rest : State
  rest = record old { activities = acts.below }

  last : LastAction script w rest mid.store acts.after answer
  last = acts.acts rest w (same_engine script old (under (activity.Dying acts.before) rest) w stands refl refl (sym acts.top) refl) kept

  pub tells_on_top : (event : Event) (new : State) → answer ≡ answer_of.Emit event → new.store ≡ mid.store → new.activities ≡ mid.activities → new.budget ≡ mid.budget
      → new.policy ≡ with_numbers (numbers_after event mid.policy.numbers) mid.policy → GoesTo script w (event ∷ []) new
  tells_on_top event new is store activities budget policy =
      last_tells script w rest new mid.store acts.after answer kept last store (subst (StaysOn acts.after acts.below) (sym activities) acts.stays)
      (budget ∙ acts.budget) event is (policy ∙ ap (λ (p : Policy). with_numbers (numbers_after event p.numbers) p) acts.policy)

  pub ends_on_top : answer ≡ answer_of.Gone → GoesTo script w [] mid
  ends_on_top is = last_ends script w rest mid mid.store acts.after answer kept last refl acts.stays acts.budget is acts.policy (acts.over is)

  pub hands_on_top : (o : ℕ) → answer ≡ answer_of.Died o → GivesDeath script w o mid
  hands_on_top o is = last_hands script w rest mid mid.store acts.after answer kept last refl acts.stays acts.budget o is acts.policy

  pub calls_on_top : (spec : FrameSpec) (new : State) (turned_to : Turned) → answer ≡ answer_of.Frame spec
      → ((u : World) → StandsFor script mid u → Makes script (start_frame script spec u) new turned_to) → Turns script w new turned_to
  calls_on_top spec new turned_to is starts = last_calls script w rest mid mid.store acts.after answer kept last refl acts.stays acts.budget spec new turned_to is acts.policy starts
