-- Only the stage shows which reachability pass the last step made; no answer depends on it.
use Rattle.std.proofs.Common.{◌≡◌, refl, sym, subst, ◌+◌, ◌≤◌, ◌⊎◌, inl, inr, List, Bool, Option, None, Some, arith}
use Rattle.cg_script.specs.declared.Script.{Script}
use Rattle.cg_graph.specs.Store.{Store}
use Rattle.cg_machine.specs.declared.event.Event.{Event}
use Rattle.cg_machine.specs.World.{World, Activity}
use Rattle.cg_policy.specs.Policy.{Policy}
use Rattle.cg_collect.specs.declared.answer.CollectStep.{CollectStep}
use Rattle.cg_collect.specs.declared.answer.CollectStep.TheVariants as answer_of
use Rattle.cg_collect.specs.declared.collection.Collection.{Collection}
use Rattle.cg_collect.specs.declared.phase.Phase.{Phase}
use Rattle.cg_collect.specs.declared.phase.Phase.TheVariants as phase_of
use Rattle.cg_collect.specs.declared.stage.Detection.{Detection}
use Rattle.cg_collect.specs.declared.stage.Detection.TheVariants.{First, Second}
use Rattle.cg_collect.specs.declared.stage.Stage.TheVariants as stage
use Rattle.cg_collect.specs.Stages.{detection_at, stage_after, stage_at, stage_of, LeavesStage, MeetsStage}
use Rattle.cg_collect.specs.Ready.{IsBegun}
use Rattle.cg_collect.specs.Answers.{CollectionShows, CollectionStands, CollectAnswer, CollectSteps}
use Rattle.cg_collect.specs.Turns.{pass_of, passes_on, KeepsObjects}
use Rattle.cg_collect.specs.Collections.{IsReadyForCollection, KeepsReady, CollectFalls, CollectionEndsWith, DiesUnheld}

-- What a collection knows of the world, with another last pass.
module _ (detected : Option Detection) (asked : Bool) (c : Collection) (store : Store) (policy : Policy) (w : World) (below : List Activity) where
  pub also-shows : CollectionShows asked c store policy w below → CollectionShows asked (record c { detected = detected }) store policy w below
  also-shows s = record { represents = s.represents; numbers = s.numbers; running = s.running; top = s.top }

  pub also-stands : CollectionStands asked c store policy w below → CollectionStands asked (record c { detected = detected }) store policy w below
  also-stands s = record { shows = also-shows s.shows; running = s.running; orderly = s.orderly; unheld = s.unheld; once = s.once; alone = s.alone }

-- what a step requires of the heap
pub also-ready : (detected : Option Detection) (script : Script) (c : Collection) (store : Store) → IsReadyForCollection script c store
    → IsReadyForCollection script (record c { detected = detected }) store
also-ready detected script c store r = record { generation = r.generation; phase = r.phase; walk = r.walk; collected = r.collected; gives_up = r.gives_up }

-- what it answers
pub also-answers : (detected : Option Detection) (script : Script) (asked : Bool) (w : World) (below : List Activity) (left : List Event) (c : Collection)
    (store : Store) (policy : Policy) (answer : CollectStep)
    → CollectAnswer script asked w below left c store policy answer → CollectAnswer script asked w below left (record c { detected = detected }) store policy answer
also-answers detected script asked w below left c store policy answer_of.Continue a =
    record { events = a.events; after = a.after; goes = a.goes; lines = a.lines; shows = also-shows detected asked c store policy a.after below a.shows; keeps = a.keeps }
also-answers detected script asked w below left c store policy (answer_of.Emit event) a =
    record { events = a.events; after = a.after; goes = a.goes; lines = a.lines; shows = also-shows detected asked c store policy a.after below a.shows; keeps = a.keeps }
also-answers detected script asked w below left c store policy (answer_of.Frame spec) a =
    let (none, left_none, gave) = a in (
      none,
      left_none,
      record {
        before = gave.before;
        goes = gave.goes;
        shows = also-shows detected asked c store policy
            gave.before below gave.shows;
        keeps = gave.keeps;
      },
    )
also-answers detected script asked w below left c store policy (answer_of.Died o) a =
    let (none, left_none, gave) = a in (
      none,
      left_none,
      record {
        before = gave.before;
        goes = gave.goes;
        shows = also-shows detected asked c store policy
            gave.before below gave.shows;
        keeps = gave.keeps;
      },
    )
also-answers detected script asked w below left c store policy (answer_of.Finished collected set_aside) a = a

-- A step is one whatever pass the collection records before and after it.
pub also-steps : (was now : Option Detection) (script : Script) (old : Collection) (store : Store) (policy : Policy) (new : Collection) (store_now : Store) (policy_now : Policy) (answer : CollectStep)
    → CollectSteps script old store policy new store_now policy_now answer → CollectSteps script (record old { detected = was }) store policy
    (record new { detected = now }) store_now policy_now answer
also-steps was now script old store policy new store_now policy_now answer steps asked w below s =
    also-answers now script asked w below _ new store_now policy_now answer (steps asked w below (also-stands old.detected asked (record old { detected = was }) store policy w below s))

-- at a phase whose step makes no pass, the last step decides
at_none : (phase : Phase) (detected : Option Detection) → detection_at phase ≡ None → stage_at phase detected ≡ stage_after detected
at_none phase_of.Start detected none = absurd (cc)
at_none phase_of.Split detected none = absurd (cc)
at_none phase detected none = refl

-- after the second pass there is none
none_late : (phase : Phase) → 7 ≤ pass_of phase → detection_at phase ≡ None
none_late phase_of.Start late = absurd (omega (arith, late))
none_late phase_of.Split late = absurd (omega (arith, late))
none_late phase late = refl

-- after a step that made none
without : (phase : Phase) → IsBegun phase → (stage_at phase None ≡ stage.BeforeSecond) ⊎ (stage_at phase None ≡ stage.Between)
without phase_of.Start begun = absurd begun
without phase_of.Split begun = inl refl
without phase begun = inr refl

-- The stage after a step, by the phases before and after it.
left_at : (old new : Phase) → IsBegun new → (old ≡ phase_of.Start → detection_at new ≡ None) → pass_of old + passes_on old ≤ pass_of new → LeavesStage old (stage_at new (detection_at old))
left_at phase_of.Start new begun apart onward = at_none new (Some First) (apart refl)
left_at phase_of.Split new begun apart onward = at_none new (Some Second) (none_late new (omega (arith, onward)))
left_at old new begun apart onward = without new begun

pub leaves_stage : (old new : Phase) (detected : Option Detection) → detected ≡ detection_at old → IsBegun new → (old ≡ phase_of.Start → detection_at new
    ≡ None) → pass_of old + passes_on old ≤ pass_of new
    → LeavesStage old (stage_at new detected)
leaves_stage old new detected is begun apart onward = subst (λ d. LeavesStage old (stage_at new d)) (sym is) (left_at old new begun apart onward)

-- What a step of a collection does, as its contract says.
pub record TakesStep (script : Script) (old : Collection) (store : Store) (policy : Policy) (new : Collection) (now : Store) (policy_now : Policy) (answer : CollectStep) : Type 0 where
  pub steps : CollectSteps script old store policy new now policy_now answer
  pub ready : KeepsReady script new now answer
  pub falls : answer ≡ answer_of.Continue → CollectFalls old store new now
  pub died : DiesUnheld answer now
  pub ends : CollectionEndsWith old answer
  pub generation : new.generation ≡ old.generation
  pub begun : IsBegun new.phase
  pub onward : pass_of old.phase + passes_on old.phase ≤ pass_of new.phase
  pub detected : new.detected ≡ detection_at old.phase
  pub stage : LeavesStage old.phase (stage_of new)
  pub meets : MeetsStage old.phase (stage_of new) new.phase
  pub keeps : KeepsObjects store now

pub also-step : (detected : Option Detection) (script : Script) (old : Collection) (store : Store) (policy : Policy) (new : Collection) (now : Store) (policy_now : Policy) (answer : CollectStep)
    → TakesStep script (record old { detected = detected }) store policy new now policy_now answer → TakesStep script old store policy new now policy_now answer
also-step detected script old store policy new now policy_now answer s = record {
  steps = also-steps old.detected new.detected script (record old { detected = detected }) store policy new now policy_now answer s.steps;
  ready = s.ready;
  falls = s.falls;
  died = s.died;
  ends = s.ends;
  generation = s.generation;
  begun = s.begun;
  onward = s.onward;
  detected = s.detected;
  stage = s.stage;
  meets = s.meets;
  keeps = s.keeps;
}
