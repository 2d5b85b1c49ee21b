-- A collection is under way in an engine exactly if one is on the machine's stack.
use Rattle.std.proofs.Common.{◌≡◌, refl, sym, ◌∙◌, ap, ℕ, false, ◌||◌, List, [], ◌∷◌, Option, None, Some}
use Rattle.std.specs.List.{list_any}
use Rattle.std.proofs.lemmas.List.Folds.{list_any-append}
use Rattle.cg_script.specs.declared.Script.{Script}
use Rattle.cg_machine.specs.World.{World, Activity}
use Rattle.cg_machine.specs.Holdings.{is_collection, is_collecting as collecting_in}
use Rattle.cg_death.specs.declared.release.Release.{Release}
use Rattle.cg_death.specs.declared.phase.Phase.{Phase as DeathPhase}
use Rattle.cg_death.specs.declared.phase.Phase.TheVariants as death_phase
use Rattle.cg_death.specs.Activities.{death_activities}
use Rattle.cg_policy.specs.Laws.{policy_of}
use Rattle.cg_collect.specs.Phases.{machine_phase, collecting, released_over}
use Rattle.cg_graph.specs.Store.{list_at}
use Rattle.cg_value.specs.declared.Place.TheVariants.{Pend}
use Rattle.cg_interp.specs.declared.activity.Activity.{Activity as Own}
use Rattle.cg_interp.specs.declared.activity.Activity.TheVariants as activity
use Rattle.cg_interp.specs.Engines.{State, StandsFor, ActivityShows, ShowsAll, released_first, is_collecting, any_collecting}
use Rattle.cg_interp.proofs.CollectReady.{phase_there}

-- a death is none
death_is_none : (o : ℕ) (phase : DeathPhase) (waiting : List ℕ) → list_any is_collection (death_activities o phase waiting) ≡ false
death_is_none o death_phase.Finalizer waiting = refl
death_is_none o _ waiting = refl

-- nor is a release
release_is_none : (release : Option Release) (rest : List Activity) → list_any is_collection (released_first release rest) ≡ list_any is_collection rest
release_is_none None rest = refl
release_is_none (Some release) rest = refl

release_over_is_none : (release : Option Release) (rest : List Activity) → list_any is_collection (released_over release rest) ≡ list_any is_collection rest
release_over_is_none None rest = refl
release_over_is_none (Some release) rest = refl

-- what one activity represents
pub shown : (script : Script) (a : Own) (tops : List Activity) → ActivityShows script a tops → list_any is_collection tops ≡ is_collecting a
shown script (activity.Dying death) tops shows =
    ap (list_any is_collection) shows.1 ∙ release_is_none death.release (death_activities death.object death.phase shows.0) ∙ death_is_none death.object death.phase shows.0
shown script (activity.Collecting asked c) tops shows =
    ap (list_any is_collection) shows.shown ∙ release_over_is_none c.release (collecting asked c (machine_phase c.phase (list_at shows.then Pend)))
    ∙ ap (λ x. list_any is_collection (collecting asked c x)) (phase_there c.phase (list_at shows.then Pend) shows.handing.runs).1
shown script _ tops shows = ap (list_any is_collection) shows

-- what several represent
pub under_way : (script : Script) (activities : List Own) (stack : List Activity) → ShowsAll script activities stack → list_any is_collection stack ≡ any_collecting activities
under_way script [] stack shows = ap (list_any is_collection) shows
under_way script (top ∷ activities) stack shows =
    ap (list_any is_collection) shows.is ∙ list_any-append is_collection shows.tops shows.below
    ∙ (λ i. shown script top shows.tops shows.shows i || under_way script activities shows.below shows.over i)

-- The policy of an engine is that of each world that it represents.
pub runs_in : (script : Script) (e : State) (w : World) → StandsFor script e w → e.policy.running ≡ collecting_in w
runs_in script e w stands = stands.collecting ∙ sym (under_way script e.activities w.stack stands.shows)

pub policy_is : (script : Script) (e : State) (w : World) → StandsFor script e w → e.policy ≡ policy_of w
policy_is script e w stands = λ i. record { numbers = stands.numbers i; running = runs_in script e w stands i }
