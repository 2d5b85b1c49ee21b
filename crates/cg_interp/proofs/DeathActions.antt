-- The actions of a death within one turn.
use Rattle.std.proofs.Common.{◌≡◌, ◌≢◌, refl, sym, ◌∙◌, ap, subst, ℕ, ◌+◌, ◌*◌, ◌-◌, ◌<◌, ◌≤◌, false, inl, inr, List, [], ◌∷◌, ◌++◌, Option, None, Some, length, arith, map}
use Rattle.std.specs.Prelude.{filter, option_to_list}
use Rattle.std.proofs.lemmas.List.{length-map, length-reverse}
use Rattle.std.proofs.lemmas.List.Sums.{length-filter, count_by-le-length}
use Rattle.cg_script.specs.declared.Script.{Script}
use Rattle.cg_graph.specs.Store.{Store, waiting_for}
use Rattle.cg_graph.specs.Rows.{Row, waits_with}
use Rattle.cg_heap.specs.Calls.{IsSound, HasFewHolds}
use Rattle.cg_heap.specs.Weak.{AreRows}
use Rattle.cg_machine.specs.declared.event.Event.{Event}
use Rattle.cg_machine.specs.declared.event.FrameSpec.{FrameSpec}
use Rattle.cg_machine.specs.declared.event.FrameSort.{FrameSort}
use Rattle.cg_machine.specs.declared.event.FrameSort.TheVariants as sort_of
use Rattle.cg_machine.specs.Frame.{start_frame}
use Rattle.cg_machine.specs.World.{World, Activity}
use Rattle.cg_represents.specs.Represents.{detects}
use Rattle.cg_collect.proofs.RowWalks.{references-le}
use Rattle.cg_death.specs.declared.release.Release.{Release}
use Rattle.cg_death.specs.declared.phase.Phase.{Phase}
use Rattle.cg_death.specs.declared.phase.Phase.TheVariants as phase_of
use Rattle.cg_death.specs.declared.death.Death.{Death}
use Rattle.cg_death.specs.declared.answer.DeathStep.{DeathStep}
use Rattle.cg_death.specs.declared.answer.DeathStep.TheVariants as answer_of
use Rattle.cg_death.specs.Activities.{death_activities, HasHolds}
use Rattle.cg_death.specs.Answers.{DeathSteps, CallsAt, numbers_after}
use Rattle.cg_death.specs.Deaths.{on_stack, held_by, IsReadyForDeath, IsSettled, IsGoing, DeathFalls, HasCause}
use Rattle.cg_death.specs.Falls.{pass_of, own_holds, still_released, number_left}
use Rattle.cg_laws.specs.Kept.{IsKept, StaysKept}
use Rattle.cg_policy.specs.Policy.{with_numbers}
use Rattle.cg_interp.specs.declared.activity.Activity.TheVariants as activity
use Rattle.cg_interp.specs.declared.turned.Turned.{Turned}
use Rattle.cg_interp.specs.Engines.{State, StandsFor, released_first, under, over}
use Rattle.cg_interp.specs.Turns.{DyingIsSound, GoesTo, GivesDeath, Makes, Turns, StaysOn}
use Rattle.cg_interp.specs.Quietly.{ComesTo, LastAction, IsActing}
use Rattle.cg_interp.proofs.ActivityLemmas.{death_held, death_may_step}
use Rattle.cg_interp.proofs.DeathLemmas.{death_continues, death_tells, death_ends, death_hands, death_calls, another_dies}
use Rattle.cg_interp.proofs.LawsOfEngines.{few_holds, few_objects, dying_sound}
use Rattle.cg_interp.proofs.SilentTurns.{stays, quietly, comes_then, stays_so, goes_to_then, gives_death_then, plain_turns_then}
use Rattle.cg_interp.proofs.Sizes.{IsSmall}

-- a death on top makes no reachability pass
shown_detects_none : (release : Option Release) (o : ℕ) (phase : Phase) (waiting : List ℕ) (below : List Activity)
    → released_first release (death_activities o phase waiting) ≢ [] → detects (released_first release (death_activities o phase waiting) ++ below) ≡ false
shown_detects_none (Some release) o phase waiting below some = refl
shown_detects_none None o phase_of.Over waiting below some = absurd (some refl)
shown_detects_none None o _ waiting below some = refl

pub death_detects_none : (script : Script) (e : State) (death : Death) (w : World) → StandsFor script (under (activity.Dying death) e) w → detects w.stack ≡ false
death_detects_none script e death w stands =
    ap detects (stands.shows.is ∙ ap (λ l. l ++ stands.shows.below) stands.shows.shows.1)
    ∙ shown_detects_none death.release death.object death.phase stands.shows.shows.0 stands.shows.below (λ none. stands.shows.some (stands.shows.shows.1 ∙ none))

-- How far a death is from its end: each pass still to come counts more than all that can be left in one.
abbrev pub actions_left : Death → Store → ℕ
actions_left death store = (8 - pass_of death.phase) * 30000000 + number_left death.object death.phase death.release store

few_passes : (phase : Phase) → (pass_of phase ≤ 8) × (own_holds phase ≤ 2)
few_passes phase_of.Finalizer = (omega arith, omega arith)
few_passes _ = (omega arith, omega arith)

few_references : (first second : Option ℕ) → length (option_to_list first ++ option_to_list second) ≤ 2
few_references None None = omega arith
few_references None (Some b) = omega arith
few_references (Some a) None = omega arith
few_references (Some a) (Some b) = omega arith

few_released : (release : Option Release) → still_released release ≤ 2
few_released None = omega arith
few_released (Some release) = few_references release.first release.second

few_waiting : (store : Store) (o : ℕ) → length (waiting_for store o) ≤ length store.rows
few_waiting store o =
    let few : length (waiting_for store o) ≡ length (filter (waits_with o) store.rows) =
    length-reverse (map (λ (r : Row). r.weak) (filter (waits_with o) store.rows)) ∙ length-map (filter (waits_with o) store.rows) (λ (r : Row). r.weak) in
    omega (arith, few, length-filter (waits_with o) store.rows, count_by-le-length (waits_with o) store.rows)

pub act_falls : (death after : Death) (old new : Store) → IsSmall new → after.object ≡ death.object → DeathFalls death old after new → actions_left after new < actions_left death old
act_falls death after old new little same (inl later) =
    omega (arith, later, few_passes after.phase, few_released after.release, few_waiting new after.object, references-le new.rows after.object, little.rows, little.entries after.object)
act_falls death after old new little same (inr less) =
    let less_left = less.1 in
    let moved = ap (λ o. number_left o after.phase after.release new) same in
    omega (arith, less.0, less_left, moved)

-- A death has come this far, whatever the other activities.
abbrev pub CameTo : Script → Store → Death → Store → Death → Type 0
CameTo script store death now left = (e : State) (w : World) → StandsFor script (under (activity.Dying death) (over store e)) w
    → StaysKept script e.first_budget w → ComesTo script w (under (activity.Dying left) (over now e))

pub came_nowhere : (script : Script) (store : Store) (death : Death) → CameTo script store death store death
came_nowhere script store death e w stands kept = record { after = w; goes = stays script w; stands = stands }

module _ (script : Script) (store now : Store) (death left : Death) (came : CameTo script store death now left) where
  pub acting_now : IsActing script store death → IsActing script now left
  acting_now (e, w, few, stands, kept) = let come = came e w stands kept in (e, come.after, few, come.stands, stays_so script w come.after come.goes (IsKept script e.first_budget) kept)

  module _ (new : Store) (after : Death) (answer : DeathStep) (steps : DeathSteps script now (on_stack left now) new (on_stack after new) answer)
      (settled : IsSettled left → IsSettled after) (object : after.object ≡ left.object)
      (falls : answer ≡ answer_of.Continue → DeathFalls left now after new) (rows : AreRows now) where
    pub came_on : answer ≡ answer_of.Continue → IsGoing after → AreRows new → CameTo script store death new after
    came_on is going rows_after e w stands kept =
        let come = came e w stands kept in
        let sound = dying_sound script e.first_budget come.after (stays_so script w come.after come.goes (IsKept script e.first_budget) kept [] tt).lawful in
        let top = under (activity.Dying after) (over new e) in
        let on = death_continues script (over now e) top left after answer come.after come.stands sound steps settled (inl (going, refl)) refl is refl rows rows_after object falls in
        comes_then script w come.after come.goes top (record {
          after = on.after;
          goes = quietly script come.after on.after
              (death_detects_none script (over now e) left come.after come.stands) on.goes;
          stands = on.stands;
        })

    pub last_action : HasCause left new answer → (e : State) (w : World) → StandsFor script (under (activity.Dying death) (over store e)) w
        → StaysKept script e.first_budget w → LastAction script w e new after answer
    last_action cause e w stands kept = record { store = now; death = left; comes = came e w stands kept; steps = steps; settled = settled; object = object; falls = falls; cause = cause; rows = rows }

-- what an action requires
module _ (script : Script) (store : Store) (death : Death) (sound : IsSound store) where
  pub act_few : IsActing script store death → HasFewHolds store
  act_few (e, w, few, stands, kept) = few_holds script e.first_budget store w stands.represents (kept [] tt).lawful few (few_objects store sound.objects)

  pub act_held : IsActing script store death → HasHolds store (held_by death store)
  act_held (e, w, few, stands, kept) = death_held script (over store e) death w stands

  pub act_ready : IsActing script store death → IsReadyForDeath death store
  act_ready (e, w, few, stands, kept) = death_may_step script (over store e) death w e.first_budget stands (kept [] tt).lawful sound.rows sound.well

-- The last action was done, and the engine has the rest of the death on top.
module _ (script : Script) (w : World) (e new : State) (now : Store) (after : Death) (answer : DeathStep) (kept : StaysKept script e.first_budget w) (last : LastAction script w e now after answer)
    (store : new.store ≡ now) (put : StaysOn after e.activities new.activities) (budget : new.budget ≡ e.budget) where
  abbrev mid : World
  mid = last.comes.after

  sound_there : DyingIsSound mid
  sound_there = dying_sound script e.first_budget mid (stays_so script w mid last.comes.goes (IsKept script e.first_budget) kept [] tt).lawful

  steps_there : DeathSteps script last.store (on_stack last.death last.store) new.store (on_stack after new.store) answer
  steps_there = subst (λ st. DeathSteps script last.store (on_stack last.death last.store) st (on_stack after st) answer) (sym store) last.steps

  plain : detects mid.stack ≡ false
  plain = death_detects_none script (over last.store e) last.death mid last.comes.stands

  pub last_tells : (event : Event) → answer ≡ answer_of.Emit event → new.policy ≡ with_numbers (numbers_after event e.policy.numbers) e.policy → GoesTo script w (event ∷ []) new
  last_tells event is policy =
      goes_to_then script w mid last.comes.goes plain (event ∷ []) new
      (death_tells script (over last.store e) new last.death after answer mid last.comes.stands sound_there steps_there last.settled put budget event is policy)

  pub last_ends : answer ≡ answer_of.Gone → new.policy ≡ e.policy → on_stack after now ≡ [] → GoesTo script w [] new
  last_ends is policy none =
      goes_to_then script w mid last.comes.goes plain [] new
      (death_ends script (over last.store e) new last.death after answer mid last.comes.stands sound_there steps_there last.settled put budget is policy
      (subst (λ st. on_stack after st ≡ []) (sym store) none))

  pub last_hands : (o : ℕ) → answer ≡ answer_of.Died o → new.policy ≡ e.policy → GivesDeath script w o new
  last_hands o is policy =
      gives_death_then script w mid last.comes.goes plain o new
      (death_hands script (over last.store e) new last.death after answer mid last.comes.stands sound_there steps_there last.settled put budget o is policy
      (another_dies last.death now answer o last.cause is))

  pub last_calls : (spec : FrameSpec) (final : State) (turned_to : Turned) → answer ≡ answer_of.Frame spec → new.policy ≡ e.policy
      → ((u : World) → StandsFor script new u → Makes script (start_frame script spec u) final turned_to) → Turns script w final turned_to
  last_calls spec final turned_to is policy starts =
      plain_turns_then script w mid last.comes.goes plain final turned_to
      (death_calls script (over last.store e) new last.death after answer mid last.comes.stands sound_there steps_there last.settled put budget spec final turned_to is policy starts)

-- a death does not call functions as a command does
pub calls_none : (phase : Phase) (sort : FrameSort) → CallsAt phase sort → sort ≢ sort_of.Call
calls_none phase_of.Finalizer sort calls is = let clash : sort_of.Del ≡ sort_of.Call = sym calls ∙ is in cc
calls_none phase_of.Calling sort calls is = let clash : sort_of.Callback ≡ sort_of.Call = sym calls ∙ is in cc
calls_none phase_of.LegacyFinalizer sort calls is = let clash : sort_of.Legacy ≡ sort_of.Call = sym calls ∙ is in cc
calls_none _ sort calls is = absurd calls
