-- A step of a collection that gives nothing up is a turn of its phase.
use Rattle.std.proofs.Common.{◌≡◌, refl, sym, subst, ◌+◌, ◌≤◌, Option, Some, None, ℕ, arith}
use Rattle.cg_script.specs.declared.Script.{Script}
use Rattle.cg_graph.specs.Store.{Store}
use Rattle.cg_graph.proofs.Objects.{occurrences-append}
use Rattle.cg_policy.specs.Policy.{Policy}
use Rattle.cg_death.specs.declared.release.Release.{Release}
use Rattle.cg_death.specs.Activities.{HasHolds}
use Rattle.cg_collect.specs.declared.answer.CollectStep.{CollectStep}
use Rattle.cg_collect.specs.declared.answer.CollectStep.TheVariants as answer_of
use Rattle.cg_collect.specs.declared.collection.Collection.{Collection}
use Rattle.cg_collect.specs.declared.phase.Phase.{Phase}
use Rattle.cg_collect.specs.declared.phase.Phase.TheVariants as phase_of
use Rattle.cg_collect.specs.declared.phase.Turn.{Turn}
use Rattle.cg_collect.specs.Ready.{IsReadyForCollectionAt, HasFewCollected, RunsFrame, MayRun, IsBegun, GivesUpIn}
use Rattle.cg_collect.specs.Answers.{CollectSteps}
use Rattle.cg_collect.specs.Turns.{pass_of, passes_on, collection_at, collection_after, StaysReady, HandsOutIn, TakesTurn}
use Rattle.cg_collect.specs.Looks.{looks_left, most_looks}
use Rattle.cg_collect.specs.Stages.{detection_at, stage_at, MeetsStage}
use Rattle.cg_collect.specs.Collections.{IsReadyForCollection, KeepsReady, CollectFalls, CollectionEndsWith, DiesUnheld, facts_of, given_up_by, own_holds_at, held_by}
use Rattle.cg_collect.proofs.Stages.{TakesStep, also-steps, leaves_stage}
use Rattle.cg_collect.proofs.GivingUp.{in_each}

-- what a collection holds: what it is giving up, and what its phase holds
pub given_up_held : (c : Collection) (store : Store) → HasHolds store (held_by c) → HasHolds store (given_up_by c.release)
given_up_held c store held s = let all = held s in omega (arith, all, occurrences-append s (given_up_by c.release) (own_holds_at c.phase))

phase_held : (c : Collection) (store : Store) → HasHolds store (held_by c) → HasHolds store (own_holds_at c.phase)
phase_held c store held s = let all = held s in omega (arith, all, occurrences-append s (given_up_by c.release) (own_holds_at c.phase))

-- the phases that a frame runs in
runs_in : (p : Phase) (release : Option Release) → RunsFrame p release → MayRun p
runs_in (phase_of.AfterCallback weak) release runs = tt
runs_in (phase_of.AfterFinalizing o) release runs = tt
runs_in p release runs = absurd runs

-- a step that gives something up leaves no looks
pub none_left : (p now : Phase) (release : Release) (store : Store) → GivesUpIn p (Some release) → looks_left p now store ≡ 0
none_left p now release store = in_each (λ q. looks_left q now store ≡ 0) (λ weak. refl) refl (λ o. refl) (λ o. refl) p

-- only the start comes before all passes, and it goes on
begun_onward : (old next : Phase) → pass_of old + passes_on old ≤ pass_of next → IsBegun next
begun_onward phase_of.Start phase_of.Start onward = absurd (omega (arith, onward))
begun_onward old phase_of.Start onward = absurd (omega (arith, onward))
begun_onward old next onward = tt

-- A turn of its phase, if nothing is given up.
module _ (script : Script) (old : Collection) (store : Store) (policy : Policy) (now : Store) (policy_now : Policy) (turn : Turn) (none : old.release ≡ None)
    (ready : IsReadyForCollection script old store)
    (detected : old.detected ≡ detection_at old.phase) (takes : TakesTurn script (facts_of old) old.phase store policy now policy_now turn) (apart : old.phase
    ≡ phase_of.Start → detection_at turn.phase ≡ None) where
  abbrev after : Collection
  after = record old { collected = old.collected + turn.collected; phase = turn.phase; release = turn.release }

  few : HasFewCollected (old.collected + turn.collected) turn.phase now
  few = takes.few old.collected ready.collected

  next : IsReadyForCollectionAt now old.generation turn.phase → IsReadyForCollection script after now
  next r = record { generation = ready.generation; phase = r; walk = takes.walk; collected = few; gives_up = takes.gives_up }

  still_ready : (answer : CollectStep) → StaysReady now old.generation turn.phase answer → HandsOutIn (facts_of old) old.phase answer turn.phase turn.release → KeepsReady script after now answer
  still_ready answer_of.Continue r out = next r
  still_ready (answer_of.Emit event) r out = next r
  still_ready (answer_of.Frame spec) r out = (record { runs = runs_in turn.phase turn.release out.0; generation = ready.generation; collected = few; gives_up = takes.gives_up; spares = out.1 }, out.0)
  still_ready (answer_of.Died o) r out = absurd out
  still_ready (answer_of.Finished collected set_aside) r out =
      let numbers = subst (λ (p : Phase). HasFewCollected old.collected p store) out.0 ready.collected in
      (ready.generation, omega (arith, numbers.0, numbers.1, out.2))

  none_dies : (answer : CollectStep) → HandsOutIn (facts_of old) old.phase answer turn.phase turn.release → DiesUnheld answer now
  none_dies (answer_of.Died o) out = absurd out
  none_dies answer out = tt

  ends_with : (answer : CollectStep) → HandsOutIn (facts_of old) old.phase answer turn.phase turn.release → CollectionEndsWith old answer
  ends_with (answer_of.Died o) out = absurd out
  ends_with (answer_of.Finished collected set_aside) out = (out.0, out.2)
  ends_with answer out = tt

  turn-step : TakesStep script old store policy after now policy_now turn.answer
  turn-step = record {
    steps = subst (λ r. CollectSteps script (record old { release = r }) store policy after now policy_now turn.answer) (sym none)
        (also-steps old.detected old.detected script (collection_at (facts_of old) old.phase None) store policy (collection_after (facts_of old) turn) now policy_now turn.answer takes.steps);
    ready = still_ready turn.answer takes.ready takes.hands_out;
    falls = λ went. subst (λ r. CollectFalls (record old { release = r }) store after now) (sym none) (takes.falls went);
    died = none_dies turn.answer takes.hands_out;
    ends = ends_with turn.answer takes.hands_out;
    generation = refl;
    begun = begun_onward old.phase turn.phase takes.onward.0;
    onward = takes.onward.0;
    detected = detected;
    stage = leaves_stage old.phase turn.phase old.detected detected (begun_onward old.phase turn.phase takes.onward.0) apart takes.onward.0;
    meets = subst (λ d. MeetsStage old.phase (stage_at turn.phase d) turn.phase) (sym detected) takes.onward.1;
    keeps = takes.keeps;
  }

-- Nothing was given up, and nothing changed.
module _ (old mid : Collection) (store between : Store) (same : (mid ≡ old) × (between ≡ store) × (old.release ≡ None)) where
  -- a fact on collection and heap stays one
  stays : (P : Collection → Store → Type 0) → P old store → P mid between
  stays P p = subst (λ (c : Collection). P c between) (sym same.0) (subst (P old) (sym same.1) p)

  pub ready_on : (script : Script) → IsReadyForCollection script old store → IsReadyForCollection script mid between
  ready_on script ready = stays (IsReadyForCollection script) ready

  pub held_on : HasHolds store (held_by old) → HasHolds between (own_holds_at mid.phase)
  held_on held = stays (λ c st. HasHolds st (own_holds_at c.phase)) (phase_held old store held)

  pub looks_on : (looked before : ℕ) (phase_now : Phase) (now : Store) → looked + looks_left mid.phase phase_now now ≤ before + most_looks mid.generation mid.phase between
      → looked + looks_left old.phase phase_now now ≤ before + most_looks old.generation old.phase store
  looks_on looked before phase_now now =
      stays (λ c st. looked + looks_left c.phase phase_now now ≤ before + most_looks c.generation c.phase st → looked + looks_left old.phase phase_now now ≤
      before + most_looks old.generation old.phase store) (λ few. few)

  -- the collection after the turn
  pub turned : (script : Script) (policy : Policy) (now : Store) (policy_now : Policy) (turn : Turn) → IsReadyForCollection script old store → old.detected ≡ detection_at old.phase
      → TakesTurn script (facts_of mid) mid.phase between policy now policy_now turn → (mid.phase ≡ phase_of.Start → detection_at turn.phase ≡ None)
      → TakesStep script old store policy (record mid { collected = mid.collected + turn.collected; phase = turn.phase; release = turn.release }) now policy_now turn.answer
  turned script policy now policy_now turn ready detected =
      stays
      (λ c st. TakesTurn script (facts_of c) c.phase st policy now policy_now turn → (c.phase ≡ phase_of.Start → detection_at turn.phase ≡ None)
      → TakesStep script old store policy (record c { collected = c.collected + turn.collected; phase = turn.phase; release = turn.release }) now policy_now turn.answer)
      (turn-step script old store policy now policy_now turn same.2 ready detected)
