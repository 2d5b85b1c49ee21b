-- The turns of the phases, and the measure of a collection. (Ours.)
use Rattle.std.specs.Prelude.{◌≡◌, ℕ, ◌+◌, ◌*◌, ◌<◌, ◌≤◌, ◌⊎◌, List, [], length, Option, Some, None, sum_by}
use Rattle.cg_value.specs.declared.Place.TheVariants.{Cand, Pend}
use Rattle.cg_script.specs.declared.Script.{Script}
use Rattle.cg_machine.specs.Program.{profile_of}
use Rattle.cg_graph.specs.Places.{without_serial}
use Rattle.cg_graph.specs.Store.{Store, list_at, entries_of, place_of}
use Rattle.cg_policy.specs.Policy.{Policy}
use Rattle.cg_death.specs.declared.release.Release.{Release}
use Rattle.cg_death.specs.Activities.{references_left}
use Rattle.cg_death.specs.Answers.{MakesNone}
use Rattle.cg_death.specs.Steady.{KeepsNames}
use Rattle.cg_collect.specs.declared.answer.CollectStep.{CollectStep}
use Rattle.cg_collect.specs.declared.answer.CollectStep.TheVariants as answer_of
use Rattle.cg_collect.specs.declared.phase.Phase.{Phase}
use Rattle.cg_collect.specs.declared.phase.Phase.TheVariants as phase_of
use Rattle.cg_collect.specs.declared.phase.Turn.{Turn}
use Rattle.cg_collect.specs.declared.collection.Facts.{Facts}
use Rattle.cg_collect.specs.declared.collection.Collection.{Collection}
use Rattle.cg_collect.specs.Phases.{from_on}
use Rattle.cg_collect.specs.Ready.{IsReadyForCollectionAt, HasItsWalk, SparesGarbageList, to_look_at, HasFewCollected, GivesUpIn, RunsFrame}
use Rattle.cg_collect.specs.Answers.{CollectSteps}
use Rattle.cg_collect.specs.Stages.{detection_at, stage_at, MeetsStage}

-- a collection with these facts, at a phase, that gives this up first; no answer depends on whether its last step made a
-- pass
abbrev pub collection_at : Facts → Phase → Option Release → Collection
collection_at facts phase release = record { generation = facts.generation; flags = facts.flags; collected = facts.collected; phase = phase; release = release; detected = None }

-- the collection after a turn
abbrev pub collection_after : Facts → Turn → Collection
collection_after facts turn = record { generation = facts.generation; flags = facts.flags; collected = facts.collected + turn.collected; phase = turn.phase; release = turn.release; detected = None }

-- a turn of a phase is steps of the machine, in every world that heap and policy represent
abbrev pub TurnSteps : Script → Facts → Phase → Store → Policy → Store → Policy → Turn → Type 0
TurnSteps script facts phase store policy store_now policy_now turn =
    CollectSteps script (collection_at facts phase None) store policy (collection_after facts turn) store_now policy_now turn.answer

-- After an answer without a frame or a death, the heap is ready for the next step.
abbrev pub StaysReady : Store → ℕ → Phase → CollectStep → Type 0
StaysReady store generation phase answer_of.Continue = IsReadyForCollectionAt store generation phase
StaysReady store generation phase (answer_of.Emit event) = IsReadyForCollectionAt store generation phase
StaysReady store generation phase answer = Unit {0}

-- the passes of a collection, in order
abbrev pub pass_of : Phase → ℕ
pass_of phase_of.Start = 0
pass_of (phase_of.Sizes zero one two frozen) = 1
pass_of (phase_of.Telling next) = 2
pass_of (phase_of.WeakClearing member weak) = 3
pass_of phase_of.WeakCalling = 4
pass_of (phase_of.AfterCallback weak) = 4
pass_of (phase_of.AfterRelease weak) = 4
pass_of phase_of.Finalizing = 5
pass_of (phase_of.AfterFinalizing o) = 5
pass_of phase_of.Split = 6
pass_of (phase_of.Living next) = 7
pass_of (phase_of.Detaching next) = 8
pass_of (phase_of.Unlinking member weak) = 9
pass_of phase_of.Turns = 10
pass_of (phase_of.Turn o) = 10
pass_of (phase_of.AfterTurn o) = 10
pass_of phase_of.Ending = 11
pass_of (phase_of.Uncollectable first next number) = 12
pass_of (phase_of.Saved next number) = 13
pass_of (phase_of.Stopping number) = 14
pass_of (phase_of.Over number) = 15

-- the least number of passes by which the next step is later; a reachability pass takes one step
abbrev pub passes_on : Phase → ℕ
passes_on phase_of.Start = 1
passes_on phase_of.Split = 1
passes_on phase = 0

-- No earlier pass follows, and the turn meets the first of the remaining stages or none.
abbrev pub Advances : Phase → Phase → Type 0
Advances phase next = (pass_of phase + passes_on phase ≤ pass_of next) × MeetsStage phase (stage_at next (detection_at phase)) next

-- what a release still has to do
abbrev pub still_released : Option Release → ℕ
still_released None = 0
still_released (Some release) = length (references_left release) + 1

-- what an object still has to do in its turn: be taken, and lose each of its entries
abbrev pub to_clear : Store → ℕ → ℕ
to_clear store o = 16 + 4 * length (entries_of store o)

-- what the members of the final set still have to do
abbrev pub still_cleared : Store → ℕ
still_cleared store = sum_by (to_clear store) (list_at store Cand)

-- the same for all but one, which has its turn and may be elsewhere
abbrev pub others_cleared : Store → ℕ → ℕ
others_cleared store o = sum_by (to_clear store) (without_serial o (list_at store Cand))

-- the list that contains the next of a walk
abbrev pub list_around : Store → Option ℕ → List ℕ
list_around store None = []
list_around store (Some o) = list_at store (place_of store o)

-- what is left of a walk over weak references to candidates, or to their referents
abbrev pub left_to_walk : Option ℕ → Option ℕ → Store → ℕ
left_to_walk member weak store = length (from_on member (list_at store Cand)) * (length store.rows + 1) + length (to_look_at store weak)

-- What is left in a pass, not counting what is being given up.
abbrev pub left_in_pass : Phase → Store → ℕ
left_in_pass (phase_of.WeakClearing member weak) store = left_to_walk member weak store
left_in_pass phase_of.WeakCalling store = 8 * length (list_at store Pend)
left_in_pass (phase_of.AfterCallback weak) store = 8 * length (list_at store Pend) + 6
left_in_pass (phase_of.AfterRelease weak) store = 8 * length (list_at store Pend) + 1
left_in_pass phase_of.Finalizing store = 8 * length (list_at store Cand)
left_in_pass (phase_of.AfterFinalizing o) store = 8 * length (list_at store Cand) + 6
left_in_pass (phase_of.Detaching next) store = length (from_on next (list_at store Cand))
left_in_pass (phase_of.Unlinking member weak) store = left_to_walk member weak store
left_in_pass phase_of.Turns store = still_cleared store + 9
left_in_pass (phase_of.Turn o) store = others_cleared store o + to_clear store o + 8
left_in_pass (phase_of.AfterTurn o) store = others_cleared store o + 10
left_in_pass (phase_of.Saved next number) store = length (from_on next (list_around store next))
left_in_pass phase store = 0

-- A later pass is reached, or less is left in the same one.
abbrev pub ComesNearer : Store → Phase → Option Release → Store → Phase → Option Release → Type 0
ComesNearer old phase release new phase_now release_now =
    (pass_of phase < pass_of phase_now)
    ⊎ ((pass_of phase ≡ pass_of phase_now) × (left_in_pass phase_now new + still_released release_now < left_in_pass phase old + still_released release))

-- the same for a turn of a phase that goes on without a line
abbrev pub TurnFalls : Store → Phase → Store → Turn → Type 0
TurnFalls old phase new turn = turn.answer ≡ answer_of.Continue → ComesNearer old phase None new turn.phase turn.release

-- A frame is answered only in a phase for it, and a death in none: those come from what is given up. A collection ends in
-- `Over` and stays there, with both numbers.
abbrev pub HandsOutIn : Facts → Phase → CollectStep → Phase → Option Release → Type 0
HandsOutIn facts phase (answer_of.Frame spec) next release = RunsFrame next release × SparesGarbageList next
HandsOutIn facts phase (answer_of.Died o) next release = ⊥
HandsOutIn facts phase (answer_of.Finished collected set_aside) next release = (phase ≡ phase_of.Over set_aside) × (next ≡ phase_of.Over set_aside) × (facts.collected ≡ collected)
HandsOutIn facts phase answer next release = Unit {0}

-- No object is made, no name changes, and no serial is given.
pub record KeepsObjects (old new : Store) : Type 0 where
  pub objects : MakesNone old new
  pub names : KeepsNames old new

-- A collection takes a turn: what its phase does to heap and policy, and what it leaves and answers.
pub record TakesTurn (script : Script) (facts : Facts) (phase : Phase) (old : Store) (was : Policy) (new : Store) (now : Policy) (turn : Turn) : Type 0 where
  -- the machine does the same in every world that heap and policy represented
  pub steps : TurnSteps script facts phase old was new now turn
  -- what the next step requires: the number of collected objects stays small, and things are given up only in a phase for it
  pub ready : StaysReady new facts.generation turn.phase turn.answer
  pub walk : HasItsWalk (profile_of script.items) new turn.phase
  pub few : (n : ℕ) → HasFewCollected n phase old → HasFewCollected (n + turn.collected) turn.phase new
  pub gives_up : GivesUpIn turn.phase turn.release
  -- frames and deaths
  pub hands_out : HandsOutIn facts phase turn.answer turn.phase turn.release
  -- no earlier pass follows, no stage is skipped, and the end comes nearer
  pub onward : Advances phase turn.phase
  pub falls : TurnFalls old phase new turn
  pub keeps : KeepsObjects old new
