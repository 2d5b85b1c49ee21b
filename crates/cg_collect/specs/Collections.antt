-- A collection as its callers see it. (Ours.)
use Rattle.std.specs.Prelude.{◌≡◌, ℕ, ◌+◌, ◌≤◌, List, [], ◌∷◌, ◌++◌, Option, Some, None, IsSome, drop}
use Rattle.cg_graph.specs.Store.{Store}
use Rattle.cg_script.specs.declared.Script.{Script}
use Rattle.cg_machine.specs.Program.{profile_of}
use Rattle.cg_death.specs.declared.release.Release.{Release}
use Rattle.cg_death.specs.Activities.{references_left, IsUnheld}
use Rattle.cg_death.specs.Answers.{ReleaseSteps, once_released, release_answer}
use Rattle.cg_death.specs.declared.answer.DeathStep.{DeathStep}
use Rattle.cg_death.specs.declared.answer.DeathStep.TheVariants as death_answer
use Rattle.cg_collect.specs.declared.phase.Phase.{Phase}
use Rattle.cg_collect.specs.declared.phase.Phase.TheVariants as phase_of
use Rattle.cg_collect.specs.declared.answer.CollectStep.TheVariants as answer_of
use Rattle.cg_collect.specs.declared.answer.CollectStep.{CollectStep}
use Rattle.cg_collect.specs.declared.collection.Collection.{Collection}
use Rattle.cg_collect.specs.declared.collection.Facts.{Facts}
use Rattle.cg_collect.specs.Ready.{IsReadyForCollectionAt, HasItsWalk, SparesGarbageList, HasFewCollected, GivesUpIn, RunsFrame, MayRun}
use Rattle.cg_machine.specs.declared.event.Event.TheVariants.{GcStop}
use Rattle.cg_collect.specs.declared.phase.Turn.{Turn}
use Rattle.cg_collect.specs.Turns.{ComesNearer}

-- what the phases know of it
abbrev pub facts_of : Collection → Facts
facts_of c = record { generation = c.generation; flags = c.flags; collected = c.collected }

-- the references that it is giving up
abbrev pub given_up_by : Option Release → List ℕ
given_up_by None = []
given_up_by (Some release) = references_left release

-- what its phase holds, not counting the waiting weak references
abbrev pub own_holds_at : Phase → List ℕ
own_holds_at (phase_of.AfterCallback weak) = weak ∷ []
own_holds_at (phase_of.AfterFinalizing o) = o ∷ []
own_holds_at (phase_of.Turn o) = o ∷ []
own_holds_at phase = []

-- what a collection holds
abbrev pub held_by : Collection → List ℕ
held_by c = given_up_by c.release ++ own_holds_at c.phase

-- What a step requires of the heap; commands, frames and deaths may have changed it since the step before.
pub record IsReadyForCollection (script : Script) (c : Collection) (store : Store) : Type 0 where
  pub generation : c.generation ≤ 2
  pub phase : IsReadyForCollectionAt store c.generation c.phase
  pub walk : HasItsWalk (profile_of script.items) store c.phase
  pub collected : HasFewCollected c.collected c.phase store
  pub gives_up : GivesUpIn c.phase c.release

-- What lasts while an answered frame or death runs. All but `collected` depends on the collection alone; `collected` depends on
-- how many wait, which the machine's phase says.
pub record HandsOut (c : Collection) (store : Store) : Type 0 where
  pub runs : MayRun c.phase
  pub generation : c.generation ≤ 2
  pub collected : HasFewCollected c.collected c.phase store
  pub gives_up : GivesUpIn c.phase c.release
  pub spares : SparesGarbageList c.phase

-- After an answer without a frame or a death, the heap is ready for the next step. After one, it is as its phase requires
-- (`IsReadyForCollectionAt`), which the caller must show. A finished collection found few.
abbrev pub KeepsReady : Script → Collection → Store → CollectStep → Type 0
KeepsReady script c store answer_of.Continue = IsReadyForCollection script c store
KeepsReady script c store (answer_of.Emit event) = IsReadyForCollection script c store
KeepsReady script c store (answer_of.Frame spec) = HandsOut c store × RunsFrame c.phase c.release
KeepsReady script c store (answer_of.Died o) = HandsOut c store × IsSome c.release
KeepsReady script c store (answer_of.Finished collected set_aside) = (c.generation ≤ 2) × (collected + set_aside ≤ 3000003)

-- The object whose death is to begin lives and is unheld.
abbrev pub DiesUnheld : CollectStep → Store → Type 0
DiesUnheld (answer_of.Died o) store = IsUnheld store o
DiesUnheld answer store = Unit {0}

-- the last turn but one: the line of the stop has the generation and the numbers of collected and uncollectable
-- objects
abbrev pub stop_turn : Facts → ℕ → Turn
stop_turn facts set_aside = record { phase = phase_of.Over set_aside; release = None; collected = 0; answer = answer_of.Emit (GcStop facts.generation facts.collected set_aside) }

-- A collection that stops prints both numbers, and keeps them.
pub record StopsWith (old new : Collection) (answer : CollectStep) (set_aside : ℕ) : Type 0 where
  pub told : answer ≡ answer_of.Emit (GcStop old.generation old.collected set_aside)
  pub over : new.phase ≡ phase_of.Over set_aside
  pub collected : new.collected ≡ old.collected

-- It ended with the two numbers that it kept.
abbrev pub CollectionEndsWith : Collection → CollectStep → Type 0
CollectionEndsWith old (answer_of.Finished collected set_aside) = (old.phase ≡ phase_of.Over set_aside) × (old.collected ≡ collected)
CollectionEndsWith old answer = Unit {0}

-- A step that goes on without an answer reaches a later pass, or leaves less in the same pass.
abbrev pub CollectFalls : Collection → Store → Collection → Store → Type 0
CollectFalls old store new now = ComesNearer store old.phase old.release now new.phase new.release

-- the collection after a step that gives up the next reference, by the answer of the release
abbrev pub once_given_up : Collection → Release → DeathStep → Collection
once_given_up c release death_answer.Gone = record c { release = None }
once_given_up c release answer = record c { release = Some release }

-- and what it answers
abbrev pub give_up_answer : DeathStep → CollectStep
give_up_answer (death_answer.Died o) = answer_of.Died o
give_up_answer answer = answer_of.Continue

-- It gives up the next reference.
pub record GivesUpNext (old : Collection) (store : Store) (new : Collection) (now : Store) (answer : CollectStep) : Type 0 where
  pub before : Release
  pub had : old.release ≡ Some before
  pub after : Release
  pub rest : references_left after ≡ drop 1 (references_left before)
  pub heap : now ≡ once_released (references_left before) store
  pub collection : new ≡ once_given_up old after (release_answer (references_left before) now)
  pub told : answer ≡ give_up_answer (release_answer (references_left before) now)
  pub unheld : DiesUnheld answer now
  pub steps : ReleaseSteps store (references_left before) now (references_left after) (release_answer (references_left before) now)
