-- How a turn is put together of what its phase does: it goes on, tells a line, runs a frame, gives something up, or ends.
use Rattle.std.proofs.Common.{◌≡◌, refl, sym, ◌∙◌, ap, subst, ℕ, Option, Some, None, add-zero, arith}
use Rattle.cg_script.specs.declared.Script.{Script}
use Rattle.cg_machine.specs.declared.event.Event.{Event}
use Rattle.cg_machine.specs.declared.event.FrameSpec.{FrameSpec}
use Rattle.cg_machine.specs.Program.{profile_of}
use Rattle.cg_graph.specs.Store.{Store}
use Rattle.cg_policy.specs.Policy.{Policy}
use Rattle.cg_death.specs.declared.release.Release.{Release}
use Rattle.cg_collect.specs.declared.answer.CollectStep.{CollectStep}
use Rattle.cg_collect.specs.declared.answer.CollectStep.TheVariants as answer_of
use Rattle.cg_collect.specs.declared.collection.Facts.{Facts}
use Rattle.cg_collect.specs.declared.phase.Phase.{Phase}
use Rattle.cg_collect.specs.declared.phase.Phase.TheVariants as phase_of
use Rattle.cg_collect.specs.declared.phase.Turn.{Turn}
use Rattle.cg_collect.specs.Ready.{IsReadyForCollectionAt, HasItsWalk, HasFewCollected, MayGiveUp, GivesUpIn, RunsFrame, SparesGarbageList}
use Rattle.cg_collect.specs.Answers.{CollectSteps}
use Rattle.cg_collect.specs.Turns.{collection_at, Advances, StaysReady, ComesNearer, HandsOutIn, KeepsObjects, TakesTurn}
use Rattle.cg_collect.proofs.NothingIsMade.{keeps_all}
use Rattle.cg_collect.proofs.Worlds.{turn_steps}

-- a turn at a phase equal to this one, or that leaves this heap or this policy
module _ {script : Script} {facts : Facts} {phase : Phase} {old : Store} {was : Policy} {new : Store} {now : Policy} {turn : Turn} where
  pub at_phase : {p : Phase} → phase ≡ p → TakesTurn script facts p old was new now turn → TakesTurn script facts phase old was new now turn
  at_phase is takes = subst (λ (p : Phase). TakesTurn script facts p old was new now turn) (sym is) takes

  pub in_heap : {left : Store} → new ≡ left → TakesTurn script facts phase old was left now turn → TakesTurn script facts phase old was new now turn
  in_heap is takes = subst (λ (st : Store). TakesTurn script facts phase old was st now turn) (sym is) takes

  pub in_policy : {left : Policy} → now ≡ left → TakesTurn script facts phase old was new left turn → TakesTurn script facts phase old was new now turn
  in_policy is takes = subst (λ (p : Policy). TakesTurn script facts phase old was new p turn) (sym is) takes

-- what a phase requires, at an equal phase
pub ready_at : (store : Store) (g : ℕ) {phase p : Phase} → phase ≡ p → IsReadyForCollectionAt store g phase → IsReadyForCollectionAt store g p
ready_at store g is ready = subst (IsReadyForCollectionAt store g) is ready

-- a turn that leads to an equal phase
pub leads_to : {turn : Turn} {told next : Phase} {release : Option Release} {answer : CollectStep} → turn ≡ record { phase = told; release = release; collected = 0; answer = answer } → told ≡ next
    → turn ≡ record { phase = next; release = release; collected = 0; answer = answer }
leads_to {release = release} {answer = answer} is same = is ∙ ap (λ (p : Phase). record { phase = p; release = release; collected = 0; answer = answer }) same

module _ {script : Script} {facts : Facts} {phase : Phase} {old : Store} {was : Policy} {new : Store} {now : Policy} {turn : Turn} {next : Phase} where
  -- a turn that counts nothing
  taken : (release : Option Release) (answer : CollectStep) → turn ≡ record { phase = next; release = release; collected = 0; answer = answer }
      → CollectSteps script (collection_at facts phase None) old was (collection_at facts next release) new now answer → StaysReady new facts.generation next
      answer → HasItsWalk (profile_of script.items) new next
      → (answer ≡ answer_of.Continue → ComesNearer old phase None new next release) → GivesUpIn next release → HandsOutIn facts phase answer next release
      → ((n : ℕ) → HasFewCollected n phase old → HasFewCollected n next new) → Advances phase next → KeepsObjects old new
      → TakesTurn script facts phase old was new now turn
  taken release answer is steps ready walk nearer gives_up hands_out few onward keeps =
      subst (λ (t : Turn). TakesTurn script facts phase old was new now t) (sym is) (record {
        steps = turn_steps script facts phase old was new now (record { phase = next; release = release; collected = 0; answer = answer }) next release answer refl steps;
        ready = ready;
        walk = walk;
        few = λ n h. subst (λ k. HasFewCollected k next new) (sym (add-zero n)) (few n h);
        gives_up = gives_up;
        hands_out = hands_out;
        onward = onward;
        falls = nearer;
        keeps = keeps;
      })

  pub goes_on : turn ≡ record { phase = next; release = None; collected = 0; answer = answer_of.Continue }
      → CollectSteps script (collection_at facts phase None) old was (collection_at facts next None) new now answer_of.Continue
      → StaysReady new facts.generation next answer_of.Continue → HasItsWalk (profile_of script.items) new next
      → ComesNearer old phase None new next None → ((n : ℕ) → HasFewCollected n phase old → HasFewCollected n next new) → Advances phase next → KeepsObjects old new
      → TakesTurn script facts phase old was new now turn
  goes_on is steps ready walk nearer few onward keeps = taken None answer_of.Continue is steps ready walk (λ went. nearer) tt tt few onward keeps

  pub tells : {event : Event} → turn ≡ record { phase = next; release = None; collected = 0; answer = answer_of.Emit event }
      → CollectSteps script (collection_at facts phase None) old was (collection_at facts next None) new now (answer_of.Emit event)
      → StaysReady new facts.generation next (answer_of.Emit event) → HasItsWalk (profile_of script.items) new next
      → ((n : ℕ) → HasFewCollected n phase old → HasFewCollected n next new) → Advances phase next → KeepsObjects old new
      → TakesTurn script facts phase old was new now turn
  tells {event = event} is steps ready walk few onward keeps = taken None (answer_of.Emit event) is steps ready walk (λ went. absurd (cc)) tt tt few onward keeps

  pub runs : {frame : FrameSpec} → turn ≡ record { phase = next; release = None; collected = 0; answer = answer_of.Frame frame }
      → CollectSteps script (collection_at facts phase None) old was (collection_at facts next None) new now (answer_of.Frame frame) → HasItsWalk (profile_of script.items) new next
      → RunsFrame next None → SparesGarbageList next → ((n : ℕ) → HasFewCollected n phase old → HasFewCollected n next new) → Advances phase next → KeepsObjects old new
      → TakesTurn script facts phase old was new now turn
  runs {frame = frame} is steps walk in_frame spares few onward keeps = taken None (answer_of.Frame frame) is steps tt walk (λ went. absurd (cc)) tt (in_frame, spares) few onward keeps

  pub gives_up : {release : Release} → turn ≡ record { phase = next; release = Some release; collected = 0; answer = answer_of.Continue }
      → CollectSteps script (collection_at facts phase None) old was (collection_at facts next (Some release)) new now answer_of.Continue
      → StaysReady new facts.generation next answer_of.Continue → HasItsWalk (profile_of script.items) new next
      → ComesNearer old phase None new next (Some release) → MayGiveUp next → ((n : ℕ) → HasFewCollected n phase old → HasFewCollected n next new) → Advances phase next → KeepsObjects old new
      → TakesTurn script facts phase old was new now turn
  gives_up {release = release} is steps ready walk nearer may few onward keeps = taken (Some release) answer_of.Continue is steps ready walk (λ went. nearer) may tt few onward keeps

-- a finished collection says so
pub ends : {script : Script} {facts : Facts} {store : Store} {policy : Policy} {number : ℕ} {turn : Turn} → turn ≡ record {
  phase = phase_of.Over number;
  release = None;
  collected = 0;
  answer = answer_of.Finished facts.collected number;
}
    → TakesTurn script facts (phase_of.Over number) store policy store policy turn
ends {facts = facts} {store = store} {number = number} is =
    taken None (answer_of.Finished facts.collected number) is
    (λ asked w below s. record { represents = s.shows.represents; numbers = s.shows.numbers; idle = s.shows.running; stack = s.shows.top; lines = refl })
    tt tt (λ went. absurd (cc)) tt (refl, refl, refl) (λ n few. few) (omega arith, refl) (keeps_all store)
