-- What a command may answer, in every world that the heap and the policy represent. (Ours.)
use Rattle.cg_value.specs.declared.Entry.{Entry}
use Rattle.std.specs.Prelude.{◌≡◌, ℕ, ◌≤◌, ◌⊎◌, Bool, true, List, [], Option, None, option_to_list, Result, Ok, Err}
use Rattle.cg_graph.specs.Store.{Store}
use Rattle.cg_graph.specs.Value.{entry_references}
use Rattle.cg_machine.specs.declared.event.Event.{Event}
use Rattle.cg_machine.specs.World.{World, Releasing, push}
use Rattle.cg_machine.specs.Effects.{Effect, Changes, Calls as CallsEffect, Collects as CollectsEffect, Quits as QuitsEffect, Explains as ExplainsEffect}
use Rattle.cg_represents.specs.Represents.{Represents}
use Rattle.cg_policy.specs.Policy.{Policy}
use Rattle.cg_policy.specs.Laws.{policy_of}
use Rattle.cg_commands.specs.declared.done.Done.{Done}
use Rattle.cg_commands.specs.declared.done.Done.TheVariants.{Changed, Calls, Collects, Quits, Tells}
use Rattle.cg_commands.specs.declared.done.Refusal.{Refusal}
use Rattle.cg_commands.specs.declared.done.Refusal.TheVariants.{OutOfMemory}
use Rattle.cg_commands.specs.declared.locals.Locals.{Locals}
use Rattle.cg_commands.specs.Refusals.{number_of}
use Rattle.cg_commands.specs.Stands.{HeapAndLocalsStandFor}
use Rattle.cg_commands.specs.Reasons.{Explained}

-- The effect is a change that may allocate.
pub record ChangesByMemory (effect : Result Effect ℕ) : Type 0 where
  pub lines : List Event
  pub given_up : List ℕ
  pub after : World
  pub is : effect ≡ Ok (Changes true lines given_up after)

-- No refusal applies, and the effect may allocate: a change, or the search for why an object is alive.
abbrev pub WantsMemory : Result Effect ℕ → Type 0
WantsMemory effect = ChangesByMemory effect ⊎ ((object : ℕ) × (effect ≡ Ok (ExplainsEffect object)))

-- The refusal is the machine's. Out of memory only if the effect may allocate.
abbrev pub Refuses : Refusal → Result Effect ℕ → Type 0
Refuses OutOfMemory effect = WantsMemory effect
Refuses refusal effect = effect ≡ Err (number_of refusal)

-- The effect is a change with these lines in order and these references to give up; and the heap represents the world
-- with their release on top.
pub record HasChanged (effect : Result Effect ℕ) (lines : List Event) (given_up : List ℕ) (new : Store) : Type 0 where
  pub wants_memory : Bool
  pub after : World
  pub is : effect ≡ Ok (Changes wants_memory lines given_up after)
  pub represents : Represents new (push (Releasing given_up) after)

-- What was done is the effect. All but a change leaves the heap. Lines are those of an effect that changes nothing, or explain
-- why an object is alive.
abbrev pub IsDone : Done → Result Effect ℕ → Store → Store → Type 0
IsDone (Changed line given_up) effect old new = HasChanged effect (option_to_list line) (entry_references given_up) new
IsDone (Calls f) effect old new = (effect ≡ Ok (CallsEffect f)) × (new ≡ old)
IsDone (Collects generation) effect old new = (effect ≡ Ok (CollectsEffect generation)) × (generation ≤ 2) × (new ≡ old)
IsDone Quits effect old new = (effect ≡ Ok QuitsEffect) × (new ≡ old)
IsDone (Tells lines) effect old new = (HasChanged effect lines [] new ⊎ Explained effect old lines) × (new ≡ old)

-- A refusal leaves the heap.
abbrev pub AnswersOnHeap : Result Done Refusal → Result Effect ℕ → Store → Store → Type 0
AnswersOnHeap (Ok done) effect old new = IsDone done effect old new
AnswersOnHeap (Err refusal) effect old new = Refuses refusal effect × (new ≡ old)

-- the policy of the world after a change; any other answer leaves the policy
abbrev pub policy_after : Result Done Refusal → Result Effect ℕ → Policy → Policy
policy_after (Ok (Changed line given_up)) (Ok (Changes wants_memory lines references after)) was = policy_of after
policy_after (Ok (Tells told)) (Ok (Changes wants_memory lines references after)) was = policy_of after
policy_after answer effect was = was

-- What was answered is the effect, with its heap and policy.
pub record CommandAnswers (answer : Result Done Refusal) (effect : Result Effect ℕ) (old : Store) (was : Policy) (new : Store) (now : Policy) : Type 0 where
  pub heap : AnswersOnHeap answer effect old new
  pub policy : now ≡ policy_after answer effect was

-- The answer is the machine's, in every world that the heap, the policy and the locals represented before: the policy had
-- its numbers, and knew whether a collection was under way in it.
abbrev pub Performs : Store → Policy → Option Locals → (World → Result Effect ℕ) → Store → Policy → Result Done Refusal → Type 0
Performs old was locals effect new now answer = (w : World) → HeapAndLocalsStandFor old locals w → was ≡ policy_of w → CommandAnswers answer (effect w) old was new now

-- the same for a command that does not use the policy; the machine's numbers are left to the caller
abbrev pub PerformsOnHeap : Store → Option Locals → (World → Result Effect ℕ) → Store → Result Done Refusal → Type 0
PerformsOnHeap old locals effect new answer = (w : World) → HeapAndLocalsStandFor old locals w → AnswersOnHeap answer (effect w) old new

-- a change without a line that gives up this entry
abbrev pub gives : Result Entry Refusal → Result Done Refusal
gives (Ok given_up) = Ok (Changed None given_up)
gives (Err refusal) = Err refusal
