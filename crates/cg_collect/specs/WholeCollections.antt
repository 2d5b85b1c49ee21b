-- The steps of a whole collection, and how many entries and weak references they look at together. (Ours.)
use Rattle.std.specs.Prelude.{◌≡◌, ℕ, ◌+◌, ◌≤◌, List, [], ◌∷◌}
use Rattle.cg_graph.specs.Store.{Store, entries_of}
use Rattle.cg_collect.specs.declared.phase.Phase.{Phase}
use Rattle.cg_collect.specs.declared.phase.Phase.TheVariants as phase_of
use Rattle.cg_collect.specs.Ready.{MayRun}
use Rattle.cg_collect.specs.Turns.{pass_of, passes_on}
use Rattle.cg_collect.specs.Looks.{looks_left, most_looks, one_of}

-- a step: the heap and the phase before it, those after it, and the counter before and after
pub record SteppedPhase : Type 0 where
  pub store : Store
  pub phase : Phase
  pub store_now : Store
  pub phase_now : Phase
  pub looks : ℕ
  pub looks_now : ℕ

-- what `Collection::step` says of it, for a collection of generation g: the clauses `looks` and `onward`
pub record IsStep (g : ℕ) (step : SteppedPhase) : Type 0 where
  pub looks : step.looks_now + looks_left step.phase step.phase_now step.store_now ≤ step.looks + most_looks g step.phase step.store
  pub onward : pass_of step.phase + passes_on step.phase ≤ pass_of step.phase_now

-- the next step, if there is one, starts with this heap
abbrev pub FindsHeap : Store → List SteppedPhase → Type 0
FindsHeap store [] = Unit {0}
FindsHeap store (step ∷ steps) = step.store ≡ store

-- Consecutive steps, from a phase and a counter on. What runs between two of them leaves the collection's phase and its
-- counter. It may change the heap, and runs only in the phases for it (`MayRun`, by the clause `ready`).
abbrev pub AreSteps : ℕ → Phase → ℕ → List SteppedPhase → Type 0
AreSteps g phase looks [] = Unit {0}
AreSteps g phase looks (step ∷ steps) =
    (step.phase ≡ phase) × (step.looks ≡ looks) × IsStep g step × (¬ MayRun step.phase_now → FindsHeap step.store_now steps) × AreSteps g step.phase_now step.looks_now steps

-- the counter after them
abbrev pub looks_after : ℕ → List SteppedPhase → ℕ
looks_after looks [] = looks
looks_after looks (step ∷ steps) = looks_after step.looks_now steps

-- the most that the first step at the start looks at, and that the first second pass looks at; 0 if there is none
abbrev pub looks_at_start : ℕ → List SteppedPhase → ℕ
looks_at_start g [] = 0
looks_at_start g (step ∷ steps) = elim step.phase [ phase_of.Start ↦ most_looks g phase_of.Start step.store | _ ↦ looks_at_start g steps ]

abbrev pub looks_at_split : ℕ → List SteppedPhase → ℕ
looks_at_split g [] = 0
looks_at_split g (step ∷ steps) = elim step.phase [ phase_of.Split ↦ most_looks g phase_of.Split step.store | _ ↦ looks_at_split g steps ]

-- the most for each of the three walks over weak references, when it begins
abbrev pub looks_at_clearing : ℕ → List SteppedPhase → ℕ
looks_at_clearing g [] = 0
looks_at_clearing g (step ∷ steps) = elim step.phase [ phase_of.WeakClearing member weak ↦ most_looks g (phase_of.WeakClearing member weak) step.store | _ ↦ looks_at_clearing g steps ]

abbrev pub looks_at_detaching : ℕ → List SteppedPhase → ℕ
looks_at_detaching g [] = 0
looks_at_detaching g (step ∷ steps) = elim step.phase [ phase_of.Detaching next ↦ most_looks g (phase_of.Detaching next) step.store | _ ↦ looks_at_detaching g steps ]

abbrev pub looks_at_unlinking : ℕ → List SteppedPhase → ℕ
looks_at_unlinking g [] = 0
looks_at_unlinking g (step ∷ steps) = elim step.phase [ phase_of.Unlinking member weak ↦ most_looks g (phase_of.Unlinking member weak) step.store | _ ↦ looks_at_unlinking g steps ]

-- the most for the turns of members and for callbacks: one for each removed entry, and one for each callback
abbrev pub looks_in_turn : SteppedPhase → ℕ
looks_in_turn step = elim step.phase [ phase_of.Turn o ↦ one_of (entries_of step.store o) | phase_of.WeakCalling ↦ 1 | _ ↦ 0 ]

abbrev pub looks_in_turns : List SteppedPhase → ℕ
looks_in_turns [] = 0
looks_in_turns (step ∷ steps) = looks_in_turn step + looks_in_turns steps

-- A collection looks at no more than these.
abbrev pub LooksAreBounded : Type 0
LooksAreBounded = (g : ℕ) (phase : Phase) (looks : ℕ) (steps : List SteppedPhase) → AreSteps g phase looks steps
    → looks_after looks steps ≤ looks + looks_at_start g steps + looks_at_clearing g steps + looks_at_split g steps + looks_at_detaching g steps + looks_at_unlinking g steps + looks_in_turns steps
