-- A collection makes its start, its second reachability pass and each of its three walks over weak references at most once, and
-- ends each walk before the next begins.
use Rattle.std.proofs.Common.{◌≡◌, refl, sym, ap, subst, ℕ, ◌+◌, ◌≤◌, List, [], ◌∷◌, Option, arith}
use Rattle.cg_graph.specs.Store.{Store}
use Rattle.cg_collect.specs.declared.phase.Phase.{Phase}
use Rattle.cg_collect.specs.declared.phase.Phase.TheVariants as phase_of
use Rattle.cg_collect.specs.Ready.{MayRun}
use Rattle.cg_collect.specs.Turns.{pass_of, passes_on}
use Rattle.cg_collect.specs.Looks.{looks_left, most_looks}
use Rattle.cg_collect.specs.WholeCollections.{SteppedPhase, IsStep, FindsHeap, AreSteps, looks_after, looks_at_start, looks_at_clearing, looks_at_split, looks_at_detaching, looks_at_unlinking, looks_in_turns, LooksAreBounded}

-- what a step says, from the phase, the counter and the heap known before it
found_at : (g : ℕ) (step : SteppedPhase) (phase : Phase) (looks : ℕ) (store : Store) → step.phase ≡ phase → step.looks ≡ looks → step.store ≡ store → IsStep g step
    → step.looks_now + looks_left phase step.phase_now step.store_now ≤ looks + most_looks g phase store
found_at g step phase looks store at counted found is =
    subst (λ (p : Phase). step.looks_now + looks_left p step.phase_now step.store_now ≤ looks + most_looks g p store) at
    (subst (λ (l : ℕ). step.looks_now + looks_left step.phase step.phase_now step.store_now ≤ l + most_looks g step.phase store) counted
    (subst (λ (s : Store). step.looks_now + looks_left step.phase step.phase_now step.store_now ≤ step.looks + most_looks g step.phase s) found is.looks))

passed : (step : SteppedPhase) (phase : Phase) → step.phase ≡ phase → pass_of step.phase + passes_on step.phase ≤ pass_of step.phase_now → pass_of phase + passes_on phase ≤ pass_of step.phase_now
passed step phase at onward = subst (λ (p : Phase). pass_of p + passes_on p ≤ pass_of step.phase_now) at onward

-- a step in another phase, and those after it
abbrev at_phase : (p : Phase) (step : SteppedPhase) (steps : List SteppedPhase) → List SteppedPhase
at_phase p step steps = record step { phase = p } ∷ steps

-- the most from a walk or from the second pass on
abbrev from_unlinking : ℕ → List SteppedPhase → ℕ
from_unlinking g steps = looks_at_unlinking g steps + looks_in_turns steps

abbrev from_detaching : ℕ → List SteppedPhase → ℕ
from_detaching g steps = looks_at_detaching g steps + from_unlinking g steps

abbrev from_split : ℕ → List SteppedPhase → ℕ
from_split g steps = looks_at_split g steps + from_detaching g steps

abbrev from_clearing : ℕ → List SteppedPhase → ℕ
from_clearing g steps = looks_at_clearing g steps + from_split g steps

-- These bound all looks in the phases from one on.
abbrev Bounds : (g late : ℕ) → (List SteppedPhase → ℕ) → Type 0
Bounds g late most = (phase : Phase) (looks : ℕ) (steps : List SteppedPhase) → late ≤ pass_of phase → AreSteps g phase looks steps → looks_after looks steps ≤ looks + most steps

-- They do if each step keeps the bound, by its phase.
abbrev Keeps : (g late : ℕ) → (List SteppedPhase → ℕ) → Type 0
Keeps g late most =
    (p : Phase) (step : SteppedPhase) (steps : List SteppedPhase) (looks : ℕ) → late ≤ pass_of p
    → step.looks_now + looks_left p step.phase_now step.store_now ≤ looks + most_looks g p step.store → pass_of p + passes_on p ≤ pass_of step.phase_now
    → (¬ MayRun step.phase_now → FindsHeap step.store_now steps) → AreSteps g step.phase_now step.looks_now steps
    → (late ≤ pass_of step.phase_now → looks_after step.looks_now steps ≤ step.looks_now + most steps)
    → looks_after step.looks_now steps ≤ looks + most (at_phase p step steps)

bounds : (g late : ℕ) (most : List SteppedPhase → ℕ) → Keeps g late most → Bounds g late most
bounds g late most keeps phase looks [] h are = omega arith
bounds g late most keeps phase looks (step ∷ steps) h are =
    keeps step.phase step steps looks (subst (λ p. late ≤ pass_of p) (sym are.0) h) (found_at g step step.phase looks step.store refl are.1 refl are.2) are.2.onward are.3 are.4
    (λ later. bounds g late most keeps step.phase_now step.looks_now steps later are.4)

-- A step of a walk, and all after it.
abbrev StepOfWalk : (g late : ℕ) (p : Phase) → (List SteppedPhase → ℕ) → ℕ → Type 0
StepOfWalk g late p most looks =
    (step : SteppedPhase) (steps : List SteppedPhase) → step.looks_now + looks_left p step.phase_now step.store_now ≤ looks + most_looks g p step.store → late ≤ pass_of step.phase_now
    → (¬ MayRun step.phase_now → FindsHeap step.store_now steps) → AreSteps g step.phase_now step.looks_now steps
    → looks_after step.looks_now steps ≤ looks + most_looks g p step.store + most steps

-- After the third walk, only turns look at anything.
past_unlinking : (g : ℕ) → Bounds g 10 looks_in_turns
past_unlinking g = bounds g 10 looks_in_turns by
  where
    by : Keeps g 10 looks_in_turns
    by phase_of.Start step steps looks h l o finds are rest = absurd (omega (arith, h))
    by _ step steps looks h l o finds are rest = omega (arith, h, rest (omega (arith, h, o)), l)

-- The third walk, after one of its steps.
after_unlinking : (g : ℕ) (member weak : Option ℕ) (phase_now : Phase) (looks : ℕ) (store : Store) (most : ℕ) (steps : List SteppedPhase)
    → looks + looks_left (phase_of.Unlinking member weak) phase_now store ≤ most → 9 ≤ pass_of phase_now
    → (¬ MayRun phase_now → FindsHeap store steps) → AreSteps g phase_now looks steps → looks_after looks steps ≤ most + looks_in_turns steps
after_unlinking g member weak phase_now looks store most [] few late finds are = omega (arith, few)
after_unlinking g member weak (phase_of.Unlinking later older) looks store most (step ∷ steps) few late finds are =
    let found = found_at g step (phase_of.Unlinking later older) looks store are.0 are.1 (finds (λ runs. runs)) are.2 in
    let on = passed step (phase_of.Unlinking later older) are.0 are.2.onward in
    let later = after_unlinking g later older step.phase_now step.looks_now step.store_now (looks + most_looks 0 (phase_of.Unlinking later older) store) steps found (omega (arith, on)) are.3 are.4 in
    omega (arith, few, later)
after_unlinking g member weak phase_now looks store most (step ∷ steps) few late finds are = omega (arith, few, past_unlinking g phase_now looks (step ∷ steps) (omega (arith, late)) are)

unlinked : (g : ℕ) (member weak : Option ℕ) (looks : ℕ) → StepOfWalk g 9 (phase_of.Unlinking member weak) looks_in_turns looks
unlinked g member weak looks step steps l o finds are =
    after_unlinking g member weak step.phase_now step.looks_now step.store_now (looks + most_looks g (phase_of.Unlinking member weak) step.store) steps l o finds are

-- After the second walk, also the third.
past_detaching : (g : ℕ) → Bounds g 9 (from_unlinking g)
past_detaching g = bounds g 9 (from_unlinking g) by
  where
    by : Keeps g 9 (from_unlinking g)
    by (phase_of.Unlinking member weak) step steps looks h l o finds are rest = omega (arith, unlinked g member weak looks step steps l (omega (arith, o)) finds are)
    by _ step steps looks h l o finds are rest = omega (arith, h, rest (omega (arith, h, o)), l)

-- The second walk, after one of its steps.
after_detaching : (g : ℕ) (next : Option ℕ) (phase_now : Phase) (looks : ℕ) (store : Store) (most : ℕ) (steps : List SteppedPhase)
    → looks + looks_left (phase_of.Detaching next) phase_now store ≤ most → 8 ≤ pass_of phase_now
    → (¬ MayRun phase_now → FindsHeap store steps) → AreSteps g phase_now looks steps → looks_after looks steps ≤ most + from_unlinking g steps
after_detaching g next phase_now looks store most [] few late finds are = omega (arith, few)
after_detaching g next (phase_of.Detaching later) looks store most (step ∷ steps) few late finds are =
    let found = found_at g step (phase_of.Detaching later) looks store are.0 are.1 (finds (λ runs. runs)) are.2 in
    let on = passed step (phase_of.Detaching later) are.0 are.2.onward in
    let then = after_detaching g later step.phase_now step.looks_now step.store_now (looks + most_looks 0 (phase_of.Detaching later) store) steps found (omega (arith, on)) are.3 are.4 in
    let same = ap {B = ℕ} (λ (p : Phase). from_unlinking g (at_phase p step steps)) are.0 in
    omega (arith, few, then, same)
after_detaching g next phase_now looks store most (step ∷ steps) few late finds are = omega (arith, few, past_detaching g phase_now looks (step ∷ steps) (omega (arith, late)) are)

detached : (g : ℕ) (next : Option ℕ) (looks : ℕ) → StepOfWalk g 8 (phase_of.Detaching next) (from_unlinking g) looks
detached g next looks step steps l o finds are =
    after_detaching g next step.phase_now step.looks_now step.store_now (looks + most_looks g (phase_of.Detaching next) step.store) steps l o finds are

-- After the second reachability pass, both of them.
past_split : (g : ℕ) → Bounds g 7 (from_detaching g)
past_split g = bounds g 7 (from_detaching g) by
  where
    by : Keeps g 7 (from_detaching g)
    by (phase_of.Unlinking member weak) step steps looks h l o finds are rest = omega (arith, unlinked g member weak looks step steps l (omega (arith, o)) finds are)
    by (phase_of.Detaching next) step steps looks h l o finds are rest = omega (arith, detached g next looks step steps l (omega (arith, o)) finds are)
    by _ step steps looks h l o finds are rest = omega (arith, h, rest (omega (arith, h, o)), l)

-- After the first walk, also the second pass and callbacks.
past_clearing : (g : ℕ) → Bounds g 4 (from_split g)
past_clearing g = bounds g 4 (from_split g) by
  where
    by : Keeps g 4 (from_split g)
    by (phase_of.Unlinking member weak) step steps looks h l o finds are rest = omega (arith, unlinked g member weak looks step steps l (omega (arith, o)) finds are)
    by (phase_of.Detaching next) step steps looks h l o finds are rest = omega (arith, detached g next looks step steps l (omega (arith, o)) finds are)
    by phase_of.Split step steps looks h l o finds are rest = omega (arith, past_split g step.phase_now step.looks_now steps (omega (arith, o)) are, l)
    by _ step steps looks h l o finds are rest = omega (arith, h, rest (omega (arith, h, o)), l)

-- The first walk, after one of its steps.
after_clearing : (g : ℕ) (member weak : Option ℕ) (phase_now : Phase) (looks : ℕ) (store : Store) (most : ℕ) (steps : List SteppedPhase)
    → looks + looks_left (phase_of.WeakClearing member weak) phase_now store ≤ most → 3 ≤ pass_of phase_now
    → (¬ MayRun phase_now → FindsHeap store steps) → AreSteps g phase_now looks steps → looks_after looks steps ≤ most + from_split g steps
after_clearing g member weak phase_now looks store most [] few late finds are = omega (arith, few)
after_clearing g member weak (phase_of.WeakClearing later older) looks store most (step ∷ steps) few late finds are =
    let found = found_at g step (phase_of.WeakClearing later older) looks store are.0 are.1 (finds (λ runs. runs)) are.2 in
    let on = passed step (phase_of.WeakClearing later older) are.0 are.2.onward in
    let then = after_clearing g later older step.phase_now step.looks_now step.store_now (looks + most_looks 0 (phase_of.WeakClearing later older) store) steps
    found (omega (arith, on)) are.3 are.4 in
    let same = ap {B = ℕ} (λ (p : Phase). from_split g (at_phase p step steps)) are.0 in
    omega (arith, few, then, same)
after_clearing g member weak phase_now looks store most (step ∷ steps) few late finds are = omega (arith, few, past_clearing g phase_now looks (step ∷ steps) (omega (arith, late)) are)

-- After the start, also the first walk.
past_start : (g : ℕ) → Bounds g 1 (from_clearing g)
past_start g = bounds g 1 (from_clearing g) by
  where
    by : Keeps g 1 (from_clearing g)
    by (phase_of.Unlinking member weak) step steps looks h l o finds are rest = omega (arith, unlinked g member weak looks step steps l (omega (arith, o)) finds are)
    by (phase_of.Detaching next) step steps looks h l o finds are rest = omega (arith, detached g next looks step steps l (omega (arith, o)) finds are)
    by phase_of.Split step steps looks h l o finds are rest = omega (arith, past_split g step.phase_now step.looks_now steps (omega (arith, o)) are, l)
    by (phase_of.WeakClearing member weak) step steps looks h l o finds are rest = omega (
      arith,
      after_clearing g member weak step.phase_now step.looks_now step.store_now
          (looks + most_looks g (phase_of.WeakClearing member weak) step.store) steps l (omega (arith, o)) finds are,
    )
    by _ step steps looks h l o finds are rest = omega (arith, h, rest (omega (arith, h, o)), l)

pub looks_bounded : LooksAreBounded
looks_bounded g phase looks [] are = omega arith
looks_bounded g phase looks (step ∷ steps) are =
    by step.phase (found_at g step step.phase looks step.store refl are.1 refl are.2) are.2.onward (λ h. past_start g phase looks (step ∷ steps) (subst (λ q. 1 ≤ pass_of q) are.0 h) are)
  where
    by : (p : Phase) → step.looks_now + looks_left p step.phase_now step.store_now ≤ looks + most_looks g p step.store → pass_of p + passes_on p ≤ pass_of step.phase_now
        → (1 ≤ pass_of p → looks_after step.looks_now steps ≤ looks + from_clearing g (at_phase p step steps))
        → looks_after step.looks_now steps ≤ looks + looks_at_start g (at_phase p step steps) + looks_at_clearing g (at_phase p step steps) + looks_at_split g (at_phase p step steps)
        + looks_at_detaching g (at_phase p step steps) + looks_at_unlinking g (at_phase p step steps) + looks_in_turns (at_phase p step steps)
    by phase_of.Start l o rest = omega (arith, past_start g step.phase_now step.looks_now steps (omega (arith, o)) are.4, l)
    by _ l o rest = omega (arith, rest (omega arith))
