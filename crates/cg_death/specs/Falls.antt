-- The measure of a death that goes on without a line, a frame or another death. (Ours.)
use Rattle.std.specs.Prelude.{◌≡◌, ℕ, ◌+◌, ◌*◌, ◌<◌, length, ◌⊎◌, Option, Some, None}
use Rattle.cg_graph.specs.Rows.{weak_references_in}
use Rattle.cg_graph.specs.Store.{Store, entries_of, waiting_for}
use Rattle.cg_death.specs.declared.answer.DeathStep.TheVariants as answer_of
use Rattle.cg_death.specs.declared.release.Release.{Release}
use Rattle.cg_death.specs.declared.phase.Phase.{Phase}
use Rattle.cg_death.specs.declared.phase.Phase.TheVariants as phase_of
use Rattle.cg_death.specs.declared.phase.Turn.{Turn}
use Rattle.cg_death.specs.Activities.{references_left}

-- The passes of a death, in order. A callback that was called belongs to the pass of calls.
abbrev pub pass_of : Phase → ℕ
pass_of phase_of.Finalizer = 0
pass_of phase_of.AfterFinalizer = 1
pass_of phase_of.Clearing = 2
pass_of phase_of.Calling = 3
pass_of (phase_of.AfterCall weak callback) = 3
pass_of phase_of.LegacyFinalizer = 4
pass_of phase_of.AfterLegacy = 5
pass_of phase_of.Detaching = 6
pass_of phase_of.Emptying = 7
pass_of phase_of.Over = 8

-- the holds of a phase still to be given up, not counting waiting weak references
abbrev pub own_holds : Phase → ℕ
own_holds phase_of.AfterFinalizer = 1
own_holds (phase_of.AfterCall weak callback) = 2
own_holds phase_of.AfterLegacy = 1
own_holds phase = 0

-- the references that are still to be given up
abbrev pub still_released : Option Release → ℕ
still_released None = 0
still_released (Some release) = length (references_left release)

-- What is left: one for each hold and each reference still to be given up, three for each waiting weak reference, four
-- for each that is still to be cleared, and four for each entry still to be removed.
abbrev pub number_left : ℕ → Phase → Option Release → Store → ℕ
number_left o phase release store =
    own_holds phase + still_released release + 3 * length (waiting_for store o) + 4 * length (weak_references_in store.rows o) + 4 * length (entries_of store o)

-- A later pass is reached, or less is left in the same one.
abbrev pub Falls : ℕ → Store → Phase → Option Release → Store → Phase → Option Release → Type 0
Falls o old phase release new phase_after release_after =
    (pass_of phase < pass_of phase_after) ⊎ ((pass_of phase ≡ pass_of phase_after) × (number_left o phase_after release_after new < number_left o phase release old))

-- the same for a turn of a phase
abbrev pub TurnFalls : Store → ℕ → Phase → Store → Turn → Type 0
TurnFalls old o phase new turn = turn.answer ≡ answer_of.Continue → Falls o old phase None new turn.phase turn.release
