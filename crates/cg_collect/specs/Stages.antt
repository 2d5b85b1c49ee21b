-- Before, at or after each reachability pass of a collection. (Ours.)
use Rattle.std.specs.Prelude.{◌≡◌, ◌⊎◌, ℕ, List, [], ◌∷◌, ◌++◌, Option, Some, None, flat_map}
use Rattle.cg_collect.specs.declared.phase.Phase.{Phase}
use Rattle.cg_collect.specs.declared.phase.Phase.TheVariants as phase_of
use Rattle.cg_collect.specs.declared.stage.Stage.{Stage}
use Rattle.cg_collect.specs.declared.stage.Stage.TheVariants as stage
use Rattle.cg_collect.specs.declared.stage.Detection.{Detection}
use Rattle.cg_collect.specs.declared.stage.Detection.TheVariants.{First, Second}
use Rattle.cg_collect.specs.declared.collection.Collection.{Collection}

-- the pass that the step of a phase makes
abbrev pub detection_at : Phase → Option Detection
detection_at phase_of.Start = Some First
detection_at phase_of.Split = Some Second
detection_at phase = None

-- the stage after a step that made this pass, or none
abbrev pub stage_after : Option Detection → Stage
stage_after (Some First) = stage.AfterFirst
stage_after (Some Second) = stage.AfterSecond
stage_after None = stage.Between

-- before a pass by the phase, after one by what the last step made
abbrev pub stage_at : Phase → Option Detection → Stage
stage_at phase_of.Start detected = stage.BeforeFirst
stage_at phase_of.Split detected = stage.BeforeSecond
stage_at phase detected = stage_after detected

-- the stage of a collection
abbrev pub stage_of : Collection → Stage
stage_of c = stage_at c.phase c.detected

-- The stage after a step of a phase: after the pass that the step made. A step that made none is before the second pass,
-- or between.
abbrev pub LeavesStage : Phase → Stage → Type 0
LeavesStage phase_of.Start now = now ≡ stage.AfterFirst
LeavesStage phase_of.Split now = now ≡ stage.AfterSecond
LeavesStage phase now = (now ≡ stage.BeforeSecond) ⊎ (now ≡ stage.Between)

-- a stage as a list, if it is one of the four
abbrev pub met : Stage → List Stage
met stage.Between = []
met now = now ∷ []

-- the two of the second pass
abbrev pub second_stages : List Stage
second_stages = stage.BeforeSecond ∷ stage.AfterSecond ∷ []

-- the stages that a collection at a phase has still to meet, in order
abbrev pub stages_ahead : Phase → List Stage
stages_ahead phase_of.Start = stage.AfterFirst ∷ second_stages
stages_ahead (phase_of.Sizes zero one two frozen) = second_stages
stages_ahead (phase_of.Telling next) = second_stages
stages_ahead (phase_of.WeakClearing member weak) = second_stages
stages_ahead phase_of.WeakCalling = second_stages
stages_ahead (phase_of.AfterCallback weak) = second_stages
stages_ahead (phase_of.AfterRelease weak) = second_stages
stages_ahead phase_of.Finalizing = second_stages
stages_ahead (phase_of.AfterFinalizing o) = second_stages
stages_ahead phase_of.Split = stage.AfterSecond ∷ []
stages_ahead phase = []

-- A step meets the first of the remaining stages, or none; the others remain.
abbrev pub MeetsStage : Phase → Stage → Phase → Type 0
MeetsStage phase now next = stages_ahead phase ≡ met now ++ stages_ahead next

-- consecutive steps, by the clause `meets` of `Collection::step`: from a collection, the ones after each step
abbrev pub MeetStages : Collection → List Collection → Type 0
MeetStages c [] = Unit {0}
MeetStages c (next ∷ later) = MeetsStage c.phase (stage_of next) next.phase × MeetStages next later

-- the phase after them
abbrev pub phase_after : Collection → List Collection → Phase
phase_after c [] = c.phase
phase_after c (next ∷ later) = phase_after next later

-- A collection that has just begun and ends meets each of the four once, in this order.
abbrev pub StagesAreMetOnce : Type 0
StagesAreMetOnce = (c : Collection) (later : List Collection) (number : ℕ) → stage_of c ≡ stage.BeforeFirst → MeetStages c later → phase_after c later ≡ phase_of.Over number
    → flat_map (λ d. met (stage_of d)) (c ∷ later) ≡ stage.BeforeFirst ∷ stage.AfterFirst ∷ stage.BeforeSecond ∷ stage.AfterSecond ∷ []
