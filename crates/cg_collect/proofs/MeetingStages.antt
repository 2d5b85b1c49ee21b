-- A collection that ends meets all remaining stages, in order.
use Rattle.std.proofs.Common.{◌≡◌, refl, sym, ◌∙◌, ap, ℕ, List, [], ◌∷◌, ◌++◌, Option, None, Some, flat_map}
use Rattle.cg_collect.specs.declared.phase.Phase.{Phase}
use Rattle.cg_collect.specs.declared.phase.Phase.TheVariants as phase_of
use Rattle.cg_collect.specs.declared.stage.Stage.{Stage}
use Rattle.cg_collect.specs.declared.stage.Stage.TheVariants as stage
use Rattle.cg_collect.specs.declared.stage.Detection.{Detection}
use Rattle.cg_collect.specs.declared.stage.Detection.TheVariants.{First, Second}
use Rattle.cg_collect.specs.declared.collection.Collection.{Collection}
use Rattle.cg_collect.specs.Stages.{stage_after, stage_at, stage_of, met, stages_ahead, MeetStages, phase_after, StagesAreMetOnce}

all_met : (c : Collection) (later : List Collection) (number : ℕ) → MeetStages c later → phase_after c later ≡ phase_of.Over number → flat_map (λ d. met (stage_of d)) later ≡ stages_ahead c.phase
all_met c [] number meets over = sym (ap stages_ahead over)
all_met c (next ∷ later) number meets over = ap (λ (rest : List Stage). met (stage_of next) ++ rest) (all_met next later number meets.1 over) ∙ sym meets.0

-- no pass was made before
none_after : (detected : Option Detection) → stage_after detected ≡ stage.BeforeFirst → ⊥
none_after None e = cc
none_after (Some First) e = cc
none_after (Some Second) e = cc

starts : (phase : Phase) (detected : Option Detection) → stage_at phase detected ≡ stage.BeforeFirst → phase ≡ phase_of.Start
starts phase_of.Start detected e = refl
starts phase_of.Split detected e = absurd (cc)
starts phase detected e = absurd (none_after detected e)

pub met_once : StagesAreMetOnce
met_once c later number begins meets over =
    ap (λ (now : Stage). met now ++ flat_map (λ d. met (stage_of d)) later) begins
    ∙ ap (λ (rest : List Stage). stage.BeforeFirst ∷ rest) (all_met c later number meets over ∙ ap stages_ahead (starts c.phase c.detected begins))
