use Rattle.std.proofs.Common.{◌≤◌, refl, sym, ◌∙◌, ap, subst, ◌∷◌, IsSome}
use Rattle.cg_script.specs.declared.limits.TheConstants.{MOST_BUDGET}
use Rattle.cg_laws.specs.Kept.{StaysKept}
use Rattle.cg_interp.specs.declared.activity.Activity.TheVariants as activity_of
use Rattle.cg_interp.specs.Engines.{State, under}
use Rattle.cg_interp.specs.Stacks.{death_on}
use Rattle.cg_interp.proofs.CallerLemmas.{same_engine}
use Rattle.cg_interp.proofs.CollectMoves.{engine_of}
use Rattle.cg_interp.proofs.TopDeaths.{same_death}
use Rattle.cg_interp.proofs.engine.Engine.act_on_top.Goals as goal

pub death_on_top_mut-death-requires : goal.death_on_top_mut-death-requires
death_on_top_mut-death-requires g c =
    let top_is = ap (λ (e : State). e.activities) c.self.view_is ∙ c.requires.stands.top in
    subst (λ l. IsSome (death_on l)) (sym top_is) refl

pub act-answer-requires : goal.act-answer-requires
act-answer-requires g c =
    let next = c.requires.stands in
    let top_is = ap (λ (e : State). e.activities) c.self.view_is ∙ next.top in
    let e : State = record (engine_of c.self.inside.heap c.self.inside.policy c.self.inside.stack c.self.inside.budget c.self.inside.first_budget) { activities = next.below } in
    let lent = c.death_on_top_mut-death.result.now in
    let same = same_death c.self.inside.stack.activities next.below next.death lent top_is c.death_on_top_mut-death.ensures.value in
    record {
      stands = (
        e,
        next.world,
        subst (λ (s : State). s.first_budget ≤ MOST_BUDGET) (sym c.self.view_is) next.first_budget,
        same_engine c.args.script.now c.args.self.now (under (activity_of.Dying lent) e) next.world next.stands
            (ap (λ (s : State). s.store) c.self.view_is) (ap (λ (s : State). s.policy) c.self.view_is)
            (ap (λ d. activity_of.Dying d ∷ next.below) same ∙ sym next.top) (ap (λ (s : State). s.budget) c.self.view_is),
        subst (λ (s : State). StaysKept c.args.script.now s.first_budget next.world) (sym c.self.view_is) next.kept,
      );
    }
