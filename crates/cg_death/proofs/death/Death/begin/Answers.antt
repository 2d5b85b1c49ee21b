use Rattle.std.proofs.Common.{subst, sym}
use Rattle.cg_value.specs.declared.Place.TheVariants.{Untracked}
use Rattle.cg_graph.specs.Store.{IsLive}
use Rattle.cg_graph.specs.Changes.{moved}
use Rattle.cg_heap.proofs.CallerLemmas.{lives_on, kinds-moved}
use Rattle.cg_death.proofs.Beginning.{begins-death}
use Rattle.std.proofs.Common.{◌∙◌, ap}
use Rattle.cg_death.specs.Deaths.{forgets_referent}
use Rattle.cg_death.proofs.LeavingTheRest.{rest-begun}
use Rattle.std.proofs.Common.{None}
use Rattle.cg_death.specs.declared.phase.Phase.TheVariants as phase_of
use Rattle.cg_death.specs.Steady.{IsSteadyAt}
use Rattle.cg_death.proofs.SteadySteps.{steady-begun}
use Rattle.cg_death.proofs.death.Death.begin.Goals as goal

pub lose_own_referent-requires : goal.lose_own_referent-requires
lose_own_referent-requires g c =
    subst (λ st. IsLive st c.args.object) (sym c.move_to.ensures)
    (lives_on c.args.heap.now (moved c.args.object Untracked c.args.heap.now) (kinds-moved c.args.object Untracked c.args.heap.now) c.args.object c.requires.unheld.live)

pub returns-clause-begins : goal.returns-clause-begins
returns-clause-begins g c = λ w r.
    begins-death c.args.heap.now c.move_to.new.self c.lose_own_referent.new.heap c.args.object c.sound.ensures.rows c.requires.unheld.none c.requires.none_waits
    c.move_to.ensures c.lose_own_referent.ensures w r

pub returns-clause-objects : goal.returns-clause-objects
returns-clause-objects g c = (rest-begun c.args.object Untracked c.args.heap.now _ _ c.move_to.ensures c.lose_own_referent.ensures).objects

pub returns-clause-holds : goal.returns-clause-holds
returns-clause-holds g c = (rest-begun c.args.object Untracked c.args.heap.now _ _ c.move_to.ensures c.lose_own_referent.ensures).holds

pub returns-clause-steady : goal.returns-clause-steady
returns-clause-steady g c = λ script fresh.
    subst (λ st. IsSteadyAt script st c.args.object phase_of.Finalizer None) (sym (c.lose_own_referent.ensures ∙ ap (forgets_referent c.args.object) c.move_to.ensures))
    (steady-begun script c.args.heap.now c.args.object c.sound.ensures.rows c.requires.unheld c.requires.none_waits fresh)

pub returns-clause-names : goal.returns-clause-names
returns-clause-names g c = (rest-begun c.args.object Untracked c.args.heap.now _ _ c.move_to.ensures c.lose_own_referent.ensures).names
