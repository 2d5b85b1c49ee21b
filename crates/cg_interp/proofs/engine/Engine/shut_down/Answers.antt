use Rattle.std.proofs.Common.{◌∙◌, sym, ap, subst, [], false, true}
use Rattle.cg_machine.specs.World.{World, push}
use Rattle.cg_machine.specs.Commands.{new_collection}
use Rattle.cg_machine.specs.Shutdown.{greatest_from}
use Rattle.cg_interp.specs.declared.activity.Activity.TheVariants as activity_of
use Rattle.cg_interp.specs.Engines.{State, StandsFor, under}
use Rattle.cg_interp.proofs.CollectBegins.{IsAtStart}
use Rattle.cg_interp.proofs.ShutdownTurns.{greatest_below, none_runs, starts_last, last_stands, last_steps}
use Rattle.cg_interp.proofs.StepLemmas.{kept_after, begins_collection}
use Rattle.cg_interp.proofs.AnswersOfTurns.{turns_plainly}
use Rattle.cg_interp.proofs.engine.Engine.shut_down.Goals as goal

pub give_up-requires-clause-name : goal.give_up-requires-clause-name
give_up-requires-clause-name g c = greatest_below c.greatest_bound.new.self.store.names c.in-Some.name (ap (λ (e : State). greatest_from 0 e.store.names)
    c.greatest_bound.ensures.same ∙ sym (sym c.in-Some.is ∙ c.greatest_bound.ensures.greatest))

pub collect-requires-clause-idle : goal.collect-requires-clause-idle
collect-requires-clause-idle g c =
    let (script, at) = c.requires.stands in
    ap (λ (e : State). e.policy.running) c.greatest_bound.ensures.same ∙ none_runs script c.args.self.now false at.world at.stands c.args.self.now.first_budget (at.kept [] tt).lawful

pub collect-requires-clause-stands : goal.collect-requires-clause-stands
collect-requires-clause-stands g c =
    let (script, at) = c.requires.stands in
    let none = sym (sym c.in-None.is ∙ c.greatest_bound.ensures.greatest) in
    let last : World = starts_last script c.args.self.now at.world at.stands in
    subst (IsAtStart false 2 (activity_of.Shutdown true)) (sym c.greatest_bound.ensures.same) (
      script,
      at.spelled,
      at.fit,
      last,
      last_stands script c.args.self.now at.world at.stands,
      kept_after script at.world (push (new_collection 2 false last) last) at.stands.running c.args.self.now.first_budget [] (last_steps script c.args.self.now at.world at.stands none) at.kept,
    )

pub returns-in-Some-clause-turns : goal.returns-in-Some-clause-turns
returns-in-Some-clause-turns g c = λ script w stands kept.
    let found = ap (λ (e : State). greatest_from 0 e.store.names) c.greatest_bound.ensures.same ∙ sym (sym c.in-Some.is ∙ c.greatest_bound.ensures.greatest) in
    let before = subst (λ e. StandsFor script (under (activity_of.Shutdown false) e) w) (sym c.greatest_bound.ensures.same) stands in
    turns_plainly script w c.give_up.new.self c.give_up.result (c.give_up.ensures.gives found script w before)

pub returns-in-None-clause-turns : goal.returns-in-None-clause-turns
returns-in-None-clause-turns g c = λ script w stands kept.
    let none = sym (sym c.in-None.is ∙ c.greatest_bound.ensures.greatest) in
    let last : World = starts_last script c.args.self.now w stands in
    let back = sym c.greatest_bound.ensures.same in
    let begins = subst (λ e. StandsFor script (under (activity_of.Shutdown true) e) last) back (last_stands script c.args.self.now w stands) in
    begins_collection script w (push (new_collection 2 false last) last) stands.running c.collect.new.self (last_steps script c.args.self.now w stands none)
    (c.collect.ensures.begins script last begins)
