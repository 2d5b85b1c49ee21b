use Rattle.std.proofs.Common.{refl, sym, ◌∙◌, ap, [], ◌∷◌, true, inl, inr}
use Rattle.cg_machine.specs.declared.event.Event.TheVariants.{Collected}
use Rattle.cg_machine.specs.World.{push}
use Rattle.cg_interp.specs.Engines.{State, under}
use Rattle.cg_interp.specs.Callers.{caller_activity}
use Rattle.cg_machine.specs.Commands.{effect, new_collection}
use Rattle.cg_interp.proofs.AnswerLemmas.{busy_may, idle_may}
use Rattle.cg_interp.proofs.CollectionUnderWay.{runs_in}
use Rattle.cg_interp.proofs.engine.Engine.collect_if_idle.Goals as goal

pub collect_asked-requires-clause-stands : goal.collect_asked-requires-clause-stands
collect_asked-requires-clause-stands g c =
    let (script, spelled, fit, command, w, stands, is, kept) = c.requires.stands in
    let idle = sym (runs_in script (under (caller_activity c.args.caller.now) c.args.self.now) w stands)
    ∙ sym (ap (λ (e : State). e.policy.running) c.self.view_is) ∙ sym c.running.ensures ∙ c.if-running.false in
    (script, spelled, fit, w, stands, kept [] (push (new_collection c.args.generation true w) w) (idle_may script w (effect w command) c.args.generation is idle))

pub returns-then-running-clause-does : goal.returns-then-running-clause-does
returns-then-running-clause-does g c = λ script command w stands is.
    let busy = sym (runs_in script (under (caller_activity c.args.caller.now) c.args.self.now) w stands)
    ∙ sym (ap (λ (e : State). e.policy.running) c.self.view_is) ∙ sym c.running.ensures ∙ c.if-running.true in
    inl (record {
      transition = (Collected 0 ∷ [], w);
      may = busy_may script w (effect w command) c.args.generation is busy;
      makes = (refl, c.wait.ensures.waits script w stands);
    })

pub returns-else-running-clause-does : goal.returns-else-running-clause-does
returns-else-running-clause-does g c = λ script command w stands is.
    let idle = sym (runs_in script (under (caller_activity c.args.caller.now) c.args.self.now) w stands)
    ∙ sym (ap (λ (e : State). e.policy.running) c.self.view_is) ∙ sym c.running.ensures ∙ c.if-running.false in
    let may = idle_may script w (effect w command) c.args.generation is idle in
    inr (inl (record {
      generation = c.args.generation;
      may = may;
      quiet = refl;
      stands = c.collect_asked.ensures.begins script w stands;
    }))
